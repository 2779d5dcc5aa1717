-- After a collection of a younger generation, the pieces fill every segment from its first place to its end.
use Rattle.std.proofs.Common.{◌≡◌, ◌≢◌, ℕ, ◌<◌, ◌≤◌, inl, inr, List, [], refl, sym, ap, subst, ◌∙◌, arith, Bool, true}
use Rattle.std.proofs.Common.{false, zero, suc, if◌then◌else◌, ◌&&◌, ◌==◌, length}
use Rattle.std.proofs.lemmas.Bool.{both_ways, ne_eqb}
use Rattle.std.specs.List.{AllByRecursion, flat_map}
use Rattle.clr_types.specs.Rising.{IsIn}
use Rattle.clr_types.specs.Ranges.{Piece}
use Rattle.clr_types.specs.declared.segment.SegInfo.{SegInfo}
use Rattle.clr_types.specs.Segments.{Layout, stands_in, generation, ephemeral, is_small_or_ephemeral, rest_pieces}
use Rattle.clr_types.specs.LawfulLayout.{IsLawfulLayout, IsTiled}
use Rattle.clr_types.proofs.SortedLists.{IsDistinctBy}
use Rattle.clr_types.proofs.ChangedLists.{all_members, IsIn-map, into_filter, out_of_filter}
use Rattle.clr_types.proofs.ListMembers.{from-map}
use Rattle.clr_types.proofs.SegmentFacts.{one_base, ephemeral-in}
use Rattle.clr_model.specs.Machine.{Machine, Object}
use Rattle.clr_model.specs.Lookups.{pieces, object_piece}
use Rattle.clr_model.specs.Lawful.{IsLaid}
use Rattle.clr_model.specs.Reach.{starts, StartOf}
use Rattle.clr_model.specs.Sweep.{has_condemned_part, taking_part, survivors, swept_others}
use Rattle.clr_model.specs.Compaction.{Move, moved_by}
use Rattle.clr_model.specs.Updates.{all_given_up}
use Rattle.clr_model.specs.declared.How.{How}
use Rattle.clr_model.specs.declared.Collected.{Collected}
use Rattle.clr_model.specs.Lawful.{IsLawful}
use Rattle.clr_model.specs.Collection.{IsSmallLaid, objects_after, released, Collects}
use Rattle.clr_model.proofs.PlainCollections.{PlainlyCollects, plainly, usual_plain}
use Rattle.clr_model.specs.Laws.{IsPlain}
use Rattle.clr_model.proofs.Apart.{AreApart}
use Rattle.clr_model.proofs.CondemnedParts.{ephemeral-takes}
use Rattle.clr_model.proofs.LawfulPieces.{HasHome, piece-home, object-in-pieces}
use Rattle.clr_model.proofs.GivenUp.{no_rests}
use Rattle.clr_model.proofs.NamedWell.{AreNamed, lawful-named}
use Rattle.clr_model.proofs.CollectionLaws.{collected_apart}
use Rattle.clr_model.proofs.CollectedFree.{after-is, from_part}
use Rattle.clr_model.proofs.CollectedLayout.{small_lawful}
use Rattle.clr_model.proofs.CollectedObjects.{begun_laid, compacting, small_is}
use Rattle.clr_model.proofs.Relaid.{WasSegment, IsRefilled, free-in-pieces, segment_tiled}
use Rattle.clr_model.proofs.CollectedPieces.{IsSmallPhase, small_phase, object-was}
use Rattle.clr_model.proofs.YoungMachine.{part-is, part_filled, other_stays, fresh-stands}

module _ (m : Machine) (h : IsLaid m) (bare : rest_pieces m.layout.rests ≡ []) (g : ℕ) (young : g ≤ 1) (keeps alive : ℕ
    → Bool) (moves : List Move) (small : Layout) (p : IsSmallPhase m g keeps moves small)
    (old_kept : (o : Object) → IsIn o m.objects → g < generation m.layout o.place → keeps o.name ≡ true)
    (lawful : IsLawfulLayout small) (bare_after : rest_pieces small.rests ≡ [])
    (apart : IsDistinctBy (λ (o : Object). o.place) (objects_after m alive keeps moves))
  where
    least : g ≤ 2
    least = omega arith

    abbrev objects : List Object
    objects = objects_after m alive keeps moves

    abbrev parts : List SegInfo
    parts = taking_part is_small_or_ephemeral g m.layout

    abbrev takes : SegInfo → Bool
    takes s = is_small_or_ephemeral s.kind && has_condemned_part g s

    abbrev change : SegInfo → SegInfo
    change s = if takes s then record s { end = p.end s } else s

    pub was : (t : SegInfo) → IsIn t small.segments → WasSegment m t objects small.free
    was t i = let (s, e, j) = from-map change t m.layout.segments (subst (IsIn t) p.segments i) in
        by s j (takes s) refl e
      where
        by : (s : SegInfo) → IsIn s m.layout.segments → (b : Bool) → takes s ≡ b
            → t ≡ (if b then record s { end = p.end s } else s) → WasSegment m t objects small.free
        by s j true f e = record {
          old = s;
          among = j;
          base = ap (λ (u : SegInfo). u.base) e;
          reserved = ap (λ (u : SegInfo). u.reserved) e;
          kind = ap (λ (u : SegInfo). u.kind) e;
          refilled = subst (λ n. IsRefilled m s n objects small.free) (sym (ap (λ (u : SegInfo). u.end) e))
              (part_filled m h bare g least keeps alive moves small p old_kept s
              (into_filter takes m.layout.segments f j));
        }
        by s j false f e = record {
          old = s;
          among = j;
          base = ap (λ (u : SegInfo). u.base) e;
          reserved = ap (λ (u : SegInfo). u.reserved) e;
          kind = ap (λ (u : SegInfo). u.kind) e;
          refilled = subst (λ n. IsRefilled m s n objects small.free) (sym (ap (λ (u : SegInfo). u.end) e))
              (other_stays m h bare g least keeps alive moves small p old_kept young s j other not_ephemeral);
        }
          where
            other : IsIn s parts → ⊥
            other k = both_ways (takes s) f (out_of_filter takes s m.layout.segments k).0

            not_ephemeral : s.base ≢ (ephemeral m.layout).base
            not_ephemeral same = other (subst (λ (u : SegInfo). IsIn u parts)
                (sym (one_base m.layout h.layout s (ephemeral m.layout) j (ephemeral-in m.layout h.layout) same))
                (ephemeral-takes m.layout h.layout g least))

    -- what stands in a segment stands in it afterwards
    home_after : (s : SegInfo) → IsIn s m.layout.segments → (x : ℕ) → stands_in s x ≡ true
        → (t : SegInfo) × IsIn t small.segments × (stands_in t x ≡ true)
    home_after s i x stands = (change s, subst (IsIn (change s)) (sym p.segments) (IsIn-map change i), go (takes s))
      where
        go : (b : Bool) → stands_in (if b then record s { end = p.end s } else s) x ≡ true
        go true = stands
        go false = stands

    pub object_home : (o : Object) → IsIn o objects
        → (t : SegInfo) × IsIn t small.segments × (stands_in t o.place ≡ true)
    object_home o i =
        let (q, j, stays, e) = object-was m h bare keeps alive moves small.free o i in
        let (t, k, stands) = landed q j in
        (t, k, subst (λ (w : Object). stands_in t w.place ≡ true) (sym e) stands)
      where
        landed : (q : Object) → IsIn q m.objects
            → (t : SegInfo) × IsIn t small.segments × (stands_in t (moved_by moves q.place) ≡ true)
        landed q j =
            elim (p.lands q j) [
              | inl still ↦
                  let n : HasHome m.layout q.place = piece-home m h (object_piece m.types q) (object-in-pieces m h q j)
                  in
                  home_after n.home n.among (moved_by moves q.place)
                  (subst (λ x. stands_in n.home x ≡ true) (sym still) n.stands)
              | inr (age, came, goes) ↦
                  let (s, k, stands) = goes in
                  home_after s (part-is m h bare g least keeps alive moves small p old_kept s k).2
                  (moved_by moves q.place) stands
            ]

    pub free_home : (f : Piece) → IsIn f small.free
        → (t : SegInfo) × IsIn t small.segments × (stands_in t f.place ≡ true)
    free_home f i =
        elim (after-is is_small_or_ephemeral m.layout g (flat_map p.fresh parts) f (subst (IsIn f) p.free i)) [
          | inl old ↦ let n : HasHome m.layout f.place = piece-home m h f (free-in-pieces m f old.1) in
              home_after n.home n.among f.place n.stands
          | inr j ↦
              let (s, k, n) = from_part p.fresh parts f j in
              home_after s (part-is m h bare g least keeps alive moves small p old_kept s k).2 f.place
              (fresh-stands m h bare g least keeps alive moves small p old_kept s k f n).0
        ]

    -- the pieces afterwards fill every segment
    pub young_tiled : AllByRecursion
        (IsTiled (pieces (record m { objects = objects_after m alive keeps moves; layout = small }))) small.segments
    young_tiled = all_members (IsTiled (pieces (record m { objects = objects; layout = small }))) small.segments
        (segment_tiled m h objects small lawful bare_after apart was object_home free_home)

-- ---- the law

plain_tiles : (m : Machine) (g : ℕ) (how : How) (answer : Collected) (new : Machine) → IsLawful m → g ≤ 1
    → PlainlyCollects m g how answer new → AllByRecursion (IsTiled (pieces new)) new.layout.segments
plain_tiles m g how answer new h young c =
    let least : g ≤ 2 = omega arith in
    let start : Machine = record m { layout = all_given_up m.layout } in
    let laid : IsLaid start = begun_laid m h g least how answer new c in
    let named : AreNamed m = lawful-named m h in
    let apart : AreApart new.objects = collected_apart start laid named.apart g least how false (StartOf start g)
    answer new c
    in
    let not_two : (g == 2) ≡ false = ne_eqb g 2 (λ e. omega arith) in
    let none : rest_pieces (all_given_up m.layout).rests ≡ [] = no_rests (length m.layout.rests) in
    let objects : List Object = objects_after start c.first c.kept c.moves in
    let own : AreApart objects = subst (λ (w : Machine). AreApart w.objects) c.state apart in
    let lawful : IsLawfulLayout c.small =
    small_lawful start laid g least c.kept c.moves c.small (compacting m h g least how answer new c)
    (small_is m h g least how answer new c) in
    let layout : (if g == 2 then released c.laid objects else c.laid) ≡ c.small =
    ap (λ b. if b then released c.laid objects else c.laid) not_two ∙ c.large_laid
    ∙ ap (λ b. if b then swept_others c.small 2 c.survive else c.small) not_two
    in
    subst (λ (w : Machine). AllByRecursion (IsTiled (pieces w)) w.layout.segments) (sym c.state)
    (subst (λ (l : Layout). AllByRecursion
    (IsTiled (pieces (record start { objects = objects; layout = l }))) l.segments) (sym layout)
    (young_tiled start laid none g young c.kept c.first c.moves c.small
    (small_phase start laid g least c.kept c.moves c.small (compacting m h g least how answer new c)
    (small_is m h g least how answer new c))
    (old_kept least) lawful (bare_small (compacting m h g least how answer new c)
    (small_is m h g least how answer new c) none) own.places))
  where
    -- an older object is where the marking starts
    old_kept : g ≤ 2 → (o : Object) → IsIn o m.objects → g < generation m.layout o.place → c.kept o.name ≡ true
    old_kept least o i above = (c.kept_is o.name).1
        (starts (inl (inr (record { object = o; present = i; named = refl; above = above }))))

    bare_small : (b : Bool) → IsSmallLaid b (all_given_up m.layout) g
        (survivors (record m { layout = all_given_up m.layout }) g c.kept) c.moves c.small
        → rest_pieces (all_given_up m.layout).rests ≡ [] → rest_pieces c.small.rests ≡ []
    bare_small true e none = ap rest_pieces e.rests ∙ none
    bare_small false e none = ap (λ (l : Layout). rest_pieces l.rests) e.1 ∙ none

pub young_tiles : (m : Machine) (g : ℕ) (how : How) (answer : Collected) (new : Machine) → IsLawful m → g ≤ 1
    → IsPlain g how → Collects m g how answer new → AllByRecursion (IsTiled (pieces new)) new.layout.segments
young_tiles m g how answer new h young usual c =
    plain_tiles m g how answer new h young
    (plainly m g how answer new (unslid m.compacts_large (g == 2) (none g young)) (usual_plain g how usual) c)
  where
    none : (g : ℕ) → g ≤ 1 → (g == 2) ≡ false
    none zero l = refl
    none (suc zero) l = refl
    none (suc (suc n)) l = absurd (omega arith)

    unslid : (flag full : Bool) → full ≡ false → (flag && full) ≡ false
    unslid true full e = e
    unslid false full e = refl
