-- The objects of the small heap that a full collection leaves, by those that were there.
use Rattle.std.proofs.Common.{◌≡◌, ℕ, ◌+◌, ◌-◌, ◌<◌, ◌≤◌, inl, inr, refl, sym, ap, subst, ◌∙◌}
use Rattle.std.proofs.Common.{arith, Bool, true, false, ◌&&◌, ◌==◌, filter}
use Rattle.std.proofs.lemmas.Bool.{both_ways, cases_Bool}
use Rattle.std.specs.List.{list_any}
use Rattle.std.specs.FinMap as finmap
use Rattle.clr_types.specs.Kinds.{is_pinned_kind}
use Rattle.clr_types.specs.Rising.{IsIn}
use Rattle.clr_types.specs.Segments.{is_small_or_ephemeral, same_kind, stands_in}
use Rattle.clr_types.specs.declared.handle.Handle.{Handle}
use Rattle.clr_types.specs.declared.segment.SegInfo.{SegInfo}
use Rattle.clr_types.specs.declared.segment.SegKind.{SegKind}
use Rattle.clr_types.specs.declared.segment.SegKind.TheVariants.{Ephemeral, Large, Pinned, Small}
use Rattle.clr_types.proofs.ChangedLists.{IsIn-map, into_filter, out_of_filter}
use Rattle.clr_types.proofs.ListMembers.{from-map}
use Rattle.clr_types.proofs.SegmentFacts.{one_home}
use Rattle.clr_model.specs.declared.How.{How}
use Rattle.clr_model.specs.declared.How.TheVariants.{Compact, Decide, Fit, Sweep}
use Rattle.clr_model.specs.declared.Collected.{Collected}
use Rattle.clr_model.specs.Collection.{begun, Collects, compacts, decides_to_compact, is_fit, IsCollected, IsSmallLaid}
use Rattle.clr_model.specs.Collection.{IsSmallLaidBy}
use Rattle.clr_model.specs.Collection.{object_after, SlidesIf}
use Rattle.clr_model.specs.Compaction.{IsCompacted, Move, moved_by}
use Rattle.clr_model.specs.Lawful.{IsLaid, IsLawful}
use Rattle.clr_model.specs.Laws.{IsUsual}
use Rattle.clr_model.specs.Lookups.{is_pinned, object_piece, object_size}
use Rattle.clr_model.specs.Machine.{Machine, Object}
use Rattle.clr_model.specs.Reach.{StartOf}
use Rattle.clr_model.specs.Slide.{slid_object}
use Rattle.clr_model.specs.Sweep.{survivors}
use Rattle.clr_model.proofs.CollectionKeeps.{collects_keeps}
use Rattle.clr_model.proofs.GivenUp.{given_up_laid}
use Rattle.clr_model.proofs.LawfulPieces.{HasHome, object-in-pieces, piece-home}
use Rattle.clr_model.proofs.LawfulSurvivors.{generation-least}
use Rattle.clr_model.proofs.MidLaid.{mid_laid, still_small}
use Rattle.clr_model.proofs.MovedPlaces.{is_small-survivor, moved-is, survivor-covered}
use Rattle.clr_model.proofs.SlidLaid.{other_still}
use Rattle.clr_laws.proofs.Holes.{full_segments_of, left_segments_of, no_fit, stands_there, was_pinned}
use Rattle.clr_laws.proofs.Leaving.{collected_leaves, collection_leaves}

abbrev pub Covers : Move → ℕ → Type 0
Covers v x = (v.start ≤ x) × (x < v.start + v.size)

not-large : (k : SegKind) → is_small_or_ephemeral k ≡ true → same_kind Large k ≡ false
not-large Small small = refl
not-large Ephemeral small = refl
not-large Large small = absurd cc
not-large Pinned small = absurd cc

module _ (m : Machine) (how : How) (usual : IsUsual 2 how) (one : Collected) (mid : Machine) (h : IsLawful m)
    (c : Collects m 2 how one mid) where
  abbrev pub d : IsCollected (begun m) 2 how false (StartOf (begun m) 2) one c.collected
  d = c.collects

  abbrev pub to : ℕ → ℕ
  to = moved_by d.moves

  pub laid : IsLaid (begun m)
  laid = given_up_laid m h.laid

  collected_laid : IsLaid c.collected
  collected_laid = mid_laid m h how (no_fit how usual) one c.collected d

  -- an object as it is left, by what it was
  pub record IsLeft (o w : Object) : Type 0 where
    pub named : w.name ≡ o.name
    pub place : w.place ≡ to o.place
    pub size : object_size mid.types w ≡ object_size m.types o

  -- what was pinned is pinned, and nothing else
  pub not_pinned : (name : ℕ) → is_pinned m name ≡ false → is_pinned mid name ≡ false
  not_pinned name out = elim (cases_Bool (is_pinned mid name)) [
    | inr free ↦ free
    | inl pinned ↦
        absurd (both_ways (is_pinned m name) out
        (was_pinned m 2 how one c.collected d name (sym same ∙ pinned)))
  ]
    where
      same : is_pinned mid name ≡ is_pinned c.collected name
      same =
          ap (λ hs. list_any (λ (row : Handle). is_pinned_kind row.kind && (row.target == name)) (finmap.values hs))
          ((collection_leaves m 2 how one mid c).handles
          ∙ sym (collected_leaves (begun m) 2 how false (StartOf (begun m) 2) one c.collected d).handles)

  -- ---- the slide of the large heap

  abbrev Slid : Object → Object → Type 0
  Slid p w = (w.name ≡ p.name) × (w.place ≡ p.place) × (object_size m.types w ≡ object_size m.types p)

  slid-to : (slides : Bool) (slid : Machine) → SlidesIf slides c.collected slid → (s : SegInfo)
      → IsIn s c.collected.layout.segments → same_kind Large s.kind ≡ false → (p : Object)
      → IsIn p c.collected.objects → stands_in s p.place ≡ true → (w : Object) × IsIn w slid.objects × Slid p w
  slid-to true slid (moves, k) s among kind p i stands = (
    slid_object moves p,
    subst (λ (w : Machine). IsIn (slid_object moves p) w.objects) (sym k.state) (IsIn-map (slid_object moves) i),
    (refl, other_still c.collected collected_laid moves k.layout k.slid s among kind p i (inl stands), refl),
  )
  slid-to false slid same s among kind p i stands =
      (p, subst (λ (w : Machine). IsIn p w.objects) (sym same) i, (refl, refl, refl))

  slid-from : (slides : Bool) (slid : Machine) → SlidesIf slides c.collected slid → (s : SegInfo)
      → IsIn s c.collected.layout.segments → same_kind Large s.kind ≡ false → (w : Object)
      → IsIn w slid.objects → stands_in s w.place ≡ true → (p : Object) × IsIn p c.collected.objects × Slid p w
  slid-from true slid (moves, k) s among kind w i stands =
      let (p, is, j) = from-map (slid_object moves) w c.collected.objects
      (subst (λ (u : Machine). IsIn w u.objects) k.state i) in
      let at : w.place ≡ moved_by moves p.place = ap (λ (u : Object). u.place) is in
      let still = other_still c.collected collected_laid moves k.layout k.slid s among kind p j
      (inr (subst (λ n. stands_in s n ≡ true) at stands)) in
      (p, j, (ap (λ (u : Object). u.name) is, at ∙ still, ap (object_size m.types) is))
  slid-from false slid same s among kind w i stands =
      (w, subst (λ (u : Machine). IsIn w u.objects) same i, (refl, refl, refl))

  types_are : mid.types ≡ m.types
  types_are = (collects_keeps m 2 how one mid c).types

  -- ---- forth and back

  -- what is kept and stands in a segment of the small heap then is left
  pub left : (o : Object) → IsIn o m.objects → d.kept o.name ≡ true → (s : SegInfo) → IsIn s m.layout.segments
      → is_small_or_ephemeral s.kind ≡ true → stands_in s (to o.place) ≡ true
      → (w : Object) × IsIn w mid.objects × IsLeft o w
  left o i stays s among kind stands =
      let (e, among') = still_small m h how (no_fit how usual) one c.collected d s among kind in
      let (w, j, (named, place, size)) = slid-to (m.compacts_large && (2 == 2)) c.slid c.slides (record s { end = e })
      among' (not-large s.kind kind) (object_after (begun m) d.first d.moves o) there stands in (
        w,
        subst (λ (u : Machine). IsIn w u.objects) (sym c.ends) j,
        record {
          named = named;
          place = place;
          size = ap (λ ts. object_size ts w) types_are ∙ size;
        },
      )
    where
      there : IsIn (object_after (begun m) d.first d.moves o) c.collected.objects
      there =
          subst (λ (u : Machine). IsIn (object_after (begun m) d.first d.moves o) u.objects) (sym d.state)
          (IsIn-map (object_after (begun m) d.first d.moves)
          (into_filter (λ (o : Object). d.kept o.name) m.objects stays i))

  -- the object as it was, and the move that took it
  pub record WasMoved (w : Object) : Type 0 where
    pub old : Object
    pub present : IsIn old m.objects
    pub stays : d.kept old.name ≡ true
    pub is : IsLeft old w
    pub move : Move
    pub among : IsIn move d.moves
    pub covers : Covers move old.place
    pub by : to old.place ≡ move.to + (old.place - move.start)

  module _ (k : IsCompacted (begun m).layout 2 (survivors (begun m) 2 d.kept) d.moves d.small) (E : SegInfo)
      (in-segments : IsIn E mid.layout.segments) (kind-is : is_small_or_ephemeral E.kind ≡ true) where
    covered : (o : Object) → IsIn o m.objects → d.kept o.name ≡ true
        → ((v : Move) → IsIn v d.moves → Covers v o.place → ⊥) → stands_in E o.place ≡ true → ⊥
    covered o i stays none stands =
        let (t, j, base, reserved, kind) = full_segments_of m how usual one mid c E in-segments in
        let at : HasHome (begun m).layout o.place =
        piece-home (begun m) laid (object_piece m.types o) (object-in-pieces (begun m) laid o i) in
        let same : at.home ≡ t =
        one_home (begun m).layout laid.layout at.home t o.place at.among j at.stands
        (stands_there E t o.place base reserved stands) in
        survivor-covered (begun m) laid 2 (omega arith) d.kept d.moves d.small k o
        (is_small-survivor (begun m) laid 2 (omega arith) d.kept d.moves d.small k o i stays
        (generation-least (begun m).layout o.place) t j (ap is_small_or_ephemeral kind ∙ kind-is)
        (at.base ∙ ap (λ (s : SegInfo). s.base) same)) none

    -- what stands in a segment of the small heap afterwards was moved there
    pub was : (w : Object) → IsIn w mid.objects → stands_in E w.place ≡ true → WasMoved w
    was w i stands =
        let (t, j, base, reserved, kind) = left_segments_of m how usual one mid c E in-segments in
        let (p, n, (named, place, size)) = slid-from (m.compacts_large && (2 == 2)) c.slid c.slides t j
        (not-large t.kind (ap is_small_or_ephemeral kind ∙ kind-is)) w
        (subst (λ (u : Machine). IsIn w u.objects) c.ends i) (stands_there E t w.place base reserved stands) in
        let (o, is, l) = from-map (object_after (begun m) d.first d.moves) p
        (filter (λ (o : Object). d.kept o.name) m.objects) (subst (λ (u : Machine). IsIn p u.objects) d.state n) in
        let (stays, present) = out_of_filter (λ (o : Object). d.kept o.name) o m.objects l in
        go o present stays (left-as p o is (named, place, size))
      where
        left-as : (p o : Object) → p ≡ object_after (begun m) d.first d.moves o → Slid p w → IsLeft o w
        left-as p o is (named, place, size) = record {
          named = named ∙ ap (λ (u : Object). u.name) is;
          place = place ∙ ap (λ (u : Object). u.place) is;
          size = ap (λ ts. object_size ts w) types_are ∙ size ∙ ap (object_size m.types) is;
        }

        go : (o : Object) → IsIn o m.objects → d.kept o.name ≡ true → IsLeft o w → WasMoved w
        go o present stays is = elim (moved-is d.moves o.place) [
          | inl (v, j, cover, by) ↦ record {
            old = o;
            present = present;
            stays = stays;
            is = is;
            move = v;
            among = j;
            covers = cover;
            by = by;
          }
          | inr (none, same) ↦
              absurd (covered o present stays none
              (subst (λ n. stands_in E n ≡ true) (is.place ∙ same) stands))
        ]

-- a collection that says so compacted
pub compacted-by : (m : Machine) (how : How) → IsUsual 2 how → (one : Collected) (new : Machine) (start : ℕ → Type 0)
    → (d : IsCollected m 2 how false start one new) → one.compacted ≡ true
    → IsCompacted m.layout 2 (survivors m 2 d.kept) d.moves d.small
compacted-by m how usual one new start d compacted =
    go how (no_fit how usual) (compacts how (decides_to_compact m 2 d.survive))
    (sym (ap (λ (a : Collected). a.compacted) d.answered) ∙ compacted)
    (subst (λ ks. IsSmallLaidBy how (compacts how (decides_to_compact m 2 d.survive)) m.layout 2 ks d.moves d.small)
    d.survive_are d.small_laid)
  where
    laid-by : (b : Bool) → b ≡ true → IsSmallLaid b m.layout 2 (survivors m 2 d.kept) d.moves d.small
        → IsCompacted m.layout 2 (survivors m 2 d.kept) d.moves d.small
    laid-by true is laid = laid
    laid-by false is laid = absurd cc

    go : (by : How) → is_fit by ≡ false → (b : Bool) → b ≡ true
        → IsSmallLaidBy by b m.layout 2 (survivors m 2 d.kept) d.moves d.small
        → IsCompacted m.layout 2 (survivors m 2 d.kept) d.moves d.small
    go Decide none = laid-by
    go Compact none = laid-by
    go Sweep none = laid-by
    go Fit none = absurd cc
