-- A fitting collection leaves a lawful machine.
use Rattle.clr_model.proofs.CollectedFree.{free_before_pinned}
use Rattle.clr_types.specs.Ranges.{Piece, piece_end}
use Rattle.clr_model.proofs.CollectedObjects.{found_by}
use Rattle.clr_model.specs.Laws.{HasPlace, HasGeneration, IsPromoted}
use Rattle.clr_types.proofs.SortedLists.{same_by_key}
use Rattle.clr_types.specs.LawfulLayout.{IsLawfulLayout, IsTiled}
use Rattle.std.proofs.Common.{ℕ, ◌≡◌, ◌<◌, ◌≤◌, ◌⊎◌, inl, inr, List, [], length, refl, sym, ap, subst, ◌∙◌, arith, Bool}
use Rattle.std.proofs.Common.{Some, filter}
use Rattle.std.proofs.Common.{true, false, ◌&&◌, ◌==◌, not, sum_by, None, IfSome, Option}
use Rattle.std.proofs.lemmas.Bool.{and_parts, cases_Bool, eqb-true}
use Rattle.std.specs.List.{AllByRecursion, list_any}
use Rattle.clr_types.specs.Rising.{IsIn}
use Rattle.clr_types.specs.Segments.{ephemeral, first_place, generation, is_small_or_ephemeral, reserved_end}
use Rattle.clr_types.specs.Segments.{reserved_sum, Layout}
use Rattle.clr_types.specs.Segments.{rest_pieces, same_kind, segment_of, stands_in}
use Rattle.clr_types.proofs.TilePieces.{IsTile}
use Rattle.clr_types.specs.declared.segment.SegInfo.{SegInfo}
use Rattle.clr_types.specs.declared.segment.SegKind.{SegKind}
use Rattle.clr_types.specs.declared.segment.SegKind.TheVariants.{Small, Ephemeral, Large, Pinned}
use Rattle.clr_types.proofs.ChangedLists.{IsIn-map, out_of_filter, rising-distinct}
use Rattle.clr_types.proofs.ListMembers.{any-in, from-map}
use Rattle.clr_types.proofs.RisingLists.{all_at}
use Rattle.clr_types.proofs.SegmentFacts.{between-stands, ephemeral-in, ephemeral-kind, lawful_segment, one_home}
use Rattle.clr_types.proofs.SegmentFacts.{segment_of-home}
use Rattle.clr_model.specs.declared.How.TheVariants.{Fit}
use Rattle.clr_model.specs.declared.Collected.{Collected}
use Rattle.clr_model.specs.Machine.{Machine, Object}
use Rattle.clr_model.specs.Lookups.{lowest_in_step, pieces, is_pinned, object_named}
use Rattle.clr_model.specs.Reach.{starts, StartOf}
use Rattle.clr_model.specs.Sweep.{survivor, survivors, is_in_part}
use Rattle.clr_model.specs.Compaction.{IsCompacted, Move, moved_by, plugs_of, survivors_in}
use Rattle.clr_model.specs.Slide.{slid_object}
use Rattle.clr_model.specs.Fitting.{fit_of, IsFitted, is_moved, is_older_item}
use Rattle.clr_model.specs.Collection.{begun, bytes_promoted, Collects, IsCollected, marking_after, objects_after}
use Rattle.clr_model.specs.Collection.{SlidesIf, sums_after, object_after}
use Rattle.clr_model.specs.Lawful.{IsLaid, IsLawful, Suits, SuitsItsSegment}
use Rattle.clr_model.proofs.Apart.{AreApart}
use Rattle.clr_model.proofs.CollectedAges.{compaction_ages}
use Rattle.clr_model.proofs.CollectedLaid.{collected_suited}
use Rattle.clr_model.proofs.CollectedPieces.{IsSmallPhase, small_phase}
use Rattle.clr_model.proofs.CollectedPresent.{collected_machine}
use Rattle.clr_model.proofs.FitCompacted.{compaction, fit_machine, fitted-apart, fitting_laid, old-kept, same_objects}
use Rattle.clr_model.proofs.FitCompacted.{twice, fitted_places, fitted_age}
use Rattle.clr_model.proofs.FitFillings.{going, lands-in, moved-covers, unmoved-still}
use Rattle.clr_model.proofs.FitLaid.{fit_laid}
use Rattle.clr_model.proofs.GivenUp.{given_up_laid, no_rests}
use Rattle.clr_model.proofs.Landings.{covered_by}
use Rattle.clr_model.proofs.LawfulPieces.{free-in-pieces, HasHome, piece-home, piece-tile}
use Rattle.clr_model.proofs.LawfulSurvivors.{survivor-is, young-stands}
use Rattle.clr_model.proofs.MovedPlaces.{compacted_apart}
use Rattle.clr_model.proofs.NamedWell.{lawful-named}
use Rattle.clr_model.proofs.PartsLawful.{IsWellLeft, parts_birth_named, parts_lawful}
use Rattle.clr_model.proofs.Remarked.{remarked_lawful}
use Rattle.clr_model.proofs.ReservedBytes.{reserved-after}

module _ (m : Machine) (h : IsLawful m) (answer : Collected) (mid : Machine)
    (d : IsCollected (begun m) 1 Fit false (StartOf (begun m) 1) answer mid)
  where
    one : 1 ≤ 2
    one = omega arith

    abbrev start : Machine
    start = begun m

    laid : IsLaid (begun m)
    laid = given_up_laid m h.laid

    bare : rest_pieces (begun m).layout.rests ≡ []
    bare = no_rests (length m.layout.rests)

    fit : IsFitted (begun m).layout (survivors (begun m) 1 d.kept) d.moves d.small
    fit = subst (λ ks. IsFitted (begun m).layout ks d.moves d.small) d.survive_are d.small_laid

    old_kept : (o : Object) → IsIn o m.objects → 1 < generation (begun m).layout o.place → d.kept o.name ≡ true
    old_kept o i above =
        (d.kept_is o.name).1
        (starts (inl (inr (record { object = o; present = i; named = refl; above = above }))))

    -- the machine after the fit, and what is compacted then
    abbrev fitted : Machine
    fitted = fit_machine (begun m) laid bare d.kept

    laid-fitted : IsLaid fitted
    laid-fitted = fit_laid (begun m) laid bare d.kept

    abbrev F : List Move
    F = (fit_of (begun m).layout (survivors (begun m) 1 d.kept)).moves

    -- ---- generations

    old_stays : (o : Object) → IsIn o m.objects → d.kept o.name ≡ true → 1 < generation m.layout o.place
        → generation d.small (moved_by d.moves o.place) ≡ generation m.layout o.place
    old_stays o i stays above = by (cases_Bool (is_moved F o.place))
      where
        by : (is_moved F o.place ≡ true)
            ⊎ (is_moved F o.place ≡ false)
            → generation d.small (moved_by d.moves o.place) ≡ generation m.layout o.place
        by (inl t) =
            let (v, n, cover) = moved-covers F o.place t in
            let is = covered_by (begun m) laid d.kept _ _ F
            (going (begun m) laid bare d.kept) o i v n cover in
            let young : generation m.layout o.place ≤ 1 =
            (survivor-is (begun m) laid 1 one d.kept (survivor (begun m) o) is.survives).age in
            absurd (omega arith)
        by (inr t) =
            let still = unmoved-still F o.place t in
            let ages = compaction_ages fitted laid-fitted 1 one d.kept fit.others d.small
            (compaction (begun m) laid bare d.kept d.moves d.small fit) (slid_object F o)
            (IsIn-map (slid_object F) i) stays in
            ap (generation d.small) (sym (twice (begun m) laid bare d.kept d.moves d.small fit o i))
            ∙ ages.keeps_age (subst (λ x. 1 < generation m.layout x) (sym still) above)
            ∙ ap (generation m.layout) still

    -- ---- segments

    -- an object stays in a segment of its kind, or goes from the ephemeral one to one of the small heap
    fitted-suited : (o : Object) → IsIn o fitted.objects → SuitsItsSegment fitted o
    fitted-suited o i =
        let (q, e, j) = from-map (slid_object F) o m.objects i in
        subst (SuitsItsSegment fitted) (sym e) (by q j (cases_Bool (is_moved F q.place)))
      where
        small-kind : (q : Object) (k l : SegKind) → same_kind Ephemeral k ≡ true → is_small_or_ephemeral l ≡ true
            → Suits m q k → Suits fitted (slid_object F q) l
        small-kind q Small l a b is = absurd cc
        small-kind q Large l a b is = absurd cc
        small-kind q Pinned l a b is = absurd cc
        small-kind q Ephemeral Large a b is = absurd cc
        small-kind q Ephemeral Pinned a b is = absurd cc
        small-kind q Ephemeral Small a b is = is
        small-kind q Ephemeral Ephemeral a b is = is

        by : (q : Object) → IsIn q m.objects → (is_moved F q.place ≡ true) ⊎ (is_moved F q.place ≡ false)
            → SuitsItsSegment fitted (slid_object F q)
        by q j (inr t) =
            let was : SuitsItsSegment m q = all_at (SuitsItsSegment m) j h.suited in
            subst (λ x. IfSome (segment_of m.layout x) (λ s. Suits m q s.kind)) (sym (unmoved-still F q.place t)) was
        by q j (inl t) =
            let (v, n, cover, is) = lands-in (begun m) laid bare d.kept q j t in
            let (older, free) = out_of_filter (is_older_item (begun m).layout) is.item (begun m).layout.free is.among in
            let (in_small, two) = and_parts
            (list_any (λ s. is_small_or_ephemeral s.kind && stands_in s is.item.place) m.layout.segments)
            (generation m.layout is.item.place == 2) older in
            let (s, known, at) =
            any-in (λ s. is_small_or_ephemeral s.kind && stands_in s is.item.place) m.layout.segments in_small in
            let (kind, stands) = and_parts (is_small_or_ephemeral s.kind) (stands_in s is.item.place) at in
            let p : IsIn is.item (pieces (begun m)) = free-in-pieces (begun m) laid is.item free in
            let n' : HasHome (begun m).layout is.item.place = piece-home (begun m) laid is.item p in
            let tile : IsTile (first_place n'.home) n'.home.end is.item = piece-tile (begun m) laid is.item p n' in
            let same : n'.home ≡ s =
            one_home (begun m).layout laid.layout n'.home s is.item.place n'.among known n'.stands stands in
            let end : n'.home.end ≤ reserved_end n'.home =
            (lawful_segment (begun m).layout laid.layout n'.home n'.among).high in
            let low = is.low in let high = is.high in let tile_end = tile.high_end in let low_item = n'.low in
            let (z, z') = is.size in
            let there : stands_in n'.home (moved_by F q.place) ≡ true =
            between-stands n'.home (moved_by F q.place) (omega arith) (omega arith) in
            let young : generation m.layout q.place ≤ 1 =
            (survivor-is (begun m) laid 1 one d.kept (survivor (begun m) q)
            (covered_by (begun m) laid d.kept _ _ F (going (begun m) laid bare d.kept) q j v n cover).survives).age in
            let in_eph : stands_in (ephemeral m.layout) q.place ≡ true =
            young-stands m.layout q.place young in
            let was : Suits m q (ephemeral m.layout).kind =
            subst (λ (r : Option SegInfo). IfSome r (λ u. Suits m q u.kind))
            (segment_of-home m.layout h.laid.layout (ephemeral m.layout) q.place (ephemeral-in m.layout h.laid.layout)
            in_eph) (all_at (SuitsItsSegment m) j h.suited) in
            subst (λ (r : Option SegInfo). IfSome r (λ u. Suits fitted (slid_object F q) u.kind))
            (sym (segment_of-home fitted.layout laid-fitted.layout n'.home (moved_by F q.place) n'.among there))
            (small-kind q (ephemeral m.layout).kind n'.home.kind (ephemeral-kind m.layout h.laid.layout)
            (subst (λ (u : SegInfo). is_small_or_ephemeral u.kind ≡ true) (sym same) kind) was)

    old-kept-fitted : (o : Object) → IsIn o fitted.objects → 1 < generation fitted.layout o.place
        → d.kept o.name ≡ true
    old-kept-fitted = old-kept (begun m) laid bare d.kept d.moves d.small fit d.first old_kept (lawful-named m h).apart

    now : IsCompacted fitted.layout 1 (survivors fitted 1 d.kept) fit.others d.small
    now = compaction (begun m) laid bare d.kept d.moves d.small fit

    apart-after : AreApart (objects_after fitted d.first d.kept fit.others)
    apart-after =
        compacted_apart fitted laid-fitted 1 one d.kept fit.others d.small now
        (fitted-apart (begun m) laid bare d.kept d.moves d.small fit d.first old_kept (lawful-named m h).apart) d.first

    same : objects_after fitted d.first d.kept fit.others ≡ objects_after (begun m) d.first d.kept d.moves
    same = same_objects (begun m) laid bare d.kept d.moves d.small fit d.first old_kept (lawful-named m h).apart

    abbrev objects : List Object
    objects = objects_after (begun m) d.first d.kept d.moves

    suited : (o : Object) → IsIn o objects → SuitsItsSegment (record m { objects = objects; layout = d.small }) o
    suited o i =
        collected_suited fitted laid-fitted bare 1 one d.kept d.first fit.others d.small true now old-kept-fitted
        apart-after.places fitted-suited o (subst (IsIn o) (sym same) i)

    limit : reserved_sum d.small ≤ m.options.limit
    limit =
        let l = h.limit in
        let is : IsSmallPhase fitted 1 d.kept fit.others d.small =
        small_phase fitted laid-fitted 1 one d.kept fit.others d.small true now in
        let small = ap (sum_by (λ (s : SegInfo). s.reserved)) is.segments
        ∙ reserved-after is_small_or_ephemeral 1 is.end m.layout.segments in
        omega arith

    left : IsWellLeft m 1 d.first d.kept d.moves d.small answer.promoted1 answer.promoted2
    left = record {
      laid = fitting_laid (begun m) laid bare d.kept d.moves d.small fit d.first old_kept (lawful-named m h).apart;
      bare = ap rest_pieces now.rests ∙ bare;
      suited = suited;
      limit = limit;
      old_stays = old_stays;
      first_bytes = ap (λ (a : Collected). a.promoted1) d.answered
          ∙ ap (λ l. bytes_promoted (begun m) l d.kept d.moves 0) d.large_laid;
      second_bytes = ap (λ (a : Collected). a.promoted2) d.answered
          ∙ ap (λ l. bytes_promoted (begun m) l d.kept d.moves 1) d.large_laid;
    }

    abbrev next : Machine
    next =
        collected_machine (begun m) d.first d.kept d.moves d.small
        (sums_after (begun m) 1 answer.promoted1 answer.promoted2) (marking_after false m.background)

    mid-is : mid ≡ next
    mid-is =
        d.state
        ∙ ap (λ l. collected_machine (begun m) d.first d.kept d.moves l
        (sums_after (begun m) 1 answer.promoted1 answer.promoted2) (marking_after false m.background)) d.large_laid

    -- A fitting collection leaves a lawful machine.
    pub fit_lawful : lowest_in_step m ≡ None → IsLawful mid
    fit_lawful idle =
        subst IsLawful (sym mid-is)
        (parts_lawful m h idle 1 one d.first d.kept (λ x s. s) d.first_is d.kept_is d.moves d.small answer.promoted1
        answer.promoted2 left)

    pub fit_birth_named : lowest_in_step m ≡ None → AllByRecursion (λ (o : Object). o.name ≤ m.born) m.objects
        → AllByRecursion (λ (o : Object). o.name ≤ mid.born) mid.objects
    fit_birth_named idle born =
        subst (λ (w : Machine). AllByRecursion (λ (o : Object). o.name ≤ w.born) w.objects) (sym mid-is)
        (parts_birth_named m h idle 1 one d.first d.kept (λ x s. s) d.first_is d.kept_is d.moves d.small
        answer.promoted1 answer.promoted2 left born)

    pub fit_bare : rest_pieces mid.layout.rests ≡ []
    fit_bare = ap (λ (w : Machine). rest_pieces w.layout.rests) mid-is ∙ left.bare

    pub fit_apart : AreApart mid.objects
    fit_apart = subst (λ (w : Machine). AreApart w.objects) (sym mid-is) (subst AreApart same apart-after)

    pub fit_laid_after : IsLaid mid
    fit_laid_after =
        let is = left.laid in
        subst IsLaid (sym mid-is)
        (record { layout = is.layout; housed = is.housed; tiled = is.tiled; whole1 = is.whole1; whole0 = is.whole0 })

    -- the place of an object of this name afterwards, by the object of that name before
    pub fit_moved : (name : ℕ) (old o : Object) → object_named m.objects name ≡ Some old
        → object_named mid.objects name ≡ Some o
        → IsIn old m.objects × (old.name ≡ name) × (o.place ≡ moved_by d.moves old.place)
        × (d.kept old.name ≡ true)
    fit_moved name old o e f =
        let (i, old_name) = found_by (λ (o : Object). o.name) name m.objects old e in
        let (j, new_name) = found_by (λ (o : Object). o.name) name mid.objects o f in
        let k : IsIn o (objects_after (begun m) d.first d.kept d.moves) =
        subst (λ (w : Machine). IsIn o w.objects) d.state j in
        let (p, is, l) = from-map (object_after (begun m) d.first d.moves) o
        (filter (λ (o : Object). d.kept o.name) m.objects) k in
        let (stays, present) = out_of_filter (λ (o : Object). d.kept o.name) p m.objects l in
        let one : p ≡ old = same_by_key (λ (o : Object). o.name) m.objects p old
        (rising-distinct (λ (o : Object). o.name) m.objects h.names_rise) present i
        (sym (ap (λ (w : Object). w.name) is) ∙ new_name ∙ sym old_name) in (
          i,
          old_name,
          ap (λ (w : Object). w.place) is ∙ ap (λ (w : Object). moved_by d.moves w.place) one,
          subst (λ (w : Object). d.kept w.name ≡ true) one stays,
        )

    pub fit_lower : (o : Object) → IsIn o m.objects → moved_by d.moves o.place ≤ o.place
    fit_lower o i = (fitted_places (begun m) d.kept d.moves d.small laid bare fit o i).0

    pub fit_pinned : (o : Object) → IsIn o m.objects → is_pinned m o.name ≡ true → moved_by d.moves o.place ≡ o.place
    fit_pinned o i = (fitted_places (begun m) d.kept d.moves d.small laid bare fit o i).1

    -- a fitted object gets generation 2, and the others are promoted by the compaction
    pub fit_promoted : (o : Object) → IsIn o m.objects → d.kept o.name ≡ true
        → IsPromoted 1 (is_pinned m o.name) true (generation m.layout o.place)
        (generation d.small (moved_by d.moves o.place))
    fit_promoted o i stays = by (cases_Bool (is_moved F o.place))
      where
        gone : IsPromoted 1 (is_pinned m o.name) true 1 2
        gone = record {
          old_stays = λ l. absurd (omega arith);
          free_rises = λ l free. refl;
          swept_rises = λ l swept. refl;
          none_skips = λ l. omega arith;
        }

        by : (is_moved F o.place ≡ true) ⊎ (is_moved F o.place ≡ false)
            → IsPromoted 1 (is_pinned m o.name) true (generation m.layout o.place)
            (generation d.small (moved_by d.moves o.place))
        by (inl t) =
            let (v, n, cover) = moved-covers F o.place t in
            let is = covered_by (begun m) laid d.kept _ _ F (going (begun m) laid bare d.kept) o i v n cover in
            let fits : (not is.plug.pinned && (is.plug.generation == 1)) ≡ true =
            (out_of_filter (λ p. not p.pinned && (p.generation == 1)) is.plug
            (plugs_of (survivors_in is_small_or_ephemeral (begun m).layout (survivors (begun m) 1 d.kept)))
            is.among).0 in
            let age : generation m.layout o.place ≡ 1 =
            is.age ∙ eqb-true is.plug.generation 1 (and_parts (not is.plug.pinned) (is.plug.generation == 1) fits).1 in
            let after : generation d.small (moved_by d.moves o.place) ≡ 2 =
            fitted_age (begun m) laid bare d.kept d.moves d.small fit o i t in
            subst (λ n. IsPromoted 1 (is_pinned m o.name) true n (generation d.small (moved_by d.moves o.place)))
            (sym age)
            (subst (λ n. IsPromoted 1 (is_pinned m o.name) true 1 n) (sym after) gone)
        by (inr t) =
            let still = unmoved-still F o.place t in
            let ages = compaction_ages fitted laid-fitted 1 one d.kept fit.others d.small
            (compaction (begun m) laid bare d.kept d.moves d.small fit) (slid_object F o)
            (IsIn-map (slid_object F) i) stays in
            subst (λ x. IsPromoted 1 (is_pinned m o.name) true (generation m.layout o.place) (generation d.small x))
            (twice (begun m) laid bare d.kept d.moves d.small fit o i)
            (subst (λ x. IsPromoted 1 (is_pinned m o.name) true (generation m.layout x)
            (generation d.small (moved_by fit.others (moved_by F o.place)))) still
            (record {
              old_stays = ages.keeps_age;
              free_rises = ages.next;
              swept_rises = λ l swept. absurd cc;
              none_skips = ages.at_most;
            }))

    -- right behind a free item that the compaction left stands a pinned object
    pub fit_free_before : (p : Piece) → IsIn p d.small.free → is_in_part is_small_or_ephemeral m.layout 1 p ≡ true
        → (o : Object) × IsIn o (objects_after (begun m) d.first d.kept d.moves) × (o.place ≡ piece_end p)
        × (is_pinned m o.name ≡ true)
    fit_free_before p i part =
        let (o, j, place, pinned) =
        free_before_pinned fitted laid-fitted 1 one d.kept fit.others d.small now d.first
        (objects_after fitted d.first d.kept fit.others) p i part in
        (o, subst (IsIn o) same j, place, pinned)

-- no slide follows on a collection of generation 1
pub never : (flag : Bool) → (flag && false) ≡ false
never true = refl
never false = refl

-- What a whole fitting collection leaves.
pub fit_left : (m : Machine) → IsLawful m → lowest_in_step m ≡ None → (answer : Collected) (new : Machine)
    → Collects m 1 Fit answer new
    → IsLawful new × (rest_pieces new.layout.rests ≡ [])
    × (AllByRecursion (λ (o : Object). o.name ≤ m.born) m.objects
    → AllByRecursion (λ (o : Object). o.name ≤ new.born) new.objects)
fit_left m h idle answer new c =
    let still : c.slid ≡ c.collected =
    subst (λ (b : Bool). SlidesIf b c.collected c.slid) (never m.compacts_large) c.slides in
    let lawful = fit_lawful m h answer c.collected c.collects idle in
    let is : new ≡ record c.collected { compacts_large = m.compacts_large && not (1 == 2) } =
    c.ends ∙ ap (λ (w : Machine). record w { compacts_large = m.compacts_large && not (1 == 2) }) still in (
      subst IsLawful (sym is)
          (remarked_lawful c.collected lawful (m.compacts_large && not (1 == 2)) c.collected.background lawful.marking),
      ap (λ (w : Machine). rest_pieces w.layout.rests) is ∙ fit_bare m h answer c.collected c.collects,
      λ born. subst (λ (w : Machine). AllByRecursion (λ (o : Object). o.name ≤ w.born) w.objects) (sym is)
          (fit_birth_named m h answer c.collected c.collects idle born),
    )

-- ---- what the laws say of it

module _ (m : Machine) (h : IsLawful m) (answer : Collected) (new : Machine) (c : Collects m 1 Fit answer new) where
  new-is : new ≡ record c.collected { compacts_large = m.compacts_large && not (1 == 2) }
  new-is =
      c.ends
      ∙ ap (λ (w : Machine). record w { compacts_large = m.compacts_large && not (1 == 2) })
      (subst (λ (b : Bool). SlidesIf b c.collected c.slid) (never m.compacts_large) c.slides)

  laid-now : IsLaid c.collected
  laid-now = fit_laid_after m h answer c.collected c.collects

  pub fit_layout : IsLawfulLayout new.layout
  fit_layout = subst (λ (w : Machine). IsLawfulLayout w.layout) (sym new-is) laid-now.layout

  pub fit_tiles : AllByRecursion (IsTiled (pieces new)) new.layout.segments
  fit_tiles =
      subst (λ (w : Machine). AllByRecursion (IsTiled (pieces w)) w.layout.segments) (sym new-is) laid-now.tiled

  between : (name place : ℕ) → HasPlace new name place → HasPlace c.collected name place
  between name place = subst (λ (w : Machine). HasPlace w name place) new-is

  pub fit_pinned_stay : (name before after : ℕ) → is_pinned m name ≡ true → HasPlace m name before
      → HasPlace new name after → after ≡ before
  fit_pinned_stay name before after pinned (old, found, at) last =
      let (o, found_now, to) = between name after last in
      let (i, named, place, stays) = fit_moved m h answer c.collected c.collects name old o found found_now in
      sym to ∙ place
      ∙ fit_pinned m h answer c.collected c.collects old i (subst (λ n. is_pinned m n ≡ true) (sym named) pinned) ∙ at

  pub fit_none_rises : (name before after : ℕ) → HasPlace m name before → HasPlace new name after → after ≤ before
  fit_none_rises name before after (old, found, at) last =
      let (o, found_now, to) = between name after last in
      let (i, named, place, stays) = fit_moved m h answer c.collected c.collects name old o found found_now in
      let down = fit_lower m h answer c.collected c.collects old i in
      omega arith

  pub fit_promotion : (name before after : ℕ) → HasGeneration m name before → HasGeneration new name after
      → IsPromoted 1 (is_pinned m name) answer.compacted before after
  fit_promotion name before after (old, found, at) last =
      let (o, found_now, to) : HasGeneration c.collected name after =
      subst (λ (w : Machine). HasGeneration w name after) new-is last in
      let (i, named, place, stays) = fit_moved m h answer c.collected c.collects name old o found found_now in
      let d = c.collects in
      let same : generation d.small (moved_by d.moves old.place) ≡ after =
      ap (generation d.small) (sym place)
      ∙ sym (ap (λ (l : Layout). generation l o.place) (ap (λ (w : Machine). w.layout) d.state ∙ d.large_laid)) ∙ to in
      subst (λ b. IsPromoted 1 (is_pinned m name) b before after) (sym (ap (λ (a : Collected). a.compacted) d.answered))
      (subst (λ n. IsPromoted 1 (is_pinned m n) true before after) named
      (subst (λ n. IsPromoted 1 (is_pinned m old.name) true n after) at
      (subst (IsPromoted 1 (is_pinned m old.name) true (generation m.layout old.place)) same
      (fit_promoted m h answer c.collected c.collects old i stays))))

  pub fit_free_before_pins : (p : Piece) → IsIn p new.layout.free → is_in_part is_small_or_ephemeral m.layout 1 p ≡ true
      → (o : Object) × IsIn o new.objects × (o.place ≡ piece_end p) × (is_pinned m o.name ≡ true)
  fit_free_before_pins p i part =
      let d = c.collects in
      let (o, j, place, pinned) =
      fit_free_before m h answer c.collected c.collects p
      (subst (λ (l : Layout). IsIn p l.free) (ap (λ (w : Machine). w.layout) (new-is ∙ ap (λ (w : Machine). record w {
        compacts_large = m.compacts_large && not (1 == 2);
      }) d.state) ∙ d.large_laid) i) part in (
        o,
        subst (λ (w : Machine). IsIn o w.objects) (sym new-is)
            (subst (λ (w : Machine). IsIn o w.objects) (sym d.state) j),
        place,
        pinned,
      )
