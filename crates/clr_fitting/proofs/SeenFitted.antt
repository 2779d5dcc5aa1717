-- What is seen of a fit where objects are named by their places: the same, under other names.
use Rattle.std.proofs.Common.{◌≡◌, ℕ, ◌+◌, ◌<◌, ◌≤◌, inl, inr, List, [], ◌++◌, map, refl, sym, ap, subst, ◌∙◌, arith}
use Rattle.std.proofs.Common.{Bool, true, false, ◌&&◌, ◌==◌, filter, sum_by}
use Rattle.std.proofs.lemmas.Bool.{eq-eqb, eqb-true, eqb-false, ne_eqb}
use Rattle.std.proofs.lemmas.List.{append-nil}
use Rattle.std.proofs.lemmas.List.Elements.{filter-append}
use Rattle.std.specs.FinMap as finmap
use Rattle.std.specs.List.{AllByRecursion, list_any}
use Rattle.clr_types.specs.Kinds.{is_pinned_kind}
use Rattle.clr_types.specs.Rising.{IsIn}
use Rattle.clr_types.specs.Segments.{first_place, generation, Layout, rest_pieces}
use Rattle.clr_types.specs.declared.handle.Handle.{Handle}
use Rattle.clr_types.proofs.ChangedLists.{IsIn-map}
use Rattle.clr_types.proofs.ListMembers.{any-map, any-on, filter-map, filter-on, from-map, map-map, sum-mapped}
use Rattle.clr_types.proofs.ListSums.{sum-on}
use Rattle.clr_types.proofs.MapValues.{values-map_values}
use Rattle.clr_types.proofs.RisingLists.{all_at}
use Rattle.clr_types.proofs.Shuffles.{IsShuffled, shuffled-filter, shuffled-sum}
use Rattle.clr_model.specs.Machine.{Machine, Object}
use Rattle.clr_model.specs.Lookups.{handle_rows, is_pinned, object_piece, object_size}
use Rattle.clr_model.specs.Lawful.{IsLaid, IsNullOrPresent}
use Rattle.clr_model.specs.Collection.{bytes_promoted}
use Rattle.clr_model.specs.Compaction.{Move, moved_by}
use Rattle.clr_model.specs.Picture.{renamed_row}
use Rattle.clr_model.specs.Slide.{slid_object}
use Rattle.clr_model.proofs.LawfulPieces.{HasHome, object-in-pieces, piece-home}
use Rattle.clr_model.proofs.NamedWell.{found_named, HasObject}
use Rattle.clr_fitting.specs.Steps.{fit_in, fitted, IsFittedSeen, IsSeenAs}
use Rattle.clr_fitting.proofs.AlikeLayouts.{none-left, same-generation}
use Rattle.clr_fitting.proofs.FitMoves.{below_stays, fit_one}
use Rattle.clr_fitting.proofs.TwoSteps.{stays_laid}

-- ---- pins

-- two tests of numbers agree where each follows from the other
same-test : (a b c d : ℕ) → (a ≡ b → c ≡ d) → (c ≡ d → a ≡ b) → (a == b) ≡ (c == d)
same-test a b c d to from = go (a == b) refl
  where
    go : (t : Bool) → (a == b) ≡ t → (a == b) ≡ (c == d)
    go true e = e ∙ sym (eq-eqb c d (to (eqb-true a b e)))
    go false e = e ∙ sym (ne_eqb c d (λ f. eqb-false a b e (from f)))

module _ (m : Machine) (kept : ℕ → Bool) (h : IsLaid m) (bare : rest_pieces m.layout.rests ≡ [])
    (named : AllByRecursion (λ (o : Object). o.name ≡ o.place) m.objects)
    (targets : AllByRecursion (λ (row : Handle). IsNullOrPresent m row.target) (handle_rows m)) where
  abbrev to : ℕ → ℕ
  to = moved_by (fit_in m kept).moves

  placed : (o : Object) → IsIn o m.objects → 0 < o.place
  placed o i =
      let k : HasHome m.layout o.place = piece-home m h (object_piece m.types o) (object-in-pieces m h o i) in
      let low : first_place k.home ≤ o.place = k.low in omega arith

  gone-placed : (o : Object) → IsIn o m.objects → 0 < to o.place
  gone-placed o i =
      let laid : IsLaid (fitted m kept) = stays_laid m kept h bare in
      let k : HasHome (fitted m kept).layout (to o.place) =
      piece-home (fitted m kept) laid (object_piece m.types (slid_object (fit_in m kept).moves o))
      (object-in-pieces (fitted m kept) laid (slid_object (fit_in m kept).moves o)
      (IsIn-map (slid_object (fit_in m kept).moves) i)) in
      let low : first_place k.home ≤ to o.place = k.low in omega arith

  null-stays : to 0 ≡ 0
  null-stays = below_stays m kept h bare 0 (let l = h.layout.start1_low in omega arith)

  -- a handle names an object just where it names its new place
  same-target : (row : Handle) → IsIn row (handle_rows m) → (o : Object) → IsIn o m.objects
      → (to row.target == to o.place) ≡ (row.target == o.name)
  same-target row n o i = elim (all_at (λ (row : Handle). IsNullOrPresent m row.target) n targets) [
    | inl null ↦
        let a = gone-placed o i in let b = placed o i in
        let name : o.name ≡ o.place = all_at (λ (o : Object). o.name ≡ o.place) i named in
        let zero : to row.target ≡ 0 = ap to null ∙ null-stays in
        ne_eqb (to row.target) (to o.place) (λ e. absurd (omega (arith, e, zero)))
        ∙ sym (ne_eqb row.target o.name (λ e. absurd (omega (arith, e))))
    | inr there ↦
        let (p, j, is) : HasObject m.objects row.target = found_named m.objects row.target there in
        let name : o.name ≡ o.place = all_at (λ (o : Object). o.name ≡ o.place) i named in
        let other : p.name ≡ p.place = all_at (λ (o : Object). o.name ≡ o.place) j named in
        same-test (to row.target) (to o.place) row.target o.name
        (λ e. sym is ∙ ap (λ (w : Object). w.name)
        (fit_one m kept h bare p o j i (ap to (sym other ∙ is) ∙ e)))
        (λ e. ap to (e ∙ name))
  ]

  module _ (seen : Machine) (left : ℕ → Bool) (s : IsFittedSeen m kept seen)
      (tested : (o : Object) → IsIn o m.objects → left (moved_by (fit_in m kept).moves o.place) ≡ kept o.name)
      (lost : (o : Object) → IsIn o s.more → left o.name ≡ false)
    where
      abbrev shown : Object → Object
      shown o = record o { name = o.place; slots = s.change o.slots }

      shuffled : IsShuffled (map shown (fitted m kept).objects ++ s.more) seen.objects
      shuffled =
          subst (λ os. IsShuffled (os ++ s.more) seen.objects)
          (sym (map-map (slid_object (fit_in m kept).moves) shown m.objects)) s.objects

      rows-are : handle_rows seen ≡ map (renamed_row to) (handle_rows m)
      rows-are = ap finmap.values s.handles ∙ values-map_values (renamed_row to) m.handles

      pins : (o : Object) → IsIn o m.objects → is_pinned seen (to o.place) ≡ is_pinned m o.name
      pins o i =
          ap (list_any (λ row. is_pinned_kind row.kind && (row.target == to o.place))) rows-are
          ∙ any-map (renamed_row to) (λ row. is_pinned_kind row.kind && (row.target == to o.place)) (handle_rows m)
          ∙ any-on (λ (row : Handle). is_pinned_kind row.kind && (to row.target == to o.place))
          (λ row. is_pinned_kind row.kind && (row.target == o.name)) (handle_rows m)
          (λ row n. ap (λ b. is_pinned_kind row.kind && b) (same-target row n o i))

      -- what is seen is the machine after the fit
      pub fitted_seen : IsSeenAs (fitted m kept) kept seen left
      fitted_seen = record {
        shown = shown;
        more = s.more;
        types = s.types;
        layout = s.layout;
        objects = shuffled;
        place = λ o. refl;
        type = λ o. refl;
        len = λ o. refl;
        pinned = λ o i. let (p, e, j) = from-map (slid_object (fit_in m kept).moves) o m.objects i in
            subst (λ (w : Object). is_pinned seen w.place ≡ is_pinned m w.name) (sym e) (pins p j);
        tested = λ o i. let (p, e, j) = from-map (slid_object (fit_in m kept).moves) o m.objects i in
            subst (λ (w : Object). left w.place ≡ kept w.name) (sym e) (tested p j);
        lost = lost;
      }

-- ---- promoted bytes

-- what is promoted doesn't depend on names
pub promoted_seen : (m : Machine) (kept : ℕ → Bool) (seen : Machine) (left : ℕ → Bool) → IsSeenAs m kept seen left
    → (moves : List Move) (new : Layout) (g : ℕ)
    → bytes_promoted seen new left moves g ≡ bytes_promoted m new kept moves g
promoted_seen m kept seen left s moves new g =
    sym (shuffled-sum (object_size seen.types) (shuffled-filter rises-seen s.objects))
    ∙ ap (sum_by (object_size seen.types))
    (none-more ∙ filter-map s.shown rises-seen m.objects
    ∙ ap (map s.shown) (filter-on (λ o. rises-seen (s.shown o)) rises m.objects same))
    ∙ sum-mapped s.shown (object_size seen.types) (filter rises m.objects)
    ∙ sum-on (λ o. object_size seen.types (s.shown o)) (object_size m.types) (filter rises m.objects)
    (λ o i. let types = s.types in let type = s.type o in let len = s.len o in
    λ k. object_size (types k) (record o { type = type k; len = len k }))
  where
    rises : Object → Bool
    rises o = kept o.name && ((generation m.layout o.place == g) && (generation new (moved_by moves o.place) == g + 1))

    rises-seen : Object → Bool
    rises-seen o =
        left o.name && ((generation seen.layout o.place == g) && (generation new (moved_by moves o.place) == g + 1))

    same : (o : Object) → IsIn o m.objects → rises-seen (s.shown o) ≡ rises o
    same o i =
        let place = s.place o in let tested = s.tested o i in
        let age = same-generation m.layout seen.layout s.layout (s.shown o).place
        ∙ ap (generation m.layout) (s.place o) in
        λ k. tested k && ((age k == g) && (generation new (moved_by moves (place k)) == g + 1))

    lost : (o : Object) → IsIn o s.more → rises-seen o ≡ false
    lost o i = ap (λ b. b
        && ((generation seen.layout o.place == g) && (generation new (moved_by moves o.place) == g + 1))) (s.lost o i)

    none-more : filter rises-seen (map s.shown m.objects ++ s.more) ≡ filter rises-seen (map s.shown m.objects)
    none-more =
        filter-append rises-seen (map s.shown m.objects) s.more
        ∙ ap (λ os. filter rises-seen (map s.shown m.objects) ++ os) (none-left rises-seen s.more lost)
        ∙ append-nil (filter rises-seen (map s.shown m.objects))
