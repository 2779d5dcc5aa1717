-- The bytes that a fitting promotes: those that its compaction does, and to generation 2 also what found room.
use Rattle.std.proofs.Common.{◌≡◌, ℕ, ◌+◌, ◌⊎◌, inl, inr, List, [], ◌++◌, sym, ap, ◌∙◌, arith, Bool, true}
use Rattle.std.proofs.Common.{false, ◌&&◌, ◌==◌, filter, if◌then◌else◌, sum_by}
use Rattle.std.proofs.lemmas.Bool.{cases_Bool}
use Rattle.clr_types.specs.Rising.{IsIn}
use Rattle.clr_types.specs.Segments.{generation, Layout, rest_pieces}
use Rattle.clr_types.proofs.ListMembers.{filter-map, sum-mapped}
use Rattle.clr_types.proofs.ListSums.{counted, sum-both, sum-filtered, sum-on}
use Rattle.clr_model.specs.Machine.{Machine, Object}
use Rattle.clr_model.specs.Lookups.{object_size}
use Rattle.clr_model.specs.Lawful.{IsLaid}
use Rattle.clr_model.specs.Collection.{bytes_promoted}
use Rattle.clr_model.specs.Compaction.{Move, moved_by}
use Rattle.clr_model.specs.Slide.{slid_object}
use Rattle.clr_model.proofs.FitCompacted.{fitted_ages}
use Rattle.clr_model.proofs.FitFillings.{unmoved-still}
use Rattle.clr_fitting.specs.Laws.{Compacts, IsPromotedTwice}
use Rattle.clr_fitting.specs.Steps.{fit_in, fitted, fitted_bytes, finds_room, IsFittedObject}
use Rattle.clr_fitting.proofs.TwoSteps.{fitted_object, goes_twice, two_steps}

module _ (m : Machine) (kept : ℕ → Bool) (h : IsLaid m) (bare : rest_pieces m.layout.rests ≡ []) (others : List Move)
    (new : Layout) (c : Compacts (fitted m kept) kept others new) where
  abbrev F : List Move
  F = (fit_in m kept).moves

  -- what the fitting takes from generation e to the next
  abbrev rises : ℕ → Object → Bool
  rises e o =
      kept o.name && ((generation m.layout o.place == e) && (generation new (moved_by (F ++ others) o.place) == e + 1))

  -- and what the compaction does, by where an object stands between the two steps
  abbrev rises-then : ℕ → Object → Bool
  rises-then e o =
      kept o.name && ((generation m.layout (moved_by F o.place) == e)
      && (generation new (moved_by others (moved_by F o.place)) == e + 1))

  then-is : (e : ℕ) → bytes_promoted (fitted m kept) new kept others e
      ≡ sum_by (object_size m.types) (filter (rises-then e) m.objects)
  then-is e =
      ap (sum_by (object_size m.types))
      (filter-map (slid_object F) (λ (o : Object). kept o.name && ((generation m.layout o.place == e)
      && (generation new (moved_by others o.place) == e + 1))) m.objects)
      ∙ sum-mapped (slid_object F) (object_size m.types) (filter (rises-then e) m.objects)

  -- an object that found no room goes with the compaction alone
  unmoved : (e : ℕ) (o : Object) → IsIn o m.objects → finds_room m kept o ≡ false → rises e o ≡ rises-then e o
  unmoved e o i off =
      let still = unmoved-still F o.place off in
      let to = goes_twice m kept h bare others new c o i in
      λ j. kept o.name && ((generation m.layout (sym still j) == e) && (generation new (to j) == e + 1))

  -- one that found room was of generation 1, and is of generation 2 from then on
  module _ (o : Object) (i : IsIn o m.objects) (t : finds_room m kept o ≡ true) where
    is : IsFittedObject m kept o
    is = fitted_object m kept h bare o i t

    last : generation new (moved_by (F ++ others) o.place) ≡ 2
    last = fitted_ages m kept (F ++ others) new h bare (two_steps m kept h bare others new c) o i t

    first-rises : rises 0 o ≡ false
    first-rises =
        let stays = is.stays in let before = is.before in
        λ j. stays j && ((before j == 0) && (generation new (moved_by (F ++ others) o.place) == 1))

    second-rises : rises 1 o ≡ true
    second-rises =
        let stays = is.stays in let before = is.before in let after = last in
        λ j. stays j && ((before j == 1) && (after j == 2))

    first-then : rises-then 0 o ≡ false
    first-then =
        let stays = is.stays in let after = is.after in
        λ j. stays j && ((after j == 0) && (generation new (moved_by others (moved_by F o.place)) == 1))

    second-then : rises-then 1 o ≡ false
    second-then =
        let stays = is.stays in let after = is.after in
        λ j. stays j && ((after j == 1) && (generation new (moved_by others (moved_by F o.place)) == 2))

  abbrev size : Object → ℕ
  size = object_size m.types

  to1 : bytes_promoted m new kept (F ++ others) 0 ≡ bytes_promoted (fitted m kept) new kept others 0
  to1 =
      sum-filtered (rises 0) size m.objects
      ∙ sum-on (counted (rises 0) size) (counted (rises-then 0) size) m.objects
      (λ o i. ap (λ b. if b then size o else 0) (same o i (cases_Bool (finds_room m kept o))))
      ∙ sym (sum-filtered (rises-then 0) size m.objects) ∙ sym (then-is 0)
    where
      same : (o : Object) → IsIn o m.objects → (finds_room m kept o ≡ true) ⊎ (finds_room m kept o ≡ false)
          → rises 0 o ≡ rises-then 0 o
      same o i (inl t) = first-rises o i t ∙ sym (first-then o i t)
      same o i (inr t) = unmoved 0 o i t

  to2 : bytes_promoted m new kept (F ++ others) 1
      ≡ bytes_promoted (fitted m kept) new kept others 1 + fitted_bytes m kept
  to2 =
      let here : bytes_promoted m new kept (F ++ others) 1 ≡ sum_by (counted (rises 1) size) m.objects =
      sum-filtered (rises 1) size m.objects in
      let on = sum-on (counted (rises 1) size) (λ o. counted (rises-then 1) size o + counted (finds_room m kept) size o)
      m.objects (λ o i. same o i (cases_Bool (finds_room m kept o))) in
      let both = sum-both (counted (rises-then 1) size) (counted (finds_room m kept) size) m.objects in
      let later_sum = sum-filtered (rises-then 1) size m.objects in
      let room : fitted_bytes m kept ≡ sum_by (counted (finds_room m kept) size) m.objects =
      sum-filtered (finds_room m kept) size m.objects in
      let compacted = then-is 1 in
      omega arith
    where
      same : (o : Object) → IsIn o m.objects → (finds_room m kept o ≡ true) ⊎ (finds_room m kept o ≡ false)
          → counted (rises 1) size o ≡ counted (rises-then 1) size o + counted (finds_room m kept) size o
      same o i (inl t) =
          let a = ap (λ b. if b then size o else 0) (second-rises o i t) in
          let b = ap (λ b. if b then size o else 0) (second-then o i t) in
          let d = ap (λ b. if b then size o else 0) t in
          omega arith
      same o i (inr t) =
          let a = ap (λ b. if b then size o else 0) (unmoved 1 o i t) in
          let d = ap (λ b. if b then size o else 0) t in
          omega arith

  pub promoted_twice : IsPromotedTwice m kept others new
  promoted_twice = record { to1 = to1; to2 = to2 }
