-- The numbers of what the threads of a lawful machine have begun fit a word.
use Rattle.std.proofs.Common.{◌≡◌, ℕ, zero, suc, ◌+◌, ◌<◌, ◌≤◌, List, [], ◌∷◌, length, ap, sym, ◌∙◌, arith}
use Rattle.std.proofs.Common.{Bool, true, false, ◌==◌, if◌then◌else◌, Some}
use Rattle.std.proofs.Common.{inl, inr}
use Rattle.std.specs.Prelude.{IsTrue, is_some, slice_get}
use Rattle.std.specs.List.{AllByRecursion}
use Rattle.std.proofs.lemmas.Bool.{cases_Bool}
use Rattle.std.proofs.lemmas.List.{length-map, length-replicate}
use Rattle.std.proofs.lemmas.Option.{slice_get_within}
use Rattle.clr_types.specs.Types.{bytes_form, class_form, Form, form_at, is_array, is_reference, references_form}
use Rattle.clr_types.specs.Types.{size_of}
use Rattle.clr_types.specs.Types.{slot_kinds, structs_form, type_row, TypeRow}
use Rattle.clr_types.proofs.SlotKinds.{struct_slots}
use Rattle.clr_model.specs.Lawful.{AllFrom, HasItsRoom, IsLawful, is_reference_value, IsShaped, StepIsPresent}
use Rattle.clr_model.specs.LineGrammar.{IsWord}
use Rattle.clr_model.specs.Lookups.{object_named, slots_of_named, slots_or_none}
use Rattle.clr_model.specs.Laws.{StepFits}
use Rattle.clr_model.specs.Machine.{begun_new, begun_store, Machine, no_step, Object, ref, ThreadStep}
use Rattle.clr_model.proofs.SmallLengths.{small_length}

-- an object has no more slots than bytes
few_slots : (form : Form) (len : ℕ) → length (slot_kinds form len) ≤ size_of form len
few_slots (class_form pattern) len = let count = length-map pattern is_reference in omega arith
few_slots references_form len = let count = length-replicate len true in omega arith
few_slots bytes_form len = let count = length-replicate len false in omega arith
few_slots (structs_form pattern) len = let count = struct_slots pattern len in omega arith

shaped_slots : (m : Machine) (o : Object) → IsShaped m o → length o.slots ≤ 1073741824
shaped_slots m o is =
    let size = is.size in
    let few = few_slots (form_at m.types o.type) o.len in
    let same : length o.slots ≡ length (slot_kinds (form_at m.types o.type) o.len) =
    sym (length-map o.slots is_reference_value) ∙ ap length is.kinds in
    omega arith

-- whatever its name is
named_slots : (m : Machine) (name : ℕ) (os : List Object) → AllByRecursion (IsShaped m) os
    → length (slots_or_none (object_named os name)) ≤ 1073741824
named_slots m name [] all = omega arith
named_slots m name (o ∷ os) all = go (o.name == name) (named_slots m name os all.1)
  where
    go : (b : Bool) → length (slots_or_none (object_named os name)) ≤ 1073741824
        → length (slots_or_none (if b then Some o else object_named os name)) ≤ 1073741824
    go true more = shaped_slots m o all.0
    go false more = more

there_below : {X : Type 0} (xs : List X) (i : ℕ) → IsTrue (is_some (slice_get xs i)) → i < length xs
there_below [] i there = absurd cc
there_below (x ∷ xs) zero there = omega arith
there_below (x ∷ xs) (suc i) there = let more = there_below xs i there in omega arith

-- a type that is there has a number up to that of the types
type_below : (rows : List TypeRow) (type : ℕ) → IsTrue (is_some (type_row rows type)) → type ≤ length rows
type_below rows zero there = absurd cc
type_below rows (suc t) there = let l = there_below rows t there in omega arith

module _ (m : Machine) (h : IsLawful m) where
  -- a begun object is below the threshold, and an array of its size has no greater length
  new_fits : (type len : ℕ) → (is_array (form_at m.types type) ≡ false → len ≡ 0)
      → size_of (form_at m.types type) len < m.options.large → IsWord len
  new_fits type len class small =
      let greatest = h.options.segment_greatest in
      let large = h.options.large_greatest in
      elim (cases_Bool (is_array (form_at m.types type))) [
        | inl array ↦ let few = small_length m.types type len h.types array (omega arith) in omega arith
        | inr other ↦ let none = class other in omega arith
      ]

  step_fits : (t : ℕ) (step : ThreadStep) → StepIsPresent m step → HasItsRoom m t step → StepFits step
  step_fits t no_step present room = tt
  step_fits t (begun_store object slot) present room =
      let below = slice_get_within (slots_of_named m object) slot (ref present.1) present.2 in
      let few = named_slots m object m.objects h.shapes in
      omega arith
  step_fits t (begun_new type len local) present room =
      let local_small = present.0 in
      let among = type_below m.types type present.1 in
      let count = h.type_count in
      (omega arith, new_fits type len present.2 room.3, omega arith)

  all_fit : (t : ℕ) (steps : List ThreadStep) → AllByRecursion (StepIsPresent m) steps → AllFrom (HasItsRoom m) t steps
      → AllByRecursion StepFits steps
  all_fit t [] present rooms = tt
  all_fit t (s ∷ steps) present rooms = (step_fits t s present.0 rooms.0, all_fit (t + 1) steps present.1 rooms.1)

  pub steps_fit : AllByRecursion StepFits m.steps
  steps_fit = all_fit 1 m.steps h.names.steps h.rooms
