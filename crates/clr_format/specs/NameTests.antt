-- What locals and tables name in a heap: for each word that names something, how far it stands from the front of what
-- it belongs to, and whether it names what it may.
use Rattle.std.specs.Prelude.{ℕ, ◌+◌, List, [], ◌∷◌, ◌++◌, map, Bool, true, false, not, ◌&&◌, Option, Some, None}
use Rattle.clr_types.specs.Types.{TypeRow, form_at, size_of}
use Rattle.clr_types.specs.declared.handle.Handle.{Handle}
use Rattle.clr_types.specs.declared.item.Item.{Item}
use Rattle.clr_heap.specs.View.{HeapView}
use Rattle.clr_sos.specs.Faults.{is_name, stands}
pub use Rattle.clr_sos.specs.Steps.{fronts_of, is_among, is_final_object, is_front, is_reference_slot, is_true}
pub use Rattle.clr_sos.specs.Steps.{object_at, rooms, with_earlier}
use Rattle.clr_sos.specs.declared.step.Step.{Step}
use Rattle.clr_sos.specs.declared.step.Step.TheVariants.{Idle, Store, Begun}

-- how far a word stands from a front, and whether it names what it may
abbrev pub Test : Type 0
Test = ℕ × Bool

abbrev pub test_from : ℕ → Test → Test
test_from o t = (o + t.0, t.1)

-- the tests of things that stand so many bytes apart, the first at o
abbrev pub tests_of : {X : Type 0} → ℕ → (X → List Test) → ℕ → List X → List Test
tests_of stride test o [] = []
tests_of stride test o (x ∷ xs) = map (test_from o) (test x) ++ tests_of stride test (o + stride) xs

-- the first that fails
unfoldable pub first_failed : List Test → Option ℕ
first_failed [] = None
first_failed ((o, true) ∷ tests) = first_failed tests
first_failed ((o, false) ∷ tests) = Some o

-- ---- one word

-- null or the place of an object
abbrev pub name_tests : List Item → ℕ → List Test
name_tests items place = (0, is_name items place) ∷ []

-- a reference, by its offset and what it names
abbrev pub reference_test : List Item → ℕ × ℕ → Test
reference_test items (o, place) = (o, is_name items place)

abbrev pub final_tests : List TypeRow → List Item → ℕ → List Test
final_tests rows items place = (0, is_final_object rows (object_at items place)) ∷ []

-- ---- handles

abbrev pub handle_tests : List Item → ℕ × Handle → List Test
handle_tests items (h, row) = (16, is_name items row.target) ∷ (24, is_name items row.second) ∷ []

-- ---- what threads have begun

-- what a thread has begun, and the fronts that earlier ones have
abbrev pub step_tests : List TypeRow → List Item → HeapView → List ℕ × Step → List Test
step_tests rows items h (earlier, Idle) = []
step_tests rows items h (earlier, Store object slot) =
    (8, stands items object) ∷ (16, is_reference_slot rows (object_at items object) slot) ∷ []
step_tests rows items h (earlier, Begun t len local front) =
    (32, is_front items h (size_of (form_at rows t.0) len) front && not (is_among earlier front)) ∷ []
