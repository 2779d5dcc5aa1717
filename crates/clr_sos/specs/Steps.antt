-- What threads may have begun: stores into reference slots, and objects for which there is room in generation 0.
use Rattle.std.specs.Prelude.{◌≡◌, ℕ, ◌+◌, ◌≤◌, ◌==◌, ◌&&◌, ◌||◌, nat_lt, List, [], ◌∷◌, ◌++◌, length, Bool, true}
use Rattle.std.specs.Prelude.{false, Option, Some, None, slice_get}
use Rattle.std.specs.List.{flat_map, list_any}
use Rattle.clr_types.specs.Ranges.{Piece, fits}
use Rattle.clr_types.specs.Segments.{generation, Layout, rest_of, rest_pieces}
use Rattle.clr_types.specs.Types.{TypeRow, form_at, has_finalizer, is_array, size_of, slot_kinds, type_row}
use Rattle.clr_types.specs.declared.item.Item.{Item}
use Rattle.clr_heap.specs.View.{frame, heap_items, HeapView, item_with_place, only_object}
use Rattle.clr_model.specs.Machine.{begun_new, begun_store, no_step, ThreadStep}
use Rattle.clr_view.specs.SlotValues.{StandsAt}
use Rattle.clr_view.specs.View.{free_among}
use Rattle.clr_sos.specs.declared.step.Step.{Step}
use Rattle.clr_sos.specs.declared.step.Step.TheVariants.{Idle, Store, Begun}

-- ---- objects by their places

-- the object at a place
abbrev pub object_at : List Item → ℕ → Option Item
object_at items place = only_object (item_with_place items place)

abbrev pub is_true : Option Bool → Bool
is_true None = false
is_true (Some b) = b

-- slot j of an object holds a reference
abbrev pub is_reference_slot : List TypeRow → Option Item → ℕ → Bool
is_reference_slot rows None j = false
is_reference_slot rows (Some i) j = is_true (slice_get (slot_kinds (form_at rows i.type_id.0) i.len) j)

-- the place of an object whose type has a finaliser
abbrev pub is_final_object : List TypeRow → Option Item → Bool
is_final_object rows None = false
is_final_object rows (Some i) = has_finalizer (type_row rows i.type_id.0)

-- ---- room

-- where an object may be begun: the free items, and what is left of contexts
abbrev pub rooms : List Item → HeapView → List Piece
rooms items h = free_among items ++ rest_pieces h.rests

-- room of generation 0 begins at the place, and the size fits
abbrev pub is_front : List Item → HeapView → ℕ → ℕ → Bool
is_front items h size place =
    list_any (λ (p : Piece). (p.place == place) && fits size p.size) (rooms items h)
    && (generation (frame h) place == 0)

-- ---- steps

abbrev pub is_among : List ℕ → ℕ → Bool
is_among places place = list_any (λ x. x == place) places

abbrev pub fronts_of : Step → List ℕ
fronts_of Idle = []
fronts_of (Store object slot) = []
fronts_of (Begun t len local front) = front ∷ []

-- the fronts of several threads
abbrev pub fronts_among : List Step → List ℕ
fronts_among steps = flat_map fronts_of steps

-- each step with the fronts of those before it
abbrev pub with_earlier : List ℕ → List Step → List (List ℕ × Step)
with_earlier earlier [] = []
with_earlier earlier (step ∷ steps) = (earlier, step) ∷ with_earlier (earlier ++ fronts_of step) steps

-- an object of this type and length is no large one, and a class has no length
abbrev pub is_new_length : List TypeRow → ℕ → ℕ → ℕ → Bool
is_new_length rows large t len =
    (is_array (form_at rows t) || (len == 0)) && nat_lt (size_of (form_at rows t) len) large

-- An object that is begun is of a type of the table, and no large one. It has no length where its type has none, and a
-- local of its thread is to take it.
abbrev pub IsNewStep : List TypeRow → ℕ → Step → Type 0
IsNewStep rows large Idle = Unit {0}
IsNewStep rows large (Store object slot) = Unit {0}
IsNewStep rows large (Begun t len local front) =
    (1 ≤ t.0) × (t.0 ≤ length rows) × (is_new_length rows large t.0 len ≡ true) × (local ≤ 63)

-- What a thread has begun, with the fronts of those before it: a store is into a reference slot of an object that
-- stands, and an object has room in generation 0, at whose front no other is begun.
abbrev pub StepStands : List TypeRow → HeapView → List ℕ × Step → Type 0
StepStands rows h (earlier, Idle) = Unit {0}
StepStands rows h (earlier, Store object slot) =
    StandsAt rows h object × (is_reference_slot rows (object_at (heap_items rows h) object) slot ≡ true)
StepStands rows h (earlier, Begun t len local front) =
    (is_front (heap_items rows h) h (size_of (form_at rows t.0) len) front ≡ true) × (is_among earlier front ≡ false)

-- ---- what a machine's threads have begun

abbrev pub front_or_zero : Option Piece → ℕ
front_or_zero None = 0
front_or_zero (Some p) = p.place

-- what thread t has begun; a begun object is to stand at the front of the thread's context
abbrev pub step_of : Layout → ℕ → ThreadStep → Step
step_of layout t no_step = Idle
step_of layout t (begun_store object slot) = Store object slot
step_of layout t (begun_new type len local) = Begun (record { 0 = type }) len local (front_or_zero (rest_of layout t))

abbrev pub steps_of : Layout → ℕ → List ThreadStep → List Step
steps_of layout t [] = []
steps_of layout t (s ∷ ss) = step_of layout t s ∷ steps_of layout (t + 1) ss
