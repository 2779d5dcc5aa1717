-- What the last pause of a background collection has to follow.
use Rattle.std.specs.Prelude.{◌≡◌, ℕ, ◌+◌, ◌*◌, ◌%◌, ◌<◌, ◌≤◌, ◌⊎◌, true, false, List, slice_get, Some}
use Rattle.std.specs.Int.{bit_at}
use Rattle.clr_types.specs.Rising.{IsIn}
use Rattle.clr_types.specs.Types.{TypeRow, form_at, slot_offset}
use Rattle.clr_heap.specs.View.{HeapView}
use Rattle.clr_model.specs.Machine.{ref, Machine, Object}
use Rattle.clr_view.specs.Marks.{Marked}
use Rattle.clr_view.specs.View.{objects_in}
use Rattle.clr_background.specs.Log.{StrictLogLaw}
use Rattle.clr_mark.specs.Marks.{IsRemarked, LeadsTo}
use Rattle.clr_mark.specs.Markings.{HasReached}
use Rattle.clr_mark.specs.Waiting.{IsGray, MarkerView}
use Rattle.clr_sweep.specs.Fronts.{front_at}
use Rattle.clr_sweep.specs.declared.behind.Front.{Front}
use Rattle.clr_bgmark.specs.Bits.{has_bit}
use Rattle.clr_bgmark.specs.Pauses.{IsFound, Passes}
use Rattle.clr_bgmark.specs.Scanning.{marking_in}
use Rattle.clr_bgmark.specs.Shades.{cell_of, covers, is_logged, is_scanned, IsAt, ShadeView}
use Rattle.clr_bgmark.specs.declared.shade.Search.{Search}

-- In a machine of these types and objects each reference slot of a black object is null, or names what is gray or
-- black, or is logged.
abbrev pub LogHolds : List TypeRow → List Object → List ShadeView → Type 0
LogHolds rows objects ss =
    (m : Machine) × (m.types ≡ rows) × (m.objects ≡ objects) × StrictLogLaw m (marking_in objects ss) (is_logged ss)

-- a reference slot of the object that is named x is logged
pub record HasLoggedSlot (rows : List TypeRow) (objects : List Object) (ss : List ShadeView) (x : ℕ) : Type 0 where
  pub object : Object
  pub present : IsIn object objects
  pub named : object.name ≡ x
  pub index : ℕ
  pub name : ℕ
  pub holds : slice_get object.slots index ≡ Some (ref name)
  pub logged : is_logged ss (object.place + slot_offset (form_at rows object.type) index) ≡ true

-- a found object is to be followed: it is gray, or has a logged slot
abbrev pub IsDue : List TypeRow → List Object → List ShadeView → ℕ → Type 0
IsDue rows objects ss x = (is_scanned ss x ≡ false) ⊎ HasLoggedSlot rows objects ss x

-- what is found and due is marked, and besides what it reaches, where the law of a marking holds on
pub record HasRooted (rows : List TypeRow) (ss : List ShadeView) (Due : ℕ → Type 0) (old new : HeapView)
    (m mark : MarkerView) : Type 0 where
  pub gray : IsGray rows new mark
  pub reached : HasReached rows (LeadsTo rows old m.oldest) (λ y. Marked rows old y ⊎ IsFound ss y) old new
  pub due : (x : ℕ) → IsFound ss x → Due x → Marked rows new x
  pub capacity : mark.capacity ≡ m.capacity
  pub oldest : mark.oldest ≡ m.oldest

-- what a search doesn't pass over
abbrev pub IsSought : Search → List ShadeView → ℕ → Type 0
IsSought search ss x = Passes search ss x → ⊥

-- ---- all that is found is marked

-- the marks of these places were set, and no others
pub record HasMarked (rows : List TypeRow) (All : ℕ → Type 0) (old new : HeapView) : Type 0 where
  pub words : IsRemarked rows old new
  pub kept : (x : ℕ) → Marked rows old x → Marked rows new x
  pub only : (x : ℕ) → Marked rows new x → Marked rows old x ⊎ All x
  pub found : (x : ℕ) → All x → Marked rows new x

-- a marked place of a segment
pub record IsMarkedIn (s : ShadeView) (x : ℕ) : Type 0 where
  pub aligned : x % 8 ≡ 0
  pub inside : covers s x ≡ true
  pub marked : has_bit s.marked (cell_of s x) ≡ true

-- a marked place of a segment from an address on
pub record IsMarkedBehind (s : ShadeView) (from x : ℕ) : Type 0 where
  pub here : IsMarkedIn s x
  pub behind : from ≤ x

-- a found place behind the front of its segment
pub record IsFoundBehind (ss : List ShadeView) (fronts : List Front) (x : ℕ) : Type 0 where
  pub found : IsFound ss x
  pub index : ℕ
  pub at : IsAt ss index x
  pub behind : (front_at fronts index).place ≤ x

-- a place whose bit a word of bits has, of which the lowest one is that of `place`
pub record IsInWord (place bits x : ℕ) : Type 0 where
  pub index : ℕ
  pub low : index < 64
  pub at : x ≡ place + 8 * index
  pub has : bit_at bits index ≡ 1
