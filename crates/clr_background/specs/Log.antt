-- The log of a background collection: the slots of black objects that may name what isn't marked.
use Rattle.std.specs.Prelude.{◌≡◌, ℕ, ◌+◌, ◌<◌, ◌⊎◌, Bool, IsTrue, Some, slice_get}
use Rattle.clr_types.specs.Rising.{IsIn}
use Rattle.clr_types.specs.Types.{form_at, slot_offset}
use Rattle.clr_model.specs.Machine.{ref, Object, begun_store, Machine, Marking}
use Rattle.clr_model.specs.Lookups.{local_of, step_of}
use Rattle.clr_model.specs.Instructions.{Instruction, set_slot, finish_step}
use Rattle.clr_model.specs.Reach.{Marked, SlotNames, SecondOf}
use Rattle.clr_model.specs.Background.{taken}

-- ---- its law

-- the address of slot i of an object
abbrev pub slot_address : Machine → Object → ℕ → ℕ
slot_address m o i = o.place + slot_offset (form_at m.types o.type) i

abbrev pub IsNullOrMarked : Marking → ℕ → Type 0
IsNullOrMarked marking name = (name ≡ 0) ⊎ Marked marking name

abbrev pub IsNullOrTaken : Marking → ℕ → Type 0
IsNullOrTaken marking name = (name ≡ 0) ⊎ IsIn name (taken marking)

-- Each reference slot of a black object is null, or names a marked object, or is logged, or is the store that a thread
-- has begun.
abbrev pub LogLaw : Machine → Marking → (ℕ → Bool) → Type 0
LogLaw m marking is_logged =
    (o : Object) (i name : ℕ) → IsIn o m.objects → IsIn o.name marking.black → slice_get o.slots i ≡ Some (ref name)
    → (IsNullOrMarked marking name ⊎ IsTrue (is_logged (slot_address m o i))) ⊎ IsIn (begun_store o.name i) m.steps

-- the same without the last exception
abbrev pub StrictLogLaw : Machine → Marking → (ℕ → Bool) → Type 0
StrictLogLaw m marking is_logged =
    (o : Object) (i name : ℕ) → IsIn o m.objects → IsIn o.name marking.black → slice_get o.slots i ≡ Some (ref name)
    → IsNullOrMarked marking name ⊎ IsTrue (is_logged (slot_address m o i))

-- ---- what a line logs

-- the line completes the store of a reference into this slot of the object of this name
abbrev pub CompletesStore : Machine → Instruction → ℕ → ℕ → Type 0
CompletesStore m (set_slot t into index from) name slot = (name ≡ local_of m t into) × (slot ≡ index)
CompletesStore m (finish_step t) name slot = step_of m t ≡ begun_store name slot
CompletesStore m _ name slot = ⊥

-- What a line logs that goes from one marking to another: what was logged stays so, the slot is logged of which the
-- line completes the store, and of each object that it makes black each slot is logged that names what wasn't taken.
pub record LogsLine (m : Machine) (i : Instruction) (old new : Marking)
    (was_logged is_logged : ℕ → Bool) : Type 0 where
  pub stays : (a : ℕ) → IsTrue (was_logged a) → IsTrue (is_logged a)
  pub stored : (o : Object) (slot : ℕ) → IsIn o m.objects → CompletesStore m i o.name slot
      → IsTrue (is_logged (slot_address m o slot))
  pub scanned : (o : Object) (slot name : ℕ) → IsIn o m.objects → IsIn o.name new.black
      → (IsIn o.name old.black → ⊥) → slice_get o.slots slot ≡ Some (ref name)
      → IsNullOrTaken old name ⊎ IsTrue (is_logged (slot_address m o slot))

-- ---- what the last pause has to follow

-- a logged slot of a black object x names y
pub record LoggedNames (m : Machine) (marking : Marking) (is_logged : ℕ → Bool) (x y : ℕ) : Type 0 where
  pub object : Object
  pub present : IsIn object m.objects
  pub named : object.name ≡ x
  pub black : IsIn x marking.black
  pub index : ℕ
  pub slot : slice_get object.slots index ≡ Some (ref y)
  pub logged : IsTrue (is_logged (slot_address m object index))
  pub not_null : 0 < y

-- slots of objects that aren't black, logged slots of black ones, and dependent handles
abbrev pub Rescans : Machine → Marking → (ℕ → Bool) → ℕ → ℕ → Type 0
Rescans m marking is_logged x y =
    ((SlotNames m.objects x y × (IsIn x marking.black → ⊥)) ⊎ LoggedNames m marking is_logged x y)
    ⊎ SecondOf m.handles x y
