-- What is reached: the least set that holds its start and what each member names.
use Rattle.std.specs.Prelude.{◌≡◌, ◌≢◌, ℕ, ◌<◌, List, Option, Some, None, Bool, false, ◌⊎◌, ◌&&◌, not, filter, IsTrue}
use Rattle.std.specs.FinMap as finmap
use Rattle.std.specs.Ordering.{nat_cmp}
use Rattle.clr_types.specs.Rising.{IsIn}
use Rattle.clr_types.specs.declared.handle.Handle.{Handle}
use Rattle.clr_model.specs.Machine.{ref, Object, Machine, Marking}
use Rattle.clr_model.specs.Lookups.{object_named}
use Rattle.clr_types.specs.Kinds.{is_dependent, is_root_kind}
use Rattle.clr_types.specs.Segments.{generation}

-- the least set that holds the start and each node to which an edge leads from a member
pub data Reach (edge : ℕ → ℕ → Type 0) (start : ℕ → Type 0) : ℕ → Type 0 where
  starts : {x : ℕ} → start x → Reach edge start x
  follows : {x y : ℕ} → Reach edge start x → edge x y → Reach edge start y

-- a slot of x names y
pub record SlotNames (objects : List Object) (x y : ℕ) : Type 0 where
  pub object : Object
  pub present : IsIn object objects
  pub named : object.name ≡ x
  pub slot : IsIn (ref y) object.slots
  pub not_null : 0 < y

-- a dependent handle of a table ties its secondary y to its primary x
pub record SecondOf (handles : finmap.FinMap nat_cmp Handle) (x y : ℕ) : Type 0 where
  pub handle : ℕ
  pub row : Handle
  pub in_use : finmap.get handles handle ≡ Some row
  pub dependent : IsTrue (is_dependent row.kind)
  pub primary : row.target ≡ x
  pub secondary : row.second ≡ y
  pub not_null : 0 < y

-- y stays where x does
abbrev pub Edge : Machine → ℕ → ℕ → Type 0
Edge m x y = SlotNames m.objects x y ⊎ SecondOf m.handles x y

-- x is the target of a strong or pinned handle of a table
pub record HeldBy (handles : finmap.FinMap nat_cmp Handle) (x : ℕ) : Type 0 where
  pub handle : ℕ
  pub row : Handle
  pub in_use : finmap.get handles handle ≡ Some row
  pub holds : IsTrue (is_root_kind row.kind)
  pub target : row.target ≡ x

-- where reaching starts, besides older objects: what locals name, what strong and pinned handles hold, and the
-- f-reachable queue
abbrev pub Roots : Machine → ℕ → Type 0
Roots m x = (0 < x) × ((IsIn x m.locals ⊎ HeldBy m.handles x) ⊎ IsIn x m.ready)

-- x is an object of a generation above g
pub record Old (m : Machine) (g x : ℕ) : Type 0 where
  pub object : Object
  pub present : IsIn object m.objects
  pub named : object.name ≡ x
  pub above : g < generation m.layout object.place

-- where a collection of generation g starts to mark
abbrev pub StartOf : Machine → ℕ → ℕ → Type 0
StartOf m g x = Roots m x ⊎ Old m g x

-- what a background collection has marked so far
abbrev pub Marked : Marking → ℕ → Type 0
Marked marking x = IsIn x marking.gray ⊎ IsIn x marking.black

-- where a background collection starts to mark at its last pause
abbrev pub StartOfBackground : Machine → Marking → ℕ → Type 0
StartOfBackground m marking x = Roots m x ⊎ Marked marking x

-- what is alive before finalisation, from this start
abbrev pub IsAlive : Machine → (ℕ → Type 0) → ℕ → Type 0
IsAlive m start = Reach (Edge m) start

abbrev pub suppressed_or_none : Option Object → Bool
suppressed_or_none None = false
suppressed_or_none (Some o) = o.suppressed

abbrev pub is_suppressed : Machine → ℕ → Bool
is_suppressed m name = suppressed_or_none (object_named m.objects name)

-- the finalisation entries whose object is outside the first set and isn't suppressed, in order
abbrev pub woken : Machine → (ℕ → Bool) → List ℕ
woken m first = filter (λ e. not (first e) && not (is_suppressed m e)) m.entries

-- what stays: what is reached from the start and from the woken objects
abbrev pub Kept : Machine → (ℕ → Type 0) → (ℕ → Bool) → ℕ → Type 0
Kept m start first = Reach (Edge m) (λ x. start x ⊎ IsIn x (woken m first))

-- what is reached from the roots alone
abbrev pub Live : Machine → ℕ → Type 0
Live m = Reach (Edge m) (Roots m)

-- what would be live were one object not there: no root, slot or dependent handle leads to that one
abbrev pub Without : Machine → ℕ → ℕ → Type 0
Without m a = Reach (λ x y. Edge m x y × (y ≢ a)) (λ x. Roots m x × (x ≢ a))

-- what is reached from one object by slots and dependent handles
abbrev pub ReachFrom : Machine → ℕ → ℕ → Type 0
ReachFrom m a = Reach (Edge m) (λ x. x ≡ a)

-- what is reached from one object by slots alone
abbrev pub SlotReach : Machine → ℕ → ℕ → Type 0
SlotReach m x = Reach (SlotNames m.objects) (λ y. y ≡ x)
