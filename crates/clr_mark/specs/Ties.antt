-- What handles add to a marking: the targets of strong and pinned ones, and the second of each dependent one whose
-- primary stays.
use Rattle.std.specs.Prelude.{◌≡◌, ℕ, ◌<◌, ◌⊎◌, Bool, true, false, not, ◌&&◌, nat_eq, List}
use Rattle.std.specs.FinMap.{FinMap}
use Rattle.std.specs.Ordering.{nat_cmp}
use Rattle.clr_types.specs.Types.{TypeRow}
use Rattle.clr_types.specs.declared.handle.Handle.{Handle}
use Rattle.clr_heap.specs.View.{HeapView}
use Rattle.clr_types.specs.Kinds.{is_dependent, is_root_kind}
use Rattle.clr_model.specs.Reach.{HeldBy, SecondOf, SlotNames}
use Rattle.clr_view.specs.Marks.{Marked}
use Rattle.clr_view.specs.SlotValues.{StandsAt}
use Rattle.clr_view.specs.View.{objects_in}
use Rattle.clr_mark.specs.Marks.{is_condemned_place, is_new}
use Rattle.clr_mark.specs.Roots.{IsCondemnedRoot, IsRoot}

-- a slot of x names y, or a dependent handle ties y to x
abbrev pub Joins : List TypeRow → HeapView → FinMap nat_cmp Handle → ℕ → ℕ → Type 0
Joins rows h handles x y = SlotNames (objects_in rows h) x y ⊎ SecondOf handles x y

-- and y is condemned
pub record Draws (rows : List TypeRow) (h : HeapView) (handles : FinMap nat_cmp Handle) (g x y : ℕ) : Type 0 where
  pub joined : Joins rows h handles x y
  pub condemned : is_condemned_place h g y ≡ true

-- y is condemned, and a dependent handle ties it to an object that isn't
pub record IsTiedToOld (rows : List TypeRow) (h : HeapView) (handles : FinMap nat_cmp Handle) (g y : ℕ) : Type 0 where
  pub by : ℕ
  pub stands : StandsAt rows h by
  pub old : is_condemned_place h g by ≡ false
  pub tied : SecondOf handles by y
  pub condemned : is_condemned_place h g y ≡ true

-- x is the target of a strong or pinned handle, and not null
pub record IsTarget (handles : FinMap nat_cmp Handle) (x : ℕ) : Type 0 where
  pub held : HeldBy handles x
  pub not_null : 0 < x

-- a target that is condemned
pub record IsCondemnedTarget (handles : FinMap nat_cmp Handle) (h : HeapView) (g x : ℕ) : Type 0 where
  pub target : IsTarget handles x
  pub condemned : is_condemned_place h g x ≡ true

-- where a full collection starts to mark: at locals, at the f-reachable queue, and at targets of handles
abbrev pub IsStart : FinMap nat_cmp Handle → List ℕ → List ℕ → ℕ → Type 0
IsStart handles locals ready x = (IsRoot locals x ⊎ IsRoot ready x) ⊎ IsTarget handles x

-- where a collection of generation g starts to mark: at what is condemned of these, and at what handles tie to older
-- objects. What slots of older objects name is no part of it.
abbrev pub IsCondemnedStart :
    List TypeRow → HeapView → FinMap nat_cmp Handle → ℕ → List ℕ → List ℕ → ℕ → Type 0
IsCondemnedStart rows h handles g locals ready x =
    (IsCondemnedRoot locals h g x ⊎ IsCondemnedRoot ready h g x)
    ⊎ (IsCondemnedTarget handles h g x ⊎ IsTiedToOld rows h handles g x)

-- what handles tie to an object that stays, a marked or an older one, is marked where it is condemned
pub record AreTiesFollowed (rows : List TypeRow) (h : HeapView) (handles : FinMap nat_cmp Handle)
    (g : ℕ) : Type 0 where
  pub from_marked : (x y : ℕ) → Marked rows h x → SecondOf handles x y → is_condemned_place h g y ≡ true
      → Marked rows h y
  pub from_old : (y : ℕ) → IsTiedToOld rows h handles g y → Marked rows h y

-- whether a second object is still to be marked: it is condemned and not marked, and the handle's primary stays
abbrev pub is_tie_due : HeapView → ℕ → Handle → Bool
is_tie_due h g row =
    is_dependent row.kind && (not (nat_eq row.second 0) && (is_new h g row.second && not (is_new h g row.target)))

-- whether a handle's target is a root
abbrev pub is_root_handle : Handle → Bool
is_root_handle row = is_root_kind row.kind && not (nat_eq row.target 0)
