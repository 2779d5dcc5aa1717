-- A list of what dependent handles tie, by rising places of the primaries.
use Rattle.std.specs.Prelude.{◌≡◌, ℕ, ◌⊎◌, Bool, true, false, not, ◌&&◌, nat_eq, List, [], ◌∷◌, ◌++◌}
use Rattle.std.specs.Prelude.{if◌then◌else◌}
use Rattle.std.specs.FinMap.{FinMap}
use Rattle.std.specs.Ordering.{nat_cmp}
use Rattle.std.specs.List.{All, Contains}
use Rattle.std.specs.List.Sorted.{IsNonDecreasingBy}
use Rattle.clr_types.specs.Kinds.{is_dependent}
use Rattle.clr_types.specs.Types.{TypeRow}
use Rattle.clr_types.specs.declared.handle.Handle.{Handle}
use Rattle.clr_heap.specs.View.{HeapView}
use Rattle.clr_model.specs.Reach.{SecondOf, SlotNames}
use Rattle.clr_view.specs.SlotValues.{StandsAt}
use Rattle.clr_view.specs.View.{objects_in}
use Rattle.clr_mark.specs.Marks.{is_condemned_place, is_new}
use Rattle.clr_mark.specs.declared.marker.listed.Tie.{Tie}

-- one of these ties is of y to x
abbrev pub IsTied : List Tie → ℕ → ℕ → Type 0
IsTied ties x y = Contains ties (record { primary = x; second = y })

-- a slot of x names y, or one of these ties is of y to x; and y is condemned
pub record LeadsBy (rows : List TypeRow) (ties : List Tie) (h : HeapView) (g x y : ℕ) : Type 0 where
  pub joined : SlotNames (objects_in rows h) x y ⊎ IsTied ties x y
  pub condemned : is_condemned_place h g y ≡ true

-- y is condemned, and one of these ties is of y to an object that isn't
pub record IsTiedToOldBy (h : HeapView) (ties : List Tie) (g y : ℕ) : Type 0 where
  pub by : ℕ
  pub old : is_condemned_place h g by ≡ false
  pub tied : IsTied ties by y
  pub condemned : is_condemned_place h g y ≡ true

-- what these ties name stands, and they stand by rising places of the primaries
pub record AreTies (rows : List TypeRow) (h : HeapView) (ties : List Tie) : Type 0 where
  pub stand : (x y : ℕ) → IsTied ties x y → StandsAt rows h x × StandsAt rows h y
  pub rise : IsNonDecreasingBy (λ (t : Tie). t.primary) ties

-- whether a handle is dependent, and a mark on its second object would be new
abbrev pub is_open : HeapView → ℕ → Handle → Bool
is_open h g row = is_dependent row.kind && (not (nat_eq row.second 0) && is_new h g row.second)

-- what a handle ties
abbrev pub tie_of : Handle → Tie
tie_of row = record { primary = row.target; second = row.second }

-- these ties, and what a handle ties where a mark on it would be new
abbrev pub with_open : HeapView → ℕ → List Tie → Handle → List Tie
with_open h g ties row = if is_open h g row then ties ++ tie_of row ∷ [] else ties

-- each tie is a dependent handle's, and each such handle has one, where a mark on its second object would be new
pub record ListsOpen (h : HeapView) (handles : FinMap nat_cmp Handle) (g : ℕ) (ties : List Tie) : Type 0 where
  pub only : All (λ (t : Tie). SecondOf handles t.primary t.second) ties
  pub all : (x y : ℕ) → SecondOf handles x y → is_new h g y ≡ true → IsTied ties x y
