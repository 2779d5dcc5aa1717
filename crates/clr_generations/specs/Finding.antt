-- Where a walk to a place starts.
use Rattle.std.specs.Prelude.{◌≡◌, ℕ, ◌≤◌, ◌⊎◌, List}
use Rattle.clr_types.specs.Types.{TypeRow}
use Rattle.clr_heap.specs.View.{first_of, HeapView}
use Rattle.clr_view.specs.SlotValues.{StandsAt}

-- the first place of segment k, or that of an object, at the place a or below
pub record IsStart (rows : List TypeRow) (h : HeapView) (k a start : ℕ) : Type 0 where
  pub above : first_of h k ≤ start
  pub below : start ≤ a
  pub there : (start ≡ first_of h k) ⊎ StandsAt rows h start
