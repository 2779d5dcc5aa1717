-- What handles name, where objects still stand.
use Rattle.std.proofs.Common.{ℕ, inl, inr, List}
use Rattle.std.specs.FinMap.{FinMap}
use Rattle.std.specs.Ordering.{nat_cmp}
use Rattle.clr_types.specs.Types.{TypeRow}
use Rattle.clr_types.specs.declared.handle.Handle.{Handle}
use Rattle.clr_heap.specs.View.{HeapView}
use Rattle.clr_view.specs.SlotValues.{StandsAt}
use Rattle.clr_view.specs.World.{HandlesStand, IsNullOrStands}

module _ (rows after : List TypeRow) (old new : HeapView)
    (stands : (x : ℕ) → StandsAt rows old x → StandsAt after new x) where
  pub null_or_stands : (x : ℕ) → IsNullOrStands rows old x → IsNullOrStands after new x
  null_or_stands x (inl null) = inl null
  null_or_stands x (inr there) = inr (stands x there)

  pub handles_stand : (handles : FinMap nat_cmp Handle) → HandlesStand rows old handles → HandlesStand after new handles
  handles_stand handles all k row at =
      let is = all k row at in
      record {
        target = null_or_stands row.target is.target;
        second = null_or_stands row.second is.second;
        owned = is.owned;
      }
