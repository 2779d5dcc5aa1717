use Rattle.std.proofs.Common.{◌≡◌, ◌-◌, ◌≤◌, false}
use Rattle.clr_types.specs.declared.handle.Handle.{Handle}
use Rattle.clr_heap.specs.View.{heap_items}
use Rattle.clr_sos.specs.Windows.{is_bad_in}
use Rattle.clr_sos.proofs.HandlePasses.{GoodBelow}
use Rattle.clr_sos.proofs.verify.tables.are_handles_good.Given as goal

abbrev pub invariant-loop-number : goal.invariant-loop-number
invariant-loop-number l = record {
  good : GoodBelow l.handles
      (λ (row : Handle).
      (is_bad_in (heap_items l.judge.types.now l.judge.heap.now) l.judge.window row.target ≡ false)
      × (is_bad_in (heap_items l.judge.types.now l.judge.heap.now) l.judge.window row.second ≡ false)) l.from;
  within : l.from ≤ 65536;
}

abbrev pub decreases-loop-number : goal.decreases-loop-number
decreases-loop-number l = 65536 - l.from
