use Rattle.std.proofs.Common.{◌*◌, ◌≤◌}
use Rattle.clr_types.specs.Rising.{IsRisingBy}
use Rattle.clr_heap_tests.proofs.FrontItems.{AreAbove}
use Rattle.clr_heap_tests.proofs.contexts.filled.Given as goal

abbrev pub invariant-loop-left : goal.invariant-loop-left
invariant-loop-left l =
    IsRisingBy (λ p. p.place) l.items.items × AreAbove (64 * l.left) l.items.items × (l.left ≤ 600)

abbrev pub decreases-loop-left : goal.decreases-loop-left
decreases-loop-left l = l.left
