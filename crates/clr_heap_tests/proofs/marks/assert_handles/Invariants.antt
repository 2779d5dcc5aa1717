use Rattle.std.proofs.Common.{◌≡◌, ℕ, ◌<◌, Some}
use Rattle.std.specs.FinMap as finmap
use Rattle.clr_types.specs.declared.handle.Handle.{Handle}
use Rattle.clr_view.specs.World.{HandleStands}
use Rattle.clr_heap_tests.proofs.marks.assert_handles.Given as goal

abbrev pub invariant-loop-number : goal.invariant-loop-number
invariant-loop-number g l =
    (k : ℕ) (row : Handle) → k < l.number → finmap.get l.handles k ≡ Some row → HandleStands l.types l.heap row
