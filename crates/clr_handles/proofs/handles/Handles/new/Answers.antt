use Rattle.std.proofs.Common.{sym, subst}
use Rattle.clr_handles.specs.Tops.{AreTops}
use Rattle.clr_handles.proofs.PinnedCounts.{counts-empty}
use Rattle.clr_handles.proofs.TopSteps.{tops-empty}
use Rattle.clr_handles.proofs.handles.Handles.new.Goals as goal

pub invariant_of-result : goal.invariant_of-result
invariant_of-result c = (
  subst (AreTops c.new.result) (sym c.new-2.ensures.items) (tops-empty c.new.result c.new.ensures),
  counts-empty c.new.result c.new.ensures,
)
