-- Nothing is marked.
use Rattle.std.proofs.Common.{ap, length}
use Rattle.clr_paths.proofs.WaysBack.{marked-none}
use Rattle.clr_paths.proofs.all_roots.Ways.new.Goals as goal

pub returns-clause-marks : goal.returns-clause-marks
returns-clause-marks c =
    marked-none c.args.count _ c.new.ensures.items (c.in_ok-at.ensures.items_if_clones_equal (λ y same. same))

pub returns-clause-empty : goal.returns-clause-empty
returns-clause-empty c = ap length c.new.ensures.items
