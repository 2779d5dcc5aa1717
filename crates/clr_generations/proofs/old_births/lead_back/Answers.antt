use Rattle.std.proofs.Common.{◌∙◌, arith}
use Rattle.clr_covers.proofs.Spans.{is_covered-spans}
use Rattle.clr_generations.proofs.old_births.lead_back.Goals as goal

pub set_back-requires-clause-covered : goal.set_back-requires-clause-covered
set_back-requires-clause-covered c =
    is_covered-spans c.loop-brick.bricks c.args.bricks.now c.loop-brick.brick c.loop-brick.invariant.spans
    ∙ c.requires.covered c.loop-brick.brick c.loop-brick.auto.brick (omega arith)
