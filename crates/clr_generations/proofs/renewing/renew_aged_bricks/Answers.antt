use Rattle.clr_generations.proofs.AgedBricks.{aged_entered}
use Rattle.clr_generations.proofs.renewing.renew_aged_bricks.Goals as goal

pub returns-clause-entered : goal.returns-clause-entered
returns-clause-entered c =
    aged_entered c.args.types.now c.args.heap.now c.args.k c.args.young c.requires.aged c.renew_part.new.bricks
    c.renew_part.ensures.entered
