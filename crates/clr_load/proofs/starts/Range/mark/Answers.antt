use Rattle.std.proofs.Common.{refl}
use Rattle.clr_load.proofs.StartBits.{marked_place}
use Rattle.clr_load.proofs.starts.Range.mark.Goals as goal

pub returns-clause-marked : goal.returns-clause-marked
returns-clause-marked c x =
    marked_place c.args.self.now _ c.args.place x refl c.requires.above c.requires.aligned c.set_bit.ensures.bits
