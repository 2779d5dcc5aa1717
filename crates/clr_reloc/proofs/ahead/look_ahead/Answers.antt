use Rattle.std.proofs.Common.{arith}
use Rattle.clr_reloc.proofs.ahead.look_ahead.Goals as goal

pub overflow_add-result : goal.overflow_add-result
overflow_add-result c = let fits = c.requires.fits c.args.at c.requires.below in omega (arith, fits)
