use Rattle.std.proofs.Common.{ap, sym}
use Rattle.std.proofs.Math.Nat.{mod-eq_of_lt}
use Rattle.std.specs.Prelude.{count_ones}
use Rattle.clr_bgmark.proofs.bits.ones_of.Goals as goal

pub returns : goal.returns
returns c = ap count_ones (sym (mod-eq_of_lt c.ranges.word.fits))
