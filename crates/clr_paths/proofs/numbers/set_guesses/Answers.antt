-- Each address is an object's.
use Rattle.std.proofs.Common.{arith}
use Rattle.clr_mark.proofs.Rooting.{at_in}
use Rattle.clr_paths.proofs.numbers.set_guesses.Goals as goal

pub segment_near-near-requires : goal.segment_near-near-requires
segment_near-near-requires c = c.requires _ (at_in c.args.places.now _ _ (omega arith))
