-- No text, no argument.
use Rattle.std.proofs.Common.{refl}
use Rattle.clr_args.proofs.arguments.Arguments.new.Goals as goal

pub returns : goal.returns
returns c = rw c.new-texts.ensures.items refl
