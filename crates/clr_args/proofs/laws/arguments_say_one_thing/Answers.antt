-- What is said is found by one pass over the arguments.
use Rattle.clr_args.proofs.Answering.{one_path, one_thing}
use Rattle.clr_args.proofs.laws.arguments_say_one_thing.Goals as goal

pub returns : goal.returns
returns c = record { command = one_thing; path = one_path }
