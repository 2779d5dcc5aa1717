-- It is part of what is said.
use Rattle.clr_args.proofs.laws.what_is_said_is_lawful.Goals as goal

pub returns : goal.returns
returns c = λ arguments options. record {
  run = λ (line, says). says.lawful;
  soak = λ seed count said. said.1.lawful;
  image = λ (line, says). says.lawful;
  budgets = λ budgets path said. said.1.lawful;
}
