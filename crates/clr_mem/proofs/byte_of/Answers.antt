use Rattle.std.proofs.Common.{◌/◌, ◌%◌, ℕ, ap}
use Rattle.clr_mem.proofs.Digits.{shift-power}
use Rattle.clr_mem.proofs.byte_of.Goals as goal

pub returns : goal.returns
returns c = ap (λ (p : ℕ). c.args.word / p % 256) (shift-power c.args.k)
