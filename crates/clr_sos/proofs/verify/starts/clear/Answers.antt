use Rattle.std.proofs.Common.{◌/◌, length, inl, inr, arith}
use Rattle.std.proofs.lemmas.Bool.{cases_lt}
use Rattle.std.proofs.lemmas.List.{get_or_past}
use Rattle.clr_sos.proofs.StartBits.{bit_clear}
use Rattle.clr_sos.proofs.verify.starts.clear.Goals as goal

pub returns : goal.returns
returns c j = bit_clear c.loop-word.bits j (elim (cases_lt (j / 64) (length c.loop-word.bits)) [
  | inl inside ↦ let within = c.loop-word-test.false in c.loop-word.invariant (j / 64) (omega arith)
  | inr past ↦ get_or_past c.loop-word.bits (j / 64) 0 past
])
