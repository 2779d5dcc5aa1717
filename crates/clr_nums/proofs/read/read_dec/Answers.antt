-- The form and the value of the text decide the answer.
use Rattle.std.proofs.Common.{sym}
use Rattle.std.proofs.lemmas.Bool.{both_ways}
use Rattle.clr_nums.specs.Numbers.{is_decimal_form}
use Rattle.clr_nums.proofs.DecimalText.{is_decimal_form-decimal, ok_value, ok_reads}
use Rattle.clr_nums.proofs.read.read_dec.Goals as goal

pub returns-then-not-is_decimal-clause-reads : goal.returns-then-not-is_decimal-clause-reads
returns-then-not-is_decimal-clause-reads c = λ n small same.
    absurd (both_ways (is_decimal_form c.args.text.now) (sym c.if-not-is_decimal.ensures)
    (rw same (is_decimal_form-decimal n small)))

pub returns-clause-value : goal.returns-clause-value
returns-clause-value c = rw c.ok_or.ensures.value
    (ok_value c.args.text.now c.number_of.result _ (sym c.if-not-is_decimal.ensures) c.number_of.ensures)

pub returns-clause-reads : goal.returns-clause-reads
returns-clause-reads c = rw c.ok_or.ensures.value (ok_reads c.args.text.now c.number_of.result _ c.number_of.ensures)
