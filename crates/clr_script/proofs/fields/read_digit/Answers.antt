-- A digit is the word of its number, and another byte is none.
use Rattle.std.proofs.Common.{◌∙◌, sym}
use Rattle.clr_script.proofs.Numerals.{digit_found, digit_none}
use Rattle.clr_script.proofs.fields.read_digit.Goals as goal

pub returns-then-is_ascii_digit : goal.returns-then-is_ascii_digit
returns-then-is_ascii_digit c = rw c.from.ensures
    (digit_found c.args.b (sym c.is_ascii_digit.ensures.value ∙ c.if-is_ascii_digit.true))

pub returns-else-is_ascii_digit : goal.returns-else-is_ascii_digit
returns-else-is_ascii_digit c = digit_none c.args.b (sym c.is_ascii_digit.ensures.value ∙ c.if-is_ascii_digit.false)
