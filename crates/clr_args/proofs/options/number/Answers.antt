-- What is read is the number of the text.
use Rattle.std.proofs.Common.{ap, ◌∙◌}
use Rattle.clr_args.specs.Reading.{number_in}
use Rattle.clr_args.proofs.Numbers.{number_read}
use Rattle.clr_args.proofs.options.number.Goals as goal

pub returns : goal.returns
returns c = c.ok.ensures.value
    ∙ (number_read c.as_bytes.result.now c.read_dec.result c.read_dec.ensures.value c.read_dec.ensures.bound
    c.read_dec.ensures.not_number c.read_dec.ensures.too_large
    ∙ ap number_in c.as_bytes.ensures.value)
