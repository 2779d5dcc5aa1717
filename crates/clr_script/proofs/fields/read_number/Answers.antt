use Rattle.std.proofs.Common.{◌∙◌}
use Rattle.clr_script.proofs.Numerals.{number_found}
use Rattle.clr_script.proofs.fields.read_number.Goals as goal

pub returns : goal.returns
returns c = c.ok.ensures.value ∙ number_found c.args.word.now c.read_dec.result c.read_dec.ensures.value
    c.read_dec.ensures.bound c.read_dec.ensures.reads
