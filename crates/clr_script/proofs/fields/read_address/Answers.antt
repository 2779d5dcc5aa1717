use Rattle.clr_script.proofs.Numerals.{address_found}
use Rattle.clr_script.proofs.fields.read_address.Goals as goal

pub returns : goal.returns
returns c = address_found c.args.word.now c.read_hex.result c.read_hex.ensures.value c.read_hex.ensures.bound
    c.read_hex.ensures.reads
