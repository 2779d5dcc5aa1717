-- A name and a pattern are short.
use Rattle.std.proofs.Common.{ℕ, List, length, arith, ap, ◌∙◌}
use Rattle.clr_types.specs.Types.{Form}
use Rattle.clr_fields.specs.TypeFields.{form_pattern}
use Rattle.clr_open.proofs.FitFields.{short-type}
use Rattle.clr_open.proofs.fit.type_bytes.Goals as goal

pub returns-clause-low : goal.returns-clause-low
returns-clause-low c =
    let short = short-type c.args.types.now c.args.t.0 c.requires.positive c.requires.known c.requires.named
    c.requires.lawful in
    let one = short.0 in
    let two = short.1 in
    let name = ap (λ (xs : List ℕ). length xs) c.name.ensures in
    let pattern = c.pattern_len.ensures ∙ ap (λ (f : Form). length (form_pattern f)) c.shape.ensures in
    omega (arith, one, two, name, pattern)
