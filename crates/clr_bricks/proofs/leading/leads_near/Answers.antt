use Rattle.std.proofs.Common.{ap, sym, ◌∙◌, rules, w16, FitsSigned}
use Rattle.clr_bricks.specs.Bricks.{back_entry}
use Rattle.clr_bricks.proofs.LeadBack.{back-by-bits, hop-near}
use Rattle.clr_bricks.proofs.leading.leads_near.Goals as goal

pub returns : goal.returns
returns c = λ same.
    let fits : FitsSigned w16 c.args.entry = search rules in
    back-by-bits c.args.entry c.args.far fits c.requires.some c.requires.near same
    ∙ ap back_entry (sym (hop-near c.args.far c.requires.near))
