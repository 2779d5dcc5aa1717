use Rattle.std.proofs.Common.{◌-◌, ◌∙◌, arith}
use Rattle.clr_bricks.proofs.LeadBack.{share_between}
use Rattle.clr_covers.proofs.Spans.{is_covered-spans}
use Rattle.clr_generations.proofs.renewing.name_first.Goals as goal

pub lead_on-requires-clause-shared : goal.lead_on-requires-clause-shared
lead_on-requires-clause-shared c = λ under.
    let low = c.requires.low in c.requires.shared (c.args.brick - 1) (omega (arith, low, under)) (omega arith)

pub set_root-requires-clause-covered : goal.set_root-requires-clause-covered
set_root-requires-clause-covered c =
    let low = c.requires.low in
    let high = c.requires.high in
    is_covered-spans c.lead_on.new.self c.args.bricks.now c.args.brick c.lead_on.ensures.spans
    ∙ share_between c.args.bricks.now c.args.next c.args.brick c.args.brick
    (c.requires.shared c.args.brick (omega (arith, low, high)) (omega arith)) (omega (arith, low, high)) (omega arith)
