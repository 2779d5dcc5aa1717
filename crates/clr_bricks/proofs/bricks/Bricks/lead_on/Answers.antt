use Rattle.std.proofs.Common.{◌-◌, refl, ◌∙◌, arith}
use Rattle.clr_bricks.specs.Bricks.{entry_at}
use Rattle.clr_covers.proofs.Spans.{is_covered-spans}
use Rattle.clr_bricks.proofs.LeadBack.{led-already, share_between}
use Rattle.clr_bricks.proofs.bricks.Bricks.lead_on.Goals as goal

pub loop-brick-init : goal.loop-brick-init
loop-brick-init c = record {
  entries = λ i. led-already (entry_at c.args.self.now) c.args.from c.args.led i c.requires.led;
  spans = refl;
  low = c.requires.low;
}

pub set_back-requires-clause-covered : goal.set_back-requires-clause-covered
set_back-requires-clause-covered c =
    let i = c.loop-brick.invariant in
    let low = i.low in
    let test = c.loop-brick-test.true in
    is_covered-spans c.loop-brick.self c.args.self.now c.loop-brick.brick i.spans
    ∙ share_between c.args.self.now c.args.from (c.args.past - 1) c.loop-brick.brick
    (c.requires.shared (omega (arith, low, test))) low (omega (arith, test))
