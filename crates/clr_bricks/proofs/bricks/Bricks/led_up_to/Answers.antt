use Rattle.std.proofs.Common.{◌≡◌, ◌+◌, ◌-◌, ◌<◌, ℕ, ℤ, List, pos, ap, sym, ◌∙◌, arith}
use Rattle.clr_covers.specs.Covers.{CoverView, value_at}
use Rattle.clr_bricks.specs.Bricks.{back_entry, hop}
use Rattle.clr_bricks.proofs.bricks.Bricks.led_up_to.Goals as goal

pub returns-clause-led : goal.returns-clause-led
returns-clause-led c = λ i low high.
    let met = c.values-entries.ensures in
    let count = met.count in
    let within = c.count_led.ensures.within in
    let under : i < c.args.past = omega arith in
    let same = met.values (pos 0) i low under
    ∙ ap (λ (cs : List (CoverView ℤ)). value_at (pos 0) cs i) c.self.view_is in
    let at : i - c.args.from + 1 ≡ i + 1 - c.args.from = omega arith in
    sym same ∙ c.count_led.ensures.led (i - c.args.from) (omega arith)
    ∙ ap (λ (n : ℕ). back_entry (hop n)) at
