-- Only where the dead are asked for does it matter what the roots reach.
use Rattle.std.proofs.Common.{false, true, ℕ}
use Rattle.clr_shows.proofs.StatLines.{text-if, text-plain}
use Rattle.clr_shows.proofs.stats.gcheapstat.Goals as goal

pub returns-then-unrooted : goal.returns-then-unrooted
returns-then-unrooted c = λ m is.
    text-if m c.args.unrooted true c.in_ok-text.text.items c.if-unrooted.true (c.in_ok-text.ensures m is)

pub returns : goal.returns
returns c = λ m is.
    text-if m c.args.unrooted false c.in_ok-text-2.text.items c.if-unrooted.false
    (text-plain m (λ (n : ℕ). true) c.in_ok-text-2.text.items (c.in_ok-text-2.ensures m is))
