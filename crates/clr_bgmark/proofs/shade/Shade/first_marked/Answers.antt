use Rattle.std.proofs.Common.{◌≡◌, ℕ, ◌-◌, ◌/◌, ◌<◌, ◌≤◌, ap, arith}
use Rattle.clr_bgmark.specs.Shades.{cell_of, ShadeView}
use Rattle.clr_bgmark.proofs.Kept.{covers_inside}
use Rattle.clr_bgmark.proofs.shade.Shade.first_marked.Goals as goal

pub returns-clause-first : goal.returns-clause-first
returns-clause-first c b there low high marked =
    let base = ap (λ (s : ShadeView). s.base) c.self.view_is in
    let whole = c.self.invariant.shade.base in
    let inside = (covers_inside c.args.self.now b there).low in
    let start = c.saturating_sub-start.ensures in
    c.in_ok-n.ensures.first (cell_of c.args.self.now b) (omega (arith, base, whole, inside, start, low))
    (omega (arith, base, whole, inside, high)) marked
