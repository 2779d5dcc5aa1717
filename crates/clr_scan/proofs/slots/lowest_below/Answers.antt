use Rattle.std.proofs.Common.{◌≡◌, arith}
use Rattle.clr_types.specs.Segments.{ephemeral, stands_in}
use Rattle.clr_heap.specs.View.{frame}
use Rattle.clr_scan.proofs.Bounds.{below_one, below_two}
use Rattle.clr_scan.proofs.slots.lowest_below.Goals as goal

pub returns-then-age-eq2 : goal.returns-then-age-eq2
returns-then-age-eq2 c x =
    let h = c.args.heap.now in
    rw (c.if-age-eq2.true, c.boundaries-start1.ensures)
    (below_two (stands_in (ephemeral (frame h)) x) x h.start1 h.start0)

pub returns : goal.returns
returns c x =
    let h = c.args.heap.now in
    let some = c.requires.some in
    let most = c.requires.most in
    let ne = c.if-age-eq2.false in
    let one : c.args.age ≡ 1 = omega (arith, some, most, ne) in
    rw (one, c.max.ensures, c.boundaries-start1.ensures)
    (below_one (stands_in (ephemeral (frame h)) x) x h.start1 h.start0)
