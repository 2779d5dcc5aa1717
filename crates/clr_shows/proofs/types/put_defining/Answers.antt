-- Nothing, or the shape and the finaliser.
use Rattle.std.proofs.Common.{◌<◌, arith}
use Rattle.clr_shows.proofs.TypeLines.{nothing-defines, shape-defines}
use Rattle.clr_shows.proofs.types.put_defining.Goals as goal

pub returns-then-t-eq0 : goal.returns-then-t-eq0
returns-then-t-eq0 c = nothing-defines c.args.types.now c.args.t.0 c.args.text.now.items c.if-t-eq0.true

pub returns : goal.returns
returns c =
    let other = c.if-t-eq0.false in
    let some : 0 < c.args.t.0 = omega (arith, other) in
    rw (c.in_ok-put_final.ensures, c.in_ok-put_shape.ensures, c.shape.ensures, c.finalizer.ensures)
    (shape-defines c.args.types.now c.args.t.0 c.args.text.now.items some)
