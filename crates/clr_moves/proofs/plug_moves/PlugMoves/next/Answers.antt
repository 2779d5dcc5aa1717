use Rattle.std.proofs.Common.{ap, sym, ◌∙◌}
use Rattle.clr_moves.specs.PlugMoves.{PlugMovesView}
use Rattle.clr_moves.proofs.Giving.{nothing_given}
use Rattle.clr_moves.proofs.plug_moves.PlugMoves.next.Goals as goal

pub returns-then-self-eq0 : goal.returns-then-self-eq0
returns-then-self-eq0 c = λ vs gives.
    let zero = sym (ap (λ (v : PlugMovesView). v.start) c.self.view_is) ∙ c.if-self-eq0.true in
    nothing_given c.args.types.now c.args.heap.now c.args.bricks.now c.args.g c.seek.new.self vs
    (c.seek.ensures.gives c.args.types.now vs gives) zero (c.seek.ensures.done zero)

pub step-requires-clause-gives : goal.step-requires-clause-gives
step-requires-clause-gives c =
    let (vs, gives) = c.requires in
    (c.args.g, vs, c.seek.ensures.gives c.args.types.now vs gives)
