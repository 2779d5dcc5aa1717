use Rattle.std.proofs.Common.{refl}
use Rattle.clr_moves.specs.PlugMoves.{PlugMovesView}
use Rattle.clr_moves.proofs.Entering.{enter_first}
use Rattle.clr_moves.proofs.plug_moves.PlugMoves.new.Goals as goal

pub enter-requires : goal.enter-requires
enter-requires c =
    let (vs, tell) = c.requires in
    let line : PlugMovesView = record { segment = 0; cursor = c.new.result; start = 0; to = 0 } in
    let heap = c.lawful.ensures in (
      c.args.types.now,
      vs,
      enter_first c.args.types.now c.args.heap.now c.args.bricks.now c.args.g line vs heap tell refl,
    )

pub returns : goal.returns
returns c = λ vs tell.
    let line : PlugMovesView = record { segment = 0; cursor = c.new.result; start = 0; to = 0 } in
    let heap = c.lawful.ensures in
    c.enter.ensures.gives c.args.types.now vs
    (enter_first c.args.types.now c.args.heap.now c.args.bricks.now c.args.g line vs heap tell refl)
