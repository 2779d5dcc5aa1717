use Rattle.std.proofs.Common.{ap, sym, subst, arith}
use Rattle.clr_moves.specs.PlugMoves.{Gives, PlugMovesView}
use Rattle.clr_moves.proofs.Giving.{enter_next}
use Rattle.clr_moves.proofs.plug_moves.PlugMoves.seek.Goals as goal

pub overflow_add-self-inside : goal.overflow_add-self-inside
overflow_add-self-inside c =
    let (rows, vs, gives) = c.requires in
    let within = (c.loop-self.invariant rows vs gives).within in
    let at = ap (λ (v : PlugMovesView). v.segment) c.self.view_is in
    let count = c.segments-count.ensures.count in
    let fits = c.segments-count.type_inv in
    omega (arith, within, at, count, fits)

pub enter-requires : goal.enter-requires
enter-requires c =
    let (rows, vs, first) = c.requires in
    let h = c.args.heap.now in
    let line : PlugMovesView = record {
      segment = c.self.inside.segment;
      cursor = c.self.inside.cursor;
      start = c.self.inside.start;
      to = c.self.inside.to;
    } in
    let P : PlugMovesView → Type 0 = λ v. Gives rows h c.args.bricks.now c.args.g v vs in
    let gives : Gives rows h c.args.bricks.now c.args.g line vs =
    subst P (sym c.self.view_is) (c.loop-self.invariant rows vs first) in
    let more = c.if-self-count.true in
    let count = c.segments-count.ensures.count in (
      rows,
      vs,
      enter_next rows h c.args.bricks.now c.args.g line vs gives c.loop-self-test.true
          (omega (arith, more, count)),
    )

pub loop-self-preserved : goal.loop-self-preserved
loop-self-preserved c = λ rows vs first.
    let h = c.args.heap.now in
    let line : PlugMovesView = record {
      segment = c.self.inside.segment;
      cursor = c.self.inside.cursor;
      start = c.self.inside.start;
      to = c.self.inside.to;
    } in
    let P : PlugMovesView → Type 0 = λ v. Gives rows h c.args.bricks.now c.args.g v vs in
    let gives : Gives rows h c.args.bricks.now c.args.g line vs =
    subst P (sym c.self.view_is) (c.loop-self.invariant rows vs first) in
    let more = c.if-self-count.true in
    let count = c.segments-count.ensures.count in
    c.enter.ensures.gives rows vs (enter_next rows h c.args.bricks.now c.args.g line vs gives c.loop-self-test.true
    (omega (arith, more, count)))
