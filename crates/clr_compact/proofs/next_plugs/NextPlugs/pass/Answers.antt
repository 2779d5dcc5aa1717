use Rattle.std.proofs.Common.{suc, sym, ◌∙◌}
use Rattle.clr_compact.proofs.PassingPlugs.{goer-passed, goers-give, stayer-passed, stayers-give}
use Rattle.clr_compact.proofs.next_plugs.NextPlugs.pass.Goals as goal

pub next_of_kind-self-requires : goal.next_of_kind-self-requires
next_of_kind-self-requires c =
    let (vs, q, next, inside) = c.requires in (
      vs,
      suc q.staying,
      stayers-give c.args.types.now c.args.heap.now c.args.bricks.now c.args.g vs q c.args.self.now
          next inside (sym c.is_lower.ensures ∙ c.if-is_lower.true),
    )

pub next_of_kind-self-requires-else-is_lower : goal.next_of_kind-self-requires-else-is_lower
next_of_kind-self-requires-else-is_lower c =
    let (vs, q, next, inside) = c.requires in (
      vs,
      suc q.going,
      goers-give c.args.types.now c.args.heap.now c.args.bricks.now c.args.g vs q c.args.self.now next
          inside (sym c.is_lower.ensures ∙ c.if-is_lower.false),
    )

pub returns-then-is_lower : goal.returns-then-is_lower
returns-then-is_lower c = λ vs q next inside.
    let e = sym c.is_lower.ensures ∙ c.if-is_lower.true in
    let rows = c.args.types.now in
    let h = c.args.heap.now in
    stayer-passed rows h c.args.bricks.now c.args.g vs q c.args.self.now next inside e c.next_of_kind-self.new.moves
    c.next_of_kind-self.result
    (c.next_of_kind-self.ensures vs (suc q.staying)
    (stayers-give rows h c.args.bricks.now c.args.g vs q c.args.self.now next inside e))

pub returns-else-is_lower : goal.returns-else-is_lower
returns-else-is_lower c = λ vs q next inside.
    let e = sym c.is_lower.ensures ∙ c.if-is_lower.false in
    let rows = c.args.types.now in
    let h = c.args.heap.now in
    goer-passed rows h c.args.bricks.now c.args.g vs q c.args.self.now next inside e
    c.next_of_kind-self-else-is_lower.new.moves c.next_of_kind-self-else-is_lower.result
    (c.next_of_kind-self-else-is_lower.ensures vs (suc q.going)
    (goers-give rows h c.args.bricks.now c.args.g vs q c.args.self.now next inside e))
