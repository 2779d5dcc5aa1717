use Rattle.std.proofs.Common.{◌≡◌, ap, sym, ◌∙◌, subst, refl, true, false}
use Rattle.clr_types.specs.declared.segment.SegInfo.{SegInfo}
use Rattle.clr_plugs.specs.Cursors.{CursorView}
use Rattle.clr_heap.specs.View.{segment_at}
use Rattle.clr_moves.specs.PlugMoves.{CanEnter, CanRead, PlugMovesView}
use Rattle.clr_moves.specs.Moves.{takes}
use Rattle.clr_moves.proofs.Entering.{enter_can, entered_none, entered_part}
use Rattle.clr_moves.proofs.plug_moves.PlugMoves.enter.Goals as goal

pub read-requires : goal.read-requires
read-requires c =
    let (rows, vs, old) = c.requires in
    let h = c.args.heap.now in
    let line : PlugMovesView = record {
      segment = c.self.inside.segment;
      cursor = c.self.inside.cursor;
      start = c.self.inside.start;
      to = c.self.inside.to;
    } in
    let P : PlugMovesView → Type 0 = λ v. CanEnter rows h c.args.bricks.now c.args.g v vs in
    let can : CanEnter rows h c.args.bricks.now c.args.g line vs = subst P (sym c.self.view_is) old in
    let on : takes c.args.g (segment_at h c.self.inside.segment) ≡ true =
    ap (λ (s : SegInfo). takes c.args.g s) (sym c.info-segment.ensures.value) ∙ sym c.takes_part.ensures
    ∙ c.if-takes_part.true in
    let part = can.parts line.segment in
    let Q : CursorView → Type 0 = λ v. CanRead h c.args.bricks.now v part part.plugs in (
      part,
      part.plugs,
      subst Q (sym c.restart.ensures)
          (enter_can rows h c.args.bricks.now c.args.g line vs can on c.part_start.result
          c.info-segment.result.end c.part_start.ensures (ap (λ (s : SegInfo). s.end) c.info-segment.ensures.value)),
    )

pub returns-then-takes_part-clause-gives : goal.returns-then-takes_part-clause-gives
returns-then-takes_part-clause-gives c = λ rows vs old.
    let h = c.args.heap.now in
    let line : PlugMovesView = record {
      segment = c.self.inside.segment;
      cursor = c.self.inside.cursor;
      start = c.self.inside.start;
      to = c.self.inside.to;
    } in
    let P : PlugMovesView → Type 0 = λ v. CanEnter rows h c.args.bricks.now c.args.g v vs in
    let can : CanEnter rows h c.args.bricks.now c.args.g line vs = subst P (sym c.self.view_is) old in
    let on : takes c.args.g (segment_at h c.self.inside.segment) ≡ true =
    ap (λ (s : SegInfo). takes c.args.g s) (sym c.info-segment.ensures.value) ∙ sym c.takes_part.ensures
    ∙ c.if-takes_part.true in
    let part = can.parts line.segment in
    let Q : CursorView → Type 0 = λ v. CanRead h c.args.bricks.now v part part.plugs in
    let before = subst Q (sym c.restart.ensures)
    (enter_can rows h c.args.bricks.now c.args.g line vs can on c.part_start.result
    c.info-segment.result.end c.part_start.ensures (ap (λ (s : SegInfo). s.end) c.info-segment.ensures.value)) in
    entered_part rows h c.args.bricks.now c.args.g line vs can on c.read.new.self c.read.result c.read.ensures.segment
    (c.read.ensures.read part part.plugs before)

pub returns-else-takes_part-clause-gives : goal.returns-else-takes_part-clause-gives
returns-else-takes_part-clause-gives c = λ rows vs old.
    let h = c.args.heap.now in
    let line : PlugMovesView = record {
      segment = c.self.inside.segment;
      cursor = c.self.inside.cursor;
      start = c.self.inside.start;
      to = c.self.inside.to;
    } in
    let P : PlugMovesView → Type 0 = λ v. CanEnter rows h c.args.bricks.now c.args.g v vs in
    let can : CanEnter rows h c.args.bricks.now c.args.g line vs = subst P (sym c.self.view_is) old in
    let off : takes c.args.g (segment_at h c.self.inside.segment) ≡ false =
    ap (λ (s : SegInfo). takes c.args.g s) (sym c.info-segment.ensures.value) ∙ sym c.takes_part.ensures
    ∙ c.if-takes_part.false in
    entered_none rows h c.args.bricks.now c.args.g line vs can off
    (record { segment = c.self.inside.segment; cursor = c.self.inside.cursor; start = 0; to = c.self.inside.to })
    refl refl
