use Rattle.std.proofs.Common.{◌∙◌}
use Rattle.clr_heap.proofs.Rewrite.{shaped_heap}
use Rattle.clr_moves.proofs.PlacesInPlugs.{goes_near, none_at_zero, outside_stays}
use Rattle.clr_moves.proofs.Stretches.{stretch_goes, stretch_has}
use Rattle.clr_moves.proofs.going.destination_near.Goals.{then-place-eq0-via-then-place-eq0}
use Rattle.clr_moves.proofs.going.destination_near.Goals.{then-place-eq0-via-else-place-eq0+then-not-is_in_part}
use Rattle.clr_moves.proofs.going.destination_near.Goals as goal

pub returns-then-place-eq0 : goal.returns-then-place-eq0
returns-then-place-eq0 c = record {
  goes = λ rows view entries vs start1 start0 plan may met.
      let h = c.args.heap.now in
      let heap = shaped_heap view h plan.overlaid.shape plan.overlaid.heap in
      outside_stays rows h c.args.bricks.now c.args.g vs heap plan.told c.args.place (elim c.then-place-eq0.branch [
        | then-place-eq0-via-then-place-eq0 w ↦
            none_at_zero rows view h c.args.bricks.now entries c.args.g vs start1 start0 heap plan c.args.place
            w.if-place-eq0.true
        | then-place-eq0-via-else-place-eq0+then-not-is_in_part w ↦
            w.is_in_part.ensures.outside w.if-not-is_in_part.true
      ]);
  met = λ rows view entries vs start1 start0 plan may met. met;
}

pub stretch_at-found-requires-clause-plug : goal.stretch_at-found-requires-clause-plug
stretch_at-found-requires-clause-plug c =
    let (rows, view, entries, vs, start1, start0, plan, may) = c.requires.told in
    let h = c.args.heap.now in
    let heap = shaped_heap view h plan.overlaid.shape plan.overlaid.heap in
    let inside = c.is_in_part.ensures.inside c.if-not-is_in_part.false in
    let (back, near, is) = goes_near rows view h c.args.bricks.now entries c.args.g vs start1 start0 heap plan
    c.args.place may inside in
    (back, near)

pub returns : goal.returns
returns c = record {
  goes = λ rows view entries vs start1 start0 plan may met.
      let inside = c.is_in_part.ensures.inside c.if-not-is_in_part.false in
      let h = c.args.heap.now in
      let heap = shaped_heap view h plan.overlaid.shape plan.overlaid.heap in
      let goes = stretch_goes rows view h c.args.bricks.now entries c.args.g vs start1 start0 heap plan
      c.args.place may inside c.stretch_at-found.result c.stretch_at-found.ensures in
      let has = stretch_has rows view h c.args.bricks.now entries c.args.g vs start1 start0 heap plan
      c.args.place may inside c.stretch_at-found.result c.stretch_at-found.ensures in
      c.saturating_sub-2.ensures ∙ goes c.args.place has.0 has.1 may;
  met = λ rows view entries vs start1 start0 plan may met.
      let h = c.args.heap.now in
      let heap = shaped_heap view h plan.overlaid.shape plan.overlaid.heap in
      stretch_goes rows view h c.args.bricks.now entries c.args.g vs start1 start0 heap plan c.args.place may
      (c.is_in_part.ensures.inside c.if-not-is_in_part.false) c.stretch_at-found.result
      c.stretch_at-found.ensures;
}
