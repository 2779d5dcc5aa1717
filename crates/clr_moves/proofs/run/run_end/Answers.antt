use Rattle.std.proofs.Common.{◌≡◌, ℕ, ◌+◌, ◌<◌, ap, sym, ◌∙◌, subst, arith, true, false}
use Rattle.clr_types.specs.declared.segment.SegInfo.{SegInfo}
use Rattle.clr_heap.specs.View.{last_of, word_of}
use Rattle.clr_view.specs.Marks.{has_mark}
use Rattle.clr_moves.specs.Told.{IsMarkedRun}
use Rattle.clr_moves.proofs.Runs.{can_read, run_done, run_on, run_stops}
use Rattle.clr_moves.proofs.run.run_end.Goals as goal

pub loop-place-init : goal.loop-place-init
loop-place-init c = record { run = λ last r. r; known = c.none-known.ensures c.args.types.now }

pub word_at-mt-requires : goal.word_at-mt-requires
word_at-mt-requires c =
    let (last, run) = c.requires.run in
    let end = ap (λ (s : SegInfo). s.end) c.info-end.ensures.value in
    let l = c.loop-place-test.true in
    let less : c.loop-place.place < last_of c.args.heap.now c.args.k = omega (arith, end, l) in
    let can = can_read c.args.types.now c.args.heap.now c.args.k c.loop-place.place last
    (c.loop-place.invariant.run last run) less in
    record { word = can.item.mt; segment = can.mt_in }

pub item_like_word-place-requires-clause-item : goal.item_like_word-place-requires-clause-item
item_like_word-place-requires-clause-item c =
    let (last, run) = c.requires.run in
    let end = ap (λ (s : SegInfo). s.end) c.info-end.ensures.value in
    let l = c.loop-place-test.true in
    let less : c.loop-place.place < last_of c.args.heap.now c.args.k = omega (arith, end, l) in
    let can = can_read c.args.types.now c.args.heap.now c.args.k c.loop-place.place last
    (c.loop-place.invariant.run last run) less in
    can.item

pub item_like_word-place-requires-clause-segment : goal.item_like_word-place-requires-clause-segment
item_like_word-place-requires-clause-segment c =
    let (last, run) = c.requires.run in
    let end = ap (λ (s : SegInfo). s.end) c.info-end.ensures.value in
    let l = c.loop-place-test.true in
    let less : c.loop-place.place < last_of c.args.heap.now c.args.k = omega (arith, end, l) in
    let can = can_read c.args.types.now c.args.heap.now c.args.k c.loop-place.place last
    (c.loop-place.invariant.run last run) less in
    can.len_in

pub item_like_word-place-requires-clause-room : goal.item_like_word-place-requires-clause-room
item_like_word-place-requires-clause-room c =
    let (last, run) = c.requires.run in
    let end = ap (λ (s : SegInfo). s.end) c.info-end.ensures.value in
    let l = c.loop-place-test.true in
    let less : c.loop-place.place < last_of c.args.heap.now c.args.k = omega (arith, end, l) in
    let can = can_read c.args.types.now c.args.heap.now c.args.k c.loop-place.place last
    (c.loop-place.invariant.run last run) less in
    can.room

pub overflow_add-place : goal.overflow_add-place
overflow_add-place c =
    let (last, run) = c.requires.run in
    let end = ap (λ (s : SegInfo). s.end) c.info-end.ensures.value in
    let l = c.loop-place-test.true in
    let less : c.loop-place.place < last_of c.args.heap.now c.args.k = omega (arith, end, l) in
    let can = can_read c.args.types.now c.args.heap.now c.args.k c.loop-place.place last
    (c.loop-place.invariant.run last run) less in
    let fits = can.fits in
    let e = ap (λ i. i.size) c.item_like_word-place.ensures.item in
    omega (arith, fits, e)

pub loop-place-smaller : goal.loop-place-smaller
loop-place-smaller c =
    let (last, run) = c.requires.run in
    let end = ap (λ (s : SegInfo). s.end) c.info-end.ensures.value in
    let l = c.loop-place-test.true in
    let less : c.loop-place.place < last_of c.args.heap.now c.args.k = omega (arith, end, l) in
    let can = can_read c.args.types.now c.args.heap.now c.args.k c.loop-place.place last
    (c.loop-place.invariant.run last run) less in
    let up = can.up in
    let e = ap (λ i. i.size) c.item_like_word-place.ensures.item in
    omega (arith, up, e, l)

pub loop-place-preserved : goal.loop-place-preserved
loop-place-preserved c = record {
  known = c.item_like_word-place.ensures.known;
  run = λ last run.
      let end = ap (λ (s : SegInfo). s.end) c.info-end.ensures.value in
      let l = c.loop-place-test.true in
      let less : c.loop-place.place < last_of c.args.heap.now c.args.k = omega (arith, end, l) in
      let on : has_mark (word_of c.args.heap.now c.loop-place.place) ≡ true =
      ap has_mark (sym c.word_at-mt.ensures) ∙ sym c.is_marked.ensures ∙ c.if-not-is_marked.false in
      let e = ap (λ i. i.size) c.item_like_word-place.ensures.item in
      let P : ℕ → Type 0 = λ n. IsMarkedRun c.args.types.now c.args.heap.now c.args.k (c.loop-place.place + n) last in
      subst P (sym e) (run_on c.args.types.now c.args.heap.now c.args.k c.loop-place.place last
      (c.loop-place.invariant.run last run) less on);
}

pub returns-then-not-is_marked : goal.returns-then-not-is_marked
returns-then-not-is_marked c =
    let end = ap (λ (s : SegInfo). s.end) c.info-end.ensures.value in
    let l = c.loop-place-test.true in
    let less : c.loop-place.place < last_of c.args.heap.now c.args.k = omega (arith, end, l) in
    let off : has_mark (word_of c.args.heap.now c.loop-place.place) ≡ false =
    ap has_mark (sym c.word_at-mt.ensures) ∙ sym c.is_marked.ensures ∙ c.if-not-is_marked.true in
    record {
      end = λ last run. run_stops c.args.types.now c.args.heap.now c.args.k c.loop-place.place last
          (c.loop-place.invariant.run last run) less off;
    }

pub returns : goal.returns
returns c =
    let end = ap (λ (s : SegInfo). s.end) c.info-end.ensures.value in
    let l = c.loop-place-test.false in
    record {
      end = λ last run. run_done c.args.types.now c.args.heap.now c.args.k c.loop-place.place last
          (c.loop-place.invariant.run last run) (omega (arith, end, l));
    }
