use Rattle.std.proofs.Common.{ℕ, ◌+◌, ◌<◌, ◌≤◌, ap, arith, sym, ◌∙◌, subst}
use Rattle.clr_types.specs.declared.item.Item.{Item}
use Rattle.clr_types.specs.declared.segment.SegInfo.{SegInfo}
use Rattle.clr_heap.specs.View.{last_of}
use Rattle.clr_sweep.proofs.CountedParts.{can_count, CanCount, up_to}
use Rattle.clr_sweep.proofs.DeadKinds.{dead-size, known_kind}
use Rattle.clr_sweep.proofs.KeptSizes.{IsStop, IsSumming, summing_ends, summing_goes_on, summing_over}
use Rattle.clr_sweep.proofs.PassEnds.{home_is}
use Rattle.clr_sweep.proofs.Passing.{IsHome}
use Rattle.clr_sweep.proofs.bytes.part_bytes.Goals as goal

below : (c : goal.In-loop-place) → c.loop-place.place < last_of c.args.heap.now c.args.k
below c =
    let most = c.loop-place.invariant.1.0 in
    let l = c.loop-place-test.true in
    omega (arith, most, l)

home : (c : goal.In-loop-place) → IsHome c.args.types.now c.args.heap.now c.args.k c.args.from
    (last_of c.args.heap.now c.args.k)
home c = home_is c.args.types.now c.args.heap.now c.args.k c.info-end.ensures.heap c.args.from c.requires.in_range
    c.requires.parted c.requires.no_contexts

can : (c : goal.In-loop-place) → CanCount c.args.types.now c.args.heap.now c.args.k c.args.from
    (last_of c.args.heap.now c.args.k) c.loop-place.place (home c) c.loop-place.invariant.0.low
    c.loop-place.invariant.0.walk
can c = can_count c.args.types.now c.args.heap.now c.args.k c.args.from (last_of c.args.heap.now c.args.k)
    c.loop-place.place (home c) c.loop-place.invariant.0.low c.loop-place.invariant.0.walk (below c)

pub stop_of-stop-requires : goal.stop_of-stop-requires
stop_of-stop-requires c =
    let end = ap (λ (s : SegInfo). s.end) c.info-end.ensures.value in
    let there = home_is c.args.types.now c.args.heap.now c.args.k c.info-end.ensures.heap c.args.from
    c.requires.in_range c.requires.parted c.requires.no_contexts in
    let high = there.high in
    let up = up_to c.args.types.now c.args.heap.now c.args.k c.args.from (last_of c.args.heap.now c.args.k) c.args.from
    there (omega arith) c.requires.parted.above in
    let before = c.requires.fits in
    let ahead = c.requires.ahead in
    omega (arith, end, high, up, before, ahead)

pub word_at-mt-requires-clause-word : goal.word_at-mt-requires-clause-word
word_at-mt-requires-clause-word c = (can c).item.mt

pub word_at-mt-requires-clause-segment : goal.word_at-mt-requires-clause-segment
word_at-mt-requires-clause-segment c = (can c).mt_in

pub overflow_add-place : goal.overflow_add-place
overflow_add-place c =
    let kind = known_kind c.args.types.now c.loop-place.known c.word_at-mt.result c.in-Some.size
    c.loop-place.invariant.2 (sym c.in-Some.is ∙ c.dead_size.ensures) in
    let size = dead-size c.args.types.now c.args.heap.now c.loop-place.place c.word_at-mt.result c.in-Some.size kind
    c.word_at-mt.ensures in
    let fits = (can c.before.before.before).fits in
    omega (arith, size, fits)

pub loop-place-smaller-in-Some : goal.loop-place-smaller-in-Some
loop-place-smaller-in-Some c =
    let kind = known_kind c.args.types.now c.loop-place.known c.word_at-mt.result c.in-Some.size
    c.loop-place.invariant.2 (sym c.in-Some.is ∙ c.dead_size.ensures) in
    let size = dead-size c.args.types.now c.args.heap.now c.loop-place.place c.word_at-mt.result c.in-Some.size kind
    c.word_at-mt.ensures in
    let least = (can c.before.before.before).least in
    let l = below c.before.before.before in
    let end = ap (λ (s : SegInfo). s.end) c.info-end.ensures.value in
    omega (arith, size, least, l, end)

pub loop-place-preserved-in-Some : goal.loop-place-preserved-in-Some
loop-place-preserved-in-Some c =
    let kind = known_kind c.args.types.now c.loop-place.known c.word_at-mt.result c.in-Some.size
    c.loop-place.invariant.2 (sym c.in-Some.is ∙ c.dead_size.ensures) in (
      summing_over c.args.types.now c.args.heap.now c.args.k c.args.from (last_of c.args.heap.now c.args.k)
          c.loop-place.place c.args.before c.loop-place.bytes (home c.before.before.before)
          c.loop-place.invariant.0 (below c.before.before.before) c.word_at-mt.result c.in-Some.size kind
          c.word_at-mt.ensures,
      c.loop-place.invariant.1,
      c.loop-place.invariant.2,
    )

pub item_and_kind-found-requires-clause-item : goal.item_and_kind-found-requires-clause-item
item_and_kind-found-requires-clause-item c = (can c.before.before.before.before).item

pub item_and_kind-found-requires-clause-segment : goal.item_and_kind-found-requires-clause-segment
item_and_kind-found-requires-clause-segment c = (can c.before.before.before.before).len_in

pub with_item-bytes-requires : goal.with_item-bytes-requires
with_item-bytes-requires c =
    let size = ap (λ (i : Item). i.size) c.item_and_kind-found.ensures.item in
    let fits = (can c.before.before.before.before.before).fits in
    let under = c.loop-place.invariant.0.under in
    record { room = omega (arith, size, fits, under) }

-- what is added with the item that was met
next : (c : goal.After-with_item-bytes) → IsSumming c.args.types.now c.args.heap.now c.args.k c.args.from
    (last_of c.args.heap.now c.args.k) (c.loop-place.place + c.item_and_kind-found.result.size) c.args.before
    c.with_item-bytes.result
next c =
    let rows = c.args.types.now in
    let h = c.args.heap.now in
    let e = last_of h c.args.k in
    subst (λ (n : ℕ). IsSumming rows h c.args.k c.args.from e (c.loop-place.place + c.item_and_kind-found.result.size)
    c.args.before n) (sym c.with_item-bytes.ensures)
    (summing_goes_on rows h c.args.k c.args.from e c.loop-place.place c.args.before c.loop-place.bytes
    (home c.before.before.before.before.before.before) c.loop-place.invariant.0
    (below c.before.before.before.before.before.before) c.item_and_kind-found.result c.word_at-mt.result
    c.item_and_kind-found.ensures.item c.word_at-mt.ensures)

ended : (c : goal.After-with_item-bytes) → c.loop-place.place + c.item_and_kind-found.result.size
    ≤ last_of c.args.heap.now c.args.k
ended c =
    let n = next c in
    up_to c.args.types.now c.args.heap.now c.args.k c.args.from (last_of c.args.heap.now c.args.k)
    (c.loop-place.place + c.item_and_kind-found.result.size) (home c.before.before.before.before.before.before) n.low
    n.walk

pub stop_of-stop-requires-in_default : goal.stop_of-stop-requires-in_default
stop_of-stop-requires-in_default c =
    let end = ap (λ (s : SegInfo). s.end) c.info-end.ensures.value in
    let high = (home c.before.before.before.before.before.before).high in
    let under = (next c).under in
    let most = ended c in
    let ahead = c.requires.ahead in
    omega (arith, end, high, under, most, ahead)

pub overflow_add-place-in_default : goal.overflow_add-place-in_default
overflow_add-place-in_default c =
    let most = ended c.before.before in
    let high = (home c.before.before.before.before.before.before.before.before).high in
    omega (arith, most, high)

pub loop-place-smaller : goal.loop-place-smaller
loop-place-smaller c =
    let size = ap (λ (i : Item). i.size) c.item_and_kind-found.ensures.item in
    let least = (can c.before.before.before.before.before.before.before.before).least in
    let l = below c.before.before.before.before.before.before.before.before in
    let end = ap (λ (s : SegInfo). s.end) c.info-end.ensures.value in
    omega (arith, size, least, l, end)

pub loop-place-preserved : goal.loop-place-preserved
loop-place-preserved c =
    let end = ap (λ (s : SegInfo). s.end) c.info-end.ensures.value in (
      next c.before.before,
      subst (λ (n : ℕ). IsStop n c.args.need c.args.ahead c.with_item-bytes.result c.stop_of-stop-in_default.result) end
          (c.stop_of-stop-in_default.ensures.within, c.stop_of-stop-in_default.ensures.settled),
      c.item_and_kind-found.ensures.known,
    )

pub returns-clause-weighed : goal.returns-clause-weighed
returns-clause-weighed c =
    let there = home_is c.args.types.now c.args.heap.now c.args.k c.info-end.ensures.heap c.args.from
    c.requires.in_range c.requires.parted c.requires.no_contexts in
    let past = c.loop-place-test.false in
    summing_ends c.args.types.now c.args.heap.now c.args.k c.args.from (last_of c.args.heap.now c.args.k)
    c.loop-place.place c.args.before c.loop-place.bytes there c.loop-place.invariant.0 c.args.need c.args.ahead
    c.loop-place.stop c.loop-place.invariant.1 (omega (arith, past))
