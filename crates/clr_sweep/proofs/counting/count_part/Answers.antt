use Rattle.std.proofs.Common.{◌≡◌, ℕ, ◌+◌, ◌<◌, ap, arith, sym, ◌∙◌, subst}
use Rattle.clr_types.specs.declared.item.Item.{Item}
use Rattle.clr_types.specs.declared.segment.SegInfo.{SegInfo}
use Rattle.clr_heap.specs.Parts.{item_at}
use Rattle.clr_heap.specs.View.{last_of, word_of}
use Rattle.clr_heap.proofs.Spelling.{place-item_at}
use Rattle.clr_sweep.specs.Dead.{IsDeadKind}
use Rattle.clr_sweep.specs.Passes.{IsAtMost, item_tally, plus}
use Rattle.clr_sweep.specs.declared.tally.Tally.{Tally}
use Rattle.clr_sweep.proofs.CountedParts.{can_count, CanCount, counting_ends, counting_goes_on, counting_starts}
use Rattle.clr_sweep.proofs.CountedParts.{ends_counted, IsCounting}
use Rattle.clr_sweep.proofs.DeadKinds.{counting_over, dead-size, known_kind}
use Rattle.clr_sweep.proofs.PassEnds.{home_is}
use Rattle.clr_sweep.proofs.counting.count_part.Goals as goal

below : (c : goal.In-loop-place) → c.loop-place.place < last_of c.args.heap.now c.args.k
below c =
    let end = ap (λ (s : SegInfo). s.end) c.info-end.ensures.value in
    let l = c.loop-place-test.true in
    omega (arith, end, l)

can : (c : goal.In-loop-place) → CanCount c.args.types.now c.args.heap.now c.args.k c.args.from
    (last_of c.args.heap.now c.args.k) c.loop-place.place
    (home_is c.args.types.now c.args.heap.now c.args.k c.info-end.ensures.heap c.args.from c.requires.in_range
    c.requires.parted c.requires.no_contexts) c.loop-place.invariant.0.low c.loop-place.invariant.0.walk
can c = can_count c.args.types.now c.args.heap.now c.args.k c.args.from
    (last_of c.args.heap.now c.args.k) c.loop-place.place
    (home_is c.args.types.now c.args.heap.now c.args.k c.info-end.ensures.heap c.args.from c.requires.in_range
    c.requires.parted c.requires.no_contexts) c.loop-place.invariant.0.low c.loop-place.invariant.0.walk (below c)

pub loop-place-init : goal.loop-place-init
loop-place-init c = (
  counting_starts c.args.types.now c.args.heap.now c.args.k c.args.from (last_of c.args.heap.now c.args.k)
      c.args.before
      (home_is c.args.types.now c.args.heap.now c.args.k c.info-end.ensures.heap c.args.from c.requires.in_range
      c.requires.parted c.requires.no_contexts) c.requires.counted,
  tt,
)

pub word_at-mt-requires-clause-word : goal.word_at-mt-requires-clause-word
word_at-mt-requires-clause-word c = (can c).item.mt

pub word_at-mt-requires-clause-segment : goal.word_at-mt-requires-clause-segment
word_at-mt-requires-clause-segment c = (can c).mt_in

-- the word of the item is that of the known kind
dead : (c : goal.After-struct_known-1)
    → IsDeadKind c.args.types.now (record { mt = c.word_at-mt.result; size = c.in-Some.size })
dead c = known_kind c.args.types.now c.loop-place.known c.word_at-mt.result c.in-Some.size c.loop-place.invariant.1
    (sym c.in-Some.is ∙ c.dead_size.ensures)

sized : (c : goal.After-struct_known-1)
    → c.in-Some.size ≡ (item_at c.args.types.now (word_of c.args.heap.now) c.loop-place.place).size
sized c = dead-size c.args.types.now c.args.heap.now c.loop-place.place c.word_at-mt.result c.in-Some.size (dead c)
    c.word_at-mt.ensures

pub overflow_add-place : goal.overflow_add-place
overflow_add-place c =
    let size = sized c in
    let fits = (can c.before.before.before.before).fits in
    omega (arith, size, fits)

pub loop-place-smaller-in-Some : goal.loop-place-smaller-in-Some
loop-place-smaller-in-Some c =
    let size = sized c in
    let least = (can c.before.before.before.before).least in
    let l = c.loop-place-test.true in
    omega (arith, size, least, l)

pub loop-place-preserved-in-Some : goal.loop-place-preserved-in-Some
loop-place-preserved-in-Some c = (
  counting_over c.args.types.now c.args.heap.now c.args.k c.args.from (last_of c.args.heap.now c.args.k)
      c.loop-place.place c.args.before c.loop-place.tally
      (home_is c.args.types.now c.args.heap.now c.args.k c.info-end.ensures.heap c.args.from c.requires.in_range
      c.requires.parted c.requires.no_contexts) c.loop-place.invariant.0 (below c.before.before.before.before)
      c.word_at-mt.result c.in-Some.size (dead c) c.word_at-mt.ensures,
  c.loop-place.invariant.1,
)

pub item_and_kind-found-requires-clause-item : goal.item_and_kind-found-requires-clause-item
item_and_kind-found-requires-clause-item c = (can c.before.before.before.before).item

pub item_and_kind-found-requires-clause-segment : goal.item_and_kind-found-requires-clause-segment
item_and_kind-found-requires-clause-segment c = (can c.before.before.before.before).len_in

pub with_item-tally-requires-clause-mt : goal.with_item-tally-requires-clause-mt
with_item-tally-requires-clause-mt c =
    let place = place-item_at c.args.types.now (word_of c.args.heap.now) c.loop-place.place in
    c.word_at-mt.ensures
    ∙ ap (word_of c.args.heap.now) (sym (ap (λ (i : Item). i.place) c.item_and_kind-found.ensures.item ∙ place))

pub with_item-tally-requires-clause-room : goal.with_item-tally-requires-clause-room
with_item-tally-requires-clause-room c =
    let place = place-item_at c.args.types.now (word_of c.args.heap.now) c.loop-place.place in
    let at = ap (λ (i : Item). i.place) c.item_and_kind-found.ensures.item ∙ place in
    let size = ap (λ (i : Item). i.size) c.item_and_kind-found.ensures.item in
    let fits = (can c.before.before.before.before.before).fits in
    omega (arith, at, size, fits)

pub with_item-tally-requires-clause-least : goal.with_item-tally-requires-clause-least
with_item-tally-requires-clause-least c =
    let size = ap (λ (i : Item). i.size) c.item_and_kind-found.ensures.item in
    let least = (can c.before.before.before.before.before).least in
    omega (arith, size, least)

pub with_item-tally-requires-clause-counted : goal.with_item-tally-requires-clause-counted
with_item-tally-requires-clause-counted c =
    let place = place-item_at c.args.types.now (word_of c.args.heap.now) c.loop-place.place in
    subst (IsAtMost c.loop-place.tally) (sym (ap (λ (i : Item). i.place) c.item_and_kind-found.ensures.item ∙ place))
    c.loop-place.invariant.0.counted

pub loop-place-smaller : goal.loop-place-smaller
loop-place-smaller c =
    let size = ap (λ (i : Item). i.size) c.item_and_kind-found.ensures.item in
    let least = (can c.before.before.before.before.before.before.before).least in
    let l = c.loop-place-test.true in
    omega (arith, size, least, l)

pub loop-place-preserved : goal.loop-place-preserved
loop-place-preserved c =
    let rows = c.args.types.now in
    let h = c.args.heap.now in
    let e = last_of h c.args.k in
    let home = home_is rows h c.args.k c.info-end.ensures.heap c.args.from c.requires.in_range c.requires.parted
    c.requires.no_contexts in
    let on = counting_goes_on rows h c.args.k c.args.from e c.loop-place.place c.args.before c.loop-place.tally home
    c.loop-place.invariant.0 (below c.before.before.before.before.before.before.before) in
    let size = ap (λ (i : Item). i.size) c.item_and_kind-found.ensures.item in (
      subst (λ (n : ℕ). IsCounting rows h c.args.k c.args.from e (c.loop-place.place + n) c.args.before
          c.with_item-tally.result) (sym size)
          (subst (λ (t : Tally). IsCounting rows h c.args.k c.args.from e
          (c.loop-place.place + (item_at rows (word_of h) c.loop-place.place).size) c.args.before t)
          (sym (c.with_item-tally.ensures
          ∙ ap (λ (i : Item). plus c.loop-place.tally (item_tally h i)) c.item_and_kind-found.ensures.item)) on),
      c.item_and_kind-found.ensures.known,
    )

pub returns-clause-tally : goal.returns-clause-tally
returns-clause-tally c =
    let end = ap (λ (s : SegInfo). s.end) c.info-end.ensures.value in
    let l = c.loop-place-test.false in
    counting_ends c.args.types.now c.args.heap.now c.args.k c.args.from (last_of c.args.heap.now c.args.k)
    c.loop-place.place c.args.before c.loop-place.tally
    (home_is c.args.types.now c.args.heap.now c.args.k c.info-end.ensures.heap c.args.from c.requires.in_range
    c.requires.parted c.requires.no_contexts) c.loop-place.invariant.0 (omega (arith, end, l))

pub returns-clause-counted : goal.returns-clause-counted
returns-clause-counted c =
    ends_counted c.args.types.now c.args.heap.now c.args.k c.args.from (last_of c.args.heap.now c.args.k)
    c.loop-place.place c.args.before c.loop-place.tally
    (home_is c.args.types.now c.args.heap.now c.args.k c.info-end.ensures.heap c.args.from c.requires.in_range
    c.requires.parted c.requires.no_contexts) c.loop-place.invariant.0
