use Rattle.std.proofs.Common.{◌≡◌, ℕ, ◌<◌, ap, subst, arith}
use Rattle.clr_types.specs.declared.segment.SegInfo.{SegInfo}
use Rattle.clr_heap.specs.Parts.{item_at}
use Rattle.clr_heap.specs.View.{first_of, last_of, word_of}
use Rattle.clr_heap.proofs.Rewrite.{shaped_heap}
use Rattle.clr_evacuate.specs.Forwarding.{IsBetween, IsForwarded}
use Rattle.clr_evacuate.proofs.Loops.{item_done, next_named}
use Rattle.clr_evacuate.proofs.Stages.{forwarded_cards, forwarded_none}
use Rattle.clr_evacuate.proofs.Walks.{can_read, past_item, walking_starts, whole_segment}
use Rattle.clr_evacuate.proofs.slots.forward_segment.Goals as goal

pub loop-place-init : goal.loop-place-init
loop-place-init c =
    let rows = c.args.types.now in
    let h = c.args.heap.now in
    let k = c.args.k in
    rw c.info-segment.ensures.value (record {
      walking = walking_starts rows h k c.requires.heap c.requires.held c.requires.in_range;
      forwarded = forwarded_none rows h c.args.cards.now (λ a. IsBetween (first_of h k) (first_of h k) a)
          c.requires.held (λ a r b. let low = b.0 in let high = b.1 in omega (arith, low, high));
    })

pub forward_item-place-requires : goal.forward_item-place-requires
forward_item-place-requires c =
    let f = c.loop-place.invariant.forwarded in
    let w = c.loop-place.invariant.walking in
    let rows = c.args.types.now in
    let h = c.args.heap.now in
    let now = c.loop-place.heap in
    let k = c.args.k in
    let p = c.loop-place.place in
    let last = ap (λ (s : SegInfo). s.end) c.info-segment.ensures.value in
    let test = c.loop-place-test.true in
    let below : p < last_of h k = omega (arith, test, last) in
    let can = can_read rows h now k p c.requires.heap c.requires.held c.requires.in_range c.requires.no_contexts f.shape
    f.held f.items w below in
    let least = can.least in
    let within = can.within in
    let end = can.end in
    record {
      heap = shaped_heap h now f.shape c.requires.heap;
      held = f.held;
      head = can.head;
      listed = can.listed;
      mt_in = can.mt_in;
      len_in = can.len_in;
      room = omega (arith, least, within, end);
      named = next_named rows h now c.args.cards.now c.loop-place.cards k p c.requires.heap c.requires.held w f
          (item_at rows (word_of now) p).size within c.requires.named;
      cards = forwarded_cards rows h now c.args.cards.now c.loop-place.cards (λ a. IsBetween (first_of h k) p a)
          c.requires.heap c.requires.held f c.requires.cards;
    }

pub overflow_add-place-in-loop-place : goal.overflow_add-place-in-loop-place
overflow_add-place-in-loop-place c =
    let f = c.loop-place.invariant.forwarded in
    let w = c.loop-place.invariant.walking in
    let rows = c.args.types.now in
    let h = c.args.heap.now in
    let now = c.loop-place.heap in
    let k = c.args.k in
    let p = c.loop-place.place in
    let last = ap (λ (s : SegInfo). s.end) c.info-segment.ensures.value in
    let test = c.loop-place-test.true in
    let below : p < last_of h k = omega (arith, test, last) in
    let can = can_read rows h now k p c.requires.heap c.requires.held c.requires.in_range c.requires.no_contexts f.shape
    f.held f.items w below in
    let within = can.within in
    let end = can.end in
    rw c.forward_item-place.ensures.size (omega (arith, within, end))

pub loop-place-smaller : goal.loop-place-smaller
loop-place-smaller c =
    let f = c.loop-place.invariant.forwarded in
    let w = c.loop-place.invariant.walking in
    let rows = c.args.types.now in
    let h = c.args.heap.now in
    let now = c.loop-place.heap in
    let k = c.args.k in
    let p = c.loop-place.place in
    let last = ap (λ (s : SegInfo). s.end) c.info-segment.ensures.value in
    let test = c.loop-place-test.true in
    let below : p < last_of h k = omega (arith, test, last) in
    let can = can_read rows h now k p c.requires.heap c.requires.held c.requires.in_range c.requires.no_contexts f.shape
    f.held f.items w below in
    let least = can.least in
    rw c.forward_item-place.ensures.size (omega (arith, least, test))

pub loop-place-preserved : goal.loop-place-preserved
loop-place-preserved c =
    let f = c.loop-place.invariant.forwarded in
    let w = c.loop-place.invariant.walking in
    let rows = c.args.types.now in
    let h = c.args.heap.now in
    let now = c.loop-place.heap in
    let k = c.args.k in
    let p = c.loop-place.place in
    let last = ap (λ (s : SegInfo). s.end) c.info-segment.ensures.value in
    let test = c.loop-place-test.true in
    let below : p < last_of h k = omega (arith, test, last) in
    rw c.forward_item-place.ensures.size (record {
      walking = past_item rows h now k p (last_of h k) c.requires.heap c.requires.held c.requires.in_range f.shape
          f.held f.items w below (whole_segment h now k p c.requires.no_contexts f.shape);
      forwarded = item_done rows h now c.args.cards.now c.loop-place.cards k p c.requires.heap c.requires.held w f
          (item_at rows (word_of now) p).size c.forward_item-place.new.heap c.forward_item-place.new.cards
          c.forward_item-place.ensures.forwarded;
    })

pub returns : goal.returns
returns c =
    let h = c.args.heap.now in
    let k = c.args.k in
    let past = c.loop-place-test.false in
    let within = c.loop-place.invariant.walking.within in
    let last = ap (λ (s : SegInfo). s.end) c.info-segment.ensures.value in
    let end : c.loop-place.place ≡ last_of h k = omega (arith, past, within, last) in
    subst (λ (q : ℕ). IsForwarded c.args.types.now h c.loop-place.heap c.args.cards.now c.loop-place.cards
    (λ a. IsBetween (first_of h k) q a)) end c.loop-place.invariant.forwarded
