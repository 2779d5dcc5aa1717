use Rattle.std.proofs.Common.{ℕ, ◌+◌, ◌<◌, ◌≤◌, sym, subst, arith}
use Rattle.clr_heap.specs.Parts.{item_at}
use Rattle.clr_heap.specs.View.{last_of, word_of}
use Rattle.clr_heap.proofs.Rewrite.{shaped_heap}
use Rattle.clr_evacuate.proofs.ClearingLoops.{can_clear, clearing_on, clearing_starts, IsClearing}
use Rattle.clr_evacuate.proofs.clearing.clear_between.Goals as goal

pub loop-place-init : goal.loop-place-init
loop-place-init c =
    clearing_starts c.args.types.now c.args.heap.now c.args.k c.args.from c.requires.heap c.requires.held
    c.requires.in_range c.requires.no_contexts c.requires.border

pub clear_item-place-requires : goal.clear_item-place-requires
clear_item-place-requires c =
    let test = c.loop-place-test.true in
    let most = c.requires.within in
    let below : c.loop-place.place < last_of c.args.heap.now c.args.k = omega (arith, test, most) in
    let can = can_clear c.args.types.now c.args.heap.now c.loop-place.heap c.args.k c.args.from c.loop-place.place
    c.requires.heap c.requires.held c.requires.in_range c.requires.no_contexts c.loop-place.invariant below in
    let least = can.least in
    let within = can.within in
    let end = can.end in
    record {
      heap = shaped_heap c.args.heap.now c.loop-place.heap c.loop-place.invariant.cleared.shape c.requires.heap;
      held = c.loop-place.invariant.cleared.held;
      head = can.head;
      listed = can.listed;
      mt_in = can.mt_in;
      len_in = can.len_in;
      room = omega (arith, least, within, end);
    }

pub overflow_add-place : goal.overflow_add-place
overflow_add-place c =
    let test = c.loop-place-test.true in
    let most = c.requires.within in
    let below : c.loop-place.place < last_of c.args.heap.now c.args.k = omega (arith, test, most) in
    let can = can_clear c.args.types.now c.args.heap.now c.loop-place.heap c.args.k c.args.from c.loop-place.place
    c.requires.heap c.requires.held c.requires.in_range c.requires.no_contexts c.loop-place.invariant below in
    let within = can.within in
    let end = can.end in
    let size = c.clear_item-place.ensures.size in
    omega (arith, within, end, size)

pub loop-place-smaller : goal.loop-place-smaller
loop-place-smaller c =
    let test = c.loop-place-test.true in
    let most = c.requires.within in
    let below : c.loop-place.place < last_of c.args.heap.now c.args.k = omega (arith, test, most) in
    let can = can_clear c.args.types.now c.args.heap.now c.loop-place.heap c.args.k c.args.from c.loop-place.place
    c.requires.heap c.requires.held c.requires.in_range c.requires.no_contexts c.loop-place.invariant below in
    let least = can.least in
    let size = c.clear_item-place.ensures.size in
    omega (arith, least, size, test)

pub loop-place-preserved : goal.loop-place-preserved
loop-place-preserved c =
    let rows = c.args.types.now in
    let h = c.args.heap.now in
    let now = c.loop-place.heap in
    let p = c.loop-place.place in
    let test = c.loop-place-test.true in
    let most = c.requires.within in
    let below : p < last_of h c.args.k = omega (arith, test, most) in
    subst (λ (n : ℕ). IsClearing rows h c.clear_item-place.new.heap c.args.k c.args.from (p + n))
    (sym c.clear_item-place.ensures.size)
    (clearing_on rows h now c.args.k c.args.from p c.requires.heap c.requires.held c.requires.in_range
    c.requires.no_contexts c.loop-place.invariant below c.clear_item-place.new.heap c.clear_item-place.ensures.cleared)

pub returns : goal.returns
returns c =
    let past = c.loop-place-test.false in
    (c.loop-place.place, omega (arith, past), c.loop-place.invariant.cleared)
