use Rattle.std.proofs.Common.{◌+◌, ◌<◌, length, ap, ◌∙◌, arith}
use Rattle.clr_heap.specs.View.{HeapView}
use Rattle.clr_heap.proofs.Rewrite.{shaped_heap}
use Rattle.clr_mark.proofs.Remarking.{same_segments}
use Rattle.clr_evacuate.proofs.BricksAfter.{bricks_kept}
use Rattle.clr_evacuate.proofs.ForwardedObjects.{cards_told, objects_gone}
use Rattle.clr_evacuate.proofs.Loops.{all_first, IsInFirst, references_named, segment_done, segment_named}
use Rattle.clr_evacuate.proofs.Loops.{segments_start}
use Rattle.clr_evacuate.proofs.Stages.{forwarded_cards, forwards_stay, has_stayed}
use Rattle.clr_evacuate.proofs.slots.forward_slots.Goals as goal

pub loop-k-init : goal.loop-k-init
loop-k-init c = segments_start c.args.types.now c.args.heap.now c.args.cards.now c.requires.held

pub forward_segment-requires : goal.forward_segment-requires
forward_segment-requires c =
    let rows = c.args.types.now in
    let h = c.args.heap.now in
    let f = c.loop-k.invariant in
    let heap = c.segments-count.ensures.heap in
    let inside : c.loop-k.k < length h.segments = omega (arith, c.segments-count.ensures.count) in
    record {
      heap = shaped_heap h c.loop-k.heap f.shape heap;
      held = f.held;
      no_contexts = ap (λ (g : HeapView). g.rests) f.shape.others ∙ c.requires.no_contexts;
      in_range = (let same = same_segments h c.loop-k.heap f.shape in omega (arith, same, inside));
      named = segment_named rows h c.loop-k.heap c.args.cards.now c.loop-k.cards c.loop-k.k heap c.requires.held inside
          f
          (references_named rows h (λ a. IsInFirst h (c.loop-k.k + 1) a) heap c.requires.held c.requires.named);
      cards = forwarded_cards rows h c.loop-k.heap c.args.cards.now c.loop-k.cards (λ a. IsInFirst h c.loop-k.k a) heap
          c.requires.held f c.requires.cards;
    }

pub loop-k-preserved : goal.loop-k-preserved
loop-k-preserved c =
    segment_done c.args.types.now c.args.heap.now c.loop-k.heap c.args.cards.now c.loop-k.cards c.loop-k.k
    c.segments-count.ensures.heap c.requires.held (omega (arith, c.segments-count.ensures.count)) c.loop-k.invariant
    c.forward_segment.new.heap c.forward_segment.new.cards c.forward_segment.ensures

pub returns-clause-objects : goal.returns-clause-objects
returns-clause-objects c =
    let rows = c.args.types.now in
    let h = c.args.heap.now in
    let heap = c.segments-count.ensures.heap in
    objects_gone rows h c.loop-k.heap c.args.cards.now c.loop-k.cards (λ a. IsInFirst h c.loop-k.k a) heap
    c.requires.held c.loop-k.invariant
    (all_first rows h c.loop-k.k heap c.requires.held (omega (arith, c.segments-count.ensures.count)))

pub returns-clause-stayed : goal.returns-clause-stayed
returns-clause-stayed c =
    let h = c.args.heap.now in
    has_stayed c.args.types.now h c.loop-k.heap c.args.cards.now c.loop-k.cards (λ a. IsInFirst h c.loop-k.k a)
    c.segments-count.ensures.heap c.requires.held c.loop-k.invariant

pub returns-clause-forwards : goal.returns-clause-forwards
returns-clause-forwards c =
    let h = c.args.heap.now in
    forwards_stay c.args.types.now h c.loop-k.heap c.args.cards.now c.loop-k.cards (λ a. IsInFirst h c.loop-k.k a)
    c.segments-count.ensures.heap c.requires.held c.loop-k.invariant

pub returns-clause-cards : goal.returns-clause-cards
returns-clause-cards c =
    let h = c.args.heap.now in
    forwarded_cards c.args.types.now h c.loop-k.heap c.args.cards.now c.loop-k.cards (λ a. IsInFirst h c.loop-k.k a)
    c.segments-count.ensures.heap c.requires.held c.loop-k.invariant c.requires.cards

pub returns-clause-card_law : goal.returns-clause-card_law
returns-clause-card_law c =
    let rows = c.args.types.now in
    let h = c.args.heap.now in
    let heap = c.segments-count.ensures.heap in
    cards_told rows h c.loop-k.heap c.args.cards.now c.loop-k.cards (λ a. IsInFirst h c.loop-k.k a) heap
    c.requires.held c.loop-k.invariant
    (all_first rows h c.loop-k.k heap c.requires.held (omega (arith, c.segments-count.ensures.count)))

pub returns-clause-brick_law : goal.returns-clause-brick_law
returns-clause-brick_law c =
    let f = c.loop-k.invariant in
    bricks_kept c.args.types.now c.args.heap.now c.loop-k.heap f.shape f.items
