use Rattle.std.proofs.Common.{ℕ, ◌+◌, Some, arith, inr, sym, ap, ◌∙◌, ◌≡◌, subst}
use Rattle.clr_types.specs.declared.segment.SegInfo.{SegInfo}
use Rattle.clr_types.specs.declared.item.Item.{Item}
use Rattle.clr_heap.specs.View.{CanWalk, item_with_place, items_between, last_of, sight}
use Rattle.clr_heap.proofs.ItemHeads.{head-in}
use Rattle.clr_heap.proofs.Walking.{walk_hole, walk_item}
use Rattle.clr_generations.proofs.FoundItems.{item-here, item-past, none-past}
use Rattle.clr_generations.proofs.finding.item_from.Goals as goal

pub loop-place-preserved-in-Some : goal.loop-place-preserved-in-Some
loop-place-preserved-in-Some c =
    let step = walk_hole (sight c.args.types.now c.args.heap.now c.args.k) c.args.heap.now.memories c.loop-place.place
    c.in-Some.high c.info-end.result.end c.loop-place.invariant.walk c.loop-place-test.true
    (sym c.hole_here.ensures.hole ∙ c.in-Some.is) in
    record {
      walk = step.walk;
      found = ap (λ items. item_with_place items c.args.a) (sym step.items) ∙ c.loop-place.invariant.found;
      clear = λ q l. let up = step.higher in c.hole_here.ensures.clear q (omega (arith, up, l));
      known = c.loop-place.invariant.known;
      low = let up = step.higher in let low = c.loop-place.invariant.low in omega (arith, up, low);
    }

pub item_like_in-found-requires : goal.item_like_in-found-requires
item_like_in-found-requires c =
    let step = walk_item (sight c.args.types.now c.args.heap.now c.args.k) c.args.heap.now.memories c.loop-place.place
    c.info-end.result.end c.loop-place.invariant.walk c.loop-place-test.true
    (sym c.hole_here.ensures.hole ∙ c.in-None.is) in
    let last : c.info-end.result.end ≡ last_of c.args.heap.now c.args.k =
    ap (λ (s : SegInfo). s.end) c.info-end.ensures.value in
    let head = head-in c.args.types.now c.args.heap.now c.args.k c.loop-place.place c.info-end.result.end
    c.info-end.ensures.heap c.requires.in_range c.loop-place.invariant.low (omega (arith, last)) step in
    record {
      item = record { names = step.names; mt = step.mt; len = step.len };
      segment = head.segment;
      behind = head.behind;
      room = head.room;
      known = c.loop-place.invariant.known;
    }

pub returns-then-place-a-2 : goal.returns-then-place-a-2
returns-then-place-a-2 c =
    let s = sight c.args.types.now c.args.heap.now c.args.k in
    let last = ap (λ (s : SegInfo). s.end) c.info-end.ensures.value in
    let here = item-here s c.args.heap.now.memories c.loop-place.place c.info-end.result.end c.args.a
    c.loop-place.invariant.walk c.loop-place-test.true (sym c.hole_here.ensures.hole ∙ c.in-None.is)
    c.if-place-a-2.true in
    ap (λ (i : Item). Some i) c.item_like_in-found.ensures.item ∙ sym here ∙ c.loop-place.invariant.found
    ∙ ap (λ (n : ℕ). item_with_place (items_between s c.args.start n) c.args.a) last

pub loop-place-preserved : goal.loop-place-preserved
loop-place-preserved c =
    let s = sight c.args.types.now c.args.heap.now c.args.k in
    let none = sym c.hole_here.ensures.hole ∙ c.in-None.is in
    let step = walk_item s c.args.heap.now.memories c.loop-place.place c.info-end.result.end
    c.loop-place.invariant.walk c.loop-place-test.true none in
    let past = item-past s c.args.heap.now.memories c.loop-place.place c.info-end.result.end c.args.a
    c.loop-place.invariant.walk c.loop-place-test.true none c.if-place-a-2.false in
    let size = ap (λ (i : Item). c.loop-place.place + i.size) c.item_like_in-found.ensures.item in
    record {
      walk = subst (λ n. CanWalk s c.args.heap.now.memories n c.info-end.result.end) (sym size) step.walk;
      found = ap (λ (n : ℕ). item_with_place (items_between s n c.info-end.result.end) c.args.a) size
          ∙ past ∙ c.loop-place.invariant.found;
      clear = λ q l. c.hole_here.ensures.clear q (omega (arith, l));
      known = c.item_like_in-found.ensures.known;
      low = let low = c.loop-place.invariant.low in omega (arith, low);
    }

pub returns-else-place-a : goal.returns-else-place-a
returns-else-place-a c =
    let s = sight c.args.types.now c.args.heap.now c.args.k in
    let last = ap (λ (s : SegInfo). s.end) c.info-end.ensures.value in
    let none = none-past s c.args.heap.now.memories c.loop-place.place c.info-end.result.end c.args.a
    c.loop-place.invariant.walk (inr c.if-place-a.false) in
    sym none ∙ c.loop-place.invariant.found
    ∙ ap (λ (n : ℕ). item_with_place (items_between s c.args.start n) c.args.a) last
