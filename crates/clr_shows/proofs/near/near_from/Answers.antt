-- Part after part is passed over, up to the first item above the address.
use Rattle.std.proofs.Common.{ℕ, ◌+◌, ◌<◌, ◌≤◌, List, is_some, None, refl, sym, ap, ◌∙◌, ◌≡◌, subst, true, arith}
use Rattle.clr_types.specs.declared.segment.SegInfo.{SegInfo}
use Rattle.clr_types.specs.declared.item.Item.{Item}
use Rattle.clr_heap.specs.View.{CanWalk, items_between, last_of, sight, word_of}
use Rattle.clr_heap.proofs.ItemHeads.{head-in}
use Rattle.clr_heap.proofs.Spelling.{place-item_at}
use Rattle.clr_heap.proofs.Walking.{walk_done, walk_hole, walk_item}
use Rattle.clr_shows.specs.Near.{near_in}
use Rattle.clr_shows.specs.declared.near.Near.{Near}
use Rattle.clr_shows.proofs.NearItems.{joined, joined-ends, joined-starts}
use Rattle.clr_shows.proofs.NearWalks.{after-kept, at-past, fits-end, none-at, walk-ends, walk-on}
use Rattle.clr_shows.proofs.near.near_from.Goals as goal

pub item_like_in-found-requires : goal.item_like_in-found-requires
item_like_in-found-requires c =
    let step = walk_item (sight c.args.types.now c.args.heap.now c.args.k) c.args.heap.now.memories c.loop-place.place
    c.info-end.result.end c.loop-place.invariant.walk c.loop-place-test.true
    (sym c.hole_here.ensures.hole ∙ c.in-None.is) in
    let last : c.info-end.result.end ≡ last_of c.args.heap.now c.args.k =
    ap (λ (s : SegInfo). s.end) c.info-end.ensures.value in
    let head = head-in c.args.types.now c.args.heap.now c.args.k c.loop-place.place c.info-end.result.end
    c.info-end.ensures.heap c.requires.in_range c.loop-place.invariant.low (omega (arith, last)) step in
    record {
      item = record { names = step.names; mt = step.mt; len = step.len };
      segment = head.segment;
      behind = head.behind;
      room = head.room;
      known = c.loop-place.invariant.known;
    }

pub with_item-near-requires : goal.with_item-near-requires
with_item-near-requires c =
    let step = walk_item (sight c.args.types.now c.args.heap.now c.args.k) c.args.heap.now.memories c.loop-place.place
    c.info-end.result.end c.loop-place.invariant.walk c.loop-place-test.true
    (sym c.hole_here.ensures.hole ∙ c.in-None.is) in
    let place = ap (λ (i : Item). i.place) c.item_like_in-found.ensures.item
    ∙ place-item_at c.args.types.now (word_of c.args.heap.now) c.loop-place.place in
    let size = ap (λ (i : Item). i.size) c.item_like_in-found.ensures.item in
    let within = step.within in
    let end = fits-end c.args.heap.now c.args.k c.info-end.result.end
    (ap (λ (s : SegInfo). s.end) c.info-end.ensures.value) c.info-end.ensures.heap c.requires.in_range in
    omega (arith, place, size, within, end)

pub loop-place-init : goal.loop-place-init
loop-place-init c =
    let s = sight c.args.types.now c.args.heap.now c.args.k in
    record {
      walk = subst (λ (e : ℕ). CanWalk s c.args.heap.now.memories c.args.start e)
          (sym (ap (λ (s : SegInfo). s.end) c.info-end.ensures.value)) c.requires.walk;
      near = joined-starts (items_between s c.args.start c.info-end.result.end) c.args.a;
      after = refl;
      past = λ some. absurd cc;
      clear = λ q low high. absurd (omega (arith, low, high));
      known = c.none-known.ensures c.args.types.now;
      low = c.requires.low;
    }

pub loop-place-preserved-in-Some : goal.loop-place-preserved-in-Some
loop-place-preserved-in-Some c =
    let step = walk_hole (sight c.args.types.now c.args.heap.now c.args.k) c.args.heap.now.memories c.loop-place.place
    c.in-Some.high c.info-end.result.end c.loop-place.invariant.walk c.loop-place-test.true
    (sym c.hole_here.ensures.hole ∙ c.in-Some.is) in
    let up = step.higher in
    let low = c.loop-place.invariant.low in
    record {
      walk = step.walk;
      near = c.loop-place.invariant.near
          ∙ ap (λ (items : List Item). joined c.loop-place.near items c.args.a) step.items;
      after = c.loop-place.invariant.after;
      past = λ some. let past = c.loop-place.invariant.past some in omega (arith, past, up);
      clear = λ q l. c.hole_here.ensures.clear q (omega (arith, up, l));
      known = c.loop-place.invariant.known;
      low = omega (arith, up, low);
    }

-- up to an item at or below the address none was over it
free : (near : Near) (place a : ℕ) → (is_some near.at ≡ true → a < place) → place ≤ a → near.at ≡ None
free near place a past low = none-at near.at (λ some. let over = past some in omega (arith, over, low))

pub returns-then-place-a : goal.returns-then-place-a
returns-then-place-a c =
    let s = sight c.args.types.now c.args.heap.now c.args.k in
    let last = ap (λ (s : SegInfo). s.end) c.info-end.ensures.value in
    sym (walk-ends s c.args.heap.now.memories c.loop-place.place c.info-end.result.end c.args.a c.loop-place.near
    c.loop-place.invariant.walk c.loop-place-test.true (sym c.hole_here.ensures.hole ∙ c.in-None.is)
    c.item_like_in-found.result c.item_like_in-found.ensures.item c.if-place-a.true)
    ∙ sym c.loop-place.invariant.near
    ∙ ap (λ (n : ℕ). near_in (items_between s c.args.start n) c.args.a) last

pub loop-place-preserved : goal.loop-place-preserved
loop-place-preserved c =
    let s = sight c.args.types.now c.args.heap.now c.args.k in
    let none = sym c.hole_here.ensures.hole ∙ c.in-None.is in
    let e = c.info-end.result.end in
    let found = c.item_like_in-found.result in
    let near = c.loop-place.near in
    let step = walk_item s c.args.heap.now.memories c.loop-place.place e
    c.loop-place.invariant.walk c.loop-place-test.true none in
    let size = ap (λ (i : Item). c.loop-place.place + i.size) c.item_like_in-found.ensures.item in
    let place = ap (λ (i : Item). i.place) c.item_like_in-found.ensures.item
    ∙ place-item_at c.args.types.now (word_of c.args.heap.now) c.loop-place.place in
    let at = free near c.loop-place.place c.args.a c.loop-place.invariant.past c.if-place-a.false in
    let low = c.loop-place.invariant.low in
    record {
      walk = subst (λ n. CanWalk s c.args.heap.now.memories n e) (sym size) step.walk;
      near = c.loop-place.invariant.near
          ∙ walk-on s c.args.heap.now.memories c.loop-place.place e c.args.a near c.loop-place.invariant.walk
          c.loop-place-test.true none found c.item_like_in-found.ensures.item at c.if-place-a.false
          ∙ ap (λ (n : Near). joined n (items_between s (c.loop-place.place + found.size) e) c.args.a)
          (sym c.with_item-near.ensures);
      after = ap (λ (n : Near). n.after) c.with_item-near.ensures
          ∙ after-kept near found c.args.a c.loop-place.invariant.after;
      past = λ some.
          let over = at-past near found c.args.a at
          (ap (λ (n : Near). is_some n.at) (sym c.with_item-near.ensures) ∙ some) in
          omega (arith, over, place);
      clear = λ q l. c.hole_here.ensures.clear q (omega (arith, l));
      known = c.item_like_in-found.ensures.known;
      low = omega (arith, low);
    }

pub returns : goal.returns
returns c =
    let s = sight c.args.types.now c.args.heap.now c.args.k in
    let last = ap (λ (s : SegInfo). s.end) c.info-end.ensures.value in
    sym (joined-ends c.loop-place.near (items_between s c.loop-place.place c.info-end.result.end) c.args.a
    c.loop-place.invariant.after (walk_done s c.args.heap.now.memories c.loop-place.place c.info-end.result.end
    c.loop-place.invariant.walk c.loop-place-test.false))
    ∙ sym c.loop-place.invariant.near
    ∙ ap (λ (n : ℕ). near_in (items_between s c.args.start n) c.args.a) last
