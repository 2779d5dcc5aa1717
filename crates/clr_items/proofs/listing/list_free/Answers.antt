use Rattle.std.proofs.Common.{ℕ, ◌+◌, ◌<◌, ◌++◌, [], ◌∷◌, ap, arith, sym, ◌∙◌, subst}
use Rattle.clr_types.specs.declared.item.Item.{Item}
use Rattle.clr_types.specs.declared.segment.SegInfo.{SegInfo}
use Rattle.clr_heap.specs.View.{last_of, word_of}
use Rattle.clr_heap.proofs.Spelling.{place-item_at}
use Rattle.clr_view.specs.View.{free_among}
use Rattle.clr_sweep.proofs.CountedParts.{can_count, CanCount}
use Rattle.clr_sweep.proofs.PassEnds.{home_unholed}
use Rattle.clr_items.proofs.ListedItems.{IsListing, listing_ends, listing_goes_on, listing_starts}
use Rattle.clr_items.proofs.listing.list_free.Goals.{In-loop-place}
use Rattle.clr_items.proofs.listing.list_free.Goals as goal

below : (c : In-loop-place) → c.loop-place.place < last_of c.args.heap.now c.args.k
below c =
    let end = ap (λ (s : SegInfo). s.end) c.info-end.ensures.value in
    let l = c.loop-place-test.true in
    omega (arith, end, l)

can : (c : In-loop-place) → CanCount c.args.types.now c.args.heap.now c.args.k c.args.from
    (last_of c.args.heap.now c.args.k) c.loop-place.place
    (home_unholed c.args.types.now c.args.heap.now c.args.k c.info-end.ensures.heap c.args.from c.requires.in_range
    c.requires.parted c.requires.no_contexts) c.loop-place.invariant.listing.low c.loop-place.invariant.listing.walk
can c = can_count c.args.types.now c.args.heap.now c.args.k c.args.from
    (last_of c.args.heap.now c.args.k) c.loop-place.place
    (home_unholed c.args.types.now c.args.heap.now c.args.k c.info-end.ensures.heap c.args.from c.requires.in_range
    c.requires.parted c.requires.no_contexts) c.loop-place.invariant.listing.low c.loop-place.invariant.listing.walk
    (below c)

pub loop-place-init : goal.loop-place-init
loop-place-init c =
    record {
      listing = listing_starts c.args.types.now c.args.heap.now c.args.k c.args.from
          (last_of c.args.heap.now c.args.k) c.args.items.now.items
          (home_unholed c.args.types.now c.args.heap.now c.args.k c.info-end.ensures.heap c.args.from
          c.requires.in_range c.requires.parted c.requires.no_contexts);
      known = c.none-known.ensures c.args.types.now;
    }

pub item_like_in-found-requires : goal.item_like_in-found-requires
item_like_in-found-requires c =
    record {
      item = (can c.before).item;
      first = (can c.before).mt_in;
      second = (can c.before).len_in;
      room = (can c.before).room;
      known = c.loop-place.invariant.known;
    }

pub add_free-requires : goal.add_free-requires
add_free-requires c =
    let place = place-item_at c.args.types.now (word_of c.args.heap.now) c.loop-place.place in
    let at = ap (λ (i : Item). i.place) c.item_like_in-found.ensures.item ∙ place in
    let size = ap (λ (i : Item). i.size) c.item_like_in-found.ensures.item in
    let fits = (can c.before.before.before).fits in
    omega (arith, at, size, fits)

pub loop-place-preserved : goal.loop-place-preserved
loop-place-preserved c =
    let rows = c.args.types.now in
    let h = c.args.heap.now in
    let e = last_of h c.args.k in
    let home = home_unholed rows h c.args.k c.info-end.ensures.heap c.args.from c.requires.in_range c.requires.parted
    c.requires.no_contexts in
    let adds = c.add_free.ensures c.if-not-add_free.false
    ∙ ap (λ (i : Item). c.loop-place.items.items ++ free_among (i ∷ [])) c.item_like_in-found.ensures.item in
    let size = ap (λ (i : Item). i.size) c.item_like_in-found.ensures.item in
    record {
      listing = subst (λ (n : ℕ). IsListing rows h c.args.k c.args.from e (c.loop-place.place + n)
          c.args.items.now.items c.add_free.new.items.items) (sym size)
          (listing_goes_on rows h c.args.k c.args.from e c.loop-place.place c.args.items.now.items
          c.loop-place.items.items home c.loop-place.invariant.listing c.add_free.new.items.items
          (below c.before.before.before.before.before.before) adds);
      known = c.item_like_in-found.ensures.known;
    }

pub returns : goal.returns
returns c = λ _.
    let end = ap (λ (s : SegInfo). s.end) c.info-end.ensures.value in
    let l = c.loop-place-test.false in
    listing_ends c.args.types.now c.args.heap.now c.args.k c.args.from (last_of c.args.heap.now c.args.k)
    c.loop-place.place c.args.items.now.items c.loop-place.items.items
    (home_unholed c.args.types.now c.args.heap.now c.args.k c.info-end.ensures.heap c.args.from c.requires.in_range
    c.requires.parted c.requires.no_contexts) c.loop-place.invariant.listing (omega (arith, end, l))
