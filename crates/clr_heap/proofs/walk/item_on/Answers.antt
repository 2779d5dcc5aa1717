use Rattle.clr_heap.specs.View.{sight}
use Rattle.clr_heap.proofs.ItemHeads.{head-in}
use Rattle.clr_heap.proofs.Walking.{walk_item}
use Rattle.clr_heap.proofs.walk.item_on.Goals as goal

pub item_like_in-requires : goal.item_like_in-requires
item_like_in-requires c =
    let step = walk_item (sight c.args.types.now c.args.heap.now c.args.k) c.args.heap.now.memories c.args.place
    c.args.end c.requires.walk c.requires.below c.requires.free in
    let head = head-in c.args.types.now c.args.heap.now c.args.k c.args.place c.args.end c.requires.heap
    c.requires.in_range c.requires.low c.requires.last step in
    record {
      item = record { names = step.names; mt = step.mt; len = step.len };
      segment = head.segment;
      behind = head.behind;
      room = head.room;
      known = c.requires.known;
    }

pub returns : goal.returns
returns c =
    let step = walk_item (sight c.args.types.now c.args.heap.now c.args.k) c.args.heap.now.memories c.args.place
    c.args.end c.requires.walk c.requires.below c.requires.free in
    record {
      after = step;
      item = c.item_like_in.ensures.item;
      size = rw c.item_like_in.ensures.item step.within;
      known = c.item_like_in.ensures.known;
    }
