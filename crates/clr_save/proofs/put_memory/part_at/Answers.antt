use Rattle.std.proofs.Common.{sym}
use Rattle.clr_heap.specs.View.{sight}
use Rattle.clr_heap.proofs.Walking.{walk_item}
use Rattle.clr_save.proofs.SavedParts.{hole_next, item_next}
use Rattle.clr_save.proofs.put_memory.part_at.Goals as goal

pub returns-in-Some : goal.returns-in-Some
returns-in-Some c =
    hole_next (sight c.args.types.now c.args.heap.now c.args.k) c.args.heap.now.memories c.args.place c.args.end
    c.in-Some.high c.requires.walk c.requires.below (sym c.in-Some.ensures)

pub item-item-requires : goal.item-item-requires
item-item-requires c =
    let step = walk_item (sight c.args.types.now c.args.heap.now c.args.k) c.args.heap.now.memories c.args.place
    c.args.end c.requires.walk c.requires.below (sym c.in_default.ensures) in
    record { names = step.names; mt = step.mt; len = step.len }

pub returns : goal.returns
returns c =
    let next = item_next (sight c.args.types.now c.args.heap.now c.args.k) c.args.heap.now.memories c.args.place
    c.args.end c.requires.walk c.requires.below (sym c.in_default.ensures) in
    rw c.item-item.ensures next
