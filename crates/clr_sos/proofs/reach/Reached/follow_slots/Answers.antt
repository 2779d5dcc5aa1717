-- The item of an entry is read.
use Rattle.std.proofs.Common.{ℕ, ap, sym, ◌∙◌, subst}
use Rattle.clr_heap.specs.Memories.{memory_index}
use Rattle.clr_view.specs.SlotValues.{IsObjectAt}
use Rattle.clr_sos.specs.Reaching.{IsObjectOf}
use Rattle.clr_sos.proofs.FollowedSlots.{item-read, place-read}
use Rattle.clr_sos.proofs.Seen.{numbered}
use Rattle.clr_sos.proofs.reach.Reached.follow_slots.Goals as goal

pub segment_of-k-requires : goal.segment_of-k-requires
segment_of-k-requires c =
    let es = c.args.self.now.entries.items in
    let v = c.args.view.now in
    let own = place-read es c.args.i c.index.result.now c.requires.below c.index.ensures in
    (numbered v c.requires.sound c.index.result.now.place
    (subst (IsObjectOf v) (sym own) (c.requires.search.sound c.args.i c.requires.below).stands)).word

pub item_in-item-requires-clause-stands : goal.item_in-item-requires-clause-stands
item_in-item-requires-clause-stands c =
    let es = c.args.self.now.entries.items in
    let own = place-read es c.args.i c.index.result.now c.requires.below c.index.ensures in
    subst (IsObjectOf c.args.view.now) (sym own) (c.requires.search.sound c.args.i c.requires.below).stands

pub follow_item-requires-clause-entry : goal.follow_item-requires-clause-entry
follow_item-requires-clause-entry c =
    let es = c.args.self.now.entries.items in
    let own = place-read es c.args.i c.index.result.now c.requires.below c.index.ensures in
    item-read c.args.view.now es c.args.i c.index.result.now.place c.item_in-item.result c.requires.below own
    c.item_in-item.ensures

pub follow_item-requires-clause-segment : goal.follow_item-requires-clause-segment
follow_item-requires-clause-segment c =
    c.segment_of-k.ensures ∙ ap (memory_index c.args.view.now.heap.now.memories) (sym c.item_in-item.ensures.at)

pub returns-clause-item : goal.returns-clause-item
returns-clause-item c =
    let es = c.args.self.now.entries.items in
    let own = place-read es c.args.i c.index.result.now c.requires.below c.index.ensures in
    subst (λ (p : ℕ). IsObjectAt c.args.view.now.types.now c.args.view.now.heap.now p c.item_in-item.result) own
    c.item_in-item.ensures
