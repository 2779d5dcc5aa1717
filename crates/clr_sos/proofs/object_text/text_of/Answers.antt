-- The lines come one behind the other.
use Rattle.clr_view.proofs.Listed.{listed-known, listed-small}
use Rattle.clr_sos.proofs.ObjectTexts.{item_text-parts}
use Rattle.clr_sos.proofs.object_text.text_of.Goals as goal

pub put_head-requires : goal.put_head-requires
put_head-requires c =
    listed-known c.args.types.now c.args.heap.now c.args.item.now c.requires.heap c.requires.held c.requires.listed

pub slot_count-count-requires-clause-known : goal.slot_count-count-requires-clause-known
slot_count-count-requires-clause-known c =
    listed-known c.args.types.now c.args.heap.now c.args.item.now c.requires.heap c.requires.held c.requires.listed

pub slot_count-count-requires-clause-size : goal.slot_count-count-requires-clause-size
slot_count-count-requires-clause-size c =
    listed-small c.args.types.now c.args.heap.now c.args.item.now c.requires.heap c.requires.held c.requires.listed

pub returns : goal.returns
returns c =
    item_text-parts c.args.types.now c.args.heap.now c.args.item.now c.in_ok-text.text.items c.put_head.new.text.items
    c.put_slots.new.text.items c.put_more.new.text.items c.gen_of.result c.slot_count-count.result c.gen_of.ensures
    c.min-shown.result c.slot_count-count.ensures c.min-shown.ensures c.in_ok-text.ensures.items c.in_ok-put_head.ensures c.in_ok-put_slots.ensures
    c.in_ok-put_more.ensures
