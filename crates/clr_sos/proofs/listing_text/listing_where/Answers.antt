-- What is shown of the items of a heap is the text of its listing.
use Rattle.std.proofs.Common.{List, sym, subst}
use Rattle.clr_types.specs.Rising.{IsIn}
use Rattle.clr_types.specs.declared.item.Item.{Item}
use Rattle.clr_heap.specs.View.{heap_items}
use Rattle.clr_sos.specs.Dumping.{AreListed}
use Rattle.clr_sos.specs.Wants.{is_wanted}
use Rattle.clr_sos.proofs.HeapListed.{heap-listed}
use Rattle.clr_sos.proofs.ShownLines.{whole-text}
use Rattle.clr_sos.proofs.listing_text.listing_where.Goals as goal

pub put_shown-requires-clause-listed : goal.put_shown-requires-clause-listed
put_shown-requires-clause-listed g c =
    subst (AreListed c.args.types.now) (sym c.items_of-items.ensures.items)
    (heap-listed c.args.types.now c.args.heap.now c.items_of-items.ensures.heap c.requires.held.walkable)

pub returns-clause-text : goal.returns-clause-text
returns-clause-text g c = λ test answers.
    let inner = λ (i : Item) (is : IsIn i c.items_of-items.result).
    answers i (subst (λ (items : List Item). IsIn i items) c.items_of-items.ensures.items is) in
    whole-text c.args.mode c.args.types.now (is_wanted c.args.wanted.now test) c.items_of-items.result
    (heap_items c.args.types.now c.args.heap.now) _ c.put_shown.new.text.items c.new-text.ensures.items
    c.items_of-items.ensures.items (c.in_ok-put_shown.ensures test inner)
