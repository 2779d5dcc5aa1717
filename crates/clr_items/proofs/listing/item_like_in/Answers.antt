use Rattle.std.proofs.Common.{arith, sym, ◌∙◌}
use Rattle.clr_heap.specs.View.{word_of}
use Rattle.clr_items.proofs.ListedItems.{free-here, free-size}
use Rattle.clr_items.proofs.listing.item_like_in.Goals as goal

pub free_item-requires : goal.free_item-requires
free_item-requires c =
    let free = sym c.word_at-mt.ensures ∙ c.if-mt-eq-FREE_MT.true in
    let size = free-size c.args.types.now (word_of c.args.heap.now) c.args.place c.requires.item.names free in
    let most = c.requires.item.names.most in
    let len = c.word_at.ensures in
    omega (arith, size, most, len)

pub returns-then-mt-eq-FREE_MT-clause-item : goal.returns-then-mt-eq-FREE_MT-clause-item
returns-then-mt-eq-FREE_MT-clause-item c =
    c.free_item.ensures
    ∙ free-here c.args.types.now (word_of c.args.heap.now) c.args.place c.word_at.result c.requires.item.names
    (sym c.word_at-mt.ensures ∙ c.if-mt-eq-FREE_MT.true) c.word_at.ensures
