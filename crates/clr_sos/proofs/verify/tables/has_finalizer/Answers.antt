-- By the bit, and then by the type that the words of the object name.
use Rattle.std.proofs.Common.{sym, ◌∙◌}
use Rattle.clr_sos.proofs.FinalPlaces.{marked_final, marked_head, marked_known, unmarked_unfinal}
use Rattle.clr_sos.proofs.verify.tables.has_finalizer.Goals as goal

pub item-item-requires : goal.item-item-requires
item-item-requires c =
    let judge = c.args.judge.now in
    marked_head judge.types.now judge.heap.now judge.window judge.bits.now c.requires.judging c.args.place
    c.requires.judged (sym c.is_marked.ensures ∙ c.if-not-is_marked.false)

pub finalizer-requires : goal.finalizer-requires
finalizer-requires c =
    let judge = c.args.judge.now in
    marked_known judge.types.now judge.heap.now judge.window judge.bits.now c.requires.judging c.args.place
    c.requires.judged (sym c.is_marked.ensures ∙ c.if-not-is_marked.false) c.item-item.result c.item-item.ensures

pub returns-then-not-is_marked : goal.returns-then-not-is_marked
returns-then-not-is_marked c =
    let judge = c.args.judge.now in
    sym (unmarked_unfinal judge.types.now judge.heap.now judge.window judge.bits.now c.requires.judging c.args.place
    c.requires.judged (sym c.is_marked.ensures ∙ c.if-not-is_marked.true))

pub returns : goal.returns
returns c =
    let judge = c.args.judge.now in
    marked_final judge.types.now judge.heap.now judge.window judge.bits.now c.requires.judging c.args.place
    c.requires.judged (sym c.is_marked.ensures ∙ c.if-not-is_marked.false) c.item-item.result c.item-item.ensures
    c.finalizer.result c.finalizer.ensures
