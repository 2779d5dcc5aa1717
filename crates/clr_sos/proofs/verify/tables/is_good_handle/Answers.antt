-- Both names of the handle, by their bits.
use Rattle.std.proofs.Common.{◌∙◌, false}
use Rattle.clr_heap.specs.View.{heap_items}
use Rattle.clr_sos.specs.Windows.{is_bad_in}
use Rattle.clr_sos.proofs.BothGood.{one_bad, second_decides}
use Rattle.clr_sos.proofs.JudgedNames.{bad_is}
use Rattle.clr_sos.proofs.verify.tables.is_good_handle.Goals as goal

pub returns-then-not-target : goal.returns-then-not-target
returns-then-not-target c =
    let judge = c.args.judge.now in
    second_decides c.is_bad-target.result c.is_bad-second.result _ _
    (c.is_bad-target.ensures ∙ bad_is judge.types.now judge.heap.now judge.window judge.bits.now c.requires _)
    (c.is_bad-second.ensures ∙ bad_is judge.types.now judge.heap.now judge.window judge.bits.now c.requires _)
    c.if-not-target.true

pub returns-else-not-target : goal.returns-else-not-target
returns-else-not-target c =
    let judge = c.args.judge.now in
    one_bad c.is_bad-target.result _
    (is_bad_in (heap_items judge.types.now judge.heap.now) judge.window c.args.handle.now.second)
    (c.is_bad-target.ensures ∙ bad_is judge.types.now judge.heap.now judge.window judge.bits.now c.requires _)
    c.if-not-target.false
