use Rattle.std.proofs.Common.{◌<◌, length, subst, arith}
use Rattle.std.specs.Prelude.{IfSome}
use Rattle.clr_pinq.specs.Queue.{AreSavedFrom, QueueView}
use Rattle.clr_pinq.proofs.SavedEnds.{saved_end}
use Rattle.clr_pinq.proofs.queue.PinQueue.saved_from.Goals as goal

pub returns-then-near-len : goal.returns-then-near-len
returns-then-near-len c =
    let es = c.self.inside.entries.items in
    let less : c.args.near < length es = omega (arith, c.if-near-len.true, c.len.ensures) in
    let P : QueueView → Type 0 = λ v. IfSome c.end_from.result (λ s. AreSavedFrom v.entries c.args.a s) in
    subst P c.self.view_is
    (saved_end es c.args.near c.args.a c.index.result.now c.self.invariant.rising less c.index.ensures
    c.end_from.result c.end_from.ensures)
