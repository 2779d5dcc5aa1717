use Rattle.std.proofs.Common.{sym, subst}
use Rattle.clr_pinq.specs.Queue.{ComesAfter, last_end, QueueView}
use Rattle.clr_pinq.proofs.Changes.{is_queue_push}
use Rattle.clr_pinq.proofs.queue.PinQueue.push.Goals as goal

pub invariant_of-self : goal.invariant_of-self
invariant_of-self c =
    let es = c.self.inside.entries.items in
    let P : QueueView → Type 0 = λ v. ComesAfter (last_end 0 v.entries) c.args.entry in
    let above : ComesAfter (last_end 0 es) c.args.entry = subst P (sym c.self.view_is) c.requires.above in
    let one = c.widened-low.ensures in
    let two = c.widened-low-2.ensures in
    rw c.push_within.ensures.items
    (is_queue_push es c.self.inside.low c.self.inside.high c.args.entry c.widened-low.result.0
    c.widened-low.result.1 c.widened-low-2.result.0 c.widened-low-2.result.1 c.self.invariant above one.low one.high
    one.holds two.low two.high two.holds)
