use Rattle.std.proofs.Common.{◌≢◌, ◌-◌, ◌∙◌, ap, length, get_or}
use Rattle.clr_pinq.specs.declared.entry.PinEntry.{PinEntry}
use Rattle.clr_plan.proofs.Saving.{last_of_queue}
use Rattle.clr_plan.proofs.write.end_of_queue.Goals as goal

pub returns : goal.returns
returns c =
    let count = c.len-count.ensures.count in
    let no = c.if-count-eq0.false in
    let some : length c.args.queue.now.entries ≢ 0 = λ z. no (count ∙ z) in
    ap (λ (e : PinEntry). e.end) c.get.ensures ∙ ap (λ n. (get_or c.args.queue.now.entries (n - 1) c.get.result).end)
    count ∙ last_of_queue c.args.queue.now.entries c.get.result some
