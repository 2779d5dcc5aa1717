use Rattle.std.proofs.Common.{ap}
use Rattle.clr_final.specs.Queues.{Queues}
use Rattle.clr_final.proofs.MoveSteps.{from-untaken, settled-untaken}
use Rattle.clr_final.proofs.finals.Finals.ready_from.Goals as goal

pub returns : goal.returns
returns c =
    let old = c.self.inside in
    from-untaken c.args.low old.taken c.later-first.result old.ready.items c.as_slice.result.now c.args.self.now.ready
    c.as_slice.ensures (ap (λ (q : Queues). q.ready) c.self.view_is) c.later-first.ensures.second
    (settled-untaken c.args.low old.taken c.settled.result c.later-first.result old.ready.items
    c.later-first.ensures.one c.settled.ensures.below)
