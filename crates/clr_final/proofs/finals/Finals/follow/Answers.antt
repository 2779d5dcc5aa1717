use Rattle.std.proofs.Common.{ℕ, arith, sym, subst}
use Rattle.clr_final.specs.Queues.{HaveMoved, MayAsk, Queues, queues}
use Rattle.clr_final.proofs.MoveSteps.{ask-untaken, moved-queues, settled-untaken}
use Rattle.clr_final.proofs.finals.Finals.follow.Goals as goal

pub move_from-requires-2-clause-ask : goal.move_from-requires-2-clause-ask
move_from-requires-2-clause-ask g c = λ i from inside high.
    let pre = λ (place : ℕ). goal.F-pre g c.args.to.now place in
    let later = c.later-first.ensures.second in
    let ask = subst (λ (q : Queues). MayAsk c.args.low q.ready pre) (sym c.self.view_is) c.requires.ready in
    ask-untaken c.args.low c.self.inside.taken c.self.inside.ready.items pre ask i (omega (arith, later, from)) inside
    high

pub returns : goal.returns
returns g c =
    let post = λ (place moved : ℕ). goal.F-post g c.args.to.now place moved in
    let old = c.self.inside in
    let entries = c.move_from in
    let ready = c.move_from-2 in
    let untaken =
    settled-untaken c.args.low old.taken c.settled.result c.later-first.result old.ready.items
    c.later-first.ensures.one c.settled.ensures.below in
    subst (λ (q : Queues). HaveMoved post c.args.low q (queues c.settle.new.self c.settle-2.new.self old.taken))
    c.self.view_is
    (moved-queues post c.args.low old.entries entries.new.places c.settle.new.self old.ready ready.new.places
    c.settle-2.new.self old.taken c.settled-start.result c.later-first.result entries.ensures.capacity
    ready.ensures.capacity entries.ensures.moved ready.ensures.moved c.settle.ensures c.settle-2.ensures
    c.self.invariant c.settled-start.ensures.below untaken)
