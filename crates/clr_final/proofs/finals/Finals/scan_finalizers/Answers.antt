use Rattle.std.proofs.Common.{ℕ, sym, subst}
use Rattle.clr_final.specs.declared.verdict.Verdict.{Verdict}
use Rattle.clr_final.specs.Places.{PlaceList}
use Rattle.clr_final.specs.Queues.{AreQueues, HasJudged, Queues, queues}
use Rattle.clr_final.proofs.JudgeSteps.{sorted-queues, sorted-room}
use Rattle.clr_final.proofs.finals.Finals.scan_finalizers.Goals as goal

pub invariant_of-self : goal.invariant_of-self
invariant_of-self g c =
    let post = λ (place : ℕ) (verdict : Verdict). goal.F-post g c.args.judge.now place verdict in
    let old = c.self.inside in
    let sorted = c.judge_from in
    subst (λ (r : PlaceList). AreQueues c.settle.new.self r old.taken) (sym c.settle-2.ensures)
    (sorted-room post c.args.low old.entries sorted.new.entries c.settle.new.self old.ready sorted.new.ready old.taken
    sorted.ensures.sorted sorted.ensures.ready_capacity c.settle.ensures c.self.invariant)

pub returns : goal.returns
returns g c =
    let post = λ (place : ℕ) (verdict : Verdict). goal.F-post g c.args.judge.now place verdict in
    let old = c.self.inside in
    let sorted = c.judge_from in
    let seen = c.args.self.now in
    subst (λ (r : PlaceList). HasJudged post c.args.low seen (queues c.settle.new.self r old.taken))
    (sym c.settle-2.ensures)
    (subst (λ (q : Queues). HasJudged post c.args.low q (queues c.settle.new.self sorted.new.ready old.taken))
    c.self.view_is
    (sorted-queues post c.args.low old.entries sorted.new.entries c.settle.new.self old.ready sorted.new.ready
    old.taken sorted.ensures.sorted sorted.ensures.entries_capacity sorted.ensures.ready_capacity c.settle.ensures
    c.self.invariant))
