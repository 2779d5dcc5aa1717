-- A background collection begins, or the line is refused.
use Rattle.std.proofs.Common.{◌∙◌, refl, sym}
use Rattle.clr_model.specs.Instructions.{begin_background}
use Rattle.clr_runtime.specs.RuntimeView.{seen}
use Rattle.clr_runtime.proofs.BackgroundLines.{begin_done, begin_lacks, begin_running, begin_waits}
use Rattle.clr_runtime.proofs.BackgroundParts.{none_marking, runs_is}
use Rattle.clr_runtime.proofs.NamesChecked.{may_run, thread_refused}
use Rattle.clr_runtime.proofs.CountsKept.{collector_kept}
use Rattle.clr_runtime.proofs.runtime.Runtime.begin_background.Goals as goal

pub returns-in-Some-clause-follows : goal.returns-in-Some-clause-follows
returns-in-Some-clause-follows c =
    thread_refused (begin_background c.args.t) c.args.t refl refl c.args.self.now.machine c.in-Some.refusal
    (sym c.refused_thread.ensures.value ∙ c.in-Some.is)

pub returns-then-running-clause-follows : goal.returns-then-running-clause-follows
returns-then-running-clause-follows c =
    let p = c.self.inside.parts in
    let passed = rw (← c.self.view_is) at (sym c.refused_thread.ensures.value ∙ c.in_default.is) in
    rw (← c.self.view_is)
    (begin_running c.args.t (seen p) (may_run (seen p) c.args.t passed)
    (runs_is p.background ∙ sym c.running.ensures ∙ c.if-running.true))

pub returns-in-Err-clause-follows : goal.returns-in-Err-clause-follows
returns-in-Err-clause-follows c =
    let p = c.self.inside.parts in
    let passed = rw (← c.self.view_is) at (sym c.refused_thread.ensures.value ∙ c.in_default.is) in
    rw (← c.self.view_is)
    (begin_waits c.args.t (seen p) (may_run (seen p) c.args.t passed)
    (runs_is p.background ∙ sym c.running.ensures ∙ c.if-running.false) c.in-Err.k c.in-Err.ensures.busy)

pub begin_marking-requires-clause-none : goal.begin_marking-requires-clause-none
begin_marking-requires-clause-none c =
    none_marking c.self.inside.parts.background (sym c.running.ensures ∙ c.if-running.false)

pub returns-in_default-begin_marking-clause-follows : goal.returns-in_default-begin_marking-clause-follows
returns-in_default-begin_marking-clause-follows c =
    let p = c.self.inside.parts in
    let passed = rw (← c.self.view_is) at (sym c.refused_thread.ensures.value ∙ c.in_default.is) in
    rw (← c.self.view_is)
    (begin_lacks c.args.t (seen p) (may_run (seen p) c.args.t passed)
    (runs_is p.background ∙ sym c.running.ensures ∙ c.if-running.false) c.in_default-all_safe.ensures.safe
    (seen c.begin_marking.new.parts) c.in_default-begin_marking.ensures.err)

pub returns-clause-follows : goal.returns-clause-follows
returns-clause-follows c =
    let p = c.self.inside.parts in
    let passed = rw (← c.self.view_is) at (sym c.refused_thread.ensures.value ∙ c.in_default.is) in
    let (marking, begun, same) = c.in-Ok.ensures.begun in
    rw (← c.self.view_is)
    (begin_done c.args.t (seen p) (may_run (seen p) c.args.t passed)
    (runs_is p.background ∙ sym c.running.ensures ∙ c.if-running.false) c.in_default-all_safe.ensures.safe marking begun
    (seen c.begin_marking.new.parts) same)

pub returns-in_default-begin_marking-clause-others : goal.returns-in_default-begin_marking-clause-others
returns-in_default-begin_marking-clause-others c =
    rw (← c.self.view_is)
    (collector_kept c.self.inside.parts c.begin_marking.new.parts c.begin_marking.ensures.collector)

pub returns-clause-others : goal.returns-clause-others
returns-clause-others c =
    rw (← c.self.view_is)
    (collector_kept c.self.inside.parts c.begin_marking.new.parts c.begin_marking.ensures.collector)
