-- The background collection ends, or the line is refused.
use Rattle.std.proofs.Common.{◌∙◌, ap, not, refl, sym}
use Rattle.clr_model.specs.Instructions.{end_background}
use Rattle.clr_runtime.specs.RuntimeView.{seen}
use Rattle.clr_runtime.proofs.BackgroundLines.{end_done, end_none, end_waits}
use Rattle.clr_runtime.proofs.BackgroundParts.{none_is}
use Rattle.clr_runtime.proofs.NamesChecked.{may_run, thread_refused}
use Rattle.clr_runtime.proofs.CountsKept.{counts_kept}
use Rattle.clr_runtime.proofs.runtime.Runtime.end_background.Goals as goal

pub returns-in-Some-clause-follows : goal.returns-in-Some-clause-follows
returns-in-Some-clause-follows c =
    thread_refused (end_background c.args.t) c.args.t refl refl c.args.self.now.machine c.in-Some.refusal
    (sym c.refused_thread.ensures.value ∙ c.in-Some.is)

pub returns-then-not-running-clause-follows : goal.returns-then-not-running-clause-follows
returns-then-not-running-clause-follows c =
    let p = c.self.inside.parts in
    let passed = rw (← c.self.view_is) at (sym c.refused_thread.ensures.value ∙ c.in_default.is) in
    rw (← c.self.view_is)
    (end_none c.args.t (seen p) (may_run (seen p) c.args.t passed)
    (none_is p.background ∙ ap not (sym c.running.ensures ∙ c.if-not-running.true)))

pub returns-in-Err-clause-follows : goal.returns-in-Err-clause-follows
returns-in-Err-clause-follows c =
    let p = c.self.inside.parts in
    let passed = rw (← c.self.view_is) at (sym c.refused_thread.ensures.value ∙ c.in_default.is) in
    rw (← c.self.view_is)
    (end_waits c.args.t (seen p) (may_run (seen p) c.args.t passed)
    (none_is p.background ∙ ap not (sym c.running.ensures ∙ c.if-not-running.false)) c.in-Err.k c.in-Err.ensures.busy)

pub end_marking-requires-clause-idle : goal.end_marking-requires-clause-idle
end_marking-requires-clause-idle c = c.in_default-all_safe.ensures.safe

pub end_marking-requires-clause-running : goal.end_marking-requires-clause-running
end_marking-requires-clause-running c = sym c.running.ensures ∙ c.if-not-running.false

pub returns-clause-follows : goal.returns-clause-follows
returns-clause-follows c =
    let p = c.self.inside.parts in
    let passed = rw (← c.self.view_is) at (sym c.refused_thread.ensures.value ∙ c.in_default.is) in
    let done = c.end_marking in
    let (marking, runs, after, ends, same) = done.ensures.ended in
    rw (← c.self.view_is)
    (end_done c.args.t (seen p) (may_run (seen p) c.args.t passed) marking runs c.in_default-all_safe.ensures.safe
    done.result after (seen done.new.parts) ends same)

pub returns-clause-others : goal.returns-clause-others
returns-clause-others c =
    rw (← c.self.view_is)
    (counts_kept c.self.inside.parts c.end_marking.new.parts c.end_marking.ensures.slides c.end_marking.ensures.stack)
