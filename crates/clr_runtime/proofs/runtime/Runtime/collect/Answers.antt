-- The collection is done, or the thread is refused.
use Rattle.std.proofs.Common.{◌∙◌, sym, refl}
use Rattle.clr_model.specs.Instructions.{collect_heap}
use Rattle.clr_runtime.specs.RuntimeView.{seen}
use Rattle.clr_runtime.proofs.CollectLines.{collect_done, collect_waits}
use Rattle.clr_runtime.proofs.NamesChecked.{may_run, thread_refused}
use Rattle.clr_runtime.proofs.runtime.Runtime.collect.Goals as goal

pub returns-in-Some-clause-follows : goal.returns-in-Some-clause-follows
returns-in-Some-clause-follows c =
    thread_refused
    (collect_heap c.args.t c.args.g c.args.how) c.args.t refl refl c.args.self.now.machine c.in-Some.refusal
    (sym c.refused_thread.ensures.value ∙ c.in-Some.is)

pub returns-in-Err-clause-follows : goal.returns-in-Err-clause-follows
returns-in-Err-clause-follows c =
    let s = seen c.self.inside.parts in
    let passed = rw (← c.self.view_is) at (sym c.refused_thread.ensures.value ∙ c.in_default.is) in
    rw (← c.self.view_is)
    (collect_waits s c.args.t c.args.g c.args.how (may_run s c.args.t passed) c.in-Err.k c.in-Err.ensures.busy)

pub returns-clause-follows : goal.returns-clause-follows
returns-clause-follows c =
    let s = seen c.self.inside.parts in
    let passed = rw (← c.self.view_is) at (sym c.refused_thread.ensures.value ∙ c.in_default.is) in
    rw (← c.self.view_is)
    (collect_done s c.args.t c.args.g c.args.how (may_run s c.args.t passed) c.in_default-all_safe.ensures.safe
    c.requires.usual c.collect_parts.result (seen c.collect_parts.new.parts) c.collect_parts.ensures.collected)

pub returns-clause-moved : goal.returns-clause-moved
returns-clause-moved c = rw (← c.self.view_is) c.collect_parts.ensures.moved

pub returns-clause-counted : goal.returns-clause-counted
returns-clause-counted c = rw (← c.self.view_is) c.collect_parts.ensures.slides
