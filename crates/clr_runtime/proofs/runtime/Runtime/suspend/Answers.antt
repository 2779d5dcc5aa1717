-- The thread holds all others.
use Rattle.std.proofs.Common.{◌∙◌, refl, sym}
use Rattle.clr_model.specs.Instructions.{suspend_others}
use Rattle.clr_runtime.specs.RuntimeView.{seen}
use Rattle.clr_runtime.proofs.NamesChecked.{may_run, thread_refused}
use Rattle.clr_runtime.proofs.StepsBegun.{suspend_kept, suspended}
use Rattle.clr_runtime.proofs.runtime.Runtime.suspend.Goals as goal

pub returns-in-Some-clause-follows : goal.returns-in-Some-clause-follows
returns-in-Some-clause-follows c =
    thread_refused (suspend_others c.args.t) c.args.t refl refl c.args.self.now.machine c.in-Some.refusal
    (sym c.refused_thread.ensures.value ∙ c.in-Some.is)

pub invariant_of-self : goal.invariant_of-self
invariant_of-self c =
    let p = c.self.inside.parts in
    let passed = rw (← c.self.view_is) at (sym c.refused_thread.ensures.value ∙ c.in_default.is) in
    suspend_kept p c.args.t (may_run (seen p) c.args.t passed) c.suspend.new.self c.suspend.ensures c.self.invariant

pub returns-clause-follows : goal.returns-clause-follows
returns-clause-follows c =
    let p = c.self.inside.parts in
    let passed = rw (← c.self.view_is) at (sym c.refused_thread.ensures.value ∙ c.in_default.is) in
    rw (← c.self.view_is)
    (suspended p c.args.t (may_run (seen p) c.args.t passed) c.suspend.new.self c.suspend.ensures)
