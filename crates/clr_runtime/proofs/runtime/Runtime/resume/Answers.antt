-- The thread lets all others go.
use Rattle.std.proofs.Common.{◌∙◌, refl, sym}
use Rattle.clr_model.specs.Instructions.{resume_others}
use Rattle.clr_runtime.specs.RuntimeView.{seen}
use Rattle.clr_runtime.proofs.NamesChecked.{may_run, thread_refused}
use Rattle.clr_runtime.proofs.StepsBegun.{resume_kept, resumed}
use Rattle.clr_runtime.proofs.runtime.Runtime.resume.Goals as goal

pub returns-in-Some-clause-follows : goal.returns-in-Some-clause-follows
returns-in-Some-clause-follows c =
    thread_refused (resume_others c.args.t) c.args.t refl refl c.args.self.now.machine c.in-Some.refusal
    (sym c.refused_thread.ensures.value ∙ c.in-Some.is)

pub invariant_of-self : goal.invariant_of-self
invariant_of-self c =
    let p = c.self.inside.parts in
    let passed = rw (← c.self.view_is) at (sym c.refused_thread.ensures.value ∙ c.in_default.is) in
    resume_kept p c.args.t (may_run (seen p) c.args.t passed) c.resume.new.self c.resume.ensures c.self.invariant

pub returns-clause-follows : goal.returns-clause-follows
returns-clause-follows c =
    let p = c.self.inside.parts in
    let passed = rw (← c.self.view_is) at (sym c.refused_thread.ensures.value ∙ c.in_default.is) in
    rw (← c.self.view_is)
    (resumed p c.args.t (may_run (seen p) c.args.t passed) c.resume.new.self c.resume.ensures)
