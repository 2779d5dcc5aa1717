-- The next full collection slides the large heap.
use Rattle.std.proofs.Common.{◌∙◌, refl, sym}
use Rattle.clr_model.specs.Instructions.{compact_large_once}
use Rattle.clr_runtime.specs.RuntimeView.{seen}
use Rattle.clr_runtime.proofs.NamesChecked.{may_run, thread_refused}
use Rattle.clr_runtime.proofs.SlideLines.{slide_asked, slide_kept}
use Rattle.clr_runtime.proofs.runtime.Runtime.compact_large_once.Goals as goal

pub returns-in-Some-clause-follows : goal.returns-in-Some-clause-follows
returns-in-Some-clause-follows c =
    thread_refused (compact_large_once c.args.t) c.args.t refl refl c.args.self.now.machine c.in-Some.refusal
    (sym c.refused_thread.ensures.value ∙ c.in-Some.is)

pub invariant_of-self : goal.invariant_of-self
invariant_of-self c =
    let p = c.self.inside.parts in
    let passed = rw (← c.self.view_is) at (sym c.refused_thread.ensures.value ∙ c.in_default.is) in
    slide_kept p c.args.t (may_run (seen p) c.args.t passed) c.self.invariant

pub returns-clause-follows : goal.returns-clause-follows
returns-clause-follows c =
    let p = c.self.inside.parts in
    let passed = rw (← c.self.view_is) at (sym c.refused_thread.ensures.value ∙ c.in_default.is) in
    rw (← c.self.view_is) (slide_asked (seen p) c.args.t (may_run (seen p) c.args.t passed))
