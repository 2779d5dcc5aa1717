-- The step is finished, or the line is refused.
use Rattle.std.proofs.Common.{◌≡◌, ◌∙◌, ap, false, sym}
use Rattle.clr_model.specs.declared.Refusal.TheVariants.{UnknownThread}
use Rattle.clr_model.specs.Lookups.{is_step, is_thread}
use Rattle.clr_safe.specs.Threads.{step_by}
use Rattle.clr_options.specs.Options.{options_of}
use Rattle.clr_runtime.specs.RuntimeView.{ahead_of, sums_of, world_of}
use Rattle.clr_runtime.proofs.FinishLines.{finish_refused, finish_unknown}
use Rattle.clr_runtime.proofs.StepsSeen.{step-seen}
use Rattle.clr_runtime.proofs.CountsKept.{collector_kept}
use Rattle.clr_runtime.proofs.runtime.Runtime.step.Goals as goal

pub returns-then-not-is_known-clause-follows : goal.returns-then-not-is_known-clause-follows
returns-then-not-is_known-clause-follows c =
    let none : is_thread c.args.t ≡ false = sym c.is_known.ensures ∙ c.if-not-is_known.true in
    finish_refused c.args.self.now.machine c.args.t UnknownThread (finish_unknown c.args.self.now.machine c.args.t none)

pub refused_idle-requires-clause-idle : goal.refused_idle-requires-clause-idle
refused_idle-requires-clause-idle c =
    let r = c.self.inside.parts in
    rw (← c.self.view_is)
    (ap is_step (step-seen (world_of r) (sums_of r.sums) (options_of r.options) r.safe (ahead_of r) c.args.t
    ∙ ap step_by (sym c.in-Nothing.ensures)))

pub returns-in-Nothing-clause-follows : goal.returns-in-Nothing-clause-follows
returns-in-Nothing-clause-follows c =
    finish_refused c.args.self.now.machine c.args.t c.refused_idle.result c.refused_idle.ensures

pub returns-in-Store-clause-others : goal.returns-in-Store-clause-others
returns-in-Store-clause-others c =
    rw (← c.self.view_is) (collector_kept c.self.inside.parts c.finish_store.new.parts c.finish_store.ensures.collector)

pub returns-in-Birth-clause-others : goal.returns-in-Birth-clause-others
returns-in-Birth-clause-others c =
    rw (← c.self.view_is)
    (collector_kept c.self.inside.parts c.finish_birth-place.new.parts c.finish_birth-place.ensures.collector)
