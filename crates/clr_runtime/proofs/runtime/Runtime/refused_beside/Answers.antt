-- The checks, by what the thread has begun and who holds the others.
use Rattle.std.proofs.Common.{ap, arith, ◌∙◌, sym}
use Rattle.clr_options.specs.Options.{options_of}
use Rattle.clr_runtime.specs.RuntimeView.{ahead_of, RuntimeView, sums_of, world_of}
use Rattle.clr_runtime.proofs.QuietThreads.{free_holding, free_unheld, holder-few, refused_held}
use Rattle.clr_runtime.proofs.QuietThreads.{refused_midway}
use Rattle.clr_runtime.proofs.runtime.Runtime.refused_beside.Goals as goal

pub in_step-requires : goal.in_step-requires
in_step-requires c = c.requires

pub returns-then-in_step : goal.returns-then-in_step
returns-then-in_step c =
    let r = c.self.inside.parts in
    sym
    (refused_midway (world_of r) (sums_of r.sums) (options_of r.options) r.safe (ahead_of r) c.args.self.now.machine
    c.args.t (ap (λ (r : RuntimeView). r.machine) c.self.view_is) c.requires
    (sym c.in_step.ensures ∙ c.if-in_step.true))

pub overflow_cast-result : goal.overflow_cast-result
overflow_cast-result c =
    let held = sym c.holder.ensures ∙ c.in-Some.is in
    let few = holder-few c.self.inside.parts.safe.holder c.in-Some.h c.self.invariant.shown.sound.lawful.holder held in
    omega (arith, few)

pub returns-in-Some : goal.returns-in-Some
returns-in-Some c =
    let r = c.self.inside.parts in
    sym
    (refused_held (world_of r) (sums_of r.sums) (options_of r.options) r.safe (ahead_of r) c.args.self.now.machine
    c.args.t (ap (λ (r : RuntimeView). r.machine) c.self.view_is) c.requires
    (sym c.in_step.ensures ∙ c.if-in_step.false) c.in-Some.h (sym c.holder.ensures ∙ c.in-Some.is) c.if-h-t.true)

-- it holds the others itself
pub returns-in_default : goal.returns-in_default
returns-in_default c =
    let r = c.self.inside.parts in
    sym
    (free_holding (world_of r) (sums_of r.sums) (options_of r.options) r.safe (ahead_of r) c.args.self.now.machine
    c.args.t (ap (λ (r : RuntimeView). r.machine) c.self.view_is) c.requires
    (sym c.in_step.ensures ∙ c.if-in_step.false) c.in-Some.h (sym c.holder.ensures ∙ c.in-Some.is) c.if-h-t.false)

-- none does
pub returns-in_default-2 : goal.returns-in_default-2
returns-in_default-2 c =
    let r = c.self.inside.parts in
    sym
    (free_unheld (world_of r) (sums_of r.sums) (options_of r.options) r.safe (ahead_of r) c.args.self.now.machine
    c.args.t (ap (λ (r : RuntimeView). r.machine) c.self.view_is) c.requires
    (sym c.in_step.ensures ∙ c.if-in_step.false) (sym c.holder.ensures ∙ c.in_default.is))
