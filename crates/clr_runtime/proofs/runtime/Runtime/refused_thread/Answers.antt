-- Where all threads rest, none of the checks fails.
use Rattle.std.proofs.Common.{ap, ◌∙◌, sym}
use Rattle.clr_options.specs.Options.{options_of}
use Rattle.clr_runtime.specs.RuntimeView.{ahead_of, RuntimeView, sums_of, world_of}
use Rattle.clr_runtime.proofs.QuietThreads.{none_refused}
use Rattle.clr_runtime.proofs.runtime.Runtime.refused_thread.Goals as goal

pub returns-then-is_quiet-clause-value : goal.returns-then-is_quiet-clause-value
returns-then-is_quiet-clause-value c =
    let r = c.self.inside.parts in
    sym
    (none_refused (world_of r) (sums_of r.sums) (options_of r.options) r.safe
    (ahead_of r) c.args.self.now.machine c.args.t
    (ap (λ (r : RuntimeView). r.machine) c.self.view_is) (c.is_quiet.ensures.0 c.if-is_quiet.true)
    (sym c.is_known.ensures ∙ c.if-not-is_known.false))
