use Rattle.clr_types.specs.Types.{form_at}
use Rattle.clr_types.proofs.ReferenceRuns.{single_run_spells}
use Rattle.clr_types.proofs.table.Types.reference_run.Goals as goal

pub returns-clause-spelled : goal.returns-clause-spelled
returns-clause-spelled c = rw (c.reference_run.ensures, c.table.ensures.form)
    (single_run_spells (form_at c.args.self.now c.args.t.0) c.args.len)
