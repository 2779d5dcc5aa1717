-- The law of the log holds of what is seen.
use Rattle.clr_runtime.proofs.runtime.Runtime.background.Goals as goal

pub returns-clause-law : goal.returns-clause-law
returns-clause-law c = rw (← c.self.view_is) (λ on. (c.self.invariant.shown.marked on).log)
