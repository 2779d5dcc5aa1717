-- The number of a name, but where it is that of unused space.
use Rattle.clr_runtime.proofs.TypeNumbers.{defined-free, defined-some}
use Rattle.clr_runtime.proofs.births.defined.Goals as goal

pub returns-in-Some : goal.returns-in-Some
returns-in-Some c =
    defined-some c.args.types.now c.args.name.now c.in-Some.t c.requires c.in-Some.ensures c.if-t-ne0.true

pub returns-in_default : goal.returns-in_default
returns-in_default c =
    defined-free c.args.types.now c.args.name.now c.in-Some.t.0 c.requires c.in-Some.ensures c.if-t-ne0.false
