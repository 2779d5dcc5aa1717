use Rattle.std.proofs.Common.{◌/◌, [], sym, subst}
use Rattle.clr_plugs.specs.BrickEntries.{BricksView}
use Rattle.clr_plugs.specs.Builders.{BuilderView}
use Rattle.clr_plugs.specs.Planning.{IsWriting}
use Rattle.clr_plugs.proofs.Writing.{writing_begins}
use Rattle.clr_plugs.proofs.writer.PlanWriter.new.Goals as goal

pub returns-clause-writing : goal.returns-clause-writing
returns-clause-writing c h part lies at none covered =
    let P : BricksView → Type 0 =
    λ v. IsWriting h v part (record { builder = record { brick = c.args.low / 4096; plugs = [] }; last = 0 }) in
    let Q : BuilderView → Type 0 = λ v. IsWriting h c.set_none.new.self part (record { builder = v; last = 0 }) in
    subst Q (sym c.new.ensures)
    (subst P (sym c.set_none.ensures.value)
    (writing_begins h c.args.bricks.now part c.args.low c.requires.above lies at none covered c.requires.covered))
