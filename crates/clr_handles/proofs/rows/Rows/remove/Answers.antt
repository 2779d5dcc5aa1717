use Rattle.std.proofs.Common.{◌∙◌, ap, sym}
use Rattle.std.specs.FinMap as finmap
use Rattle.slab.specs.Slab.{get}
use Rattle.clr_handles.proofs.RowTables.{get-table_of, taken-table, taken-rows}
use Rattle.clr_handles.proofs.rows.Rows.remove.Goals as goal

pub invariant_of-self : goal.invariant_of-self
invariant_of-self c =
    taken-rows c.self.inside.slots c.try_remove.new.self c.self.inside.numbering c.args.self.now
    c.key_of.ensures.lawful c.self.invariant c.self.view_is c.args.h c.key_of.result c.try_remove.result
    c.key_of.ensures.value c.try_remove.ensures.value c.try_remove.ensures.updates c.try_remove.ensures.len
    c.try_remove.ensures.absent

pub returns-clause-value : goal.returns-clause-value
returns-clause-value c =
    c.try_remove.ensures.value ∙ ap (get c.self.inside.slots) c.key_of.ensures.value
    ∙ sym (get-table_of c.self.inside.slots c.self.inside.numbering c.self.invariant.below c.args.h)
    ∙ ap (λ t. finmap.get t c.args.h) c.self.view_is

pub returns-clause-removed : goal.returns-clause-removed
returns-clause-removed c =
    taken-table c.self.inside.slots c.try_remove.new.self c.self.inside.numbering c.args.self.now
    c.key_of.ensures.lawful c.self.invariant c.self.view_is c.args.h c.key_of.result c.key_of.ensures.value
    c.try_remove.ensures.updates
