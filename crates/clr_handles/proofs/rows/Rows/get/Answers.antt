use Rattle.std.proofs.Common.{◌∙◌, ap, sym}
use Rattle.std.specs.FinMap as finmap
use Rattle.slab.specs.Slab.{get}
use Rattle.clr_handles.proofs.RowTables.{get-table_of, below-found}
use Rattle.clr_handles.proofs.rows.Rows.get.Goals as goal

pub returns-clause-value : goal.returns-clause-value
returns-clause-value c =
    c.copied.ensures ∙ c.get.ensures ∙ ap (get c.self.inside.slots) c.key_of.ensures.value
    ∙ sym (get-table_of c.self.inside.slots c.self.inside.numbering c.self.invariant.below c.args.h)
    ∙ ap (λ t. finmap.get t c.args.h) c.self.view_is

pub returns-clause-below : goal.returns-clause-below
returns-clause-below c =
    below-found c.self.inside.slots c.self.inside.numbering c.self.invariant c.args.h c.copied.result
    (c.copied.ensures ∙ c.get.ensures ∙ ap (get c.self.inside.slots) c.key_of.ensures.value)
