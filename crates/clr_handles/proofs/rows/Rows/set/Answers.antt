use Rattle.clr_handles.proofs.RowTables.{used-key, replaced-rows, replaced-table}
use Rattle.clr_handles.proofs.rows.Rows.set.Goals as goal

pub index_mut-requires : goal.index_mut-requires
index_mut-requires c =
    used-key c.self.inside.slots c.self.inside.numbering c.args.self.now c.key_of-key.ensures.lawful c.self.invariant
    c.self.view_is c.args.h c.key_of-key.result c.args.row c.key_of-key.ensures.value c.requires

pub invariant_of-self : goal.invariant_of-self
invariant_of-self c =
    replaced-rows c.self.inside.slots c.self.inside.numbering c.args.self.now c.key_of-key.ensures.lawful
    c.self.invariant c.self.view_is c.args.h c.key_of-key.result c.args.row c.key_of-key.ensures.value c.requires

pub returns : goal.returns
returns c =
    replaced-table c.self.inside.slots c.self.inside.numbering c.args.self.now c.key_of-key.ensures.lawful
    c.self.invariant c.self.view_is c.args.h c.key_of-key.result c.args.row c.key_of-key.ensures.value c.requires
