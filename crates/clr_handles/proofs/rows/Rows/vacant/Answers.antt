use Rattle.std.proofs.Common.{◌≡◌, ◌∙◌, ap}
use Rattle.clr_handles.specs.Numbers.{key_at}
use Rattle.clr_handles.proofs.RowTables.{free-found}
use Rattle.clr_handles.proofs.rows.Rows.vacant.Goals as goal

pub returns-clause-free : goal.returns-clause-free
returns-clause-free c =
    let v = c.self.inside.numbering in
    let lawful = c.number_of-number.ensures.lawful in
    let is : key_at v c.number_of-number.result ≡ c.vacant_key.result =
    ap (key_at v) c.number_of-number.ensures.value ∙ lawful.forth c.vacant_key.result in
    free-found c.self.inside.slots c.self.inside.slots v c.args.self.now lawful c.self.invariant c.self.view_is
    c.number_of-number.result c.vacant_key.result is c.vacant_key.ensures.vacant
