use Rattle.std.proofs.Common.{◌∙◌, ap, sym, subst}
use Rattle.clr_handles.specs.Numbers.{Numbers}
use Rattle.clr_handles.specs.Tables.{AreRows, table_of}
use Rattle.clr_handles.proofs.RowTables.{on_error, room-rows, room-table, put-rows, put-table}
use Rattle.clr_handles.proofs.rows.Rows.add_at.Goals as goal

pub invariant_of-self : goal.invariant_of-self
invariant_of-self c =
    let old = c.self.inside in
    room-rows old.slots c.reserve.new.self old.numbering c.self.invariant c.reserve.ensures.rest_kept

pub returns-in_err-reserve-clause-err : goal.returns-in_err-reserve-clause-err
returns-in_err-reserve-clause-err c =
    let old = c.self.inside in
    let same = room-table old.slots c.reserve.new.self old.numbering c.self.invariant c.reserve.ensures.rest_kept in
    on_error c.from_residual.result _ (same ∙ c.self.view_is)

pub invariant_of-self-in_err-assign : goal.invariant_of-self-in_err-assign
invariant_of-self-in_err-assign c =
    let old = c.self.inside in
    subst (λ (v : Numbers). AreRows c.reserve.new.self v) (sym c.in_err-assign.ensures.err)
    (room-rows old.slots c.reserve.new.self old.numbering c.self.invariant c.reserve.ensures.rest_kept)

pub returns-in_err-assign-clause-err : goal.returns-in_err-assign-clause-err
returns-in_err-assign-clause-err c =
    let old = c.self.inside in
    let same = room-table old.slots c.reserve.new.self old.numbering c.self.invariant c.reserve.ensures.rest_kept in
    on_error c.from_residual-in_err-assign.result _
    (ap (table_of c.reserve.new.self) c.in_err-assign.ensures.err ∙ same ∙ c.self.view_is)

pub invariant_of-self-2 : goal.invariant_of-self-2
invariant_of-self-2 c =
    put-rows c.self.inside.slots c.reserve.new.self c.self.inside.numbering c.assign.new.self c.args.self.now
    c.key_of.ensures.lawful c.self.invariant c.self.view_is c.reserve.ensures.rest_kept c.args.h
    c.vacant_key-key.result c.requires.below c.requires.free c.vacant_key-key.ensures.vacant
    c.in_ok-assign.ensures.ok c.insert_reserved.new.self c.args.row c.key_of-2.ensures.lawful
    c.insert_reserved.result (c.insert_reserved.ensures.key ∙ sym c.vacant_key-key.ensures.value)
    c.insert_reserved.ensures.updates c.insert_reserved.ensures.len

pub returns-clause-ok : goal.returns-clause-ok
returns-clause-ok c =
    put-table c.self.inside.slots c.reserve.new.self c.self.inside.numbering c.assign.new.self c.args.self.now
    c.key_of.ensures.lawful c.self.invariant c.self.view_is c.reserve.ensures.rest_kept c.args.h
    c.vacant_key-key.result c.requires.below c.requires.free c.vacant_key-key.ensures.vacant
    c.in_ok-assign.ensures.ok c.insert_reserved.new.self c.args.row c.key_of-2.ensures.lawful
    c.insert_reserved.result (c.insert_reserved.ensures.key ∙ sym c.vacant_key-key.ensures.value)
    c.insert_reserved.ensures.updates
