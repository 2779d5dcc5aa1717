-- The number in the slot is told.
use Rattle.std.proofs.Common.{sym, ◌∙◌}
use Rattle.clr_model.proofs.LineFollows.{read_of}
use Rattle.clr_runtime.specs.RuntimeView.{ahead_of, seen, world_of}
use Rattle.clr_runtime.proofs.LocalsSeen.{local-read, local-stands}
use Rattle.clr_runtime.proofs.NamesChecked.{names_refused, once}
use Rattle.clr_runtime.proofs.SlotLines.{refused_slot, was_read}
use Rattle.clr_runtime.proofs.runtime.Runtime.read.Goals as goal

pub returns-in-Some : goal.returns-in-Some
returns-in-Some c =
    let l = read_of c.args.t c.args.from c.args.index in
    names_refused l.instruction l.thread l.locals _ l.line l.alike c.args.self.now.machine c.in-Some.refusal
    (once c.args.self.now.machine c.args.t c.args.from _ (sym c.refused_names.ensures.value ∙ c.in-Some.is))

pub find_slot-requires-clause-object : goal.find_slot-requires-clause-object
find_slot-requires-clause-object c =
    local-stands c.self.invariant.shown c.args.t c.args.from c.index-place.result.now
    (local-read c.self.invariant.shown c.args.t c.args.from c.index_of.result c.index-place.result.now
    c.index_of.ensures.within c.index_of.ensures.index c.index-place.ensures)

pub returns-in-Ok : goal.returns-in-Ok
returns-in-Ok c =
    let r = c.self.inside.parts in
    let passed = rw (← c.self.view_is) at (sym c.refused_names.ensures.value ∙ c.in_default.is) in
    let (has, kind) = c.in-Ok.ensures in
    rw (← c.self.view_is)
    (was_read (world_of r) _ _ _ (ahead_of r) c.args.t c.index-place.result.now c.args.index c.in-Ok.found.item
    c.in-Ok.found.slot has c.args.from c.slot_value.result passed
    (local-read c.self.invariant.shown c.args.t c.args.from c.index_of.result c.index-place.result.now
    c.index_of.ensures.within c.index_of.ensures.index c.index-place.ensures) kind
    (c.slot_value.ensures c.args.index has.slot))

pub returns-in-Err : goal.returns-in-Err
returns-in-Err c =
    let r = c.self.inside.parts in
    let passed = rw (← c.self.view_is) at (sym c.refused_names.ensures.value ∙ c.in_default.is) in
    rw (← c.self.view_is)
    (refused_slot (world_of r) _ _ _ (ahead_of r) (read_of c.args.t c.args.from c.args.index)
    c.index-place.result.now
    (once (seen r) c.args.t c.args.from _ passed)
    (local-read c.self.invariant.shown c.args.t c.args.from c.index_of.result c.index-place.result.now
    c.index_of.ensures.within c.index_of.ensures.index c.index-place.ensures) c.in-Err.refusal c.in-Err.ensures)
