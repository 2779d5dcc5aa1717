-- The local takes what the slot names.
use Rattle.std.proofs.Common.{sym, ◌∙◌}
use Rattle.clr_model.specs.Outcomes.{answered}
use Rattle.clr_model.specs.declared.Reply.TheVariants.{Place}
use Rattle.clr_model.proofs.LineFollows.{get_of}
use Rattle.clr_runtime.specs.RuntimeView.{ahead_of, world_of}
use Rattle.clr_runtime.proofs.LocalsSeen.{local-read, local-stands}
use Rattle.clr_runtime.proofs.NamesChecked.{names_refused}
use Rattle.clr_runtime.proofs.RuntimeKept.{local_kept}
use Rattle.clr_runtime.proofs.SlotLines.{got, refused_slot}
use Rattle.clr_runtime.proofs.runtime.Runtime.get.Goals as goal

pub returns-in-Some-clause-follows : goal.returns-in-Some-clause-follows
returns-in-Some-clause-follows c =
    let l = get_of c.args.t c.args.to c.args.from c.args.index in
    names_refused l.instruction l.thread l.locals _ l.line l.alike c.args.self.now.machine c.in-Some.refusal
    (sym c.refused_names.ensures.value ∙ c.in-Some.is)

pub find_slot-requires-clause-object : goal.find_slot-requires-clause-object
find_slot-requires-clause-object c =
    local-stands c.self.invariant.shown c.args.t c.args.from c.index-place.result.now
    (local-read c.self.invariant.shown c.args.t c.args.from c.index_of.result c.index-place.result.now
    c.index_of.ensures.within c.index_of.ensures.index c.index-place.ensures)

pub returns-in-Err-clause-follows : goal.returns-in-Err-clause-follows
returns-in-Err-clause-follows c =
    let r = c.self.inside.parts in
    let passed = rw (← c.self.view_is) at (sym c.refused_names.ensures.value ∙ c.in_default.is) in
    rw (← c.self.view_is)
    (refused_slot (world_of r) _ _ _ (ahead_of r) (get_of c.args.t c.args.to c.args.from c.args.index)
    c.index-place.result.now passed
    (local-read c.self.invariant.shown c.args.t c.args.from c.index_of.result c.index-place.result.now
    c.index_of.ensures.within c.index_of.ensures.index c.index-place.ensures) c.in-Err.refusal c.in-Err.ensures)

pub invariant_of-self : goal.invariant_of-self
invariant_of-self c =
    let r = c.self.inside.parts in
    let passed = rw (← c.self.view_is) at (sym c.refused_names.ensures.value ∙ c.in_default.is) in
    let is = c.self.invariant.shown in
    let (has, kind) = c.in-Ok.ensures in
    let name = c.slot_value-name in
    record {
      shown = local_kept is _ (answered (Place name.result)) c.index_of-2.result name.result
          (got (world_of r) _ _ _ (ahead_of r) c.args.t c.index-place.result.now c.args.index c.in-Ok.found.item
          c.in-Ok.found.slot has c.args.to c.args.from c.index_of-2.result name.result
          passed
          (local-read is c.args.t c.args.from c.index_of.result c.index-place.result.now c.index_of.ensures.within
          c.index_of.ensures.index c.index-place.ensures) kind (name.ensures c.args.index has.slot)
          c.index_of-2.ensures.index);
      heap = c.self.invariant.heap;
      tables = c.self.invariant.tables;
      owed = c.self.invariant.owed;
      finalizers = c.self.invariant.finalizers;
      index = c.self.invariant.index;
      large = c.self.invariant.large;
      pinned = c.self.invariant.pinned;
      limit = c.self.invariant.limit;
      ready = c.self.invariant.ready;
    }

pub returns-clause-follows : goal.returns-clause-follows
returns-clause-follows c =
    let r = c.self.inside.parts in
    let passed = rw (← c.self.view_is) at (sym c.refused_names.ensures.value ∙ c.in_default.is) in
    let (has, kind) = c.in-Ok.ensures in
    let name = c.slot_value-name in
    rw (← c.self.view_is)
    (got (world_of r) _ _ _ (ahead_of r) c.args.t c.index-place.result.now c.args.index c.in-Ok.found.item
    c.in-Ok.found.slot has c.args.to c.args.from c.index_of-2.result name.result
    passed
    (local-read c.self.invariant.shown c.args.t c.args.from c.index_of.result c.index-place.result.now
    c.index_of.ensures.within c.index_of.ensures.index c.index-place.ensures) kind
    (name.ensures c.args.index has.slot) c.index_of-2.ensures.index)
