-- The slot takes the number.
use Rattle.std.proofs.Common.{sym, ◌∙◌, refl}
use Rattle.clr_types.specs.declared.segment.SegKind.TheVariants.{Large, Pinned}
use Rattle.clr_model.specs.Outcomes.{answered}
use Rattle.clr_model.specs.declared.Reply.TheVariants.{Done}
use Rattle.clr_model.proofs.LineFollows.{put_of}
use Rattle.clr_ctx.specs.Contexts.{young_items}
use Rattle.clr_large.specs.Places.{kind_items}
use Rattle.clr_runtime.specs.RuntimeView.{ahead_of, seen, world_of}
use Rattle.clr_runtime.proofs.HeapKept.{stored_heap}
use Rattle.clr_runtime.proofs.IndexKept.{same_index}
use Rattle.clr_runtime.proofs.LimitKept.{stored_limit}
use Rattle.clr_runtime.proofs.LocalsSeen.{local-read, local-stands}
use Rattle.clr_runtime.proofs.NamesChecked.{names_refused, once}
use Rattle.clr_runtime.proofs.RuntimeKept.{heap_kept}
use Rattle.clr_runtime.proofs.StepsKept.{numbered_tables}
use Rattle.clr_runtime.proofs.SlotLines.{refused_slot, was_put}
use Rattle.clr_runtime.proofs.runtime.Runtime.put.Goals as goal

pub returns-in-Some-clause-follows : goal.returns-in-Some-clause-follows
returns-in-Some-clause-follows c =
    let l = put_of c.args.t c.args.into c.args.index c.args.value c.ranges.value.fits in
    names_refused l.instruction l.thread l.locals _ l.line l.alike c.args.self.now.machine c.in-Some.refusal
    (once c.args.self.now.machine c.args.t c.args.into _ (sym c.refused_names.ensures.value ∙ c.in-Some.is))

pub find_slot-requires-clause-object : goal.find_slot-requires-clause-object
find_slot-requires-clause-object c =
    local-stands c.self.invariant.shown c.args.t c.args.into c.index-place.result.now
    (local-read c.self.invariant.shown c.args.t c.args.into c.index_of.result c.index-place.result.now
    c.index_of.ensures.within c.index_of.ensures.index c.index-place.ensures)

pub returns-in-Err-clause-follows : goal.returns-in-Err-clause-follows
returns-in-Err-clause-follows c =
    let r = c.self.inside.parts in
    let passed = rw (← c.self.view_is) at (sym c.refused_names.ensures.value ∙ c.in_default.is) in
    rw (← c.self.view_is)
    (refused_slot (world_of r) _ _ _ (ahead_of r)
    (put_of c.args.t c.args.into c.args.index c.args.value c.ranges.value.fits) c.index-place.result.now
    (once (seen r) c.args.t c.args.into _ passed)
    (local-read c.self.invariant.shown c.args.t c.args.into c.index_of.result c.index-place.result.now
    c.index_of.ensures.within c.index_of.ensures.index c.index-place.ensures) c.in-Err.refusal c.in-Err.ensures)

pub invariant_of-self : goal.invariant_of-self
invariant_of-self c =
    let r = c.self.inside.parts in
    let passed = rw (← c.self.view_is) at (sym c.refused_names.ensures.value ∙ c.in_default.is) in
    let is = c.self.invariant.shown in
    let (has, kind) = c.in-Ok.ensures in
    let done = c.set_slot_value in
    let number = c.narrowed-number in
    let stored = done.ensures.stored c.args.index has.slot in
    record {
      shown = heap_kept is _ (answered Done) refl done.new.heap stored.held done.ensures.unmarked
          done.ensures.free_heads done.ensures.clean
          (was_put (world_of r) _ _ _ (ahead_of r) c.args.t c.index-place.result.now c.args.index c.in-Ok.found.item
          c.in-Ok.found.slot has done.new.heap c.args.into c.args.value number.result c.ranges.value.fits
          passed
          (local-read is c.args.t c.args.into c.index_of.result c.index-place.result.now c.index_of.ensures.within
          c.index_of.ensures.index c.index-place.ensures) number.ensures kind stored);
      heap = stored_heap r.types r.space.heap done.new.heap c.in-Ok.found.item c.in-Ok.found.slot number.result
          done.ensures.words
          c.self.invariant.heap;
      tables = numbered_tables r.space.cards r.safe r.space.bricks r.types r.space.heap done.new.heap c.in-Ok.found.item
          c.in-Ok.found.slot number.result (record { number = c.args.index; is = has.slot }) kind done.ensures.stored
          c.self.invariant.tables;
      owed = c.self.invariant.owed;
      finalizers = c.self.invariant.finalizers;
      index = same_index young_items r.types r.types r.space.heap done.new.heap r.collector.young stored.layout
          c.self.invariant.index;
      large = same_index
          (kind_items Large) r.types r.types r.space.heap done.new.heap r.large stored.layout c.self.invariant.large;
      pinned = same_index
          (kind_items Pinned) r.types r.types r.space.heap done.new.heap r.pinned stored.layout c.self.invariant.pinned;
      limit = stored_limit r.types r.space.heap done.new.heap c.in-Ok.found.item c.in-Ok.found.slot number.result
          done.ensures.words ∙ c.self.invariant.limit;
      ready = c.self.invariant.ready;
    }

pub returns-clause-follows : goal.returns-clause-follows
returns-clause-follows c =
    let r = c.self.inside.parts in
    let passed = rw (← c.self.view_is) at (sym c.refused_names.ensures.value ∙ c.in_default.is) in
    let (has, kind) = c.in-Ok.ensures in
    let done = c.set_slot_value in
    let number = c.narrowed-number in
    rw (← c.self.view_is)
    (was_put (world_of r) _ _ _ (ahead_of r) c.args.t c.index-place.result.now c.args.index c.in-Ok.found.item
    c.in-Ok.found.slot has done.new.heap c.args.into c.args.value number.result c.ranges.value.fits
    passed
    (local-read c.self.invariant.shown c.args.t c.args.into c.index_of.result c.index-place.result.now
    c.index_of.ensures.within c.index_of.ensures.index c.index-place.ensures) number.ensures kind
    (done.ensures.stored c.args.index has.slot))
