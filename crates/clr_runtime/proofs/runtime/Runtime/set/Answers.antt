-- The slot takes what the local holds.
use Rattle.std.proofs.Common.{sym, ◌∙◌, arith, subst, ℕ, ◌+◌}
use Rattle.clr_types.specs.declared.segment.SegKind.TheVariants.{Large, Pinned}
use Rattle.clr_model.specs.Outcomes.{answered}
use Rattle.clr_model.specs.declared.Reply.TheVariants.{Done}
use Rattle.clr_model.proofs.LineFollows.{set_of}
use Rattle.clr_ctx.specs.Contexts.{young_items}
use Rattle.clr_large.specs.Places.{kind_items}
use Rattle.clr_runtime.specs.RuntimeView.{ahead_of, IsRuntime, seen, sums_of, world_of}
use Rattle.clr_runtime.proofs.HeapKept.{stored_heap}
use Rattle.clr_runtime.proofs.IndexKept.{same_index}
use Rattle.clr_runtime.proofs.LimitKept.{stored_limit}
use Rattle.clr_runtime.proofs.LocalsSeen.{local-read, local-stands}
use Rattle.clr_runtime.proofs.NamesChecked.{names_refused}
use Rattle.clr_runtime.proofs.RuntimeKept.{stored_kept}
use Rattle.clr_runtime.proofs.StepsKept.{referred_tables}
use Rattle.clr_runtime.proofs.SlotLines.{refused_slot, was_set}
use Rattle.clr_runtime.proofs.runtime.Runtime.set.Goals as goal
use Rattle.clr_bgmark.specs.Shades.{BackgroundView}
use Rattle.clr_model.specs.Instructions.{set_slot}
use Rattle.clr_model.specs.Run.{Follows}
use Rattle.clr_view.proofs.SlotReads.{slot-low}
use Rattle.clr_options.specs.Options.{options_of}
use Rattle.clr_runtime.specs.Shown.{shown}
use Rattle.clr_runtime.proofs.MarkedStores.{card_logged, IsCardLogged, IsStoredAt, logged-shown, stored_address}
use Rattle.clr_runtime.proofs.runtime.Runtime.set.Goals.{After-set_reference, After-wrote}

pub returns-in-Some-clause-follows : goal.returns-in-Some-clause-follows
returns-in-Some-clause-follows c =
    let l = set_of c.args.t c.args.into c.args.index c.args.from in
    names_refused l.instruction l.thread l.locals _ l.line l.alike c.args.self.now.machine c.in-Some.refusal
    (sym c.refused_names.ensures.value ∙ c.in-Some.is)

pub find_slot-requires-clause-object : goal.find_slot-requires-clause-object
find_slot-requires-clause-object c =
    local-stands c.self.invariant.shown c.args.t c.args.into c.index-place.result.now
    (local-read c.self.invariant.shown c.args.t c.args.into c.index_of.result c.index-place.result.now
    c.index_of.ensures.within c.index_of.ensures.index c.index-place.ensures)

pub returns-in-Err-clause-follows : goal.returns-in-Err-clause-follows
returns-in-Err-clause-follows c =
    let r = c.self.inside.parts in
    let passed = rw (← c.self.view_is) at (sym c.refused_names.ensures.value ∙ c.in_default.is) in
    rw (← c.self.view_is)
    (refused_slot (world_of r) _ _ _ (ahead_of r) (set_of c.args.t c.args.into c.args.index c.args.from)
    c.index-place.result.now passed
    (local-read c.self.invariant.shown c.args.t c.args.into c.index_of.result c.index-place.result.now
    c.index_of.ensures.within c.index_of.ensures.index c.index-place.ensures) c.in-Err.refusal c.in-Err.ensures)

pub overflow_add-found : goal.overflow_add-found
overflow_add-found c =
    let r = c.self.inside.parts in
    let (has, kind) = c.in-Ok.ensures in
    let low = slot-low r.types r.space.heap c.in-Ok.found.item c.in-Ok.found.slot c.self.invariant.heap
    c.self.invariant.shown.held has.object.listed (record { number = c.args.index; is = has.slot }) in
    omega (arith, low)

-- the slot takes what the local holds
set-done : (c : After-set_reference) → Follows (seen c.self.inside.parts)
    (set_slot c.args.t c.args.into c.args.index c.args.from) (answered Done)
    (shown (record (world_of c.self.inside.parts) { heap = c.set_reference.new.heap })
    (sums_of c.self.inside.parts.sums) (options_of c.self.inside.parts.options) c.self.inside.parts.safe
    (ahead_of c.self.inside.parts))
set-done c =
    let r = c.self.inside.parts in
    let is = c.self.invariant.shown in
    let passed = rw (← c.self.view_is) at (sym c.refused_names.ensures.value ∙ c.in_default.is) in
    let (has, kind) = c.in-Ok.ensures in
    was_set
    (world_of r) _ _ _
    (ahead_of r) c.args.t c.index-place.result.now c.args.index c.in-Ok.found.item c.in-Ok.found.slot has
    c.set_reference.new.heap c.args.into c.args.from c.index-name.result.now passed
    (local-read is c.args.t c.args.into c.index_of.result c.index-place.result.now c.index_of.ensures.within
    c.index_of.ensures.index c.index-place.ensures)
    (local-read is c.args.t c.args.from c.index_of-2.result c.index-name.result.now c.index_of-2.ensures.within
    c.index_of-2.ensures.index c.index-name.ensures) kind (c.set_reference.ensures.stored c.args.index has.slot)

-- where it lies
abbrev slot-at : After-set_reference → ℕ
slot-at c = c.in-Ok.found.item.place + c.in-Ok.found.slot.offset

-- it is the slot that the line stores into
set-there : (c : After-set_reference)
    → IsStoredAt (seen c.self.inside.parts) (set_slot c.args.t c.args.into c.args.index c.args.from) (slot-at c)
set-there c o n here completes =
    let is = c.self.invariant.shown in
    let (has, kind) = c.in-Ok.ensures in
    let (name, number) = completes in
    let place = local-read is c.args.t c.args.into c.index_of.result c.index-place.result.now
    c.index_of.ensures.within c.index_of.ensures.index c.index-place.ensures in
    let r = c.self.inside.parts in
    stored_address (world_of r) (sums_of r.sums) (options_of r.options) r.safe
    (ahead_of r) is.sound c.index-place.result.now c.args.index c.in-Ok.found.item c.in-Ok.found.slot has.object
    has.slot o here (name ∙ sym place) n number

-- and its card is logged
set-logged : (c : After-wrote) → IsCardLogged c.self.inside.parts.background
    (c.in-Ok.found.item.place + c.in-Ok.found.slot.offset)
set-logged c =
    card_logged c.self.inside.parts.background (c.in-Ok.found.item.place + c.in-Ok.found.slot.offset) c.wrote.new.self
    c.wrote.ensures.value c.wrote.ensures.log

pub invariant_of-self : goal.invariant_of-self
invariant_of-self c =
    let at = goal.at.invariant_of-self c in
    let r = c.self.inside.parts in
    let is = c.self.invariant.shown in
    let (has, kind) = c.in-Ok.ensures in
    let done = c.set_reference in
    let stored = done.ensures.stored c.args.index has.slot in
    subst (λ (v : BackgroundView). IsRuntime (record r {
      space = record r.space { heap = done.new.heap; cards = done.new.cards };
      background = v;
    })) (sym c.wrote.ensures.value)
    (record {
      shown = stored_kept is (set_slot c.args.t c.args.into c.args.index c.args.from) (answered Done) done.new.heap
          (c.in-Ok.found.item.place + c.in-Ok.found.slot.offset) tt stored.held done.ensures.unmarked
          done.ensures.free_heads done.ensures.clean (set-there at.After-set_reference) (set-logged at.After-wrote)
          (set-done at.After-set_reference);
      heap = stored_heap r.types r.space.heap done.new.heap c.in-Ok.found.item c.in-Ok.found.slot
          c.index-name.result.now
          done.ensures.words c.self.invariant.heap;
      tables = referred_tables r.space.cards r.safe r.space.bricks r.types r.space.heap done.new.heap c.in-Ok.found.item
          c.in-Ok.found.slot c.index-name.result.now (record { number = c.args.index; is = has.slot })
          done.ensures.stored done.new.cards done.ensures.spans done.ensures.card done.ensures.law
          c.self.invariant.tables;
      owed = c.self.invariant.owed;
      finalizers = c.self.invariant.finalizers;
      index = same_index young_items r.types r.types r.space.heap done.new.heap r.collector.young stored.layout
          c.self.invariant.index;
      large = same_index
          (kind_items Large) r.types r.types r.space.heap done.new.heap r.large stored.layout c.self.invariant.large;
      pinned = same_index
          (kind_items Pinned) r.types r.types r.space.heap done.new.heap r.pinned stored.layout c.self.invariant.pinned;
      limit = stored_limit r.types r.space.heap done.new.heap c.in-Ok.found.item c.in-Ok.found.slot
          c.index-name.result.now done.ensures.words ∙ c.self.invariant.limit;
      ready = c.self.invariant.ready;
    })

pub returns-clause-follows : goal.returns-clause-follows
returns-clause-follows c =
    let at = goal.at.returns-clause-follows c in
    let r = c.self.inside.parts in
    let follows = Follows (seen r) (set_slot c.args.t c.args.into c.args.index c.args.from) (answered Done) in
    let heap = c.set_reference.new.heap in
    rw (← c.self.view_is)
    (subst
    (λ (v : BackgroundView). follows (seen (record r { space = record r.space { heap = heap }; background = v })))
    (sym c.wrote.ensures.value)
    (subst follows (sym (logged-shown (record (world_of r) { heap = heap }) (sums_of r.sums) (options_of r.options)
    r.safe (ahead_of r) (c.in-Ok.found.item.place + c.in-Ok.found.slot.offset)))
    (set-done at.After-set_reference)))
