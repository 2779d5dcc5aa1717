-- The slot takes what the local holds, and the thread is in mid-step.
use Rattle.std.proofs.Common.{◌≡◌, ◌∙◌, ◌-◌, [], ◌∷◌, ap, false, refl, subst, sym, arith, true≢false}
use Rattle.clr_types.specs.declared.segment.SegKind.TheVariants.{Large, Pinned}
use Rattle.clr_ctx.specs.Contexts.{young_items}
use Rattle.clr_large.specs.Places.{kind_items}
use Rattle.clr_model.specs.declared.Reply.TheVariants.{Done}
use Rattle.clr_model.specs.Instructions.{begin_set}
use Rattle.clr_model.specs.Lookups.{is_step}
use Rattle.clr_model.specs.Outcomes.{answered}
use Rattle.clr_model.specs.Run.{Follows}
use Rattle.clr_model.proofs.SeenStands.{follows_sound}
use Rattle.clr_safe.specs.Threads.{begun_by, step_by, Threads}
use Rattle.clr_safe.specs.declared.begun.Begun.TheVariants.{Store}
use Rattle.clr_safe.proofs.Entries.{owed-no_more}
use Rattle.clr_view.proofs.SlotReads.{reference-word}
use Rattle.clr_options.specs.Options.{options_of}
use Rattle.clr_runtime.specs.RuntimeView.{ahead_of, IsRuntime, seen, sums_of, world_of}
use Rattle.clr_runtime.proofs.HeapKept.{stored_heap}
use Rattle.clr_runtime.proofs.BeginSetLines.{begin_set_of}
use Rattle.clr_runtime.proofs.BegunStores.{begun_tables, store_begun}
use Rattle.clr_runtime.proofs.IndexKept.{same_index}
use Rattle.clr_runtime.proofs.LimitKept.{stored_limit}
use Rattle.clr_runtime.proofs.LocalsSeen.{local-read, local-stands}
use Rattle.clr_runtime.proofs.NamesChecked.{names_passed, names_refused}
use Rattle.clr_runtime.proofs.SlotLines.{refused_slot}
use Rattle.clr_runtime.proofs.StepsBegun.{begun-within, finalizers-begun, with_begun}
use Rattle.clr_runtime.proofs.StepsSeen.{step-seen}
use Rattle.clr_runtime.proofs.runtime.Runtime.begin_set.Goals as goal
use Rattle.clr_runtime.specs.Shown.{shown}
use Rattle.clr_runtime.proofs.MarkedKept.{quiet_marked}
use Rattle.clr_runtime.proofs.runtime.Runtime.begin_set.Goals.{After-set_slot_value}

pub returns-in-Some-clause-follows : goal.returns-in-Some-clause-follows
returns-in-Some-clause-follows c =
    let l = begin_set_of c.args.t c.args.into c.args.index c.args.from in
    names_refused l.instruction l.thread l.locals _ l.line l.alike c.args.self.now.machine c.in-Some.refusal
    (sym c.refused_names.ensures.value ∙ c.in-Some.is)

pub find_slot-requires-clause-object : goal.find_slot-requires-clause-object
find_slot-requires-clause-object c =
    local-stands c.self.invariant.shown c.args.t c.args.into c.index-place.result.now
    (local-read c.self.invariant.shown c.args.t c.args.into c.index_of.result c.index-place.result.now
    c.index_of.ensures.within c.index_of.ensures.index c.index-place.ensures)

pub returns-in-Err-clause-follows : goal.returns-in-Err-clause-follows
returns-in-Err-clause-follows c =
    let r = c.self.inside.parts in
    let passed = rw (← c.self.view_is) at (sym c.refused_names.ensures.value ∙ c.in_default.is) in
    rw (← c.self.view_is)
    (refused_slot (world_of r) _ _ _ (ahead_of r) (begin_set_of c.args.t c.args.into c.args.index c.args.from)
    c.index-place.result.now passed
    (local-read c.self.invariant.shown c.args.t c.args.into c.index_of.result c.index-place.result.now
    c.index_of.ensures.within c.index_of.ensures.index c.index-place.ensures) c.in-Err.refusal c.in-Err.ensures)

pub set_slot_value-requires-clause-byte : goal.set_slot_value-requires-clause-byte
set_slot_value-requires-clause-byte c = λ bytes.
    let (has, kind) = c.in-Ok.ensures in
    absurd (true≢false (sym bytes ∙ reference-word c.self.inside.parts.types c.in-Ok.found.item c.in-Ok.found.slot
    (record { number = c.args.index; is = has.slot }) kind))

-- the slot takes the value, and the thread is in mid-step
begun-store : (c : After-set_slot_value) → Follows (seen c.self.inside.parts)
    (begin_set c.args.t c.args.into c.args.index c.args.from) (answered Done)
    (shown (record (world_of c.self.inside.parts) { heap = c.set_slot_value.new.heap })
    (sums_of c.self.inside.parts.sums) (options_of c.self.inside.parts.options)
    (with_begun c.self.inside.parts.safe c.args.t (Store c.index-place.result.now c.args.index))
    (ahead_of c.self.inside.parts))
begun-store c =
    let r = c.self.inside.parts in
    let is = c.self.invariant.shown in
    let passed = rw (← c.self.view_is) at (sym c.refused_names.ensures.value ∙ c.in_default.is) in
    let (has, kind) = c.in-Ok.ensures in
    store_begun
    (world_of r) _ _ _ (ahead_of r) c.args.t c.index-place.result.now c.args.index c.in-Ok.found.item c.in-Ok.found.slot
    has c.set_slot_value.new.heap c.args.into c.args.from c.index-name.result.now passed
    (local-read is c.args.t c.args.into c.index_of.result c.index-place.result.now c.index_of.ensures.within
    c.index_of.ensures.index c.index-place.ensures)
    (local-read is c.args.t c.args.from c.index_of-2.result c.index-name.result.now c.index_of-2.ensures.within
    c.index_of-2.ensures.index c.index-name.ensures) kind (c.set_slot_value.ensures.stored c.args.index has.slot)

pub invariant_of-self : goal.invariant_of-self
invariant_of-self c =
    let at = goal.at.invariant_of-self c in
    let r = c.self.inside.parts in
    let passed = rw (← c.self.view_is) at (sym c.refused_names.ensures.value ∙ c.in_default.is) in
    let is = c.self.invariant.shown in
    let (has, kind) = c.in-Ok.ensures in
    let done = c.set_slot_value in
    let stored = done.ensures.stored c.args.index has.slot in
    let place = c.index-place.result.now in
    let name = c.index-name.result.now in
    let run = (names_passed (seen r) c.args.t (c.args.into ∷ c.args.from ∷ []) passed).0 in
    let within = begun-within is c.args.t run.thread in
    let idle : is_step (step_by (begun_by r.safe c.args.t)) ≡ false =
    sym (ap is_step (step-seen (world_of r) (sums_of r.sums) (options_of r.options) r.safe (ahead_of r) c.args.t))
    ∙ run.idle in
    let less = owed-no_more r.safe.begun (c.args.t - 1) (Store place c.args.index) within refl in
    subst
    (λ (threads : Threads). IsRuntime (record r { space = record r.space { heap = done.new.heap }; safe = threads }))
    (sym c.begin.ensures)
    (record {
      shown = record {
        locals = is.locals;
        held = stored.held;
        unmarked = done.ensures.unmarked is.unmarked;
        free_heads = done.ensures.free_heads is.free_heads;
        clean = done.ensures.clean is.clean;
        sound = follows_sound (seen r) (begin_set c.args.t c.args.into c.args.index c.args.from) (answered Done) _
            is.sound (begun-store at.After-set_slot_value);
        marked = quiet_marked (seen r) (begin_set c.args.t c.args.into c.args.index c.args.from) (answered Done) _
            is.sound refl (begun-store at.After-set_slot_value) r.background refl refl is.marked;
      };
      heap = stored_heap r.types r.space.heap done.new.heap c.in-Ok.found.item c.in-Ok.found.slot name
          done.ensures.words
          c.self.invariant.heap;
      tables = begun_tables r.space.cards r.safe r.space.bricks r.types r.space.heap done.new.heap
          c.self.invariant.heap is.held c.args.t
          place c.args.index name c.in-Ok.found.item c.in-Ok.found.slot has kind done.ensures.stored within idle
          c.self.invariant.tables;
      owed = let owed = c.self.invariant.owed in omega (arith, owed, less);
      finalizers = finalizers-begun r.types r.safe c.args.t (Store place c.args.index) c.self.invariant.finalizers tt;
      index = same_index young_items r.types r.types r.space.heap done.new.heap r.collector.young stored.layout
          c.self.invariant.index;
      large = same_index
          (kind_items Large) r.types r.types r.space.heap done.new.heap r.large stored.layout c.self.invariant.large;
      pinned = same_index
          (kind_items Pinned) r.types r.types r.space.heap done.new.heap r.pinned stored.layout c.self.invariant.pinned;
      limit = stored_limit r.types r.space.heap done.new.heap c.in-Ok.found.item c.in-Ok.found.slot name
          done.ensures.words ∙ c.self.invariant.limit;
      ready = c.self.invariant.ready;
    })

pub returns-clause-follows : goal.returns-clause-follows
returns-clause-follows c =
    let at = goal.at.returns-clause-follows c in
    let r = c.self.inside.parts in
    rw (← c.self.view_is)
    (subst (λ (threads : Threads). Follows (seen r) (begin_set c.args.t c.args.into c.args.index c.args.from)
    (answered Done) (seen (record r { space = record r.space { heap = c.set_slot_value.new.heap }; safe = threads })))
    (sym c.begin.ensures)
    (begun-store at.After-set_slot_value))
