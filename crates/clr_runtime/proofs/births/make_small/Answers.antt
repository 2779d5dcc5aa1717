-- The object is born at the front of its thread's context, or no room was made.
use Rattle.std.proofs.Common.{◌≡◌, ◌+◌, ◌∙◌, ◌<◌, ◌^◌, [], ◌∷◌, ◌++◌, if◌then◌else◌, arith, Err, sym, List, Option}
use Rattle.std.proofs.Common.{ap, subst, ℕ, true, unwrap_or}
use Rattle.clr_types.specs.declared.segment.SegKind.TheVariants.{Large, Pinned}
use Rattle.clr_types.specs.Types.{TypeRow, form_at, has_finalizer, size_of, type_row}
use Rattle.clr_ctx.specs.Contexts.{young_items}
use Rattle.clr_heap.specs.View.{frame}
use Rattle.clr_large.specs.Places.{kind_items}
use Rattle.clr_view.specs.View.{HasNewborn}
use Rattle.clr_model.specs.Allocation.{own_fits}
use Rattle.clr_model.proofs.FrontBirth.{born_entries}
use Rattle.clr_runtime.specs.Births.{IsMeasured}
use Rattle.clr_runtime.specs.RuntimeView.{seen}
use Rattle.clr_runtime.proofs.HeapKept.{born_heap}
use Rattle.clr_runtime.proofs.BirthDone.{birth_kept, HasItsRoom, made_follows, room_fits}
use Rattle.clr_runtime.proofs.BirthLines.{fails_follows, known, makeable, may_bear}
use Rattle.clr_runtime.proofs.IndexKept.{index_kept}
use Rattle.clr_runtime.proofs.NamesChecked.{may_run}
use Rattle.clr_runtime.proofs.LimitKept.{born_limit}
use Rattle.clr_safe.specs.Threads.{births_owed}
use Rattle.clr_runtime.proofs.RuntimeKept.{owed_left, spent_fits}
use Rattle.clr_runtime.proofs.TablesKept.{birth_tables}
use Rattle.clr_runtime.specs.declared.rooms.NoRoom.{NoRoom}
use Rattle.clr_model.specs.declared.Refusal.TheVariants.{Oom}
use Rattle.clr_runtime.proofs.Counted.{full-room, made-not-refused, refused-as}
use Rattle.clr_runtime.proofs.births.make_small.Goals as goal
use Rattle.clr_runtime.proofs.births.make_small.Goals.{After-register_entry, In_default}

pub make_room-requires-clause-idle : goal.make_room-requires-clause-idle
make_room-requires-clause-idle c = (may_run (seen c.args.parts.now) c.args.t c.requires.passed).idle

-- no room was made, and what was done for it stays
pub returns-in-Err-clause-made : goal.returns-in-Err-clause-made
returns-in-Err-clause-made c =
    λ name len measured. fails_follows c.requires.runtime.shown c.args.t c.args.local name len c.requires.passed
    c.args.request measured c.requires.small (seen c.make_room.new.parts) c.in-Err.why c.refusal_of.result
    c.refusal_of.ensures c.in-Err.ensures.room

-- what is asked for, by the types once there is room
asked : (c : In_default) (name : List ℕ) (len : Option ℕ)
    → IsMeasured c.args.parts.now.types c.args.local name len c.args.request
    → IsMeasured c.make_room.new.parts.types c.args.local name len c.args.request
asked c name len =
    subst (λ (rows : List TypeRow). IsMeasured rows c.args.local name len c.args.request)
    (sym c.in_default.ensures.types)

-- the object has its room
roomy : (c : In_default) (name : List ℕ) (len : Option ℕ)
    → IsMeasured c.args.parts.now.types c.args.local name len c.args.request
    → HasItsRoom (seen c.args.parts.now) (seen c.make_room.new.parts) c.args.t c.args.local name len
    c.args.request.type_id.0 c.args.request.size
roomy c name len measured = record {
  sound = c.requires.runtime.shown.sound;
  may = may_bear c.requires.runtime.shown c.args.t c.args.local name len c.requires.passed c.args.request
      measured c.requires.small;
  types = c.in_default.ensures.types;
  is = measured.size_is;
  room = c.in_default.ensures.room;
  fits = c.in_default.ensures.fits;
}

pub allocate-place-requires-clause-item : goal.allocate-place-requires-clause-item
allocate-place-requires-clause-item c =
    let at = (goal.at.allocate-place-requires-clause-item c).In_default in
    let (name, len, measured) = c.requires.asked in
    makeable c.make_room.new.parts.types c.args.local name len c.args.request (asked at name len measured)

pub allocate-place-requires-clause-object : goal.allocate-place-requires-clause-object
allocate-place-requires-clause-object c =
    let (name, len, measured) = c.requires.asked in
    (known c.args.parts.now.types c.args.local name len c.args.request measured).0

pub allocate-place-requires-clause-size : goal.allocate-place-requires-clause-size
allocate-place-requires-clause-size c =
    let at = (goal.at.allocate-place-requires-clause-size c).In_default in
    let (name, len, measured) = c.requires.asked in
    let there = asked at name len measured in
    let form = form_at c.make_room.new.parts.types c.args.request.type_id.0 in
    there.size_is ∙ ap (size_of form) (sym there.len_is)

pub allocate-place-requires-clause-room : goal.allocate-place-requires-clause-room
allocate-place-requires-clause-room c =
    let at = (goal.at.allocate-place-requires-clause-room c).In_default in
    let (name, len, measured) = c.requires.asked in
    let p = c.make_room.new.parts in
    let type = c.args.request.type_id.0 in
    subst (λ n. own_fits (frame p.space.heap) c.args.t (size_of (form_at p.types type) n) ≡ true) (sym measured.len_is)
    (room_fits (seen c.args.parts.now) c.in_default.ensures.runtime.shown c.args.t c.args.local name len type
    c.args.request.size (roomy at name len measured))

pub register_entry-requires : goal.register_entry-requires
register_entry-requires c = λ wanted.
    let entry = c.requires.entry wanted in
    let more = c.in_default.ensures.spare in
    omega (arith, entry, more)

pub overflow_add-parts : goal.overflow_add-parts
overflow_add-parts c =
    let (name, len, measured) = c.requires.asked in
    let fits : c.make_room.new.parts.sums.spent0 + c.args.request.size < 2 ^ 64 =
    spent_fits c.in_default.ensures.runtime.shown c.args.request.size measured.most in
    omega arith

-- the entries with the object, where its type has a finaliser
registered : (c : After-register_entry) (name : List ℕ) (len : Option ℕ)
    → IsMeasured c.args.parts.now.types c.args.local name len c.args.request
    → c.register_entry.new.finals.entries
    ≡ born_entries (seen c.make_room.new.parts) c.args.request.type_id.0 c.allocate-place.result
registered c name len measured =
    let p = c.make_room.new.parts in
    let type = c.args.request.type_id.0 in
    let final = measured.entry
    ∙ ap (λ (rows : List TypeRow). has_finalizer (type_row rows type)) (sym c.in_default.ensures.types) in
    c.register_entry.ensures.entries
    ∙ (λ k. if final k then p.roots.finals.entries ++ c.allocate-place.result ∷ [] else p.roots.finals.entries)

-- the object is born, with the length that was given
born : (c : After-register_entry) (name : List ℕ) (len : Option ℕ)
    → IsMeasured c.args.parts.now.types c.args.local name len c.args.request
    → HasNewborn c.make_room.new.parts.types c.make_room.new.parts.space.heap c.allocate-place.new.heap c.args.t
    c.args.request.type_id.0 (unwrap_or len 0)
born c name len measured =
    let p = c.make_room.new.parts in
    subst (HasNewborn p.types p.space.heap c.allocate-place.new.heap c.args.t c.args.request.type_id.0) measured.len_is
    c.allocate-place.ensures.born

pub returns-clause-made : goal.returns-clause-made
returns-clause-made c =
    let at = goal.at.returns-clause-made c in
    let done = c.allocate-place in
    let finals = c.register_entry.new.finals in
    λ name len measured. made_follows (seen c.args.parts.now) c.in_default.ensures.runtime.shown c.args.t c.args.local
    name len c.args.request.type_id.0 c.args.request.size (roomy at.In_default name len measured) done.new.heap
    done.result c.index_of.result finals.entries finals.ready (born at.After-register_entry name len measured)
    done.ensures.place c.index_of.ensures.index (registered at.After-register_entry name len measured)
    c.register_entry.ensures.ready

pub returns-clause-runtime : goal.returns-clause-runtime
returns-clause-runtime c =
    let at = goal.at.returns-clause-runtime c in
    let p = c.make_room.new.parts in
    let is = c.in_default.ensures.runtime in
    let type = c.args.request.type_id.0 in
    let done = c.allocate-place in
    let finals = c.register_entry.new.finals in
    let (name, len, measured) = c.requires.asked in
    let newborn = born at.After-register_entry name len measured in
    record {
      shown = birth_kept (seen c.args.parts.now) is.shown c.args.t c.args.local name len type c.args.request.size
          (roomy at.In_default name len measured) done.new.heap done.result c.index_of.result finals.entries
          finals.ready newborn done.ensures.place c.index_of.ensures.index
          (registered at.After-register_entry name len measured) c.register_entry.ensures.ready done.ensures.unmarked
          done.ensures.free_heads done.ensures.clean;
      heap = born_heap p.types p.space.heap done.new.heap c.args.t type c.args.request.len done.ensures.words is.heap;
      tables = birth_tables is.shown c.args.t done.new.heap type c.args.request.len p.space.cards p.space.bricks
          done.new.bricks
          done.ensures.born done.ensures.spans done.ensures.bricks done.ensures.cards is.tables;
      owed = owed_left c.args.request.finalizer (births_owed p.safe) p.roots.finals.spare finals.spare
          (λ wanted.
          let entry = c.requires.entry wanted in
          let same = ap births_owed c.in_default.ensures.safe in
          let more = c.in_default.ensures.spare in
          omega (arith, entry, same, more)) is.owed c.register_entry.ensures.spare;
      finalizers = is.finalizers;
      index = index_kept young_items p.types p.types p.space.heap done.new.heap p.collector.young
          (ap young_items done.ensures.born.layout) is.index;
      large = index_kept (kind_items Large) p.types p.types p.space.heap done.new.heap p.large
          (ap (kind_items Large) done.ensures.born.layout) is.large;
      pinned = index_kept (kind_items Pinned) p.types p.types p.space.heap done.new.heap p.pinned
          (ap (kind_items Pinned) done.ensures.born.layout) is.pinned;
      limit = born_limit p.types p.space.heap done.new.heap c.args.t type c.args.request.len done.ensures.words
          ∙ is.limit;
      ready = is.ready;
    }

-- where no room was made because the limit allows no segment, a compaction was counted
pub returns-in-Err-clause-grew : goal.returns-in-Err-clause-grew
returns-in-Err-clause-grew c = λ oom. c.in-Err.ensures.grew
    (ap (λ (w : NoRoom). Err w) (full-room c.in-Err.why c.refusal_of.result c.refusal_of.ensures
    (refused-as c.refusal_of.result Oom oom)))

pub returns-clause-grew : goal.returns-clause-grew
returns-clause-grew c = λ oom. absurd (made-not-refused _ Oom oom)
