-- The object is born in a large segment, or no place was found.
use Rattle.std.proofs.Common.{Err}
use Rattle.std.proofs.Common.{◌≡◌, ◌+◌, ◌∙◌, ◌<◌, ◌^◌, [], ◌∷◌, ◌++◌, if◌then◌else◌, arith, refl, sym, List, Option}
use Rattle.std.proofs.Common.{ap, subst, ℕ, unwrap_or}
use Rattle.clr_types.specs.declared.segment.SegKind.TheVariants.{Large, Pinned}
use Rattle.clr_types.specs.Types.{TypeRow, has_finalizer, type_row}
use Rattle.clr_ctx.specs.Contexts.{young_items}
use Rattle.clr_large.specs.Births.{HasNewbornIn}
use Rattle.clr_large.specs.Places.{kind_items}
use Rattle.clr_large.proofs.KindKept.{kind_placed, young_placed}
use Rattle.clr_model.proofs.Birth.{born_entries}
use Rattle.clr_runtime.specs.Births.{IsMeasured}
use Rattle.clr_runtime.specs.RuntimeView.{seen}
use Rattle.clr_runtime.proofs.BirthLines.{known, large_fails_follows, makeable, may_bear_large}
use Rattle.clr_runtime.proofs.IndexKept.{index_kept}
use Rattle.clr_runtime.proofs.KindTables.{kind_tables}
use Rattle.clr_runtime.proofs.LargeBirthDone.{HasItsPlace, placed_follows, placed_kept}
use Rattle.clr_safe.specs.Threads.{births_owed}
use Rattle.clr_runtime.proofs.RuntimeKept.{owed_left, spent_large_fits}
use Rattle.clr_runtime.proofs.TablesKept.{closed}
use Rattle.clr_runtime.specs.declared.rooms.NoRoom.{NoRoom}
use Rattle.clr_model.specs.declared.Refusal.TheVariants.{Oom}
use Rattle.clr_runtime.proofs.Counted.{full-room, made-not-refused, refused-as}
use Rattle.clr_runtime.proofs.births.make_large.Goals as goal
use Rattle.clr_runtime.proofs.births.make_large.Goals.{After-register_entry, In_default}

-- no place was found, and what was done for it stays
pub returns-in-Err-clause-made : goal.returns-in-Err-clause-made
returns-in-Err-clause-made c =
    λ name len measured. large_fails_follows c.requires.runtime.shown c.args.t c.args.local name len
    c.requires.passed c.args.request measured c.requires.large (seen c.make_large_room.new.parts) c.in-Err.why
    c.refusal_of.result c.refusal_of.ensures c.in-Err.ensures.err

-- what is asked for, by the types once there is a place
asked : (c : In_default) (name : List ℕ) (len : Option ℕ)
    → IsMeasured c.args.parts.now.types c.args.local name len c.args.request
    → IsMeasured c.make_large_room.new.parts.types c.args.local name len c.args.request
asked c name len =
    subst (λ (rows : List TypeRow). IsMeasured rows c.args.local name len c.args.request)
    (sym c.in_default.ensures.types)

-- the object has its place
placed : (c : In_default) (name : List ℕ) (len : Option ℕ)
    → IsMeasured c.args.parts.now.types c.args.local name len c.args.request
    → HasItsPlace (seen c.args.parts.now) (seen c.make_large_room.new.parts) c.args.t c.args.local name len
    c.args.request.type_id.0 c.args.request.size
placed c name len measured = record {
  sound = c.requires.runtime.shown.sound;
  may = may_bear_large c.requires.runtime.shown c.args.t c.args.local name len c.requires.passed c.args.request
      measured c.requires.large;
  types = c.in_default.ensures.types;
  is = measured.size_is;
  place = c.in_default.ensures.place;
}

pub allocate-requires-clause-item : goal.allocate-requires-clause-item
allocate-requires-clause-item c =
    let at = (goal.at.allocate-requires-clause-item c).In_default in
    let (name, len, measured) = c.requires.asked in
    makeable c.make_large_room.new.parts.types c.args.local name len c.args.request (asked at name len measured)

pub allocate-requires-clause-object : goal.allocate-requires-clause-object
allocate-requires-clause-object c =
    let (name, len, measured) = c.requires.asked in
    (known c.args.parts.now.types c.args.local name len c.args.request measured).0

pub register_entry-requires : goal.register_entry-requires
register_entry-requires c = λ wanted.
    let entry = c.requires.entry wanted in
    let more = c.in_default.ensures.spare in
    omega (arith, entry, more)

pub overflow_add-parts : goal.overflow_add-parts
overflow_add-parts c =
    let (name, len, measured) = c.requires.asked in
    let fits : c.make_large_room.new.parts.sums.spent_large + c.args.request.size < 2 ^ 64 =
    spent_large_fits c.in_default.ensures.runtime.shown c.args.request.size measured.most in
    omega arith

-- the entries with the object, where its type has a finaliser
registered : (c : After-register_entry) (name : List ℕ) (len : Option ℕ)
    → IsMeasured c.args.parts.now.types c.args.local name len c.args.request
    → c.register_entry.new.finals.entries
    ≡ born_entries (seen c.make_large_room.new.parts) c.args.request.type_id.0 c.in-Some.place
registered c name len measured =
    let p = c.make_large_room.new.parts in
    let type = c.args.request.type_id.0 in
    let final = measured.entry
    ∙ ap (λ (rows : List TypeRow). has_finalizer (type_row rows type)) (sym c.in_default.ensures.types) in
    c.register_entry.ensures.entries
    ∙ (λ k. if final k then p.roots.finals.entries ++ c.in-Some.place ∷ [] else p.roots.finals.entries)

-- the object is born, with the length that was given
born : (c : After-register_entry) (name : List ℕ) (len : Option ℕ)
    → IsMeasured c.args.parts.now.types c.args.local name len c.args.request
    → HasNewbornIn Large c.make_large_room.new.parts.types c.make_large_room.new.parts.space.heap c.allocate.new.heap
    c.in-Some.place c.args.request.type_id.0 (unwrap_or len 0)
born c name len measured =
    let p = c.make_large_room.new.parts in
    subst (HasNewbornIn Large p.types p.space.heap c.allocate.new.heap c.in-Some.place c.args.request.type_id.0)
    measured.len_is
    c.in-Some.ensures.born

pub returns-clause-made : goal.returns-clause-made
returns-clause-made c =
    let at = goal.at.returns-clause-made c in
    let finals = c.register_entry.new.finals in
    λ name len measured. placed_follows (seen c.args.parts.now) c.in_default.ensures.runtime.shown c.args.t
    c.args.local name len c.args.request.type_id.0 c.args.request.size (placed at.In_default name len measured)
    c.allocate.new.heap c.in-Some.place c.index_of.result finals.entries finals.ready
    (born at.After-register_entry name len measured) c.index_of.ensures.index
    (registered at.After-register_entry name len measured) c.register_entry.ensures.ready

pub returns-clause-runtime : goal.returns-clause-runtime
returns-clause-runtime c =
    let at = goal.at.returns-clause-runtime c in
    let p = c.make_large_room.new.parts in
    let is = c.in_default.ensures.runtime in
    let type = c.args.request.type_id.0 in
    let new = c.allocate.new in
    let done = c.in-Some.ensures in
    let finals = c.register_entry.new.finals in
    let (name, len, measured) = c.requires.asked in
    record {
      shown = placed_kept (seen c.args.parts.now) is.shown c.args.t c.args.local name len type c.args.request.size
          (placed at.In_default name len measured) new.heap c.in-Some.place c.index_of.result finals.entries
          finals.ready (born at.After-register_entry name len measured) c.index_of.ensures.index
          (registered at.After-register_entry name len measured) c.register_entry.ensures.ready;
      heap = done.born.heap;
      tables = kind_tables Large p.types p.space.heap new.heap c.in-Some.place type c.args.request.len p.space.cards
          p.safe p.space.bricks
          new.bricks done.born done.own_bricks done.bricks done.cards (closed is.shown) is.tables;
      owed = owed_left c.args.request.finalizer (births_owed p.safe) p.roots.finals.spare finals.spare
          (λ wanted.
          let entry = c.requires.entry wanted in
          let same = ap births_owed c.in_default.ensures.safe in
          let more = c.in_default.ensures.spare in
          omega (arith, entry, same, more)) is.owed c.register_entry.ensures.spare;
      finalizers = is.finalizers;
      index = index_kept young_items p.types p.types p.space.heap new.heap p.collector.young
          (young_placed (seen p) is.shown.sound.lawful Large refl _ c.in-Some.place _ done.born.layout) is.index;
      large = done.index;
      pinned = index_kept (kind_items Pinned) p.types p.types p.space.heap new.heap p.pinned
          (kind_placed Pinned Large refl (seen p) is.shown.sound.lawful _ c.in-Some.place _ done.born.layout) is.pinned;
      limit = done.born.limit ∙ is.limit;
      ready = is.ready;
    }

-- where no room was made because the limit allows no segment, a compaction was counted
pub returns-in-Err-clause-grew : goal.returns-in-Err-clause-grew
returns-in-Err-clause-grew c = λ oom. c.in-Err.ensures.grew
    (ap (λ (w : NoRoom). Err w) (full-room c.in-Err.why c.refusal_of.result c.refusal_of.ensures
    (refused-as c.refusal_of.result Oom oom)))

pub returns-clause-grew : goal.returns-clause-grew
returns-clause-grew c = λ oom. absurd (made-not-refused _ Oom oom)
