-- The object is born in a pinned segment, or no place was found.
use Rattle.std.proofs.Common.{◌∙◌, ℕ, ap, Err, List, refl, subst, sym}
use Rattle.clr_types.specs.declared.segment.SegKind.TheVariants.{Large, Pinned}
use Rattle.clr_types.specs.Types.{TypeRow}
use Rattle.clr_ctx.specs.Contexts.{young_items}
use Rattle.clr_large.specs.Births.{HasNewbornIn}
use Rattle.clr_large.specs.Places.{kind_items}
use Rattle.clr_large.proofs.KindKept.{kind_placed, young_placed}
use Rattle.clr_model.specs.declared.Refusal.TheVariants.{Oom}
use Rattle.clr_runtime.specs.PinnedBirths.{IsMeasuredPinned}
use Rattle.clr_runtime.specs.RuntimeView.{seen}
use Rattle.clr_runtime.specs.declared.rooms.NoRoom.{NoRoom}
use Rattle.clr_runtime.proofs.Counted.{full-room, made-not-refused, refused-as}
use Rattle.clr_runtime.proofs.IndexKept.{index_kept}
use Rattle.clr_runtime.proofs.KindTables.{kind_tables}
use Rattle.clr_runtime.proofs.PinnedBirthDone.{HasPinnedPlace, pinned_born, pinned_kept}
use Rattle.clr_runtime.proofs.PinnedLines.{known, makeable, may_bear_pinned, pinned_fails_follows}
use Rattle.clr_runtime.proofs.TablesKept.{closed}
use Rattle.clr_runtime.proofs.pinned_births.make_pinned.Goals as goal
use Rattle.clr_runtime.proofs.pinned_births.make_pinned.Goals.{In-Some, In_default}

-- no place was found, and what was done for it stays
pub returns-in-Err-clause-made : goal.returns-in-Err-clause-made
returns-in-Err-clause-made c =
    λ name len measured. pinned_fails_follows c.requires.runtime.shown c.args.t c.args.local name len
    c.requires.passed c.args.request measured (seen c.make_pinned_room.new.parts) c.in-Err.why
    c.refusal_of.result c.refusal_of.ensures c.in-Err.ensures.err

-- what is asked for, by the types once there is a place
asked : (c : In_default) (name : List ℕ) (len : ℕ)
    → IsMeasuredPinned c.args.parts.now.types c.args.local name len c.args.request
    → IsMeasuredPinned c.make_pinned_room.new.parts.types c.args.local name len c.args.request
asked c name len =
    subst (λ (rows : List TypeRow). IsMeasuredPinned rows c.args.local name len c.args.request)
    (sym c.in_default.ensures.types)

-- the object has its place
placed : (c : In_default) (name : List ℕ) (len : ℕ)
    → IsMeasuredPinned c.args.parts.now.types c.args.local name len c.args.request
    → HasPinnedPlace (seen c.args.parts.now) (seen c.make_pinned_room.new.parts) c.args.t c.args.local name len
    c.args.request.type_id.0 c.args.request.size
placed c name len measured = record {
  sound = c.requires.runtime.shown.sound;
  may = may_bear_pinned c.requires.runtime.shown c.args.t c.args.local name len c.requires.passed c.args.request
      measured;
  types = c.in_default.ensures.types;
  is = measured.size_is;
  place = c.in_default.ensures.place;
}

pub allocate-requires-clause-item : goal.allocate-requires-clause-item
allocate-requires-clause-item c =
    let at = (goal.at.allocate-requires-clause-item c).In_default in
    let (name, len, measured) = c.requires.asked in
    makeable c.make_pinned_room.new.parts.types c.args.local name len c.args.request (asked at name len measured)

pub allocate-requires-clause-object : goal.allocate-requires-clause-object
allocate-requires-clause-object c =
    let (name, len, measured) = c.requires.asked in
    (known c.args.parts.now.types c.args.local name len c.args.request measured).0

-- the object is born, with the length that was given
born : (c : In-Some) (name : List ℕ) (len : ℕ)
    → IsMeasuredPinned c.args.parts.now.types c.args.local name len c.args.request
    → HasNewbornIn Pinned c.make_pinned_room.new.parts.types c.make_pinned_room.new.parts.space.heap c.allocate.new.heap
    c.in-Some.place c.args.request.type_id.0 len
born c name len measured =
    let p = c.make_pinned_room.new.parts in
    subst (HasNewbornIn Pinned p.types p.space.heap c.allocate.new.heap c.in-Some.place c.args.request.type_id.0)
    measured.len_is c.in-Some.ensures.born

pub returns-clause-made : goal.returns-clause-made
returns-clause-made c =
    let at = goal.at.returns-clause-made c in
    λ name len measured. pinned_born (seen c.args.parts.now) c.in_default.ensures.runtime.shown c.args.t c.args.local
    name len c.args.request.type_id.0 c.args.request.size (placed at.In_default name len measured) c.allocate.new.heap
    c.in-Some.place c.index_of.result (born at.In-Some name len measured) c.index_of.ensures.index

pub returns-clause-runtime : goal.returns-clause-runtime
returns-clause-runtime c =
    let at = goal.at.returns-clause-runtime c in
    let p = c.make_pinned_room.new.parts in
    let is = c.in_default.ensures.runtime in
    let type = c.args.request.type_id.0 in
    let new = c.allocate.new in
    let done = c.in-Some.ensures in
    let (name, len, measured) = c.requires.asked in
    record {
      shown = pinned_kept (seen c.args.parts.now) is.shown c.args.t c.args.local name len type c.args.request.size
          (placed at.In_default name len measured) new.heap c.in-Some.place c.index_of.result
          (born at.In-Some name len measured) c.index_of.ensures.index;
      heap = done.born.heap;
      tables = kind_tables Pinned p.types p.space.heap new.heap c.in-Some.place type c.args.request.len p.space.cards
          p.safe
          p.space.bricks new.bricks done.born done.own_bricks done.bricks done.cards (closed is.shown) is.tables;
      owed = is.owed;
      finalizers = is.finalizers;
      index = index_kept young_items p.types p.types p.space.heap new.heap p.collector.young
          (young_placed (seen p) is.shown.sound.lawful Pinned refl _ c.in-Some.place _ done.born.layout) is.index;
      large = index_kept (kind_items Large) p.types p.types p.space.heap new.heap p.large
          (kind_placed Large Pinned refl (seen p) is.shown.sound.lawful _ c.in-Some.place _ done.born.layout) is.large;
      pinned = done.index;
      limit = done.born.limit ∙ is.limit;
      ready = is.ready;
    }

-- where no room was made because the limit allows no segment, a compaction was counted
pub returns-in-Err-clause-grew : goal.returns-in-Err-clause-grew
returns-in-Err-clause-grew c = λ oom. c.in-Err.ensures.grew
    (ap (λ (w : NoRoom). Err w) (full-room c.in-Err.why c.refusal_of.result c.refusal_of.ensures
    (refused-as c.refusal_of.result Oom oom)))

pub returns-clause-grew : goal.returns-clause-grew
returns-clause-grew c = λ oom. absurd (made-not-refused _ Oom oom)
