-- There is room for the object, and the thread has begun it, or no room was made.
use Rattle.std.proofs.Common.{◌≡◌, ◌∙◌, false, ap, arith, Err, sym, List, ℕ, Option}
use Rattle.clr_types.specs.Types.{has_finalizer, type_row, TypeRow}
use Rattle.clr_model.specs.Lookups.{is_step}
use Rattle.clr_safe.specs.Threads.{begun_by, births_owed, step_by}
use Rattle.clr_runtime.specs.Births.{IsMeasured}
use Rattle.clr_options.specs.Options.{options_of}
use Rattle.clr_runtime.specs.RuntimeView.{ahead_of, seen, sums_of, world_of}
use Rattle.clr_runtime.proofs.BegunBirths.{begin_fails, birth_begun, birth_begun_kept}
use Rattle.clr_runtime.proofs.BirthDone.{HasItsRoom}
use Rattle.clr_runtime.proofs.BirthLines.{may_bear}
use Rattle.clr_runtime.proofs.NamesChecked.{may_run}
use Rattle.clr_runtime.proofs.StepsSeen.{step-seen}
use Rattle.clr_runtime.specs.declared.rooms.NoRoom.{NoRoom}
use Rattle.clr_model.specs.declared.Refusal.TheVariants.{Oom}
use Rattle.clr_runtime.proofs.Counted.{full-room, made-not-refused, refused-as}
use Rattle.clr_runtime.proofs.steps.begin_small.Goals as goal
use Rattle.clr_runtime.proofs.steps.begin_small.Goals.{In_default}

pub make_room-requires-clause-idle : goal.make_room-requires-clause-idle
make_room-requires-clause-idle c = (may_run (seen c.args.parts.now) c.args.t c.requires.passed).idle

-- no room was made, and what was done for it stays
pub returns-in-Err-clause-begun : goal.returns-in-Err-clause-begun
returns-in-Err-clause-begun c =
    λ name len measured. begin_fails c.requires.runtime.shown c.args.t c.args.local name len c.requires.passed
    c.args.request measured c.requires.small (seen c.make_room.new.parts) c.in-Err.why c.refusal_of.result
    c.refusal_of.ensures c.in-Err.ensures.room

-- the object has its room
roomy : (c : In_default) (name : List ℕ) (len : Option ℕ)
    → IsMeasured c.args.parts.now.types c.args.local name len c.args.request
    → HasItsRoom (seen c.args.parts.now) (seen c.make_room.new.parts) c.args.t c.args.local name len
    c.args.request.type_id.0 c.args.request.size
roomy c name len measured = record {
  sound = c.requires.runtime.shown.sound;
  may = may_bear c.requires.runtime.shown c.args.t c.args.local name len c.requires.passed c.args.request
      measured c.requires.small;
  types = c.in_default.ensures.types;
  is = measured.size_is;
  room = c.in_default.ensures.room;
  fits = c.in_default.ensures.fits;
}

pub returns-clause-begun : goal.returns-clause-begun
returns-clause-begun c =
    let at = goal.at.returns-clause-begun c in
    let request = c.args.request in
    λ name len measured. birth_begun c.make_room.new.parts c.args.t c.args.local request.type_id request.len
    request.finalizer c.begin.new.self c.begin.ensures (seen c.args.parts.now) name len request.size
    (roomy at.In_default name len measured) measured.len_is

pub returns-clause-runtime : goal.returns-clause-runtime
returns-clause-runtime c =
    let at = goal.at.returns-clause-runtime c in
    let old = c.args.parts.now in
    let p = c.make_room.new.parts in
    let request = c.args.request in
    let (name, len, measured) = c.requires.asked in
    let run = may_run (seen old) c.args.t c.requires.passed in
    let idle : is_step (step_by (begun_by p.safe c.args.t)) ≡ false =
    ap (λ threads. is_step (step_by (begun_by threads c.args.t))) c.in_default.ensures.safe
    ∙ sym
    (ap is_step (step-seen (world_of old) (sums_of old.sums) (options_of old.options) old.safe (ahead_of old) c.args.t))
    ∙ run.idle in
    birth_begun_kept p c.args.t c.args.local request.type_id request.len request.finalizer c.begin.new.self
    c.begin.ensures (seen old) name len request.size (roomy at.In_default name len measured) measured.len_is
    c.in_default.ensures.runtime run.thread idle
    (λ wanted.
    let entry = c.requires.entry wanted in
    let same = ap births_owed c.in_default.ensures.safe in
    let more = c.in_default.ensures.spare in
    omega (arith, entry, same, more))
    (measured.entry ∙ ap (λ (rows : List TypeRow). has_finalizer (type_row rows request.type_id.0))
    (sym c.in_default.ensures.types))

-- where no room was made because the limit allows no segment, a compaction was counted
pub returns-in-Err-clause-grew : goal.returns-in-Err-clause-grew
returns-in-Err-clause-grew c = λ oom. c.in-Err.ensures.grew
    (ap (λ (w : NoRoom). Err w) (full-room c.in-Err.why c.refusal_of.result c.refusal_of.ensures
    (refused-as c.refusal_of.result Oom oom)))

pub returns-clause-grew : goal.returns-clause-grew
returns-clause-grew c = λ oom. absurd (made-not-refused tt Oom oom)
