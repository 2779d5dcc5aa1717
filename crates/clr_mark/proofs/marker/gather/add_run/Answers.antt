use Rattle.std.proofs.Common.{◌≡◌, ◌+◌, ◌*◌, length, ap, arith, sym, ◌∙◌}
use Rattle.clr_types.specs.Descriptors.{offsets_from}
use Rattle.clr_mark.proofs.Gathering.{gathering_ends, gathering_next, gathering_starts, target_length}
use Rattle.clr_mark.proofs.Held.{remarked-refl}
use Rattle.clr_mark.proofs.RunReferences.{can_follow_run, run_more}
use Rattle.clr_mark.proofs.marker.gather.add_run.Goals as goal

pub loop-i-init : goal.loop-i-init
loop-i-init c = record {
  room = omega (arith, c.room.ensures, c.if-run-room.false);
  gathering = gathering_starts c.args.types.now c.args.heap.now c.args.obj c.args.targets.now;
}

pub overflow_add-obj : goal.overflow_add-obj
overflow_add-obj c =
    let run = c.args.run in
    let all = c.requires.run in
    let fits = (can_follow_run c.args.types.now c.args.heap.now c.args.heap.now c.args.obj run c.loop-i.i
    c.requires.closed c.requires.marked (remarked-refl c.args.types.now c.args.heap.now) all
    c.loop-i-test.true).fits in
    omega (arith, fits)

pub overflow_add-obj-in-loop-i : goal.overflow_add-obj-in-loop-i
overflow_add-obj-in-loop-i c =
    let run = c.args.run in
    let all = c.requires.run in
    let fits = (can_follow_run c.args.types.now c.args.heap.now c.args.heap.now c.args.obj run c.loop-i.i
    c.requires.closed c.requires.marked (remarked-refl c.args.types.now c.args.heap.now) all
    c.loop-i-test.true).fits in
    omega (arith, fits)

pub word_at-requires-clause-word : goal.word_at-requires-clause-word
word_at-requires-clause-word c =
    let run = c.args.run in
    let all = c.requires.run in
    (can_follow_run c.args.types.now c.args.heap.now c.args.heap.now c.args.obj run c.loop-i.i c.requires.closed
    c.requires.marked (remarked-refl c.args.types.now c.args.heap.now) all c.loop-i-test.true).slot

pub word_at-requires-clause-segment : goal.word_at-requires-clause-segment
word_at-requires-clause-segment c =
    let run = c.args.run in
    let all = c.requires.run in
    c.requires.segment
    ∙ (can_follow_run c.args.types.now c.args.heap.now c.args.heap.now c.args.obj run c.loop-i.i c.requires.closed
    c.requires.marked (remarked-refl c.args.types.now c.args.heap.now) all c.loop-i-test.true).segment

pub loop-i-preserved : goal.loop-i-preserved
loop-i-preserved c =
    let rows = c.args.types.now in
    let h = c.args.heap.now in
    let run = c.args.run in
    let all = c.requires.run in
    let can = can_follow_run rows h h c.args.obj run c.loop-i.i c.requires.closed c.requires.marked
    (remarked-refl rows h) all c.loop-i-test.true in
    let long = ap length c.add.ensures in
    let most = target_length c.loop-i.targets c.word_at.result in
    let room = c.loop-i.invariant.room in
    record {
      room = omega (arith, long, most, room);
      gathering = rw (run_more run.offset c.loop-i.i, c.add.ensures)
          (gathering_next rows h c.args.obj c.requires.closed c.requires.marked c.args.targets.now c.loop-i.targets
          (offsets_from run.offset c.loop-i.i) (run.offset + 8 * c.loop-i.i) c.word_at.result
          c.loop-i.invariant.gathering can.listed
          (c.word_at.ensures ∙ can.same));
    }

pub returns-clause-all : goal.returns-clause-all
returns-clause-all c =
    let rows = c.args.types.now in
    let h = c.args.heap.now in
    let run = c.args.run in
    let all = c.requires.run in
    let last = c.loop-i-test.false in
    let within = c.loop-i.auto.i-end in
    let end : c.loop-i.i ≡ run.count = omega (arith, last, within) in
    λ _. gathering_ends rows h c.args.obj c.requires.closed c.requires.marked c.args.targets.now c.loop-i.targets
    (offsets_from run.offset c.loop-i.i) c.loop-i.invariant.gathering (ap (offsets_from run.offset) end ∙ sym all)
