use Rattle.clr_bricks.specs.Bricks.{entry_at}
use Rattle.clr_plan.specs.declared.counts.Counts.{Counts}
use Rattle.std.proofs.Common.{refl, ap, sym, ◌∙◌, arith}
use Rattle.clr_view.specs.Memory.{is_left_name}
use Rattle.clr_view.proofs.LeftNames.{tests_marks}
use Rattle.clr_survivors.proofs.CanMoveAll.{can-move, IsGiven}
use Rattle.clr_model.specs.Compaction.{moved_by}
use Rattle.clr_survivors.proofs.Course.{compacted-of, course-of, heads-moved, IsRun, limit-moved, rests-moved}
use Rattle.clr_survivors.proofs.Course.{some-course, Stages, units-moved}
use Rattle.clr_survivors.proofs.LeftObjects.{null-moved, pins-stand}
use Rattle.clr_survivors.proofs.Occupied.{occupied-ended}
use Rattle.clr_survivors.proofs.CleanAfter.{clean-ended}
use Rattle.clr_survivors.proofs.PromotedBytes.{promoted-ended}
use Rattle.clr_survivors.proofs.EndedTables.{tables-ended}
use Rattle.clr_survivors.proofs.Ended.{layout-ended, objects-ended, unmarked-ended}
use Rattle.clr_survivors.proofs.Settled.{heads-settled, heap-settled, held-settled, limit-settled, rests-settled}
use Rattle.clr_survivors.proofs.KeptNumbers.{numbers-kept, ready-kept}
use Rattle.clr_survivors.proofs.PlannedPins.{memory-with, with_handles}
use Rattle.clr_survivors.proofs.moving.move_survivors.Goals as goal
use Rattle.clr_survivors.proofs.moving.move_survivors.Goals.{After-move_by_plan-promoted}

pub move_by_plan-promoted-requires-clause-can : goal.move_by_plan-promoted-requires-clause-can
move_by_plan-promoted-requires-clause-can c =
    let rows = c.args.types.now in
    let old = c.args.space.now in
    let roots = c.args.roots.now in
    let table = roots.handles in
    let given : IsGiven rows old roots c.args.g = record {
      generation = c.requires.generation;
      tidy = c.requires.tidy;
      marked = c.requires.marked;
    } in
    let (n, memory, laid) = c.requires.marked.laid in
    let m = with_handles n table in
    let kept = is_left_name rows old.heap c.args.g in
    let p = c.plan_pinned.ensures.planned m kept (memory-with rows old.heap n table memory) refl
    (tests_marks rows old.heap c.args.g) in (
      p.view,
      p.plan.moves,
      entry_at old.bricks,
      can-move rows old c.plan_pinned.new.space roots c.args.g c.plan_pinned.new.pins.entries
          c.plan_pinned.result.0 given m kept p refl,
    )

-- the collection, up to where the headers are settled
abbrev stages : After-move_by_plan-promoted → Stages
stages c = record {
  rows = c.args.types.now;
  old = c.args.space.now;
  ready = c.plan_pinned.new.space;
  moved = c.move_by_plan-promoted.new.space;
  entries = c.plan_pinned.new.pins.entries;
  roots = c.args.roots.now;
  roots_after = c.move_by_plan-promoted.new.roots;
  g = c.args.g;
  low = c.first_condemned-low.result;
  promoted = c.move_by_plan-promoted.result;
  slides = c.args.slides.now;
  slides_after = c.move_by_plan-promoted.new.slides;
  planned = c.plan_pinned.result.0;
}

ran : (c : After-move_by_plan-promoted) → IsRun (stages c)
ran c = record {
  given = record {
    generation = c.requires.generation;
    tidy = c.requires.tidy;
    marked = c.requires.marked;
  };
  low_is = c.first_condemned-low.ensures;
  plans = c.plan_pinned.ensures.planned;
  moves = c.move_by_plan-promoted.ensures.moved;
  start1_is = c.move_by_plan-promoted.ensures.start1;
  start0_is = c.move_by_plan-promoted.ensures.start0;
}

pub settle-requires-clause-held : goal.settle-requires-clause-held
settle-requires-clause-held c =
    let at = (goal.at.settle-requires-clause-held c).After-move_by_plan-promoted in
    let s = stages at in
    let (m, kept, course) = some-course s (ran at) in
    course.went.compacted.held

pub settle-requires-clause-no_contexts : goal.settle-requires-clause-no_contexts
settle-requires-clause-no_contexts c =
    let at = (goal.at.settle-requires-clause-no_contexts c).After-move_by_plan-promoted in
    let s = stages at in
    let (m, kept, course) = some-course s (ran at) in
    rests-moved s m kept course

pub settle-requires-clause-stand : goal.settle-requires-clause-stand
settle-requires-clause-stand c =
    let at = (goal.at.settle-requires-clause-stand c).After-move_by_plan-promoted in
    let s = stages at in
    let (m, kept, course) = some-course s (ran at) in
    pins-stand s m kept course

pub settle-requires-clause-bricks : goal.settle-requires-clause-bricks
settle-requires-clause-bricks c =
    let at = (goal.at.settle-requires-clause-bricks c).After-move_by_plan-promoted in
    let s = stages at in
    let (m, kept, course) = some-course s (ran at) in
    c.move_by_plan-promoted.ensures.bricks ∙ course.begun.same_bricks ∙ c.requires.tidy.tables.bricks
    ∙ sym (units-moved s m kept course 4096)

pub returns-clause-moved : goal.returns-clause-moved
returns-clause-moved c =
    let at = (goal.at.returns-clause-moved c).After-move_by_plan-promoted in
    let s = stages at in
    λ m kept memory laid same tests.
    let course = course-of s (ran at) m kept memory laid same tests in
    let new = c.settle.new.space.heap in
    let e = c.settle.ensures.settled in
    record {
      moves = course.begun.plan.moves;
      after = course.begun.plan.after;
      compacted = compacted-of s m kept course;
      null = null-moved s m kept course;
      objects = objects-ended s m kept course new e;
      layout = layout-ended s m kept course new e;
      locals = course.went.gone.locals_is;
      handles = course.went.gone.table_is;
      entries = course.went.gone.entries_is;
      ready = course.went.gone.ready_is;
      promoted1_is = course.went.to1_is ∙ promoted-ended s m kept course new e 0 (omega arith);
      promoted2_is = course.went.to2_is ∙ promoted-ended s m kept course new e 1 (omega arith);
      slid = course.went.slid;
    }

pub returns-clause-tidy : goal.returns-clause-tidy
returns-clause-tidy c =
    let at = (goal.at.returns-clause-tidy c).After-move_by_plan-promoted in
    let s = stages at in
    let (m, kept, course) = some-course s (ran at) in
    let new = c.settle.new.space.heap in
    let e = c.settle.ensures.settled in
    let held = held-settled s.rows s.moved.heap new s.roots_after.handles s.low s.g e in
    let heap = heap-settled s.rows s.moved.heap new s.roots_after.handles s.low s.g e course.went.heap in
    record {
      heap = heap;
      held = held;
      clean = clean-ended s m kept course new e heap held;
      free_heads = heads-settled s.rows s.moved.heap new s.roots_after.handles s.low s.g e
          (heads-moved s m kept course);
      tables = tables-ended s m kept course new e c.settle.new.space.cards c.settle.new.space.bricks
          c.settle.ensures.cards c.move_by_plan-promoted.ensures.cards
          (c.settle.ensures.bricks ∙ c.move_by_plan-promoted.ensures.bricks) c.settle.ensures.brick_law;
    }

pub returns-clause-unmarked : goal.returns-clause-unmarked
returns-clause-unmarked c =
    let at = (goal.at.returns-clause-unmarked c).After-move_by_plan-promoted in
    let s = stages at in
    let (m, kept, course) = some-course s (ran at) in
    unmarked-ended s m kept course c.settle.new.space.heap c.settle.ensures.settled

pub returns-clause-no_contexts : goal.returns-clause-no_contexts
returns-clause-no_contexts c =
    let at = (goal.at.returns-clause-no_contexts c).After-move_by_plan-promoted in
    let s = stages at in
    let (m, kept, course) = some-course s (ran at) in
    rests-settled s.rows s.moved.heap c.settle.new.space.heap s.roots_after.handles s.low s.g c.settle.ensures.settled
    ∙ rests-moved s m kept course

pub returns-clause-occupied : goal.returns-clause-occupied
returns-clause-occupied c =
    let at = (goal.at.returns-clause-occupied c).After-move_by_plan-promoted in
    let s = stages at in
    let (m, kept, course) = some-course s (ran at) in
    occupied-ended s m kept course c.settle.new.space.heap c.settle.ensures.settled

pub returns-clause-limit : goal.returns-clause-limit
returns-clause-limit c =
    let at = (goal.at.returns-clause-limit c).After-move_by_plan-promoted in
    let s = stages at in
    let (m, kept, course) = some-course s (ran at) in
    limit-settled s.rows s.moved.heap c.settle.new.space.heap s.roots_after.handles s.low s.g c.settle.ensures.settled
    ∙ limit-moved s m kept course

pub returns-clause-ready : goal.returns-clause-ready
returns-clause-ready c =
    let at = (goal.at.returns-clause-ready c).After-move_by_plan-promoted in
    let s = stages at in
    let (m, kept, course) = some-course s (ran at) in
    ready-kept (moved_by course.begun.plan.moves) s.roots.handles s.roots_after.handles c.args.pins.now
    c.plan_pinned.new.pins c.move_by_plan-promoted.new.pins course.went.gone.table_is c.requires.ready
    c.plan_pinned.ensures.spare c.move_by_plan-promoted.ensures.empty c.move_by_plan-promoted.ensures.spare

pub returns-clause-numbers : goal.returns-clause-numbers
returns-clause-numbers c =
    let at = (goal.at.returns-clause-numbers c).After-move_by_plan-promoted in
    let s = stages at in
    let (m, kept, course) = some-course s (ran at) in
    numbers-kept course.begun.plan.moves s.roots s.roots_after course.went.gone

pub returns-clause-kept : goal.returns-clause-kept
returns-clause-kept c = ap (λ (n : Counts). n.kept) c.plan_pinned.ensures.counted

pub returns-clause-freed : goal.returns-clause-freed
returns-clause-freed c = ap (λ (n : Counts). n.freed) c.plan_pinned.ensures.counted
