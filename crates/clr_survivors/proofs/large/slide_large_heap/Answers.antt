use Rattle.std.proofs.Common.{ap, ◌∙◌}
use Rattle.clr_bricks.specs.Bricks.{entry_at}
use Rattle.clr_heap.specs.View.{HeapView}
use Rattle.clr_heap.proofs.Rewrite.{shaped_heap}
use Rattle.clr_model.specs.Compaction.{moved_by}
use Rattle.clr_survivors.proofs.KeptNumbers.{numbers-kept, ready-kept}
use Rattle.clr_survivors.proofs.Settled.{brick_law-bare}
use Rattle.clr_survivors.proofs.SlideClean.{clean-ended}
use Rattle.clr_survivors.proofs.SlideCourse.{can-slide, course-of, IsGiven, IsRun, some-course, Stages}
use Rattle.clr_survivors.proofs.SlideEnded.{heads-moved, layout-ended, limit-moved, null-moved, objects-ended}
use Rattle.clr_survivors.proofs.SlideEnded.{pins-stand, rests-moved, slid-all, unmarked-ended}
use Rattle.clr_survivors.proofs.SlideOccupied.{occupied-ended}
use Rattle.clr_survivors.proofs.SlideTables.{tables-ended}
use Rattle.clr_survivors.proofs.large.slide_large_heap.Goals as goal
use Rattle.clr_survivors.proofs.large.slide_large_heap.Goals.{After-slide_by_plan}

pub slide_by_plan-requires : goal.slide_by_plan-requires
slide_by_plan-requires c =
    let s : Stages = record {
      rows = c.args.types.now;
      old = c.args.space.now;
      ready = c.plan_slide.new.space;
      moved = c.plan_slide.new.space;
      entries = c.plan_slide.new.pins.entries;
      roots = c.args.roots.now;
      roots_after = c.args.roots.now;
      planned = c.unmoved-planned.result;
    } in
    let given : IsGiven s = record {
      tidy = c.requires.tidy;
      no_contexts = c.requires.no_contexts;
      unmarked = c.requires.unmarked;
      world = c.requires.world;
    } in
    let (n, is, named) = c.requires.world in
    let p = c.plan_slide.ensures.planned n is.memory is.handles in
    record {
      can = (
        p.view,
        p.plan.moves,
        entry_at c.args.space.now.bricks,
        can-slide s given c.unmoved-planned.ensures.start1 c.unmoved-planned.ensures.start0 n p
            is.handles,
      );
    }

-- the slide, up to where the headers are settled
abbrev stages : After-slide_by_plan → Stages
stages c = record {
  rows = c.args.types.now;
  old = c.args.space.now;
  ready = c.plan_slide.new.space;
  moved = c.slide_by_plan.new.space;
  entries = c.plan_slide.new.pins.entries;
  roots = c.args.roots.now;
  roots_after = c.slide_by_plan.new.roots;
  planned = c.unmoved-planned.result;
}

ran : (c : After-slide_by_plan) → IsRun (stages c)
ran c = record {
  given = record {
    tidy = c.requires.tidy;
    no_contexts = c.requires.no_contexts;
    unmarked = c.requires.unmarked;
    world = c.requires.world;
  };
  start1_is = c.unmoved-planned.ensures.start1;
  start0_is = c.unmoved-planned.ensures.start0;
  plans = c.plan_slide.ensures.planned;
  moves = c.slide_by_plan.ensures.slid;
  start1_kept = c.slide_by_plan.ensures.start1;
  start0_kept = c.slide_by_plan.ensures.start0;
}

pub set_pins-requires-clause-held : goal.set_pins-requires-clause-held
set_pins-requires-clause-held c =
    let at = (goal.at.set_pins-requires-clause-held c).After-slide_by_plan in
    let (m, course) = some-course (stages at) (ran at) in
    course.went.compacted.held

pub set_pins-requires-clause-stand : goal.set_pins-requires-clause-stand
set_pins-requires-clause-stand c =
    let at = (goal.at.set_pins-requires-clause-stand c).After-slide_by_plan in
    let (m, course) = some-course (stages at) (ran at) in
    pins-stand (stages at) m course

pub returns-clause-slid : goal.returns-clause-slid
returns-clause-slid c =
    let at = (goal.at.returns-clause-slid c).After-slide_by_plan in
    let s = stages at in
    λ m memory laid same.
    let course = course-of s (ran at) m memory laid same in
    record {
      moves = course.begun.plan.moves;
      after = course.begun.plan.after;
      slid = slid-all s m course;
      null = null-moved s m course;
      objects = objects-ended s m course c.set_pins.new.heap c.set_pins.ensures.pins;
      layout = layout-ended s m course c.set_pins.new.heap c.set_pins.ensures.pins;
      locals = course.went.gone.locals_is;
      handles = course.went.gone.table_is;
      entries = course.went.gone.entries_is;
      ready = course.went.gone.ready_is;
    }

pub returns-clause-tidy : goal.returns-clause-tidy
returns-clause-tidy c =
    let at = (goal.at.returns-clause-tidy c).After-slide_by_plan in
    let s = stages at in
    let (m, course) = some-course s (ran at) in
    let new = c.set_pins.new.heap in
    let e = c.set_pins.ensures.pins in
    let bricks = c.slide_by_plan.new.space.bricks in
    let heap = shaped_heap s.moved.heap new e.shape course.went.heap in
    record {
      heap = heap;
      held = e.held;
      clean = clean-ended s m course new e heap;
      free_heads = e.free_heads (heads-moved s m course);
      tables = tables-ended s m course new e bricks c.slide_by_plan.ensures.cards c.slide_by_plan.ensures.bricks
          (brick_law-bare s.rows s.moved.heap new s.roots_after.handles 1 e (entry_at bricks)
          c.slide_by_plan.ensures.brick_law);
    }

pub returns-clause-unmarked : goal.returns-clause-unmarked
returns-clause-unmarked c =
    let at = (goal.at.returns-clause-unmarked c).After-slide_by_plan in
    let (m, course) = some-course (stages at) (ran at) in
    unmarked-ended (stages at) m course c.set_pins.new.heap c.set_pins.ensures.pins

pub returns-clause-no_contexts : goal.returns-clause-no_contexts
returns-clause-no_contexts c =
    let at = (goal.at.returns-clause-no_contexts c).After-slide_by_plan in
    let (m, course) = some-course (stages at) (ran at) in
    ap (λ (h : HeapView). h.rests) c.set_pins.ensures.pins.shape.others ∙ rests-moved (stages at) m course

pub returns-clause-occupied : goal.returns-clause-occupied
returns-clause-occupied c =
    let at = (goal.at.returns-clause-occupied c).After-slide_by_plan in
    let (m, course) = some-course (stages at) (ran at) in
    occupied-ended (stages at) m course c.set_pins.new.heap c.set_pins.ensures.pins

pub returns-clause-limit : goal.returns-clause-limit
returns-clause-limit c =
    let at = (goal.at.returns-clause-limit c).After-slide_by_plan in
    let (m, course) = some-course (stages at) (ran at) in
    ap (λ (h : HeapView). h.limit) c.set_pins.ensures.pins.shape.others ∙ limit-moved (stages at) m course

pub returns-clause-ready : goal.returns-clause-ready
returns-clause-ready c =
    let at = (goal.at.returns-clause-ready c).After-slide_by_plan in
    let s = stages at in
    let (m, course) = some-course s (ran at) in
    ready-kept (moved_by course.begun.plan.moves) s.roots.handles s.roots_after.handles c.args.pins.now
    c.plan_slide.new.pins c.slide_by_plan.new.pins course.went.gone.table_is c.requires.ready
    c.plan_slide.ensures.spare c.slide_by_plan.ensures.empty c.slide_by_plan.ensures.spare

pub returns-clause-numbers : goal.returns-clause-numbers
returns-clause-numbers c =
    let at = (goal.at.returns-clause-numbers c).After-slide_by_plan in
    let s = stages at in
    let (m, course) = some-course s (ran at) in
    numbers-kept course.begun.plan.moves s.roots s.roots_after course.went.gone
