-- Large objects are marked, what pinned handles name is marked in the headers, and the slide is planned.
use Rattle.std.proofs.Common.{ℕ, ap, ◌∙◌, subst, refl, arith, true}
use Rattle.clr_heap.specs.View.{HeapView}
use Rattle.clr_mark.proofs.Remarking.{keeps_stands}
use Rattle.clr_moves.specs.Objects.{is_in_parts}
use Rattle.clr_moves.specs.declared.condemned.Condemned.TheVariants.{LargeSegments}
use Rattle.clr_plan.specs.Planned.{HasPlanned}
use Rattle.clr_survivors.proofs.PinnedFrom.{table_from}
use Rattle.clr_survivors.proofs.PinsTold.{few-pinned, memory-kept, tells-pins}
use Rattle.clr_survivors.proofs.PlannedPins.{laid-with, memory-with, planned-from, survivors-from, with_handles}
use Rattle.clr_survivors.proofs.RemarkedHeads.{heads_remarked}
use Rattle.clr_survivors.proofs.SlideGiven.{pins-given}
use Rattle.clr_survivors.proofs.SlideMarks.{clean-marked, marked-heap, marked-held, memory-marked, tests-pinned}
use Rattle.clr_survivors.proofs.large.plan_slide.Goals as goal

pub set_pins-requires-clause-held : goal.set_pins-requires-clause-held
set_pins-requires-clause-held c =
    marked-held c.args.types.now c.args.space.now.heap c.mark_large.new.heap c.requires.tidy.heap c.requires.tidy.held
    c.mark_large.ensures.words

pub set_pins-requires-clause-stand : goal.set_pins-requires-clause-stand
set_pins-requires-clause-stand c = λ k row here pinned some.
    let (n, is, named) = c.requires.world in
    keeps_stands c.args.types.now c.args.space.now.heap c.mark_large.new.heap c.requires.tidy.heap c.requires.tidy.held
    c.mark_large.ensures.words row.target
    (pins-given c.args.types.now c.args.space.now.heap c.args.roots.now n is named k row here pinned some)

pub plan_large-requires-clause-laid : goal.plan_large-requires-clause-laid
plan_large-requires-clause-laid c =
    let (n, is, named) = c.requires.world in
    let rows = c.args.types.now in
    let old = c.args.space.now.heap in
    let marked = c.mark_large.new.heap in
    let new = c.set_pins.new.heap in
    let table = c.args.roots.now.handles in
    let words = c.mark_large.ensures.words in
    let heap = marked-heap rows old marked c.requires.tidy.heap c.requires.tidy.held words in
    let held = marked-held rows old marked c.requires.tidy.heap c.requires.tidy.held words in
    let seen = table_from 1 table in
    let m = with_handles n seen in (
      m,
      memory-kept rows marked new table 1 heap held true c.set_pins.ensures.pins m
          (memory-marked rows old marked c.requires.tidy.heap c.requires.tidy.held words m
          (memory-with rows old n seen is.memory)),
      laid-with n seen named.lawful.laid,
      tells-pins rows marked new table 1 heap held
          (clean-marked rows old marked c.requires.tidy.heap c.requires.tidy.held words c.requires.tidy.clean)
          c.set_pins.ensures.below c.set_pins.ensures.pins m refl,
    )

pub plan_large-requires-clause-free_heads : goal.plan_large-requires-clause-free_heads
plan_large-requires-clause-free_heads c =
    let rows = c.args.types.now in
    let old = c.args.space.now.heap in
    let marked = c.mark_large.new.heap in
    let words = c.mark_large.ensures.words in
    c.set_pins.ensures.pins.free_heads
    (heads_remarked rows old marked c.requires.tidy.heap c.requires.tidy.held
    (marked-heap rows old marked c.requires.tidy.heap c.requires.tidy.held words)
    (marked-held rows old marked c.requires.tidy.heap c.requires.tidy.held words) words c.requires.tidy.free_heads)

pub plan_large-requires-clause-spare : goal.plan_large-requires-clause-spare
plan_large-requires-clause-spare c =
    let rows = c.args.types.now in
    let old = c.args.space.now.heap in
    let marked = c.mark_large.new.heap in
    let words = c.mark_large.ensures.words in
    let few = few-pinned rows marked c.set_pins.new.heap c.args.roots.now.handles 1
    (marked-heap rows old marked c.requires.tidy.heap c.requires.tidy.held words)
    (marked-held rows old marked c.requires.tidy.heap c.requires.tidy.held words)
    (clean-marked rows old marked c.requires.tidy.heap c.requires.tidy.held words c.requires.tidy.clean)
    c.set_pins.ensures.below c.set_pins.ensures.pins in
    let room = c.requires.ready.room in
    omega (arith, few, room)

pub returns-clause-planned : goal.returns-clause-planned
returns-clause-planned c = λ m memory same.
    let rows = c.args.types.now in
    let old = c.args.space.now.heap in
    let marked = c.mark_large.new.heap in
    let view = c.set_pins.new.heap in
    let table = c.args.roots.now.handles in
    let words = c.mark_large.ensures.words in
    let pins = c.set_pins.ensures.pins in
    let heap = marked-heap rows old marked c.requires.tidy.heap c.requires.tidy.held words in
    let held = marked-held rows old marked c.requires.tidy.heap c.requires.tidy.held words in
    let kept = is_in_parts old LargeSegments in
    let seen = table_from 1 m.handles in
    let others = pins.shape.others ∙ ap (λ (h : HeapView). record h { memories = view.memories }) words.shape.others in
    let planned =
    planned-from rows view c.plan_large.new.heap c.plan_large.new.bricks c.plan_large.new.pins.entries LargeSegments m
    seen kept view.start1 view.start0
    (survivors-from rows old 2 c.requires.tidy.heap c.requires.tidy.held m kept memory)
    (c.plan_large.ensures.planned (with_handles m seen) kept
    (memory-kept rows marked view table 1 heap held true pins (with_handles m seen)
    (memory-marked rows old marked c.requires.tidy.heap c.requires.tidy.held words (with_handles m seen)
    (memory-with rows old m seen memory)))
    (tests-pinned rows old marked c.requires.tidy.heap c.requires.tidy.held words c.requires.unmarked
    c.mark_large.ensures.marked view table pins)
    (tells-pins rows marked view table 1 heap held
    (clean-marked rows old marked c.requires.tidy.heap c.requires.tidy.held words c.requires.tidy.clean)
    c.set_pins.ensures.below pins (with_handles m seen) (ap (table_from 1) same))) in
    record {
      marked = marked;
      remarked = words;
      marks = c.mark_large.ensures.marked;
      view = view;
      pins = pins;
      plan = subst (λ (n : ℕ). HasPlanned rows view c.plan_large.new.heap c.plan_large.new.bricks
          c.plan_large.new.pins.entries LargeSegments m kept n old.start0) (ap (λ (h : HeapView). h.start1) others)
          (subst (λ (n : ℕ). HasPlanned rows view c.plan_large.new.heap c.plan_large.new.bricks
          c.plan_large.new.pins.entries LargeSegments m kept view.start1 n) (ap (λ (h : HeapView). h.start0) others)
          planned);
      others = c.plan_large.ensures.entries;
      cards_is = refl;
      same_bricks = c.plan_large.ensures.spans;
    }
