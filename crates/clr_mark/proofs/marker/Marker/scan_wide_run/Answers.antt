use Rattle.std.proofs.Common.{◌≡◌, ℕ, List, true, ◌+◌, ap, arith, sym, subst, ◌∙◌}
use Rattle.clr_types.specs.Descriptors.{offsets_from}
use Rattle.clr_types.specs.Rising.{IsIn}
use Rattle.clr_view.specs.Marks.{Marked}
use Rattle.clr_mark.specs.Marks.{is_condemned_place}
use Rattle.clr_mark.specs.Markings.{IsMet}
use Rattle.clr_mark.proofs.Following.{scan_ends}
use Rattle.clr_mark.proofs.Meeting.{all_met, closed_on, meeting_ends, meeting_on, meeting_starts, met_grayed}
use Rattle.clr_mark.proofs.Meeting.{stack_marked}
use Rattle.clr_mark.proofs.RunMeetings.{meeting_passed, meeting_run, run_low, run_met}
use Rattle.clr_mark.proofs.RunReferences.{can_follow_run}
use Rattle.clr_mark.proofs.marker.Marker.scan_wide_run.Goals as goal

pub loop-at-init : goal.loop-at-init
loop-at-init c = record {
  meeting = meeting_starts c.args.types.now c.args.heap.now c.args.self.now c.args.obj c.new-targets.result
      c.new-targets.ensures;
  within = omega arith;
  known = c.none.ensures c.args.types.now;
}

pub overflow_add-obj : goal.overflow_add-obj
overflow_add-obj c =
    let rows = c.args.types.now in
    let h = c.args.heap.now in
    let x = c.args.obj in
    let s = c.loop-at.invariant.meeting in
    let can = can_follow_run rows h c.loop-at.heap x c.args.run c.loop-at.at c.requires.closed c.requires.marked
    s.met.marked.remarked c.requires.run c.loop-at-test.true in
    let fits = can.fits in
    omega (arith, fits)

pub overflow_mul-at : goal.overflow_mul-at
overflow_mul-at c =
    let rows = c.args.types.now in
    let h = c.args.heap.now in
    let x = c.args.obj in
    let s = c.loop-at.invariant.meeting in
    let can = can_follow_run rows h c.loop-at.heap x c.args.run c.loop-at.at c.requires.closed c.requires.marked
    s.met.marked.remarked c.requires.run c.loop-at-test.true in
    let fits = can.fits in
    omega (arith, fits)

pub overflow_add-obj-in-loop-at : goal.overflow_add-obj-in-loop-at
overflow_add-obj-in-loop-at c =
    let rows = c.args.types.now in
    let h = c.args.heap.now in
    let x = c.args.obj in
    let s = c.loop-at.invariant.meeting in
    let can = can_follow_run rows h c.loop-at.heap x c.args.run c.loop-at.at c.requires.closed c.requires.marked
    s.met.marked.remarked c.requires.run c.loop-at-test.true in
    let fits = can.fits in
    omega (arith, fits)

pub word_at-target-requires-clause-word : goal.word_at-target-requires-clause-word
word_at-target-requires-clause-word c =
    let rows = c.args.types.now in
    let h = c.args.heap.now in
    let x = c.args.obj in
    let s = c.loop-at.invariant.meeting in
    let can = can_follow_run rows h c.loop-at.heap x c.args.run c.loop-at.at c.requires.closed c.requires.marked
    s.met.marked.remarked c.requires.run c.loop-at-test.true in
    can.slot

pub word_at-target-requires-clause-segment : goal.word_at-target-requires-clause-segment
word_at-target-requires-clause-segment c =
    let rows = c.args.types.now in
    let h = c.args.heap.now in
    let x = c.args.obj in
    let s = c.loop-at.invariant.meeting in
    let can = can_follow_run rows h c.loop-at.heap x c.args.run c.loop-at.at c.requires.closed c.requires.marked
    s.met.marked.remarked c.requires.run c.loop-at-test.true in
    c.requires.segment ∙ can.segment

pub overflow_add-obj-then-target-eq0 : goal.overflow_add-obj-then-target-eq0
overflow_add-obj-then-target-eq0 c =
    let rows = c.args.types.now in
    let h = c.args.heap.now in
    let x = c.args.obj in
    let s = c.loop-at.invariant.meeting in
    let can = can_follow_run rows h c.loop-at.heap x c.args.run c.loop-at.at c.requires.closed c.requires.marked
    s.met.marked.remarked c.requires.run c.loop-at-test.true in
    let fits = can.fits in
    omega (arith, fits)

pub pass_null-at-requires-clause-fits : goal.pass_null-at-requires-clause-fits
pass_null-at-requires-clause-fits c = λ j l.
    let rows = c.args.types.now in
    let h = c.args.heap.now in
    let x = c.args.obj in
    let s = c.loop-at.invariant.meeting in
    let can = can_follow_run rows h c.loop-at.heap x c.args.run j c.requires.closed c.requires.marked
    s.met.marked.remarked c.requires.run l in
    can.fits

pub pass_null-at-requires-clause-words : goal.pass_null-at-requires-clause-words
pass_null-at-requires-clause-words c = λ j l.
    let rows = c.args.types.now in
    let h = c.args.heap.now in
    let x = c.args.obj in
    let s = c.loop-at.invariant.meeting in
    let can = can_follow_run rows h c.loop-at.heap x c.args.run j c.requires.closed c.requires.marked
    s.met.marked.remarked c.requires.run l in
    can.slot

pub pass_null-at-requires-clause-segment : goal.pass_null-at-requires-clause-segment
pass_null-at-requires-clause-segment c = λ j l.
    let rows = c.args.types.now in
    let h = c.args.heap.now in
    let x = c.args.obj in
    let s = c.loop-at.invariant.meeting in
    let can = can_follow_run rows h c.loop-at.heap x c.args.run j c.requires.closed c.requires.marked
    s.met.marked.remarked c.requires.run l in
    c.requires.segment ∙ can.segment

pub pass_null-at-requires-clause-low : goal.pass_null-at-requires-clause-low
pass_null-at-requires-clause-low c =
    let rows = c.args.types.now in
    let h = c.args.heap.now in
    let x = c.args.obj in
    let s = c.loop-at.invariant.meeting in
    run_low rows h c.loop-at.heap x c.args.run c.requires.closed c.requires.marked c.requires.run
    s.met.marked.remarked s.met.marked.kept

pub loop-at-preserved-then-target-eq0 : goal.loop-at-preserved-then-target-eq0
loop-at-preserved-then-target-eq0 c =
    let rows = c.args.types.now in
    let h = c.args.heap.now in
    let x = c.args.obj in
    let s = c.loop-at.invariant.meeting in
    let from = c.pass_null-at.ensures.from in
    record {
      meeting = meeting_passed rows h c.loop-at.heap x c.args.run c.requires.closed c.requires.marked c.requires.run
          c.args.self.now c.loop-at.self c.loop-at.targets c.loop-at.at c.pass_null-at.result
          (omega (arith, from)) c.pass_null-at.ensures.within
          (sym c.word_at-target.ensures ∙ c.if-target-eq0.true) c.pass_null-at.ensures.null s;
      within = c.pass_null-at.ensures.within;
      known = c.loop-at.invariant.known;
    }

pub meet-last-requires-clause-closed : goal.meet-last-requires-clause-closed
meet-last-requires-clause-closed c =
    let rows = c.args.types.now in
    let h = c.args.heap.now in
    let x = c.args.obj in
    let s = c.loop-at.invariant.meeting in
    closed_on rows h c.loop-at.heap c.args.self.now c.loop-at.self c.loop-at.targets c.requires.closed s.met

pub meet-last-requires-clause-named : goal.meet-last-requires-clause-named
meet-last-requires-clause-named c =
    let rows = c.args.types.now in
    let h = c.args.heap.now in
    let x = c.args.obj in
    let s = c.loop-at.invariant.meeting in
    run_met rows h c.loop-at.heap x c.args.run c.requires.closed c.requires.marked c.requires.run
    s.met.marked.remarked s.met.marked.kept c.loop-at.at c.loop-at-test.true c.word_at-target.result
    c.word_at-target.ensures c.if-target-eq0.false

pub mark_if_full-requires-clause-closed : goal.mark_if_full-requires-clause-closed
mark_if_full-requires-clause-closed c =
    let rows = c.args.types.now in
    let h = c.args.heap.now in
    let x = c.args.obj in
    let s = c.loop-at.invariant.meeting in
    let next = meeting_run rows h c.loop-at.heap x c.args.run c.requires.closed c.requires.marked c.requires.run
    c.meet-last.new.heap c.args.self.now c.loop-at.self c.meet-last.new.self c.loop-at.at c.loop-at.targets
    c.meet-last.new.targets s c.loop-at-test.true c.word_at-target.result c.word_at-target.ensures
    c.meet-last.ensures.met c.meet-last.ensures.marked in
    closed_on rows h c.meet-last.new.heap c.args.self.now c.meet-last.new.self c.meet-last.new.targets
    c.requires.closed next.met

pub mark_if_full-requires-clause-named : goal.mark_if_full-requires-clause-named
mark_if_full-requires-clause-named c =
    let rows = c.args.types.now in
    let h = c.args.heap.now in
    let x = c.args.obj in
    let s = c.loop-at.invariant.meeting in
    let next = meeting_run rows h c.loop-at.heap x c.args.run c.requires.closed c.requires.marked c.requires.run
    c.meet-last.new.heap c.args.self.now c.loop-at.self c.meet-last.new.self c.loop-at.at c.loop-at.targets
    c.meet-last.new.targets s c.loop-at-test.true c.word_at-target.result c.word_at-target.ensures
    c.meet-last.ensures.met c.meet-last.ensures.marked in
    all_met rows h c.meet-last.new.heap c.args.self.now c.meet-last.new.self c.meet-last.new.targets
    c.requires.closed next.met

pub follow_if_over-requires-clause-closed : goal.follow_if_over-requires-clause-closed
follow_if_over-requires-clause-closed c =
    let rows = c.args.types.now in
    let h = c.args.heap.now in
    let x = c.args.obj in
    let s = c.loop-at.invariant.meeting in
    let next = meeting_run rows h c.loop-at.heap x c.args.run c.requires.closed c.requires.marked c.requires.run
    c.meet-last.new.heap c.args.self.now c.loop-at.self c.meet-last.new.self c.loop-at.at c.loop-at.targets
    c.meet-last.new.targets s c.loop-at-test.true c.word_at-target.result c.word_at-target.ensures
    c.meet-last.ensures.met c.meet-last.ensures.marked in
    let spent = meeting_on rows h c.meet-last.new.heap c.mark_if_full.new.heap c.args.self.now c.meet-last.new.self
    c.mark_if_full.new.self x (offsets_from c.args.run.offset (c.loop-at.at + 1)) c.meet-last.new.targets
    c.mark_if_full.new.targets c.requires.closed next c.mark_if_full.ensures.met in
    closed_on rows h c.mark_if_full.new.heap c.args.self.now c.mark_if_full.new.self c.mark_if_full.new.targets
    c.requires.closed spent.met

pub follow_if_over-requires-clause-stacked : goal.follow_if_over-requires-clause-stacked
follow_if_over-requires-clause-stacked c =
    let rows = c.args.types.now in
    let h = c.args.heap.now in
    let x = c.args.obj in
    let s = c.loop-at.invariant.meeting in
    let next = meeting_run rows h c.loop-at.heap x c.args.run c.requires.closed c.requires.marked c.requires.run
    c.meet-last.new.heap c.args.self.now c.loop-at.self c.meet-last.new.self c.loop-at.at c.loop-at.targets
    c.meet-last.new.targets s c.loop-at-test.true c.word_at-target.result c.word_at-target.ensures
    c.meet-last.ensures.met c.meet-last.ensures.marked in
    let spent = meeting_on rows h c.meet-last.new.heap c.mark_if_full.new.heap c.args.self.now c.meet-last.new.self
    c.mark_if_full.new.self x (offsets_from c.args.run.offset (c.loop-at.at + 1)) c.meet-last.new.targets
    c.mark_if_full.new.targets c.requires.closed next c.mark_if_full.ensures.met in
    stack_marked rows h c.mark_if_full.new.heap c.args.self.now c.mark_if_full.new.self c.mark_if_full.new.targets
    c.requires.closed spent.met c.requires.stacked

pub loop-at-preserved : goal.loop-at-preserved
loop-at-preserved c =
    let rows = c.args.types.now in
    let h = c.args.heap.now in
    let x = c.args.obj in
    let s = c.loop-at.invariant.meeting in
    let next = meeting_run rows h c.loop-at.heap x c.args.run c.requires.closed c.requires.marked c.requires.run
    c.meet-last.new.heap c.args.self.now c.loop-at.self c.meet-last.new.self c.loop-at.at c.loop-at.targets
    c.meet-last.new.targets s c.loop-at-test.true c.word_at-target.result c.word_at-target.ensures
    c.meet-last.ensures.met c.meet-last.ensures.marked in
    let spent = meeting_on rows h c.meet-last.new.heap c.mark_if_full.new.heap c.args.self.now c.meet-last.new.self
    c.mark_if_full.new.self x (offsets_from c.args.run.offset (c.loop-at.at + 1)) c.meet-last.new.targets
    c.mark_if_full.new.targets c.requires.closed next c.mark_if_full.ensures.met in
    let closed = closed_on rows h c.mark_if_full.new.heap c.args.self.now c.mark_if_full.new.self
    c.mark_if_full.new.targets c.requires.closed spent.met in
    let inside = c.loop-at-test.true in
    record {
      meeting = meeting_on rows h c.mark_if_full.new.heap c.follow_if_over.new.heap c.args.self.now
          c.mark_if_full.new.self c.follow_if_over.new.self x (offsets_from c.args.run.offset (c.loop-at.at + 1))
          c.mark_if_full.new.targets c.mark_if_full.new.targets c.requires.closed spent
          (met_grayed rows c.mark_if_full.new.heap c.follow_if_over.new.heap c.mark_if_full.new.self
          c.follow_if_over.new.self c.mark_if_full.new.targets closed.heap closed.held
          c.follow_if_over.ensures.grayed);
      within = omega (arith, inside);
      known = c.meet-last.ensures.known;
    }

pub mark_all-requires-clause-closed : goal.mark_all-requires-clause-closed
mark_all-requires-clause-closed c =
    let rows = c.args.types.now in
    let h = c.args.heap.now in
    let x = c.args.obj in
    let s = c.loop-at.invariant.meeting in
    closed_on rows h c.loop-at.heap c.args.self.now c.loop-at.self c.loop-at.targets c.requires.closed s.met

pub mark_all-requires-clause-met : goal.mark_all-requires-clause-met
mark_all-requires-clause-met c =
    let rows = c.args.types.now in
    let h = c.args.heap.now in
    let x = c.args.obj in
    let s = c.loop-at.invariant.meeting in
    let P : List ℕ → Type 0 = λ ys. (y : ℕ) → IsIn y ys → IsMet rows c.loop-at.heap y in
    subst P (sym c.as_slice.ensures) (all_met rows h c.loop-at.heap c.args.self.now c.loop-at.self c.loop-at.targets
    c.requires.closed s.met)

pub returns-clause-grayed : goal.returns-clause-grayed
returns-clause-grayed c =
    let rows = c.args.types.now in
    let h = c.args.heap.now in
    let x = c.args.obj in
    let s = c.loop-at.invariant.meeting in
    let P : List ℕ → Type 0 =
    λ ys. (y : ℕ) → IsIn y ys → is_condemned_place c.loop-at.heap c.loop-at.self.oldest y ≡ true
    → Marked rows c.mark_all.new.heap y in
    meeting_ends rows h c.loop-at.heap c.mark_all.new.heap c.args.self.now c.loop-at.self c.mark_all.new.self x
    (offsets_from c.args.run.offset c.loop-at.at) c.loop-at.targets c.requires.closed s c.mark_all.ensures.grayed
    (subst P c.as_slice.ensures c.mark_all.ensures.marked)

pub returns-clause-followed : goal.returns-clause-followed
returns-clause-followed c =
    let rows = c.args.types.now in
    let h = c.args.heap.now in
    let x = c.args.obj in
    let s = c.loop-at.invariant.meeting in
    let last = c.loop-at-test.false in
    let within = c.loop-at.invariant.within in
    let end : c.loop-at.at ≡ c.args.run.count = omega (arith, last, within) in
    λ y leads. c.mark_all.ensures.grayed.marked.kept y
    (scan_ends rows h x c.requires.closed c.requires.marked c.loop-at.heap c.args.self.now.oldest
    (offsets_from c.args.run.offset c.loop-at.at) (ap (offsets_from c.args.run.offset) end ∙ sym c.requires.run)
    s.slots y leads)
