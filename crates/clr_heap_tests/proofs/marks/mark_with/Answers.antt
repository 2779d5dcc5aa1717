use Rattle.std.proofs.Common.{ℕ, []}
use Rattle.clr_types.specs.Rising.{IsIn}
use Rattle.clr_mark.proofs.Held.{keeps_held, remarked-trans}
use Rattle.clr_mark.proofs.TiedMarks.{handles_on}
use Rattle.clr_heap_tests.proofs.marks.mark_with.Goals as goal

pub assert_closed-requires : goal.assert_closed-requires
assert_closed-requires g c = keeps_held c.args.types.now c.args.heap.now c.unmark.new.heap c.lawful.ensures
    c.requires.held c.unmark.ensures.words

pub handle_roots-requires-clause-handles : goal.handle_roots-requires-clause-handles
handle_roots-requires-clause-handles g c =
    handles_on c.args.types.now c.unmark.new.heap c.roots.new.heap c.assert_closed.ensures.heap
    c.assert_closed.ensures.held c.roots.ensures.words c.args.handles.now c.assert_handles.ensures

pub mark_more-requires-clause-handles : goal.mark_more-requires-clause-handles
mark_more-requires-clause-handles g c =
    handles_on c.args.types.now c.unmark.new.heap c.handle_roots.new.heap c.assert_closed.ensures.heap
    c.assert_closed.ensures.held
    (remarked-trans c.args.types.now c.unmark.new.heap c.roots.new.heap c.handle_roots.new.heap
    c.assert_closed.ensures.heap c.assert_closed.ensures.held c.roots.ensures.words c.handle_roots.ensures.words)
    c.args.handles.now c.assert_handles.ensures

pub mark_more-requires-clause-objects : goal.mark_more-requires-clause-objects
mark_more-requires-clause-objects g c = λ x r. absurd (none r.listed)
  where
    none : {x : ℕ} → IsIn x [] → ⊥
    none i = elim i [ ]
