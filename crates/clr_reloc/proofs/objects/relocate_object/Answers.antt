use Rattle.std.proofs.Common.{[], arith}
use Rattle.clr_view.proofs.Listed.{listed-known, listed-low}
use Rattle.clr_reloc.proofs.ObjectLoops.{passed_none}
use Rattle.clr_reloc.proofs.RestingWords.{run_fits, run_has, run_index}
use Rattle.clr_reloc.proofs.objects.relocate_object.Goals as goal

pub reference_run-requires : goal.reference_run-requires
reference_run-requires c =
    let (view, now, vs, r, ahead) = c.requires.can in
    listed-known c.args.work.now.types.now view c.args.object.now.found r.0.begun.plan.overlaid.heap
    r.0.begun.plan.held ahead.left.listed

pub is_passed_by_words-requires : goal.is_passed_by_words-requires
is_passed_by_words-requires c =
    let (view, now, vs, r, ahead) = c.requires.can in
    listed-known c.args.work.now.types.now view c.args.object.now.found r.0.begun.plan.overlaid.heap
    r.0.begun.plan.held ahead.left.listed

pub is_sparse-requires-clause-fits : goal.is_sparse-requires-clause-fits
is_sparse-requires-clause-fits c j l =
    let w = c.args.work.now in
    let object = c.args.object.now in
    let none = passed_none w object c.args.heap.now c.args.pins.now c.args.cards.now c.args.last.now in
    (run_fits w object c.args.heap.now c.args.pins.now c.args.cards.now c.args.last.now
    c.args.heap.now c.args.pins.now c.args.cards.now c.args.last.now c.in-Some.run'.offset c.in-Some.run'.count
    c.in-Some.ensures.spelled [] none c.requires.can j l).0

pub is_sparse-requires-clause-words : goal.is_sparse-requires-clause-words
is_sparse-requires-clause-words c j l =
    let w = c.args.work.now in
    let object = c.args.object.now in
    let none = passed_none w object c.args.heap.now c.args.pins.now c.args.cards.now c.args.last.now in
    run_has w object c.args.heap.now c.args.pins.now c.args.cards.now c.args.last.now
    c.args.heap.now c.args.pins.now c.args.cards.now c.args.last.now c.in-Some.run'.offset c.in-Some.run'.count
    c.in-Some.ensures.spelled [] none c.requires.can j l

pub is_sparse-requires-clause-segment : goal.is_sparse-requires-clause-segment
is_sparse-requires-clause-segment c j l =
    let w = c.args.work.now in
    let object = c.args.object.now in
    let none = passed_none w object c.args.heap.now c.args.pins.now c.args.cards.now c.args.last.now in
    run_index w object c.args.heap.now c.args.pins.now c.args.cards.now c.args.last.now
    c.args.heap.now c.args.pins.now c.args.cards.now c.args.last.now c.in-Some.run'.offset c.in-Some.run'.count
    c.in-Some.ensures.spelled [] none c.requires.can j l c.requires.placed

pub overflow_add-found : goal.overflow_add-found
overflow_add-found c =
    let (view, now, vs, r, ahead) = c.requires.can in
    let low = listed-low c.args.work.now.types.now view c.args.object.now.found r.0.begun.plan.overlaid.heap
    r.0.begun.plan.held ahead.left.listed in
    omega (arith, low)
