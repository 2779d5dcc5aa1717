-- The references of a run are read one by one.
use Rattle.std.proofs.Common.{◌≡◌, ℕ, ◌+◌, ◌*◌, List, ap, arith, sym, ◌∙◌, subst}
use Rattle.clr_types.specs.Descriptors.{offsets_from}
use Rattle.clr_types.specs.Rising.{IsIn}
use Rattle.clr_heap.specs.View.{word_of}
use Rattle.clr_mark.proofs.RunReferences.{run_listed, run_more}
use Rattle.clr_objsize.proofs.LoneObjects.{can_read, CanRead, head-read, null-more, null-names_none, null-none}
use Rattle.clr_objsize.proofs.sizes.are_null.Goals.{In-loop-j}
use Rattle.clr_objsize.proofs.sizes.are_null.Goals as goal

pub segment_of-k-requires : goal.segment_of-k-requires
segment_of-k-requires c = head-read c.args.view.now c.requires.sound c.args.item c.requires.object

pub loop-j-init : goal.loop-j-init
loop-j-init c = null-none (word_of c.args.view.now.heap.now) c.args.item.place

-- reference j of the run can be read
can : (c : In-loop-j) → CanRead c.args.view.now.heap.now c.args.item.place (c.args.run.offset + 8 * c.loop-j.j)
can c =
    let at : ℕ = c.args.run.offset + 8 * c.loop-j.j in
    let there = run_listed c.args.run.offset c.args.run.count c.loop-j.j c.loop-j-test.true in
    can_read c.args.view.now c.requires.sound c.args.item c.requires.object at
    (subst (λ (os : List ℕ). IsIn at os) (sym c.requires.run) there)

pub overflow_mul-j : goal.overflow_mul-j
overflow_mul-j c = let fits = (can c).fits in omega (arith, fits)

pub overflow_add-run : goal.overflow_add-run
overflow_add-run c = let fits = (can (goal.at.overflow_add-run c).In-loop-j).fits in omega (arith, fits)

pub overflow_add-item : goal.overflow_add-item
overflow_add-item c = let fits = (can (goal.at.overflow_add-item c).In-loop-j).fits in omega (arith, fits)

pub word_at-requires-clause-word : goal.word_at-requires-clause-word
word_at-requires-clause-word c = (can (goal.at.word_at-requires-clause-word c).In-loop-j).has

pub word_at-requires-clause-segment : goal.word_at-requires-clause-segment
word_at-requires-clause-segment c =
    c.segment_of-k.ensures ∙ (can (goal.at.word_at-requires-clause-segment c).In-loop-j).segment

pub loop-j-preserved : goal.loop-j-preserved
loop-j-preserved c =
    let at : ℕ = c.args.run.offset + 8 * c.loop-j.j in
    let word = word_of c.args.view.now.heap.now in
    let null : word (c.args.item.place + at) ≡ 0 = sym c.word_at.ensures ∙ c.if-word_at-ne0.false in
    rw (run_more c.args.run.offset c.loop-j.j)
    (null-more word c.args.item.place (offsets_from c.args.run.offset c.loop-j.j) c.loop-j.invariant at null)

pub returns : goal.returns
returns c = λ e.
    let past = c.loop-j-test.false in
    let within = c.loop-j.auto.j-end in
    let end : c.loop-j.j ≡ c.args.run.count = omega (arith, past, within) in
    null-names_none c.args.view.now c.requires.sound c.args.item c.requires.object
    (offsets_from c.args.run.offset c.loop-j.j) (ap (offsets_from c.args.run.offset) end ∙ sym c.requires.run)
    c.loop-j.invariant
