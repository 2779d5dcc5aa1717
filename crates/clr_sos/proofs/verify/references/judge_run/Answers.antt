use Rattle.std.proofs.Common.{◌≡◌, ℕ, ◌+◌, ◌*◌, ◌^◌, ◌<◌, Bool, List, [], ◌∷◌, ◌++◌, if◌then◌else◌, filter, map, ap}
use Rattle.std.proofs.Common.{sym, ◌∙◌, arith}
use Rattle.std.proofs.lemmas.List.{map-append}
use Rattle.clr_types.specs.Descriptors.{offsets_from}
use Rattle.clr_heap.specs.View.{heap_items, word_of}
use Rattle.clr_sos.specs.Faults.{lower, lowest}
use Rattle.clr_sos.specs.Windows.{is_bad_by, is_bad_in}
use Rattle.clr_sos.proofs.JudgedNames.{bad_is, judged-more, judged-one, lowest-none}
use Rattle.clr_sos.proofs.CellPlaces.{run_more, run_slot}
use Rattle.clr_sos.proofs.verify.references.judge_run.Goals as goal

pub loop-i-init : goal.loop-i-init
loop-i-init c = sym (lowest-none c.args.low)

pub overflow_mul-a : goal.overflow_mul-a
overflow_mul-a c =
    let slot =
    run_slot c.args.judge.now.types.now c.args.judge.now.heap.now c.args.k c.args.item c.args.run c.loop-i.i
    c.requires.judging.heap c.requires.judging.walkable c.requires.in_range c.requires.listed c.requires.run
    c.loop-i-test.true in
    let low = slot.low in
    let small : 8 * c.loop-i.i < 2 ^ 63 = omega (arith, low) in
    omega (arith, small)

pub overflow_add-a : goal.overflow_add-a
overflow_add-a c =
    let slot =
    run_slot c.args.judge.now.types.now c.args.judge.now.heap.now c.args.k c.args.item c.args.run c.loop-i.i
    c.requires.judging.heap c.requires.judging.walkable c.requires.in_range c.requires.listed c.requires.run
    c.loop-i-test.true in
    let low = slot.low in
    let small : c.args.run.offset + 8 * c.loop-i.i < 2 ^ 63 = omega (arith, low) in
    omega (arith, small)

pub overflow_add-a-in-loop-i : goal.overflow_add-a-in-loop-i
overflow_add-a-in-loop-i c =
    let slot =
    run_slot c.args.judge.now.types.now c.args.judge.now.heap.now c.args.k c.args.item c.args.run c.loop-i.i
    c.requires.judging.heap c.requires.judging.walkable c.requires.in_range c.requires.listed c.requires.run
    c.loop-i-test.true in
    let low : c.args.item.place + (c.args.run.offset + 8 * c.loop-i.i) < 2 ^ 63 = slot.low in
    omega (arith, low)

pub word_at-requires-clause-word : goal.word_at-requires-clause-word
word_at-requires-clause-word c =
    (run_slot c.args.judge.now.types.now c.args.judge.now.heap.now c.args.k c.args.item c.args.run c.loop-i.i
    c.requires.judging.heap c.requires.judging.walkable c.requires.in_range c.requires.listed c.requires.run
    c.loop-i-test.true).word

pub word_at-requires-clause-segment : goal.word_at-requires-clause-segment
word_at-requires-clause-segment c =
    (run_slot c.args.judge.now.types.now c.args.judge.now.heap.now c.args.k c.args.item c.args.run c.loop-i.i
    c.requires.judging.heap c.requires.judging.walkable c.requires.in_range c.requires.listed c.requires.run
    c.loop-i-test.true).segment

pub loop-i-preserved : goal.loop-i-preserved
loop-i-preserved c =
    let rows = c.args.judge.now.types.now in
    let h = c.args.judge.now.heap.now in
    let a = c.args.item.place + (c.args.run.offset + 8 * c.loop-i.i) in
    let f : ℕ → ℕ = λ offset. c.args.item.place + offset in
    let t : ℕ → Bool = λ b. is_bad_in (heap_items rows h) c.args.judge.now.window (word_of h b) in
    let before = offsets_from c.args.run.offset c.loop-i.i in
    let bad : c.is_bad.result ≡ t a =
    c.is_bad.ensures ∙ ap (is_bad_by c.args.judge.now.window c.args.judge.now.bits.now) c.word_at.ensures
    ∙ bad_is rows h c.args.judge.now.window c.args.judge.now.bits.now c.requires.judging (word_of h a) in
    let next : c.lower_if-low.result ≡ lowest c.loop-i.low (filter t (a ∷ [])) =
    c.lower_if-low.ensures ∙ ap (λ (b : Bool). if b then lower c.loop-i.low a else c.loop-i.low) bad
    ∙ judged-one t c.loop-i.low a in
    let more : map f before ++ a ∷ [] ≡ map f (offsets_from c.args.run.offset (c.loop-i.i + 1)) =
    sym (map-append f before ((c.args.run.offset + 8 * c.loop-i.i) ∷ []))
    ∙ ap (map f) (sym (run_more c.args.run.offset c.loop-i.i)) in
    judged-more t c.args.low c.loop-i.low c.lower_if-low.result (map f before) (a ∷ []) c.loop-i.invariant next
    ∙ ap (λ (as_ : List ℕ). lowest c.args.low (filter t as_)) more
