use Rattle.std.proofs.Common.{◌≡◌, ℕ, ◌+◌, ◌-◌, ◌*◌, false, ap, sym, ◌∙◌, subst, arith}
use Rattle.clr_heap.specs.Memories.{HasWord, memory_index}
use Rattle.clr_heap.specs.View.{may_refer, word_of}
use Rattle.clr_mark.proofs.RunMeetings.{null_word, word_number}
use Rattle.clr_mark.proofs.marker.wide.pass_null.Goals as goal

pub first_reference-requires-clause-words : goal.first_reference-requires-clause-words
first_reference-requires-clause-words c = λ j l.
    subst (HasWord c.args.heap.now.memories) (word_number c.args.first c.args.from j)
    (c.requires.words (c.args.from + j) (omega (arith, l)))

pub first_reference-requires-clause-segment : goal.first_reference-requires-clause-segment
first_reference-requires-clause-segment c = λ j l.
    c.requires.segment (c.args.from + j) (omega (arith, l))
    ∙ ap (memory_index c.args.heap.now.memories) (word_number c.args.first c.args.from j)

pub returns-clause-null : goal.returns-clause-null
returns-clause-null c = λ j low l.
    let h = c.args.heap.now in
    let d = j - c.args.from in
    let most = c.first_reference.ensures.most in
    let e : c.args.first + 8 * c.args.from + 8 * d ≡ c.args.first + 8 * j = omega (arith, low) in
    let off : may_refer (word_of h (c.args.first + 8 * j)) ≡ false =
    ap (λ (a : ℕ). may_refer (word_of h a)) (sym e)
    ∙ c.first_reference.ensures.before d (omega (arith, low, l)) in
    null_word (word_of h (c.args.first + 8 * j)) off
    (c.requires.low j (let order = c.requires.order in omega (arith, low, l, most, order)))
