use Rattle.std.proofs.Common.{◌≡◌, ℕ, ◌+◌, ◌-◌, ◌*◌, ◌<◌, ◌≤◌, ap, sym, ◌∙◌, subst, arith, nat_le}
use Rattle.std.proofs.Math.Bool.{and_comm}
use Rattle.clr_types.specs.Segments.{ephemeral, generation, stands_in}
use Rattle.clr_heap.specs.Memories.{HasWord, memory_index}
use Rattle.clr_heap.specs.View.{frame, word_of}
use Rattle.clr_scan.specs.References.{IsQuiet}
use Rattle.clr_scan.proofs.Bounds.{place_old}
use Rattle.clr_scan.proofs.slots.pass_words.Goals as goal

-- an address by the number of its word, counted from one on the way
address : (first from j : ℕ) → first + 8 * (from + j) ≡ first + 8 * from + 8 * j
address first from j = omega arith

pub first_naming-requires-clause-words : goal.first_naming-requires-clause-words
first_naming-requires-clause-words c = λ j l.
    subst (HasWord c.args.heap.now.memories) (address c.args.first c.args.from j)
    (c.requires.words (c.args.from + j) (omega (arith, l)))

pub first_naming-requires-clause-segment : goal.first_naming-requires-clause-segment
first_naming-requires-clause-segment c = λ j l.
    c.requires.segment (c.args.from + j) (omega (arith, l))
    ∙ ap (memory_index c.args.heap.now.memories) (address c.args.first c.args.from j)

pub overflow_mul-from : goal.overflow_mul-from
overflow_mul-from c = let fits = c.requires.fits c.args.from (omega arith) in omega (arith, fits)

pub returns-clause-quiet : goal.returns-clause-quiet
returns-clause-quiet c = λ j low l.
    let h = c.args.heap.now in
    let s = j - c.args.from in
    let at : c.args.first + 8 * c.args.from + 8 * s ≡ c.args.first + 8 * j = omega (arith, low) in
    let a = c.args.first + 8 * c.args.from + 8 * s in
    let w = word_of h a in
    let off = and_comm (stands_in (ephemeral (frame h)) w) (nat_le c.lowest_below-low.result w)
    ∙ c.first_naming.ensures.before s (omega (arith, low, l)) in
    let old = place_old (stands_in (ephemeral (frame h)) w) w c.lowest_below-low.result c.args.age
    (generation (frame h) w) (c.lowest_below-low.ensures w) off in
    subst (IsQuiet h c.args.age) at (λ ne less. absurd (omega (arith, old, less)))
