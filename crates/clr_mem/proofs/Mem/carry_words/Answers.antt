use Rattle.std.proofs.Common.{◌≡◌, ◌+◌, ◌-◌, ◌*◌, ◌/◌, ℕ, List, [], refl, ap, ap₂, ◌∙◌, arith, get_or, length, set}
use Rattle.clr_mem.specs.Words.{Memory, overwrite, part, place_of, with_word}
use Rattle.clr_mem.proofs.Callers.{length-overwrite, length-part}
use Rattle.clr_mem.proofs.Overwriting.{overwrite-none, overwrite-word}
use Rattle.clr_mem.proofs.Mem.carry_words.Goals as goal

pub loop-i-init : goal.loop-i-init
loop-i-init c =
    let m = c.args.self.now in
    ap (λ (ws : List ℕ). record m { words = ws }) (overwrite-none m.words (place_of m c.args.to) [] refl)

pub overflow_add-to : goal.overflow_add-to
overflow_add-to c =
    let below = c.requires.to_in.below in
    let fits = c.requires.to_end in
    let inside = c.loop-i-test.true in
    record { fits = omega (arith, below, fits, inside) }

pub overflow_add-from : goal.overflow_add-from
overflow_add-from c =
    let below = c.requires.from_in.below in
    let fits = c.requires.from_end in
    let inside = c.loop-i-test.true in
    record { fits = omega (arith, below, fits, inside) }

pub set_word-requires : goal.set_word-requires
set_word-requires c =
    let m = c.args.self.now in
    let o = c.args.other.now in
    let i = c.loop-i.i in
    let to_in = c.requires.to_in in
    let above = to_in.above in
    let below = to_in.below in
    let start = to_in.start in
    let from_above = c.requires.from_in.above in
    let from_below = c.requires.from_in.below in
    let inside = c.loop-i-test.true in
    let copied = part o.words (place_of o c.args.from) i in
    let size : length copied ≡ i =
    length-part o.words (place_of o c.args.from) i (omega (arith, from_above, from_below, inside)) in
    let first = ap (λ (n : Memory). n.base) c.loop-i.invariant in
    let long =
    ap (λ (n : Memory). length n.words) c.loop-i.invariant
    ∙ length-overwrite m.words (place_of m c.args.to) copied (omega (arith, above, below, inside, size)) in
    record {
      above = omega (arith, above, first);
      below = omega (arith, below, first, long, inside);
      start = omega (arith, start);
      whole = refl;
    }

pub loop-i-preserved : goal.loop-i-preserved
loop-i-preserved c =
    let m = c.args.self.now in
    let o = c.args.other.now in
    let i = c.loop-i.i in
    let a = c.args.to + 8 * i in
    let above = c.requires.to_in.above in
    let below = c.requires.to_in.below in
    let from_above = c.requires.from_in.above in
    let from_below = c.requires.from_in.below in
    let inside = c.loop-i-test.true in
    let at = place_of m c.args.to in
    let from = place_of o c.args.from in
    let place : (a - m.base) / 8 ≡ at + i = omega (arith, above) in
    let source : (c.args.from + 8 * i - o.base) / 8 ≡ from + i = omega (arith, from_above) in
    let word : c.word.result ≡ get_or o.words (from + i) 0 =
    c.word.ensures.value ∙ ap (λ (k : ℕ). get_or o.words k 0) source in
    let before : List ℕ = overwrite m.words at (part o.words from i) in
    c.set_word.ensures.value
    ∙ ap (λ (n : Memory). with_word n a c.word.result) c.loop-i.invariant
    ∙ ap (λ (ws : List ℕ). record m { words = ws })
    (ap₂ (λ (k v : ℕ). set before k v) place word
    ∙ overwrite-word m.words o.words at from i (omega (arith, above, below, inside))
    (omega (arith, from_above, from_below, inside)))

pub returns-clause-value : goal.returns-clause-value
returns-clause-value c =
    let m = c.args.self.now in
    let o = c.args.other.now in
    let most = c.loop-i.auto.i-end in
    let past = c.loop-i-test.false in
    let all : c.loop-i.i ≡ c.args.len / 8 = omega (arith, most, past) in
    c.loop-i.invariant
    ∙ ap (λ (k : ℕ). record m {
      words = overwrite m.words (place_of m c.args.to) (part o.words (place_of o c.args.from) k);
    })
    all

pub returns-clause-size : goal.returns-clause-size
returns-clause-size c =
    let m = c.args.self.now in
    let o = c.args.other.now in
    let i = c.loop-i.i in
    let above = c.requires.to_in.above in
    let below = c.requires.to_in.below in
    let from_above = c.requires.from_in.above in
    let from_below = c.requires.from_in.below in
    let most = c.loop-i.auto.i-end in
    let copied = part o.words (place_of o c.args.from) i in
    let size : length copied ≡ i =
    length-part o.words (place_of o c.args.from) i (omega (arith, from_above, from_below, most)) in
    ap (λ (n : Memory). length n.words) c.loop-i.invariant
    ∙ length-overwrite m.words (place_of m c.args.to) copied (omega (arith, above, below, most, size))
