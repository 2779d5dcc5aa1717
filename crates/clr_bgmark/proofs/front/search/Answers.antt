use Rattle.std.proofs.Common.{◌≡◌, ℕ, ◌+◌, ◌*◌, refl, ap, arith, ◌∙◌, subst}
use Rattle.std.proofs.lemmas.Bool.{both_ways}
use Rattle.clr_heap.specs.View.{word_of}
use Rattle.clr_bgmark.specs.Bits.{count_below}
use Rattle.clr_bgmark.specs.Settling.{AreGood}
use Rattle.clr_bgmark.proofs.CellCounts.{count_most}
use Rattle.clr_bgmark.proofs.FrontSearch.{good_more, good_none}
use Rattle.clr_bgmark.proofs.front.search.Goals as goal

pub loop-words-init : goal.loop-words-init
loop-words-init c = record {
  few = omega arith;
  good = good_none (word_of c.args.heap.now) c.args.shade.now c.args.part.now;
  count = refl;
}

pub overflow_add-count : goal.overflow_add-count
overflow_add-count c =
    let inv = c.loop-words.invariant in
    let count = inv.count in
    let more = c.taken_count-count.ensures in
    let most = count_most c.args.shade.now.taken (64 * c.loop-words.words + 64) in
    let below = c.loop-words-test.true in
    let within = c.old_words-past.ensures.within in
    let fits = c.requires.shade.fits in
    record { fits = omega (arith, count, more, most, below, within, fits) }

pub loop-words-preserved : goal.loop-words-preserved
loop-words-preserved c =
    let inv = c.loop-words.invariant in
    let words = c.loop-words.words in
    let word = word_of c.args.heap.now in
    let s = c.args.shade.now in
    let p = c.args.part.now in
    let count = inv.count in
    let more = c.taken_count-count.ensures in
    let below = c.loop-words-test.true in
    let next : 64 * words + 64 ≡ 64 * (words + 1) = omega arith in
    record {
      few = omega (arith, below);
      good = subst (AreGood word s p 0) next
          (good_more word s p (64 * words) (64 * words + 64) inv.good
          (c.is_as_it_was.ensures.0 c.if-is_as_it_was.true));
      count = ap (λ (n : ℕ). n + c.taken_count-count.result) count ∙ more ∙ ap (count_below s.taken) next;
    }

pub returns-after-loop-words-clause-stopped : goal.returns-after-loop-words-clause-stopped
returns-after-loop-words-clause-stopped c group good =
    let past = c.loop-words-test.false in
    c.old_words-past.ensures.all c.loop-words.words (omega (arith, past)) group

pub returns-else-is_as_it_was-clause-stopped : goal.returns-else-is_as_it_was-clause-stopped
returns-else-is_as_it_was-clause-stopped c group good =
    both_ways c.is_as_it_was.result c.if-is_as_it_was.false (c.is_as_it_was.ensures.1 good)
