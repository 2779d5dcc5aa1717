use Rattle.std.proofs.Common.{ℕ, ◌+◌, ◌*◌, ap}
use Rattle.std.proofs.lemmas.Bool.{both_ways}
use Rattle.clr_heap.specs.View.{word_of}
use Rattle.clr_bgmark.proofs.FrontSearch.{free_word, good_word}
use Rattle.clr_bgmark.proofs.front.is_as_it_was.Goals as goal

pub returns-then-is_found : goal.returns-then-is_found
returns-then-is_found c =
    let word = word_of c.args.heap.now in
    let place = ap (λ (b : ℕ). b + 512 * c.args.n) c.base.ensures in (
      (λ yes.
          good_word word c.args.shade.now c.args.part.now c.args.n (c.base.result + 512 * c.args.n) c.word.result place
          c.word.ensures (c.is_found.ensures.0 c.if-is_found.true) (c.are_free.ensures.0 yes)),
      (λ good.
          c.are_free.ensures.1 (free_word word c.args.shade.now c.args.part.now c.args.n
          (c.base.result + 512 * c.args.n) c.word.result place c.word.ensures good)),
    )

pub returns-else-is_found : goal.returns-else-is_found
returns-else-is_found c = (
  (λ yes. absurd cc),
  (λ good. absurd (both_ways c.is_found.result c.if-is_found.false (c.is_found.ensures.1 good.found))),
)
