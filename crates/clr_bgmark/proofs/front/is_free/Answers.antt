use Rattle.std.proofs.Common.{arith}
use Rattle.clr_heap.specs.View.{last_of, word_of}
use Rattle.clr_bgmark.proofs.FrontSearch.{gap_below, gap_told}
use Rattle.clr_bgmark.proofs.front.is_free.Goals as goal

pub returns-in-Some : goal.returns-in-Some
returns-in-Some c =
    gap_told (word_of c.args.heap.now) c.args.shade.now c.args.place c.in-Some.next c.has_taken.result
    c.has_taken.ensures c.in-Some.ensures.free

pub returns-in-None : goal.returns-in-None
returns-in-None c = (
  (λ sure. absurd cc),
  (λ gap.
      let below = gap_below (word_of c.args.heap.now) c.args.shade.now (last_of c.args.heap.now c.args.k) c.args.place
      c.requires.shade c.requires.taken gap in
      let above = c.in-None.ensures.none gap.free in
      absurd (omega (arith, below, above))),
)
