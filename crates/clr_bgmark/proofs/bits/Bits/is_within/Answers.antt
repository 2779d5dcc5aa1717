use Rattle.std.proofs.Common.{ℕ, ap, nat_eq}
use Rattle.std.proofs.lemmas.Bool.{eqb-true}
use Rattle.clr_bgmark.proofs.WordSearch.{left_none, none_left}
use Rattle.clr_bgmark.proofs.bits.Bits.is_within.Goals as goal

pub returns : goal.returns
returns c = (
  (λ sure.
      none_left c.args.self.now c.args.other.now c.args.k c.word.result c.word-2.result c.beside.result c.word.ensures
      c.word-2.ensures c.beside.type_inv c.beside.ensures.has c.beside.ensures.lacks
      (eqb-true c.beside.result 0 sure)),
  (λ all.
      ap (λ (n : ℕ). nat_eq n 0)
      (left_none c.args.self.now c.args.other.now c.args.k c.word.result c.word-2.result c.beside.result c.word.ensures
      c.word-2.ensures c.beside.type_inv c.beside.ensures.has c.beside.ensures.lacks all)),
)
