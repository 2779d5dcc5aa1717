use Rattle.std.proofs.Common.{ℕ, ◌+◌, ◌*◌, ◌%◌, ◌^◌, ap, ◌∙◌}
use Rattle.std.specs.Prelude.{count_ones}
use Rattle.clr_bgmark.specs.Bits.{count_below}
use Rattle.clr_bgmark.proofs.CellCounts.{count_word}
use Rattle.clr_bgmark.proofs.bits.Bits.count_in.Goals as goal

pub returns : goal.returns
returns c =
    ap (λ (n : ℕ). count_below c.args.self.now (64 * c.args.k) + n)
    (c.ones_of.ensures ∙ ap (λ (w : ℕ). count_ones (w % 2 ^ 64)) c.word.ensures)
    ∙ count_word c.args.self.now c.args.k
