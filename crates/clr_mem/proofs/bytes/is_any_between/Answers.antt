use Rattle.std.proofs.Common.{◌*◌, drop, ap, sym, ◌∙◌}
use Rattle.std.proofs.lemmas.Bool.{or_parts}
use Rattle.clr_mem.specs.Words.{is_between, spelled}
use Rattle.clr_mem.proofs.Between.{before-more}
use Rattle.clr_mem.proofs.bytes.is_any_between.Goals as goal

pub loop-i-preserved : goal.loop-i-preserved
loop-i-preserved c = λ none.
    let parts = or_parts c.loop-i.any c.is_number_between-any.result none in
    before-more c.args.low c.args.high (λ j. spelled (drop (8 * j) c.args.eight.now)) c.loop-i.i
    (c.loop-i.invariant parts.0)
    (ap (is_between c.args.low c.args.high) (sym c.number_at.ensures) ∙ sym c.is_number_between-any.ensures ∙ parts.1)
