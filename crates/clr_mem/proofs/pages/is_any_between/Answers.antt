use Rattle.std.proofs.Common.{get_or, sym, ◌∙◌}
use Rattle.std.proofs.lemmas.Bool.{or_parts}
use Rattle.clr_mem.proofs.Between.{before-more}
use Rattle.clr_mem.proofs.pages.is_any_between.Goals as goal

pub loop-i-preserved : goal.loop-i-preserved
loop-i-preserved c = λ none.
    let parts = or_parts c.loop-i.any c.is_number_between-any.result none in
    before-more c.args.low c.args.high (λ j. get_or c.args.eight.now j 0) c.loop-i.i (c.loop-i.invariant parts.0)
    (sym c.is_number_between-any.ensures ∙ parts.1)
