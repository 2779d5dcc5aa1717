use Rattle.std.proofs.Common.{get_or, sym, ◌∙◌}
use Rattle.clr_mem.proofs.Between.{before-more}
use Rattle.clr_mem.proofs.pages.next_number_between.Goals as goal

pub returns-then-is_number_between-clause-found : goal.returns-then-is_number_between-clause-found
returns-then-is_number_between-clause-found c = λ _. sym c.is_number_between.ensures ∙ c.if-is_number_between.true

pub loop-i-preserved : goal.loop-i-preserved
loop-i-preserved c =
    before-more c.args.low c.args.high (λ j. get_or c.args.words.now j 0) c.loop-i.i c.loop-i.invariant
    (sym c.is_number_between.ensures ∙ c.if-is_number_between.false)
