-- The contexts are given up.
use Rattle.clr_collect.proofs.TidySpaces.{tidy_given}
use Rattle.clr_collect.proofs.collecting.give_up_contexts.Goals as goal

pub returns-clause-tidy : goal.returns-clause-tidy
returns-clause-tidy c =
    tidy_given c.args.types.now c.args.space.now c.give_up_all.new.heap c.requires.tidy c.give_up_all.ensures.given
