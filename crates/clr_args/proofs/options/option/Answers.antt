-- The text of an option is the first of its row.
use Rattle.std.proofs.Common.{ap, ◌∙◌}
use Rattle.clap.specs.Matches.{found_of}
use Rattle.clap.proofs.WalkLemmas.{first_value-rows}
use Rattle.clr_args.specs.Reading.{number_or}
use Rattle.clr_args.proofs.options.option.Goals as goal

pub returns-in-Some : goal.returns-in-Some
returns-in-Some c =
    c.number.ensures
    ∙ ap (number_or c.args.default) (c.in-Some.ensures ∙ first_value-rows (found_of c.args.found.now) c.args.name.now)

pub returns-in-None : goal.returns-in-None
returns-in-None c =
    ap (number_or c.args.default) (c.in-None.ensures ∙ first_value-rows (found_of c.args.found.now) c.args.name.now)
