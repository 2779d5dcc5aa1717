-- The text of a place is the first of its row.
use Rattle.std.proofs.Common.{ap, ◌∙◌}
use Rattle.std.specs.Prelude.{option_and_then}
use Rattle.clap.specs.Matches.{found_of}
use Rattle.clap.proofs.WalkLemmas.{first_value-rows}
use Rattle.clr_args.specs.Reading.{number_in}
use Rattle.clr_args.proofs.options.place.Goals as goal

pub returns-in_err-get_str : goal.returns-in_err-get_str
returns-in_err-get_str c =
    c.from_residual.ensures
    ∙ ap (option_and_then number_in)
    (c.in_err-get_str.ensures ∙ first_value-rows (found_of c.args.found.now) c.args.name.now)

pub returns : goal.returns
returns c = c.number.ensures
    ∙ ap (option_and_then number_in)
    (c.in_ok-get_str.ensures ∙ first_value-rows (found_of c.args.found.now) c.args.name.now)
