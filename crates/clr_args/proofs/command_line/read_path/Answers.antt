-- The text of the place is the first of its row.
use Rattle.std.specs.Prelude.{List, Option, codes, option_map, unwrap_or}
use Rattle.std.proofs.Common.{ap, ◌∙◌}
use Rattle.clap.specs.Matches.{found_of}
use Rattle.clap.specs.Walk.{Row, Text, first_of}
use Rattle.clap.proofs.WalkLemmas.{first_value-rows}
use Rattle.clr_args.proofs.command_line.read_path.Goals as goal

pub returns : goal.returns
returns c = λ name rows is.
    let found = c.in_ok-found.ensures.rows ∙ ap (option_map (λ (p : Text × List Row). p.1)) is in
    c.get_str.ensures
    ∙ (first_value-rows (found_of c.in_ok-found.found.now) (codes "IMAGE")
    ∙ ap (first_of (codes "IMAGE")) (ap (λ (o : Option (List Row)). unwrap_or o rows) found))
