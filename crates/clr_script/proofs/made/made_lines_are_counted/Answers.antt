use Rattle.clr_script.proofs.MadeLines.{lines_are_counted}
use Rattle.clr_script.proofs.made.made_lines_are_counted.Goals as goal

pub returns : goal.returns
returns c seed n = lines_are_counted seed n
