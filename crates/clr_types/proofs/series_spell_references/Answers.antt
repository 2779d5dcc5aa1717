use Rattle.clr_types.proofs.Offsets.{series_law, rising_offsets_law, inside_law, longest_runs_law}
use Rattle.clr_types.proofs.series_spell_references.Goals as goal

pub returns-clause-spelled : goal.returns-clause-spelled
returns-clause-spelled c = series_law

pub returns-clause-rising : goal.returns-clause-rising
returns-clause-rising c = rising_offsets_law

pub returns-clause-longest : goal.returns-clause-longest
returns-clause-longest c = longest_runs_law

pub returns-clause-inside : goal.returns-clause-inside
returns-clause-inside c = inside_law
