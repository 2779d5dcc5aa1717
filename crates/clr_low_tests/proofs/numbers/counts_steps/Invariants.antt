use Rattle.clr_low_tests.proofs.numbers.counts_steps.Given as goal

abbrev pub ghosts-take_three : goal.ghosts-take_three
ghosts-take_three g a = record { name = a.blank.name; parts = a.blank.parts }
