use Rattle.clr_heap_tests.proofs.plugs.expect_found.Given as goal

abbrev pub ghosts-found : goal.ghosts-found
ghosts-found g a = record { name = a.blank.name; parts = a.blank.parts }
