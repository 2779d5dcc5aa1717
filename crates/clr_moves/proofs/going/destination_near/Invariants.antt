use Rattle.clr_moves.proofs.going.destination_near.Given as goal

abbrev pub ghosts-stretch_at : goal.ghosts-stretch_at
ghosts-stretch_at a = record { name = a.blank.name; parts = a.blank.parts }
