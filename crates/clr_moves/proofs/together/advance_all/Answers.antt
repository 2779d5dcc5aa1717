use Rattle.clr_moves.proofs.together.advance_all.Goals as goal

pub advance_each-requires : goal.advance_each-requires
advance_each-requires c = let (bricks, g, all) = c.requires in (bricks, g, c.loop.invariant bricks g all)
