use Rattle.std.proofs.Common.{◌%◌, arith}
use Rattle.clr_moves.specs.declared.stretch.Stretch.{Stretch}
use Rattle.clr_reloc.proofs.ahead.come_near.Goals as goal

pub overflow_mul-at : goal.overflow_mul-at
overflow_mul-at c = let fits = c.requires.fits c.args.at c.requires.below in omega (arith, fits)

pub overflow_add-run : goal.overflow_add-run
overflow_add-run c = let fits = c.requires.fits c.args.at c.requires.below in omega (arith, fits)

pub overflow_add-object : goal.overflow_add-object
overflow_add-object c = let fits = c.requires.fits c.args.at c.requires.below in omega (arith, fits)

pub returns-then-named-met : goal.returns-then-named-met
returns-then-named-met c = λ rows view entries vs start1 start0 plan before near.
    let none : Stretch = record { low = 0; stop = 0; down = 0 } in
    let found = c.look_ahead-next.ensures rows view entries vs start1 start0 plan before in
    let length = c.look_ahead-next.auto.ahead in
    let room = c.requires.room in
    (found, found (c.args.at % 8) none (omega (arith, length, room)))

pub returns-else-met-named : goal.returns-else-met-named
returns-else-met-named c = λ rows view entries vs start1 start0 plan before near.
    (c.look_ahead-next.ensures rows view entries vs start1 start0 plan before, near)
