use Rattle.std.proofs.Common.{◌≡◌, ℕ, ◌+◌, ◌*◌, ◌/◌, ◌<◌, ◌≤◌, ◌∷◌, true, ap, sym, ◌∙◌, subst, arith}
use Rattle.clr_types.specs.Segments.{Layout}
use Rattle.clr_bricks.specs.Bricks.{entry_at}
use Rattle.clr_covers.specs.Covers.{is_covered}
use Rattle.clr_heap.specs.View.{frame}
use Rattle.clr_view.specs.View.{objects_in}
use Rattle.clr_generations.specs.Laws.{BrickLaw}
use Rattle.clr_evacuate.proofs.CarriedBricks.{carried_left, carried_newborn, newborn_covered, newborn_ends}
use Rattle.clr_evacuate.proofs.CarriedBricks.{newborn_place, newborn_size, newborn_some, there, vacated_item}
use Rattle.clr_evacuate.proofs.entering.carry_entered.Goals as goal

pub enter_old_newborn-requires-clause-some : goal.enter_old_newborn-requires-clause-some
enter_old_newborn-requires-clause-some c =
    newborn_some c.args.types.now c.args.heap.now c.args.object c.args.item c.requires.heap c.requires.held
    c.requires.can

pub enter_old_newborn-requires-clause-fits : goal.enter_old_newborn-requires-clause-fits
enter_old_newborn-requires-clause-fits c =
    let ends = newborn_ends c.args.types.now c.args.heap.now c.args.object c.args.item c.requires.heap c.requires.held
    c.requires.can in
    let at = c.place.ensures in
    omega (arith, ends, at)

pub enter_old_newborn-requires-clause-covered : goal.enter_old_newborn-requires-clause-covered
enter_old_newborn-requires-clause-covered c =
    subst (λ p. (i : ℕ) → p / 4096 ≤ i → 4096 * i < p + c.args.object.size → is_covered c.args.bricks.now i ≡ true)
    (sym c.place.ensures)
    (newborn_covered c.args.types.now c.args.heap.now c.args.object c.args.item c.requires.heap c.requires.held
    c.requires.can c.args.bricks.now c.requires.bricks)

pub leave_brick-requires-clause-item : goal.leave_brick-requires-clause-item
leave_brick-requires-clause-item c =
    vacated_item c.args.types.now c.args.heap.now c.args.object c.args.item c.requires.heap c.requires.held
    c.requires.can c.carry_object.new.heap c.carry_object.ensures.carried c.requires.inside c.requires.old

pub returns-clause-bricks : goal.returns-clause-bricks
returns-clause-bricks c = λ law.
    let rows = c.args.types.now in
    let h = c.args.heap.now in
    let new = c.carry_object.new.heap in
    let now = there rows h c.args.object c.args.item c.requires.heap c.requires.held c.requires.can in
    let place = newborn_place rows h c.args.object c.args.item c.requires.heap c.requires.held c.requires.can in
    let size = newborn_size rows h c.args.object c.args.item c.requires.heap c.requires.held c.requires.can in
    let one_more = c.enter_old_newborn.ensures.bricks rows (frame h) (frame h) (objects_in rows h)
    (now ∷ objects_in rows h) now (place ∙ sym c.place.ensures) size
    (carried_newborn rows h c.args.object c.args.item c.requires.heap c.requires.held c.requires.can c.requires.home)
    law in
    c.leave_brick.ensures.bricks (now ∷ objects_in rows h)
    (carried_left rows h c.args.object c.args.item c.requires.heap c.requires.held c.requires.can new
    c.carry_object.ensures.carried c.requires.home)
    (subst (λ (l : Layout). BrickLaw rows l (now ∷ objects_in rows h) (entry_at c.enter_old_newborn.new.bricks))
    (sym (ap frame c.carry_object.ensures.carried.shape.others)) one_more)

pub returns-clause-heap : goal.returns-clause-heap
returns-clause-heap c = c.carry_object.ensures.heap
