use Rattle.std.proofs.Common.{◌≡◌, ℕ, ◌+◌, ◌*◌, ◌/◌, ◌<◌, ◌≤◌, true, refl, sym, ◌∙◌, subst, subst₂, arith}
use Rattle.clr_covers.specs.Covers.{is_covered}
use Rattle.clr_model.specs.Allocation.{has_room_in}
use Rattle.clr_heap.specs.View.{frame}
use Rattle.clr_view.specs.View.{layout_in, newborn_at, objects_in}
use Rattle.clr_generations.proofs.AddedObjects.{HasOneMore}
use Rattle.clr_large.proofs.KindBirthFacts.{old_newborn, old_newborn-bricks, old_newborn-cards}
use Rattle.clr_large.proofs.KindBirthFacts.{old_newborn-covered, old_newborn-ends}
use Rattle.clr_large.specs.Places.{IsLowest}
use Rattle.clr_large.proofs.LowestPlace.{place_has_room}
use Rattle.clr_large.proofs.PlacedBirths.{one_more}
use Rattle.clr_large.proofs.items.KindItems.allocate.Goals as goal
use Rattle.clr_large.proofs.items.KindItems.allocate.Goals.{After-allocate_placed-place}

-- the heap has one object more
more : (c : After-allocate_placed-place) → HasOneMore c.args.types.now c.args.heap.now c.allocate_placed-place.new.heap
    c.allocate_placed-place.result c.args.t.0 c.args.len
more c = one_more c.args.kind c.args.types.now c.args.heap.now c.allocate_placed-place.new.heap
    c.allocate_placed-place.result
    c.args.t.0 c.args.len c.in_ok-found.ensures.heap c.requires.held c.allocate_placed-place.ensures.born

pub enter_old_newborn-requires-clause-fits : goal.enter_old_newborn-requires-clause-fits
enter_old_newborn-requires-clause-fits c =
    let d = (goal.at.enter_old_newborn-requires-clause-fits c).After-allocate_placed-place in
    let size = c.item_size-size.ensures in
    let ends = old_newborn-ends c.args.kind c.requires.old c.args.types.now c.args.heap.now
    c.allocate_placed-place.new.heap
    c.allocate_placed-place.result c.args.t.0 c.args.len (more d) c.allocate_placed-place.ensures.born.layout in
    omega (arith, size, ends)

pub enter_old_newborn-requires-clause-covered : goal.enter_old_newborn-requires-clause-covered
enter_old_newborn-requires-clause-covered c =
    let d = (goal.at.enter_old_newborn-requires-clause-covered c).After-allocate_placed-place in
    let place = c.allocate_placed-place.result in
    subst (λ (n : ℕ). (i : ℕ) → place / 4096 ≤ i → 4096 * i < place + n → is_covered c.args.bricks.now i ≡ true)
    (sym c.item_size-size.ensures)
    (old_newborn-covered c.args.kind c.requires.old c.args.types.now c.args.heap.now c.allocate_placed-place.new.heap
    place
    c.args.t.0 c.args.len
    (more d) c.allocate_placed-place.ensures.born.layout c.args.bricks.now c.requires.bricks)

pub returns-clause-some : goal.returns-clause-some
returns-clause-some c =
    let size = c.item_size-size.ensures in
    subst (λ (n : ℕ). has_room_in c.args.kind (layout_in c.args.types.now c.args.heap.now) n ≡ true) size
    (place_has_room c.args.kind c.args.types.now c.args.heap.now c.item_size-size.result c.in_ok-found.found
    c.in_ok-found.ensures.some.0)

pub returns-clause-lowest : goal.returns-clause-lowest
returns-clause-lowest c =
    subst₂ (λ (n place : ℕ). IsLowest c.args.kind (layout_in c.args.types.now c.args.heap.now) n place)
    c.item_size-size.ensures
    (sym c.allocate_placed-place.ensures.place) c.in_ok-found.ensures.some.1

pub returns-clause-own_bricks : goal.returns-clause-own_bricks
returns-clause-own_bricks c =
    let d = (goal.at.returns-clause-own_bricks c).After-allocate_placed-place in
    c.enter_old_newborn.ensures.spans
    ∙ old_newborn-bricks c.args.kind c.requires.old c.args.types.now c.args.heap.now c.allocate_placed-place.new.heap
    c.allocate_placed-place.result
    c.args.t.0 c.args.len (more d) c.allocate_placed-place.ensures.born.layout c.args.bricks.now c.requires.bricks

pub returns-clause-bricks : goal.returns-clause-bricks
returns-clause-bricks c = λ law.
    let d = (goal.at.returns-clause-bricks c).After-allocate_placed-place in
    let rows = c.args.types.now in
    let old = c.args.heap.now in
    let new = c.allocate_placed-place.new.heap in
    let place = c.allocate_placed-place.result in
    c.enter_old_newborn.ensures.bricks rows (frame old) (frame new) (objects_in rows old) (objects_in rows new)
    (newborn_at rows place c.args.t.0 c.args.len) refl (sym c.item_size-size.ensures)
    (old_newborn c.args.kind c.requires.old rows old new place c.args.t.0 c.args.len
    (more d) c.allocate_placed-place.ensures.born.layout) law

pub returns-clause-cards : goal.returns-clause-cards
returns-clause-cards c = λ closed.
    let d = (goal.at.returns-clause-cards c).After-allocate_placed-place in
    old_newborn-cards c.args.kind c.requires.old c.args.types.now c.args.heap.now c.allocate_placed-place.new.heap
    c.allocate_placed-place.result
    c.args.t.0 c.args.len (more d) c.allocate_placed-place.ensures.born.layout closed
