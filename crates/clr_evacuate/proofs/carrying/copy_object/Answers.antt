use Rattle.std.proofs.Common.{◌-◌, ap, sym, ◌∙◌, subst, arith}
use Rattle.clr_heap.specs.Memories.{HasWord, InOne, moves}
use Rattle.clr_heap.specs.Parts.{unmarked}
use Rattle.clr_heap.specs.View.{SameShape, stored, word_of}
use Rattle.clr_heap.proofs.Framing.{SameShape-trans}
use Rattle.clr_evacuate.proofs.Copying.{cells_from, cells_to, copied, from_above, rest_head, rest_shape, to_above}
use Rattle.clr_evacuate.proofs.Copying.{word_to}
use Rattle.clr_evacuate.proofs.carrying.copy_object.Goals as goal
use Rattle.clr_evacuate.proofs.carrying.copy_object.Goals.{After-free_rest, After-move_cells}

pub free_rest-requires-clause-head : goal.free_rest-requires-clause-head
free_rest-requires-clause-head c =
    rest_head c.args.types.now c.args.heap.now c.args.object c.args.item c.requires.heap
    c.requires.held c.requires.can

pub overflow_sub-object : goal.overflow_sub-object
overflow_sub-object c = from_above c.args.types.now c.args.heap.now c.args.object c.args.item c.requires.heap
    c.requires.held c.requires.can

pub overflow_sub-to : goal.overflow_sub-to
overflow_sub-to c =
    let up = to_above c.args.types.now c.args.heap.now c.args.object c.args.item c.requires.heap c.requires.held
    c.requires.can in
    let at = c.place-to.ensures in
    omega (arith, up, at)

-- the rest of the item was made free
to_rest : (c : After-free_rest) → SameShape c.args.heap.now c.free_rest.new.heap
to_rest c = rest_shape c.args.types.now c.args.heap.now c.args.object c.args.item c.requires.heap c.requires.held
    c.requires.can c.free_rest.new.heap c.free_rest.ensures

pub move_cells-requires-clause-from_in : goal.move_cells-requires-clause-from_in
move_cells-requires-clause-from_in c =
    let d = (goal.at.move_cells-requires-clause-from_in c).After-free_rest in
    cells_from c.args.types.now c.args.heap.now c.args.object c.args.item c.requires.heap c.requires.held
    c.requires.can c.free_rest.new.heap (to_rest d)

pub move_cells-requires-clause-to_in : goal.move_cells-requires-clause-to_in
move_cells-requires-clause-to_in c =
    let d = (goal.at.move_cells-requires-clause-to_in c).After-free_rest in
    subst (λ a. InOne c.free_rest.new.heap.memories (a - 8) c.args.object.size) (sym c.place-to.ensures)
    (cells_to c.args.types.now c.args.heap.now c.args.object c.args.item c.requires.heap c.requires.held
    c.requires.can c.free_rest.new.heap (to_rest d))

-- the cells were moved
has_word : (c : After-move_cells) → SameShape c.args.heap.now c.free_rest.new.heap
    → HasWord c.move_cells.new.self.memories c.place-to.result
has_word c rest =
    subst (HasWord c.move_cells.new.self.memories) (sym c.place-to.ensures)
    (word_to c.args.types.now c.args.heap.now c.args.object c.args.item c.requires.heap c.requires.held
    c.requires.can c.move_cells.new.self
    (SameShape-trans c.args.heap.now c.free_rest.new.heap c.move_cells.new.self rest
    c.move_cells.ensures.shape))

pub word-mt-requires : goal.word-mt-requires
word-mt-requires c = has_word (goal.at.word-mt-requires c).After-move_cells
    (to_rest (goal.at.word-mt-requires c).After-free_rest)

pub set_word-requires : goal.set_word-requires
set_word-requires c = has_word (goal.at.set_word-requires c).After-move_cells
    (to_rest (goal.at.set_word-requires c).After-free_rest)

pub returns : goal.returns
returns c =
    let at = c.place-to.ensures in
    let moved = c.move_cells.new.self in
    let value = c.unmarked.ensures ∙ ap unmarked (c.word-mt.ensures.value ∙ ap (word_of moved) at) in
    copied c.args.types.now c.args.heap.now c.args.object c.args.item c.requires.heap c.requires.held c.requires.can
    c.free_rest.new.heap moved c.free_rest.ensures c.move_cells.ensures.shape
    (λ b z. c.move_cells.ensures.words b z
    ∙ ap (λ a. moves (c.args.object.place - 8) (a - 8) c.args.object.size (word_of c.free_rest.new.heap) b) at)
    c.set_word.new.self (c.set_word.ensures.value ∙ (λ k. stored moved (at k) (value k)))
