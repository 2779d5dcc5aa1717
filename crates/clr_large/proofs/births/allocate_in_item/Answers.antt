use Rattle.std.proofs.Common.{◌≡◌, ℕ, ◌+◌, ◌-◌, ◌%◌, ap, inl, sym, ◌∙◌, subst, subst₂, arith}
use Rattle.clr_types.specs.Types.{form_at, size_of}
use Rattle.clr_heap.specs.Memories.{clears, InOne}
use Rattle.clr_heap.specs.View.{freed, HasHead, placed, word_of}
use Rattle.clr_view.proofs.Carving.{Carves, carves_part}
use Rattle.clr_large.specs.Births.{HasNewbornIn}
use Rattle.clr_large.specs.declared.places.Birthplace.TheVariants.{Item}
use Rattle.clr_large.proofs.Homes.{IsBorneAt}
use Rattle.clr_large.proofs.ItemBirths.{FitsItem, item_borne, item_cells, item_cut, item_head, item_left_head, item_low}
use Rattle.clr_large.proofs.births.allocate_in_item.Goals as goal
use Rattle.clr_large.proofs.births.allocate_in_item.Goals.{After-clear_cells, After-make_object, else-size, Joined-size}
use Rattle.clr_large.proofs.births.allocate_in_item.Goals.{then-size}

pub make_free-requires-clause-head : goal.make_free-requires-clause-head
make_free-requires-clause-head c =
    let h = c.args.heap.now in
    let less = c.if-size.true in
    let all = c.size.ensures.value in
    let size = c.item_size-size.ensures in
    let asked : FitsItem c.args.kind c.args.types.now h c.args.item c.args.t.0 c.args.len = record {
      old = c.requires.old;
      heap = c.requires.heap;
      held = c.requires.held;
      item = c.requires.item;
      object = c.requires.object;
      listed = c.requires.place.0;
      within = c.requires.place.1;
    } in
    subst₂ (λ (a n : ℕ). HasHead h (a + n)) (sym c.place-place.ensures) (sym size)
    (item_left_head c.args.kind c.args.types.now h c.args.item c.args.t.0 c.args.len asked
    (omega (arith, less, all, size)))

-- what was asked for
asks : (c : Joined-size) → FitsItem c.args.kind c.args.types.now c.args.heap.now c.args.item c.args.t.0 c.args.len
asks c = record {
  old = c.requires.old;
  heap = c.requires.heap;
  held = c.requires.held;
  item = c.requires.item;
  object = c.requires.object;
  listed = c.requires.place.0;
  within = c.requires.place.1;
}

-- what is left of the item was made free
carves : (c : Joined-size)
    → Carves c.args.heap.now c.args.item (size_of (form_at c.args.types.now c.args.t.0) c.args.len) c.if-size.heap
carves c =
    let h = c.args.heap.now in
    let n = size_of (form_at c.args.types.now c.args.t.0) c.args.len in
    let size = c.item_size-size.ensures in
    let all = c.size.ensures.value in
    let cut = item_cut c.args.kind c.args.types.now h c.args.item c.args.t.0 c.args.len (asks c) in
    elim c.if-size.branch [
      | then-size w ↦
          let less = w.if-size.true in
          carves_part h c.args.item n c.place-place.result w.size-then-size.result c.if-size.heap w.make_free.new.self
          c.place-place.ensures w.size-then-size.ensures.value (omega (arith, less, all, size)) w.heap-is
          (w.make_free.ensures.words
          ∙ ap (λ (b : ℕ). freed h (c.place-place.result + b) (w.size-then-size.result - b)) size)
      | else-size w ↦ let not_less = w.if-size.false in inl (omega (arith, not_less, all, size, cut), w.heap-is)
    ]

pub overflow_sub-place : goal.overflow_sub-place
overflow_sub-place c =
    let d = (goal.at.overflow_sub-place c).Joined-size in
    let low = item_low c.args.kind c.args.types.now c.args.heap.now c.args.item c.args.t.0 c.args.len (asks d) in
    let at = c.place-place.ensures in
    omega (arith, low, at)

pub clear_cells-requires : goal.clear_cells-requires
clear_cells-requires c =
    let d = (goal.at.clear_cells-requires c).Joined-size in
    subst₂ (λ (a n : ℕ). InOne c.if-size.heap.memories (a - 8) n) (sym c.place-place.ensures)
    (sym c.item_size-size.ensures)
    (item_cells c.args.kind c.args.types.now c.args.heap.now c.args.item c.args.t.0 c.args.len (asks d) c.if-size.heap
    (carves d))

-- the cells of the object were cleared
cleared : (c : After-clear_cells) → (b : ℕ) → b % 8 ≡ 0
    → word_of c.clear_cells.new.self b ≡ clears (c.args.item.place - 8)
    (size_of (form_at c.args.types.now c.args.t.0) c.args.len) (word_of c.if-size.heap) b
cleared c b z = c.clear_cells.ensures.words b z
    ∙ (λ i. clears (c.place-place.ensures i - 8) (c.item_size-size.ensures i) (word_of c.if-size.heap) b)

pub make_object-requires-clause-head : goal.make_object-requires-clause-head
make_object-requires-clause-head c =
    let d = (goal.at.make_object-requires-clause-head c).Joined-size in
    let e = (goal.at.make_object-requires-clause-head c).After-clear_cells in
    subst (HasHead c.clear_cells.new.self) (sym c.place-place.ensures)
    (item_head c.args.kind c.args.types.now c.args.heap.now c.args.item c.args.t.0 c.args.len (asks d) c.if-size.heap
    (carves d)
    c.clear_cells.new.self c.clear_cells.ensures.shape (cleared e))

-- the birth
borne : (c : After-make_object) → IsBorneAt c.args.kind c.args.types.now c.args.heap.now c.make_object.new.self
    (Item c.args.item) c.args.t.0 c.args.len
borne c =
    let d = (goal.at.returns-clause-born c).Joined-size in
    let e = (goal.at.returns-clause-born c).After-clear_cells in
    item_borne c.args.kind c.args.types.now c.args.heap.now c.args.item c.args.t.0 c.args.len (asks d) c.if-size.heap
    (carves d)
    c.clear_cells.new.self c.clear_cells.ensures.shape (cleared e) c.make_object.new.self
    (c.make_object.ensures.words
    ∙ ap (λ a. placed c.args.types.now c.clear_cells.new.self a c.args.t.0 c.args.len) c.place-place.ensures)

pub returns-clause-born : goal.returns-clause-born
returns-clause-born c =
    subst (λ a. HasNewbornIn c.args.kind c.args.types.now c.args.heap.now c.make_object.new.self a c.args.t.0
    c.args.len)
    (sym c.place-place.ensures) (borne c).born

pub returns-clause-layout : goal.returns-clause-layout
returns-clause-layout c = (borne c).layout

pub returns-clause-items : goal.returns-clause-items
returns-clause-items c = (borne c).items
