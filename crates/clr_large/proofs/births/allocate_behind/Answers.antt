use Rattle.std.proofs.Common.{◌≡◌, ◌+◌, ◌-◌, ap, set, sym, ◌∙◌, subst, arith}
use Rattle.clr_types.specs.Segments.{ended_at}
use Rattle.clr_heap.specs.Memories.{clears}
use Rattle.clr_heap.specs.View.{HasHead, last_of, placed, segment_at, word_of}
use Rattle.clr_large.specs.Births.{HasNewbornIn}
use Rattle.clr_large.specs.declared.places.Birthplace.TheVariants.{Tail}
use Rattle.clr_large.proofs.Homes.{IsBorneAt}
use Rattle.clr_large.proofs.TailBirths.{cleared_head, FitsTail, tail_borne, tail_cells}
use Rattle.clr_large.proofs.births.allocate_behind.Goals as goal
use Rattle.clr_large.proofs.births.allocate_behind.Goals.{After-info-end, After-set_end}

-- what was asked for
asks : (c : After-info-end) → FitsTail c.args.kind c.args.types.now c.args.heap.now c.args.k c.args.t.0 c.args.len
asks c = record {
  old = c.requires.old;
  heap = c.info-end.ensures.heap;
  held = c.requires.held;
  item = c.requires.item;
  object = c.requires.object;
  in_range = c.requires.place.0;
  is_of = c.requires.place.1;
  within = c.requires.place.2;
}

at : (c : After-info-end) → c.info-end.result.end ≡ last_of c.args.heap.now c.args.k
at c = ap (λ s. s.end) c.info-end.ensures.value

pub clear_cells-requires : goal.clear_cells-requires
clear_cells-requires c =
    let d = (goal.at.clear_cells-requires c).After-info-end in
    let size = c.item_size-size.ensures in
    let whole = c.requires.item.whole in
    let least = c.requires.item.least in
    tail_cells c.args.kind c.args.types.now c.args.heap.now c.args.k c.args.t.0 c.args.len
    (asks d) c.info-end.result.end (at d)
    (omega (arith, size, whole, least)) (omega (arith, size, least)) (omega (arith, size))

pub make_object-requires-clause-head : goal.make_object-requires-clause-head
make_object-requires-clause-head c =
    let d = (goal.at.make_object-requires-clause-head c).After-info-end in
    subst (HasHead c.clear_cells.new.self) (sym (at d))
    (cleared_head c.args.kind c.args.types.now c.args.heap.now c.args.k c.args.t.0 c.args.len (asks d)
    c.clear_cells.new.self c.clear_cells.ensures.shape)

-- the birth
borne : (c : After-set_end)
    → IsBorneAt c.args.kind c.args.types.now c.args.heap.now c.set_end.new.self (Tail c.args.k) c.args.t.0 c.args.len
borne c =
    let h = c.args.heap.now in
    let d = (goal.at.returns-clause-born c).After-info-end in
    let size = c.item_size-size.ensures in
    tail_borne c.args.kind c.args.types.now h c.args.k c.args.t.0 c.args.len (asks d)
    c.clear_cells.new.self c.clear_cells.ensures.shape
    (λ b z. c.clear_cells.ensures.words b z ∙ (λ i. clears (at d i - 8) (size i) (word_of h) b))
    c.make_object.new.self c.set_end.new.self
    (c.make_object.ensures.words
    ∙ ap (λ a. placed c.args.types.now c.clear_cells.new.self a c.args.t.0 c.args.len) (at d))
    (c.set_end.ensures ∙ (λ i.
    record c.make_object.new.self {
      segments = set c.make_object.new.self.segments c.args.k
          (ended_at (at d i + size i) (segment_at c.make_object.new.self c.args.k));
    }))

pub returns-clause-born : goal.returns-clause-born
returns-clause-born c =
    let d = (goal.at.returns-clause-born c).After-info-end in
    subst (λ a. HasNewbornIn c.args.kind c.args.types.now c.args.heap.now c.set_end.new.self a c.args.t.0 c.args.len)
    (sym (at d)) (borne c).born

pub returns-clause-layout : goal.returns-clause-layout
returns-clause-layout c = (borne c).layout

pub returns-clause-items : goal.returns-clause-items
returns-clause-items c = (borne c).items
