-- Slots and dependent handles are all that leads from one object to another.
use Rattle.std.proofs.Common.{ℕ, ◌∙◌, ap, arith, inl, inr, replicate}
use Rattle.clr_paths.proofs.EdgeLists.{edges-none}
use Rattle.clr_paths.proofs.incoming.Incoming.of.Goals as goal

pub add_slots-requires-clause-edges : goal.add_slots-requires-clause-edges
add_slots-requires-clause-edges c =
    let places = c.args.numbers.now.places in
    let count = c.len.ensures in
    let whole = places.ok.0 in
    edges-none c.args.view.now places.items _ c.new.ensures.items
    (c.in_ok-lasts.ensures.items_if_clones_equal (λ y same. same)
    ∙ ap (λ (n : ℕ). replicate n 0) (omega (arith, count, whole)))

pub add_ties-requires-clause-edges : goal.add_ties-requires-clause-edges
add_ties-requires-clause-edges c = c.in_ok-add_slots.ensures.edges

pub returns : goal.returns
returns c = record {
  edges = c.in_ok-add_ties.ensures.edges;
  all = λ from to below inside leads. elim leads [
    | inl slot ↦
        c.in_ok-add_ties.ensures.kept from to inside
        (c.in_ok-add_slots.ensures.listed from to inside (below, slot))
    | inr tie ↦ c.in_ok-add_ties.ensures.listed from to inside (below, tie)
  ];
}
