use Rattle.std.proofs.Common.{◌≡◌, ℕ, ◌<◌, List, Vec, length, map, ap, sym, ◌∙◌, subst, arith, rules}
use Rattle.std.specs.Vec.{with_items}
use Rattle.std.proofs.lemmas.List.{length-map, with_items_is}
use Rattle.clr_heap.proofs.Rewrite.{shaped_heap}
use Rattle.clr_model.specs.Compaction.{moved_by}
use Rattle.clr_final.proofs.ListLaws.{moved-is_map}
use Rattle.clr_survivors.specs.Roots.{AllGo, Guides, Plan}
use Rattle.clr_survivors.proofs.NamesGone.{in-at, told}
use Rattle.clr_survivors.proofs.PartsAbove.{below-stays}
use Rattle.clr_survivors.proofs.roots.move_roots.Goals.{After-relocate_from}
use Rattle.clr_survivors.proofs.roots.move_roots.Goals as goal

pub relocate_from-requires-clause-entries : goal.relocate_from-requires-clause-entries
relocate_from-requires-clause-entries c =
    let (p, guides, go) = c.requires.go in
    λ i l low. (
      c.requires.least,
      (
        p,
        guides,
        go.entries_go _ (in-at c.args.roots.now.finals.entries i l),
      ),
    )

pub relocate_from-requires-clause-ready : goal.relocate_from-requires-clause-ready
relocate_from-requires-clause-ready c =
    let (p, guides, go) = c.requires.go in
    λ i l low. (
      c.requires.least,
      (
        p,
        guides,
        go.ready_go _ (in-at c.args.roots.now.finals.ready i l),
      ),
    )

-- the vector whose elements have gone
locals-gone : {Z : Type 0} (to : ℕ → ℕ) (v : Vec ℕ Z) (lent gone : List ℕ) → lent ≡ v.items → gone ≡ map to lent
    → (with_items v gone).items ≡ map to v.items
locals-gone to v lent gone same is =
    let all = is ∙ ap (map to) same in
    with_items_is v gone (ap length all ∙ length-map v.items to ∙ sym v.ok.0) ∙ all

-- what lies below all parts stays
stays : (c : After-relocate_from) (p : Plan) → Guides p c.args.heap.now c.args.bricks.now c.args.g → (place : ℕ)
    → place < c.first_in_parts-first.result → moved_by p.moves place ≡ place
stays c p guides place under =
    sym (below-stays p.rows c.args.heap.now c.args.bricks.now c.args.g p.moves
    (shaped_heap p.view c.args.heap.now guides.overlaid.shape guides.overlaid.heap) guides.told place
    (subst (λ low. place < low) c.first_in_parts-first.ensures under))

pub returns : goal.returns
returns c = record {
  gone = λ p guides go. record {
    locals_is = locals-gone (moved_by p.moves) c.args.roots.now.locals c.deref_mut.result.now c.move_locals.new.locals
        c.deref_mut.ensures.value
        (c.move_locals.ensures.gone p guides
        (subst (AllGo p c.args.g) (sym c.deref_mut.ensures.value) go.locals_go));
    table_is = c.move_handles.ensures.gone p guides go.handles_go go.null;
    entries_is = moved-is_map _ c.first_in_parts-first.result (moved_by p.moves) c.args.roots.now.finals.entries
        c.relocate_from.new.self.entries c.relocate_from.ensures.entries
        (λ i moved l low answer.
        let say =
        told p c.args.heap.now c.args.bricks.now c.args.g _ moved guides
        (go.entries_go _ (in-at c.args.roots.now.finals.entries i l)) in
        search (rules, say))
        (stays (goal.at.returns c).After-relocate_from p guides);
    ready_is = moved-is_map _ c.first_in_parts-first.result (moved_by p.moves) c.args.roots.now.finals.ready
        c.relocate_from.new.self.ready c.relocate_from.ensures.ready
        (λ i moved l low answer.
        let say =
        told p c.args.heap.now c.args.bricks.now c.args.g _ moved guides
        (go.ready_go _ (in-at c.args.roots.now.finals.ready i l)) in
        search (rules, say))
        (stays (goal.at.returns c).After-relocate_from p guides);
    spare = c.relocate_from.ensures.spare;
  };
}
