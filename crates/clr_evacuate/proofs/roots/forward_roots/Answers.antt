use Rattle.std.proofs.Common.{rules, arith, ap, get_or, length, map, sym, ◌∙◌}
use Rattle.std.proofs.lemmas.List.{length-map, with_items_is}
use Rattle.clr_final.proofs.ListLaws.{moved-is_map}
use Rattle.clr_handles.proofs.MapLaws.{relocated-is_map}
use Rattle.clr_mark.proofs.Rooting.{at_in}
use Rattle.clr_evacuate.proofs.NamesGone.{told}
use Rattle.clr_evacuate.proofs.roots.forward_roots.Goals as goal

pub relocate-requires : goal.relocate-requires
relocate-requires c = λ h row found. (
  λ some high. (c.requires.heap, (c.requires.held, c.requires.named.targets h row found)),
  λ some high. (c.requires.heap, (c.requires.held, c.requires.named.seconds h row found)),
)

pub relocate-requires-2-clause-entries : goal.relocate-requires-2-clause-entries
relocate-requires-2-clause-entries c =
    λ i l low. (
      c.requires.heap,
      (c.requires.held, c.requires.named.entries_can _ (at_in c.args.roots.now.finals.entries i 0 l)),
    )

pub relocate-requires-2-clause-ready : goal.relocate-requires-2-clause-ready
relocate-requires-2-clause-ready c =
    λ i l low. (
      c.requires.heap,
      (c.requires.held, c.requires.named.ready_can _ (at_in c.args.roots.now.finals.ready i 0 l)),
    )

pub returns : goal.returns
returns c = λ go leads. record {
  locals_is =
      let was = c.args.roots.now.locals in
      let followed = c.forward_locals.ensures go leads ∙ ap (map go) c.deref_mut.ensures.value in
      with_items_is was c.forward_locals.new.locals
      (ap length followed ∙ length-map was.items go ∙ sym was.ok.0) ∙ followed;
  table_is = relocated-is_map _ 0 go c.args.roots.now.handles c.relocate.new.self c.relocate.ensures
      (λ h row place moved here low answer.
      let say = told c.args.types.now c.args.heap.now place moved go leads in
      search (rules, say))
      (λ place low. absurd (omega (arith, low))) leads.forwards.null;
  entries_is = moved-is_map _ 0 go c.args.roots.now.finals.entries c.relocate-2.new.self.entries
      c.relocate-2.ensures.entries
      (λ i moved l low answer.
      let say = told c.args.types.now c.args.heap.now (get_or c.args.roots.now.finals.entries i 0) moved go leads in
      search (rules, say))
      (λ place low. absurd (omega (arith, low)));
  ready_is = moved-is_map _ 0 go c.args.roots.now.finals.ready c.relocate-2.new.self.ready
      c.relocate-2.ensures.ready
      (λ i moved l low answer.
      let say = told c.args.types.now c.args.heap.now (get_or c.args.roots.now.finals.ready i 0) moved go leads in
      search (rules, say))
      (λ place low. absurd (omega (arith, low)));
  spare = c.relocate-2.ensures.spare;
}
