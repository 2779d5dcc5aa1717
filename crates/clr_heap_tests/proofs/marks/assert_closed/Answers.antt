use Rattle.std.proofs.Common.{List, [], ◌∷◌, ◌++◌, append_assoc, ap, arith, refl, sym, ◌∙◌, subst}
use Rattle.clr_types.specs.Rising.{first, IsIn}
use Rattle.clr_types.specs.declared.item.Item.{Item}
use Rattle.clr_types.proofs.ListMembers.{append_right}
use Rattle.clr_mark.proofs.FoundObjects.{all_named_more, closed_from}
use Rattle.clr_view.proofs.Standing.{listed_from}
use Rattle.clr_heap_tests.proofs.marks.assert_closed.Goals as goal

pub loop-k-init : goal.loop-k-init
loop-k-init g c = λ j l. absurd (omega arith)

pub loop-item-init : goal.loop-item-init
loop-item-init g c = record { walked = refl; named = λ i l. elim l [ ] }

pub assert_references-requires-clause-listed : goal.assert_references-requires-clause-listed
assert_references-requires-clause-listed g c =
    let walked = ap (λ (rest : List Item). c.loop-item.yielded ++ rest) (sym c.in-Some.ensures.steps)
    ∙ c.loop-item.invariant.walked ∙ c.into_iter-item-iterator.ensures.into_iter_gives
    ∙ c.walk-item-items.ensures.items in
    let here = subst (λ (is : List Item). IsIn c.in-Some.item is) walked (append_right c.loop-item.yielded first) in
    listed_from c.args.types.now c.args.heap.now c.loop-k.k c.in-Some.item
    (omega (arith, c.loop-k-test.true, c.segments-k-end.ensures.count)) here

pub loop-item-preserved : goal.loop-item-preserved
loop-item-preserved g c =
    let steps = ap (λ (rest : List Item). c.loop-item.yielded ++ rest) (sym c.in-Some.ensures.steps)
    ∙ c.loop-item.invariant.walked in
    record {
      walked = append_assoc c.loop-item.yielded (c.in-Some.item ∷ []) c.next.new.self ∙ steps;
      named = all_named_more c.args.types.now c.args.heap.now c.loop-item.yielded c.in-Some.item
          c.loop-item.invariant.named c.assert_references.ensures;
    }

pub returns : goal.returns
returns g c = closed_from c.args.types.now c.args.heap.now c.loop-k.k c.segments-k-end.ensures.heap c.requires
    (omega (arith, c.loop-k-test.false, c.segments-k-end.ensures.count)) c.loop-k.invariant
