use Rattle.std.proofs.Common.{ℕ, List, [], ◌∷◌, ◌++◌, append_assoc, ap, arith, refl, sym, ◌∙◌, subst}
use Rattle.clr_types.specs.Rising.{first, IsIn}
use Rattle.clr_types.proofs.ListMembers.{append_right}
use Rattle.clr_view.specs.SlotValues.{StandsAt}
use Rattle.clr_view.proofs.Listed.{listed-known, listed-small}
use Rattle.clr_mark.proofs.FoundObjects.{named_more}
use Rattle.clr_mark.proofs.References.{reference_has, reference_low}
use Rattle.clr_heap_tests.proofs.marks.assert_references.Goals as goal

pub slots-offset-items-requires : goal.slots-offset-items-requires
slots-offset-items-requires g c = record {
  known = listed-known c.args.types.now c.args.heap.now c.args.item.now c.lawful.ensures c.requires.held
      c.requires.listed;
  size = listed-small c.args.types.now c.args.heap.now c.args.item.now c.lawful.ensures c.requires.held
      c.requires.listed;
}

pub loop-offset-init : goal.loop-offset-init
loop-offset-init g c = record { walked = refl; named = λ offset l. elim l [ ] }

pub overflow_add-item : goal.overflow_add-item
overflow_add-item g c =
    let walked = ap (λ (rest : List ℕ). c.loop-offset.yielded ++ rest) (sym c.in-Some.ensures.steps)
    ∙ c.loop-offset.invariant.walked ∙ c.into_iter-offset-iterator.ensures.into_iter_gives
    ∙ c.slots-offset-items.ensures in
    let listed = subst (λ (os : List ℕ). IsIn c.in-Some.offset os) walked (append_right c.loop-offset.yielded first) in
    let low = reference_low c.args.types.now c.args.heap.now c.lawful.ensures c.requires.held
    c.args.item.now.place c.args.item.now c.requires.listed refl c.in-Some.offset listed in
    omega (arith, low)

pub word-target-requires : goal.word-target-requires
word-target-requires g c =
    let walked = ap (λ (rest : List ℕ). c.loop-offset.yielded ++ rest) (sym c.in-Some.ensures.steps)
    ∙ c.loop-offset.invariant.walked ∙ c.into_iter-offset-iterator.ensures.into_iter_gives
    ∙ c.slots-offset-items.ensures in
    let listed = subst (λ (os : List ℕ). IsIn c.in-Some.offset os) walked (append_right c.loop-offset.yielded first) in
    reference_has c.args.types.now c.args.heap.now c.lawful.ensures c.requires.held c.args.item.now.place
    c.args.item.now c.requires.listed refl c.in-Some.offset listed

pub loop-offset-preserved-then-target-ne0 : goal.loop-offset-preserved-then-target-ne0
loop-offset-preserved-then-target-ne0 g c =
    let steps = ap (λ (rest : List ℕ). c.loop-offset.yielded ++ rest) (sym c.in-Some.ensures.steps)
    ∙ c.loop-offset.invariant.walked in
    record {
      walked = append_assoc c.loop-offset.yielded (c.in-Some.offset ∷ []) c.next.new.self ∙ steps;
      named = named_more c.args.types.now c.args.heap.now c.args.item.now c.loop-offset.yielded c.in-Some.offset
          c.loop-offset.invariant.named (λ ne. subst (StandsAt c.args.types.now c.args.heap.now)
          c.word-target.ensures.value c.object.ensures.stands);
    }

pub loop-offset-preserved : goal.loop-offset-preserved
loop-offset-preserved g c =
    let steps = ap (λ (rest : List ℕ). c.loop-offset.yielded ++ rest) (sym c.in-Some.ensures.steps)
    ∙ c.loop-offset.invariant.walked in
    record {
      walked = append_assoc c.loop-offset.yielded (c.in-Some.offset ∷ []) c.next.new.self ∙ steps;
      named = named_more c.args.types.now c.args.heap.now c.args.item.now c.loop-offset.yielded c.in-Some.offset
          c.loop-offset.invariant.named (λ ne. absurd (ne (sym c.word-target.ensures.value ∙ c.if-target-ne0.false)));
    }
