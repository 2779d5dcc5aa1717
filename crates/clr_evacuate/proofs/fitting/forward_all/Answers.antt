use Rattle.std.proofs.Common.{List, ap, ◌∙◌, sym, subst}
use Rattle.clr_cards.specs.Cards.{is_card_set}
use Rattle.clr_generations.specs.Laws.{CardLaw}
use Rattle.clr_generations.specs.Tables.{AreCardsOf}
use Rattle.clr_types.specs.Segments.{Layout}
use Rattle.clr_types.specs.declared.item.Item.{Item}
use Rattle.clr_heap.specs.View.{frame, heap_items, HeapView}
use Rattle.clr_heap.proofs.Framing.{SameShape-trans}
use Rattle.clr_heap.proofs.Rewrite.{shaped_heap}
use Rattle.clr_view.specs.View.{objects_in}
use Rattle.clr_evacuate.specs.Forwarding.{HasOlderBorder, IsUnmovedOutside}
use Rattle.clr_evacuate.proofs.BricksAfter.{bricks_kept}
use Rattle.clr_evacuate.proofs.ForwardedAll.{leads_on, marks_on, names_on}
use Rattle.clr_evacuate.proofs.fitting.forward_all.Goals as goal

pub forward_roots-requires-clause-heap : goal.forward_roots-requires-clause-heap
forward_roots-requires-clause-heap c =
    shaped_heap c.args.space.now.heap c.forward_slots.new.heap c.forward_slots.ensures.stayed.shape c.requires.heap

pub forward_roots-requires-clause-named : goal.forward_roots-requires-clause-named
forward_roots-requires-clause-named c =
    names_on c.args.types.now c.args.space.now.heap c.forward_slots.new.heap c.forward_slots.ensures.stayed
    c.args.roots.now.locals.items c.args.roots.now.handles c.args.roots.now.finals c.requires.names

pub clear_forwards-requires-clause-no_contexts : goal.clear_forwards-requires-clause-no_contexts
clear_forwards-requires-clause-no_contexts c =
    ap (λ (h : HeapView). h.rests) c.forward_slots.ensures.stayed.shape.others ∙ c.requires.no_contexts

pub clear_forwards-requires-clause-border : goal.clear_forwards-requires-clause-border
clear_forwards-requires-clause-border c =
    let stayed = c.forward_slots.ensures.stayed in
    subst (λ (l : Layout). HasOlderBorder l (heap_items c.args.types.now c.forward_slots.new.heap))
    (sym (ap frame stayed.shape.others))
    (subst (λ (is : List Item). HasOlderBorder (frame c.args.space.now.heap) is) (sym stayed.items) c.requires.border)

pub returns-clause-objects : goal.returns-clause-objects
returns-clause-objects c = λ go leads. c.clear_forwards.ensures.objects ∙ c.forward_slots.ensures.objects go leads

pub returns-clause-followed : goal.returns-clause-followed
returns-clause-followed c = λ go leads.
    c.forward_roots.ensures go
    (leads_on c.args.types.now c.args.space.now.heap c.forward_slots.new.heap go leads
    (c.forward_slots.ensures.forwards go leads.forwards))

pub returns-clause-layout : goal.returns-clause-layout
returns-clause-layout c = c.clear_forwards.ensures.layout ∙ c.forward_slots.ensures.stayed.layout

pub returns-clause-marks : goal.returns-clause-marks
returns-clause-marks c =
    marks_on c.args.types.now c.args.space.now.heap c.forward_slots.new.heap c.forward_slots.ensures.stayed
    c.clear_forwards.new.heap c.requires.heap c.requires.held c.clear_forwards.ensures.cells

pub returns-clause-free_heads : goal.returns-clause-free_heads
returns-clause-free_heads c = λ go forwards still.
    c.clear_forwards.ensures.free_heads go (c.forward_slots.ensures.forwards go forwards)
    (subst (λ (l : Layout). IsUnmovedOutside go l.start1 l.start0)
    (sym (ap frame c.forward_slots.ensures.stayed.shape.others)) still)

pub returns-clause-clean : goal.returns-clause-clean
returns-clause-clean c = λ clean. c.clear_forwards.ensures.clean (c.forward_slots.ensures.stayed.clean clean)

pub returns-clause-shape : goal.returns-clause-shape
returns-clause-shape c =
    SameShape-trans c.args.space.now.heap c.forward_slots.new.heap c.clear_forwards.new.heap
    c.forward_slots.ensures.stayed.shape c.clear_forwards.ensures.shape

pub returns-clause-cards : goal.returns-clause-cards
returns-clause-cards c =
    subst (λ l. AreCardsOf l c.forward_slots.new.cards) (sym (ap frame c.clear_forwards.ensures.shape.others))
    c.forward_slots.ensures.cards

pub returns-clause-card_law : goal.returns-clause-card_law
returns-clause-card_law c =
    let rows = c.args.types.now in
    let mid = c.forward_slots.new.heap in
    let set = is_card_set c.forward_slots.new.cards in
    subst (λ l. CardLaw rows l (objects_in rows c.clear_forwards.new.heap) set)
    (sym (ap frame c.clear_forwards.ensures.shape.others))
    (subst (λ os. CardLaw rows (frame mid) os set) (sym c.clear_forwards.ensures.objects)
    c.forward_slots.ensures.card_law)

pub returns-clause-brick_law : goal.returns-clause-brick_law
returns-clause-brick_law c = λ entry law.
    bricks_kept c.args.types.now c.forward_slots.new.heap c.clear_forwards.new.heap c.clear_forwards.ensures.shape
    c.clear_forwards.ensures.items entry (c.forward_slots.ensures.brick_law entry law)
