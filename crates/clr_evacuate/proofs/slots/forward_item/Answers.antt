use Rattle.std.proofs.Common.{◌≡◌, ℕ, ◌+◌, true, ap, sym, ◌∙◌, subst, not, eq-eqb}
use Rattle.std.proofs.lemmas.Bool.{ne_eqb}
use Rattle.clr_types.specs.Rising.{IsIn}
use Rattle.clr_types.specs.declared.item.Item.{Item}
use Rattle.clr_heap.specs.Parts.{item_at}
use Rattle.clr_heap.specs.View.{heap_items, word_of}
use Rattle.clr_heap.proofs.Spelling.{place-item_at}
use Rattle.clr_mark.specs.Markings.{item_references}
use Rattle.clr_view.specs.View.{is_free}
use Rattle.clr_evacuate.specs.Forwarding.{AreForwardable, IsBetween, IsForwarded, IsOffsetOf}
use Rattle.clr_evacuate.proofs.Loops.{free_done, item_named, object_done}
use Rattle.clr_evacuate.proofs.slots.forward_item.Goals as goal

pub forward_object-requires : goal.forward_object-requires
forward_object-requires c =
    let rows = c.args.types.now in
    let h = c.args.heap.now in
    let i = item_at rows (word_of h) c.args.place in
    let place : i.place ≡ c.args.place = place-item_at rows (word_of h) c.args.place in
    let can = subst (λ (q : ℕ). AreForwardable rows h (λ a. IsBetween q (q + i.size) a)) (sym place) c.requires.named in
    record {
      heap = c.requires.heap;
      held = c.requires.held;
      listed = subst (λ (x : Item). IsIn x (heap_items rows h)) (sym c.item_of_word-found.ensures) c.requires.listed;
      object = ap not (ne_eqb c.item_of_word-found.result.type_id.0 0 c.if-found-ne0.true);
      named = subst (λ (x : Item). AreForwardable rows h (λ a. IsOffsetOf x.place (item_references rows x) a))
          (sym c.item_of_word-found.ensures)
          (item_named rows h i c.requires.heap c.requires.held c.requires.listed can);
      cards = c.requires.cards;
    }

pub returns-then-found-ne0-clause-forwarded : goal.returns-then-found-ne0-clause-forwarded
returns-then-found-ne0-clause-forwarded c =
    let rows = c.args.types.now in
    let h = c.args.heap.now in
    let new = c.forward_object.new.heap in
    let cards = c.args.cards.now in
    let after = c.forward_object.new.cards in
    let i = item_at rows (word_of h) c.args.place in
    let place : i.place ≡ c.args.place = place-item_at rows (word_of h) c.args.place in
    let done = subst (λ (x : Item). IsForwarded rows h new cards after
    (λ a. IsOffsetOf x.place (item_references rows x) a)) c.item_of_word-found.ensures c.forward_object.ensures in
    subst (λ (q : ℕ). IsForwarded rows h new cards after (λ a. IsBetween q (q + i.size) a)) place
    (object_done rows h i c.requires.heap c.requires.held c.requires.listed new cards after done)

pub returns-else-found-ne0-clause-forwarded : goal.returns-else-found-ne0-clause-forwarded
returns-else-found-ne0-clause-forwarded c =
    let rows = c.args.types.now in
    let h = c.args.heap.now in
    let cards = c.args.cards.now in
    let i = item_at rows (word_of h) c.args.place in
    let place : i.place ≡ c.args.place = place-item_at rows (word_of h) c.args.place in
    let free : is_free i ≡ true =
    eq-eqb i.type_id.0 0 (ap (λ (x : Item). x.type_id.0) (sym c.item_of_word-found.ensures) ∙ c.if-found-ne0.false) in
    subst (λ (q : ℕ). IsForwarded rows h h cards cards (λ a. IsBetween q (q + i.size) a)) place
    (free_done rows h i c.requires.heap c.requires.held c.requires.listed cards free)
