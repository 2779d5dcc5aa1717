-- Item after item has its lines, and they are those of the machine's objects.
use Rattle.std.proofs.Common.{◌∙◌, ◌++◌, ◌∷◌, [], ℕ, ap, arith, List}
use Rattle.clr_heap.specs.View.{heap_items}
use Rattle.clr_sos.proofs.HeapListed.{heap-listed}
use Rattle.clr_sos.proofs.ListedItems.{bytes-more, next-bytes, next-in, walked-all, walked-on}
use Rattle.clr_sos.proofs.ViewNames.{shown_view}
use Rattle.clr_shows.proofs.YoungerObjects.{lines-on, slots-on, text-shows}
use Rattle.clr_shows.proofs.younger.ephrefs.Goals as goal

pub put_younger-requires-clause-shown : goal.put_younger-requires-clause-shown
put_younger-requires-clause-shown c = shown_view c.args.view.now c.requires.lawful

pub put_younger-requires-clause-listed : goal.put_younger-requires-clause-listed
put_younger-requires-clause-listed c =
    next-in c.loop-item.yielded c.loop-item.item-iterator c.next.new.self
    (heap_items c.args.view.now.types.now c.args.view.now.heap.now) c.in-Some.item c.in-Some.ensures.steps
    (c.loop-item.invariant.walked ∙ c.into_iter-item-iterator.ensures.into_iter_gives
    ∙ c.items_of-item-items.ensures.items)

pub overflow_add-count : goal.overflow_add-count
overflow_add-count c =
    let v = c.args.view.now in
    let few = next-bytes v.types.now c.loop-item.yielded c.loop-item.item-iterator c.next.new.self
    (heap_items v.types.now v.heap.now) c.in-Some.item c.in-Some.ensures.steps
    (c.loop-item.invariant.walked ∙ c.into_iter-item-iterator.ensures.into_iter_gives
    ∙ c.items_of-item-items.ensures.items)
    (heap-listed v.types.now v.heap.now c.items_of-item-items.ensures.heap c.requires.lawful.held.walkable) in
    let count = c.loop-item.invariant.few in
    let one = c.in_ok-count.ensures.few in
    omega (arith, few, count, one)

pub loop-item-preserved : goal.loop-item-preserved
loop-item-preserved c =
    let v = c.args.view.now in
    let count = c.loop-item.invariant.few in
    let one = c.in_ok-count.ensures.few in
    let sum = bytes-more c.loop-item.yielded c.in-Some.item in
    record {
      walked = walked-on c.loop-item.yielded c.loop-item.item-iterator c.next.new.self
          c.into_iter-item-iterator.result c.in-Some.item c.in-Some.ensures.steps c.loop-item.invariant.walked;
      text = λ m shown. lines-on v m c.loop-item.yielded c.in-Some.item c.loop-item.text.items
          c.put_younger.new.text.items (c.loop-item.invariant.text m shown) (c.in_ok-count.ensures.text m shown);
      count = λ m shown. slots-on v m c.loop-item.yielded c.in-Some.item c.loop-item.count c.in_ok-count.field-0
          (c.loop-item.invariant.count m shown) (c.in_ok-count.ensures.count m shown);
      few = omega (arith, count, one, sum);
    }

pub returns : goal.returns
returns c = λ m shown.
    let v = c.args.view.now in
    let all = walked-all c.loop-item.yielded c.loop-item.item-iterator (heap_items v.types.now v.heap.now)
    c.in-None.ensures.steps.0
    (c.loop-item.invariant.walked ∙ c.into_iter-item-iterator.ensures.into_iter_gives
    ∙ c.items_of-item-items.ensures.items) in
    text-shows v m shown (shown_view v c.requires.lawful) c.loop-item.yielded all c.loop-item.text.items
    c.extend_from_slice.new.self.items c.loop-item.count
    (c.loop-item.invariant.text m shown) (c.loop-item.invariant.count m shown)
    (c.in_ok-extend_from_slice.ensures.items
    ∙ ap (λ (text : List ℕ). text ++ (10 ∷ [])) c.in_ok-put_word_number.ensures)
