-- Each object adds its address.
use Rattle.std.proofs.Common.{◌∙◌, ap, refl}
use Rattle.clr_sos.proofs.ListedItems.{walked-all, walked-on}
use Rattle.clr_paths.proofs.HeapNumbers.{addresses, addresses-free, addresses-object}
use Rattle.clr_paths.proofs.numbers.places_of.Goals as goal

pub items_of-item-items-requires : goal.items_of-item-items-requires
items_of-item-items-requires c = c.requires.closed.held.walkable

pub loop-item-preserved-then-item-eq0 : goal.loop-item-preserved-then-item-eq0
loop-item-preserved-then-item-eq0 c = record {
  walked = walked-on c.loop-item.yielded c.loop-item.item-iterator c.next.new.self c.into_iter-item-iterator.result
      c.in-Some.item c.in-Some.ensures.steps c.loop-item.invariant.walked;
  places = rw c.loop-item.invariant.places
      (rw (addresses-free c.loop-item.yielded c.in-Some.item c.if-item-eq0.true) refl);
}

pub loop-item-preserved : goal.loop-item-preserved
loop-item-preserved c = record {
  walked = walked-on c.loop-item.yielded c.loop-item.item-iterator c.next.new.self c.into_iter-item-iterator.result
      c.in-Some.item c.in-Some.ensures.steps c.loop-item.invariant.walked;
  places = rw (
    c.in_ok-push.ensures.items,
    c.loop-item.invariant.places,
    addresses-object c.loop-item.yielded c.in-Some.item c.if-item-eq0.false,
  ) refl;
}

pub returns : goal.returns
returns c =
    c.loop-item.invariant.places
    ∙ ap addresses (walked-all c.loop-item.yielded c.loop-item.item-iterator _ c.in-None.ensures.steps.0
    (c.loop-item.invariant.walked ∙ c.into_iter-item-iterator.ensures.into_iter_gives
    ∙ c.items_of-item-items.ensures.items))
