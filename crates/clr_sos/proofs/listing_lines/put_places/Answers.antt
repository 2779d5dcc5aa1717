-- Each item that is shown has its line.
use Rattle.std.proofs.Common.{◌∙◌, List, subst, true, false}
use Rattle.clr_types.specs.Rising.{IsIn}
use Rattle.clr_types.specs.declared.item.Item.{Item}
use Rattle.clr_sos.specs.Wants.{is_wanted}
use Rattle.clr_sos.proofs.ListedItems.{next-in, told_test, walked-all, walked-on}
use Rattle.clr_sos.proofs.ShownLines.{found-more, found-skip, none-text, place_line, says-more, says-skip}
use Rattle.clr_sos.proofs.ShownLines.{place_parts, short-text}
use Rattle.clr_sos.proofs.listing_lines.put_places.Goals as goal

pub shows-requires : goal.shows-requires
shows-requires g c =
    c.requires.ask c.in-Some.item (next-in c.loop-item.yielded c.loop-item.item-iterator c.next.new.self c.args.items
    c.in-Some.item c.in-Some.ensures.steps
    (c.loop-item.invariant.walked ∙ c.into_iter-item-iterator.ensures.into_iter_gives))

pub loop-item-preserved-then-not-shows : goal.loop-item-preserved-then-not-shows
loop-item-preserved-then-not-shows g c =
    let at = next-in c.loop-item.yielded c.loop-item.item-iterator c.next.new.self c.into_iter-item-iterator.result
    c.in-Some.item c.in-Some.ensures.steps c.loop-item.invariant.walked in
    record {
      walked = walked-on c.loop-item.yielded c.loop-item.item-iterator c.next.new.self
          c.into_iter-item-iterator.result c.in-Some.item c.in-Some.ensures.steps c.loop-item.invariant.walked;
      text = λ test answers. says-skip place_line (is_wanted c.args.wanted.now test) c.args.text.now.items
          c.loop-item.text.items c.loop-item.yielded c.in-Some.item
          (told_test c.shows.result (is_wanted c.args.wanted.now test c.in-Some.item) false
          (c.shows.ensures test (answers c.in-Some.item at)) c.if-not-shows.true)
          (c.loop-item.invariant.text test answers);
      found = λ test answers. found-skip (is_wanted c.args.wanted.now test) c.loop-item.found c.loop-item.yielded
          c.in-Some.item
          (told_test c.shows.result (is_wanted c.args.wanted.now test c.in-Some.item) false
          (c.shows.ensures test (answers c.in-Some.item at)) c.if-not-shows.true)
          (c.loop-item.invariant.found test answers);
    }

pub loop-item-preserved : goal.loop-item-preserved
loop-item-preserved g c =
    let at = next-in c.loop-item.yielded c.loop-item.item-iterator c.next.new.self c.into_iter-item-iterator.result
    c.in-Some.item c.in-Some.ensures.steps c.loop-item.invariant.walked in
    record {
      walked = walked-on c.loop-item.yielded c.loop-item.item-iterator c.next.new.self
          c.into_iter-item-iterator.result c.in-Some.item c.in-Some.ensures.steps c.loop-item.invariant.walked;
      text = λ test answers. says-more place_line (is_wanted c.args.wanted.now test) c.args.text.now.items
          c.loop-item.text.items c.loop-item.yielded c.in-Some.item c.extend_from_slice.new.self.items
          (told_test c.shows.result (is_wanted c.args.wanted.now test c.in-Some.item) true
          (c.shows.ensures test (answers c.in-Some.item at)) c.if-not-shows.false)
          (c.loop-item.invariant.text test answers)
          (rw (c.in_ok-extend_from_slice.ensures.items, c.in_ok-put_address.ensures) (place_parts _ _));
      found = λ test answers. found-more (is_wanted c.args.wanted.now test) c.loop-item.yielded c.in-Some.item
          (told_test c.shows.result (is_wanted c.args.wanted.now test c.in-Some.item) true
          (c.shows.ensures test (answers c.in-Some.item at)) c.if-not-shows.false);
    }

pub returns-then-found : goal.returns-then-found
returns-then-found g c = λ test answers.
    let inner = λ (i : Item) (is : IsIn i c.into_iter-item-iterator.result).
    answers i (subst (λ (items : List Item). IsIn i items) c.into_iter-item-iterator.ensures.into_iter_gives is) in
    let all = walked-all c.loop-item.yielded c.loop-item.item-iterator c.args.items c.in-None.ensures.steps.0
    (c.loop-item.invariant.walked ∙ c.into_iter-item-iterator.ensures.into_iter_gives) in
    short-text (is_wanted c.args.wanted.now test) c.loop-item.yielded c.args.items c.args.text.now.items
    c.loop-item.text.items c.loop-item.found all (c.loop-item.invariant.text test inner)
    (c.loop-item.invariant.found test inner) c.if-found.true

pub returns : goal.returns
returns g c = λ test answers.
    let inner = λ (i : Item) (is : IsIn i c.into_iter-item-iterator.result).
    answers i (subst (λ (items : List Item). IsIn i items) c.into_iter-item-iterator.ensures.into_iter_gives is) in
    let all = walked-all c.loop-item.yielded c.loop-item.item-iterator c.args.items c.in-None.ensures.steps.0
    (c.loop-item.invariant.walked ∙ c.into_iter-item-iterator.ensures.into_iter_gives) in
    none-text (is_wanted c.args.wanted.now test) c.loop-item.yielded c.args.items c.args.text.now.items
    c.loop-item.text.items c.loop-item.found all (c.loop-item.invariant.text test inner)
    (c.loop-item.invariant.found test inner) c.extend_from_slice-2.new.self.items c.if-found.false
    c.in_ok-extend_from_slice-2.ensures.items
