-- Each item that is shown has its line, and is counted.
use Rattle.std.proofs.Common.{◌∙◌, List, arith, refl, rules, subst, sym, true, false}
use Rattle.std.proofs.lemmas.List.{append-nil}
use Rattle.clr_types.specs.Rising.{IsIn}
use Rattle.clr_types.specs.declared.item.Item.{Item}
use Rattle.clr_model.specs.Sos.{item_line}
use Rattle.clr_sos.specs.Wants.{is_wanted}
use Rattle.clr_sos.proofs.ListedItems.{next-count, next-in, next-known, told_test, walked-all, walked-on}
use Rattle.clr_sos.proofs.ListedItems.{within-counted, within-more}
use Rattle.clr_sos.proofs.ShownLines.{full-text, says-more, says-skip, totals-more, totals-skip}
use Rattle.clr_sos.proofs.listing_lines.put_lines.Goals as goal

pub loop-item-init : goal.loop-item-init
loop-item-init g c = record {
  walked = refl;
  within = search rules;
  text = λ test answers. sym (append-nil c.args.text.now.items);
  totals = λ test answers. refl;
  ends = c.no_ends-ends.ensures c.args.types.now;
}

pub shows-requires : goal.shows-requires
shows-requires g c =
    c.requires.ask c.in-Some.item (next-in c.loop-item.yielded c.loop-item.item-iterator c.next.new.self c.args.items
    c.in-Some.item c.in-Some.ensures.steps
    (c.loop-item.invariant.walked ∙ c.into_iter-item-iterator.ensures.into_iter_gives))

pub loop-item-preserved-then-not-shows : goal.loop-item-preserved-then-not-shows
loop-item-preserved-then-not-shows g c =
    let at = next-in c.loop-item.yielded c.loop-item.item-iterator c.next.new.self c.into_iter-item-iterator.result
    c.in-Some.item c.in-Some.ensures.steps c.loop-item.invariant.walked in
    record {
      walked = walked-on c.loop-item.yielded c.loop-item.item-iterator c.next.new.self
          c.into_iter-item-iterator.result c.in-Some.item c.in-Some.ensures.steps c.loop-item.invariant.walked;
      within = within-more c.loop-item.totals c.loop-item.yielded c.in-Some.item c.loop-item.invariant.within;
      text = λ test answers. says-skip (item_line c.args.types.now) (is_wanted c.args.wanted.now test)
          c.args.text.now.items c.loop-item.text.items c.loop-item.yielded c.in-Some.item
          (told_test c.shows.result (is_wanted c.args.wanted.now test c.in-Some.item) false
          (c.shows.ensures test (answers c.in-Some.item at)) c.if-not-shows.true)
          (c.loop-item.invariant.text test answers);
      totals = λ test answers. totals-skip (is_wanted c.args.wanted.now test) c.loop-item.totals c.loop-item.yielded
          c.in-Some.item
          (told_test c.shows.result (is_wanted c.args.wanted.now test c.in-Some.item) false
          (c.shows.ensures test (answers c.in-Some.item at)) c.if-not-shows.true)
          (c.loop-item.invariant.totals test answers);
      ends = c.loop-item.invariant.ends;
    }

pub put_line-requires-clause-known : goal.put_line-requires-clause-known
put_line-requires-clause-known g c =
    next-known c.args.types.now c.loop-item.yielded c.loop-item.item-iterator c.next.new.self c.args.items
    c.in-Some.item c.in-Some.ensures.steps
    (c.loop-item.invariant.walked ∙ c.into_iter-item-iterator.ensures.into_iter_gives) c.requires.listed

pub count-requires-clause-objects : goal.count-requires-clause-objects
count-requires-clause-objects g c =
    let few = next-count c.args.types.now c.loop-item.yielded c.loop-item.item-iterator c.next.new.self c.args.items
    c.in-Some.item c.in-Some.ensures.steps
    (c.loop-item.invariant.walked ∙ c.into_iter-item-iterator.ensures.into_iter_gives) c.requires.listed in
    let objects = c.loop-item.invariant.within.objects in
    omega arith

pub loop-item-preserved : goal.loop-item-preserved
loop-item-preserved g c =
    let at = next-in c.loop-item.yielded c.loop-item.item-iterator c.next.new.self c.into_iter-item-iterator.result
    c.in-Some.item c.in-Some.ensures.steps c.loop-item.invariant.walked in
    record {
      walked = walked-on c.loop-item.yielded c.loop-item.item-iterator c.next.new.self
          c.into_iter-item-iterator.result c.in-Some.item c.in-Some.ensures.steps c.loop-item.invariant.walked;
      within = within-counted c.loop-item.totals c.count.new.self c.loop-item.yielded c.in-Some.item c.count.ensures
          c.loop-item.invariant.within;
      text = λ test answers. says-more (item_line c.args.types.now) (is_wanted c.args.wanted.now test)
          c.args.text.now.items c.loop-item.text.items c.loop-item.yielded c.in-Some.item c.put_line.new.text.items
          (told_test c.shows.result (is_wanted c.args.wanted.now test c.in-Some.item) true
          (c.shows.ensures test (answers c.in-Some.item at)) c.if-not-shows.false)
          (c.loop-item.invariant.text test answers) c.in_ok-put_line.ensures.text;
      totals = λ test answers. totals-more (is_wanted c.args.wanted.now test) c.loop-item.totals c.loop-item.yielded
          c.in-Some.item c.count.new.self
          (told_test c.shows.result (is_wanted c.args.wanted.now test c.in-Some.item) true
          (c.shows.ensures test (answers c.in-Some.item at)) c.if-not-shows.false)
          (c.loop-item.invariant.totals test answers) c.count.ensures;
      ends = c.put_line.ensures.ends;
    }

pub returns : goal.returns
returns g c = λ test answers.
    let inner = λ (i : Item) (is : IsIn i c.into_iter-item-iterator.result).
    answers i (subst (λ (items : List Item). IsIn i items) c.into_iter-item-iterator.ensures.into_iter_gives is) in
    let all = walked-all c.loop-item.yielded c.loop-item.item-iterator c.args.items c.in-None.ensures.steps.0
    (c.loop-item.invariant.walked ∙ c.into_iter-item-iterator.ensures.into_iter_gives) in
    full-text c.args.types.now (is_wanted c.args.wanted.now test) c.loop-item.yielded c.args.items c.args.text.now.items
    c.loop-item.text.items c.put_totals.new.text.items c.loop-item.totals all (c.loop-item.invariant.text test inner)
    (c.loop-item.invariant.totals test inner)
    c.in_ok-put_totals.ensures
