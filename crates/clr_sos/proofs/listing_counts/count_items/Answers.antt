-- Each item that is shown is counted, in all and with its type.
use Rattle.std.proofs.Common.{◌∙◌, ◌<◌, List, length, arith, subst, true, false}
use Rattle.clr_types.specs.Rising.{IsIn}
use Rattle.clr_types.specs.declared.item.Item.{Item}
use Rattle.clr_sos.specs.Wants.{is_wanted}
use Rattle.clr_sos.proofs.ListedItems.{next-count, next-in, next-known, told_test, walked-all, walked-on}
use Rattle.clr_sos.proofs.ListedItems.{within-counted, within-more}
use Rattle.clr_sos.proofs.ShownLines.{totals-all, totals-more, totals-skip}
use Rattle.clr_sos.proofs.Tallies.{tallies-all}
use Rattle.clr_sos.proofs.Tallies.{length-counted, tallies-more, tallies-skip, tallies-within_counted}
use Rattle.clr_sos.proofs.Tallies.{tallies-within_more}
use Rattle.clr_sos.proofs.listing_counts.count_items.Goals as goal

pub shows-requires : goal.shows-requires
shows-requires g c =
    c.requires.ask c.in-Some.item (next-in c.loop-item.yielded c.loop-item.item-iterator c.next.new.self c.args.items
    c.in-Some.item c.in-Some.ensures.steps
    (c.loop-item.invariant.walked ∙ c.into_iter-item-iterator.ensures.into_iter_gives))

pub loop-item-preserved-then-not-shows : goal.loop-item-preserved-then-not-shows
loop-item-preserved-then-not-shows g c =
    let at = next-in c.loop-item.yielded c.loop-item.item-iterator c.next.new.self c.into_iter-item-iterator.result
    c.in-Some.item c.in-Some.ensures.steps c.loop-item.invariant.walked in
    record {
      walked = walked-on c.loop-item.yielded c.loop-item.item-iterator c.next.new.self
          c.into_iter-item-iterator.result c.in-Some.item c.in-Some.ensures.steps c.loop-item.invariant.walked;
      types = c.loop-item.invariant.types;
      within = within-more c.loop-item.counts.totals c.loop-item.yielded c.in-Some.item c.loop-item.invariant.within;
      within_each = tallies-within_more c.loop-item.counts.tallies.items c.loop-item.yielded c.in-Some.item
          c.loop-item.invariant.within_each;
      totals = λ test answers. totals-skip (is_wanted c.args.wanted.now test) c.loop-item.counts.totals
          c.loop-item.yielded c.in-Some.item
          (told_test c.shows.result (is_wanted c.args.wanted.now test c.in-Some.item) false
          (c.shows.ensures test (answers c.in-Some.item at)) c.if-not-shows.true)
          (c.loop-item.invariant.totals test answers);
      tallies = λ test answers. tallies-skip (is_wanted c.args.wanted.now test) c.loop-item.counts.tallies.items
          c.loop-item.yielded c.in-Some.item
          (told_test c.shows.result (is_wanted c.args.wanted.now test c.in-Some.item) false
          (c.shows.ensures test (answers c.in-Some.item at)) c.if-not-shows.true)
          (c.loop-item.invariant.tallies test answers);
    }

pub add-requires-clause-known : goal.add-requires-clause-known
add-requires-clause-known g c =
    let low = next-known c.args.types.now c.loop-item.yielded c.loop-item.item-iterator c.next.new.self c.args.items
    c.in-Some.item c.in-Some.ensures.steps
    (c.loop-item.invariant.walked ∙ c.into_iter-item-iterator.ensures.into_iter_gives) c.requires.listed in
    let types = c.loop-item.invariant.types in
    let known : c.in-Some.item.type_id.0 < length c.loop-item.counts.tallies.items = omega arith in
    known

pub add-requires-clause-objects : goal.add-requires-clause-objects
add-requires-clause-objects g c =
    let few = next-count c.args.types.now c.loop-item.yielded c.loop-item.item-iterator c.next.new.self c.args.items
    c.in-Some.item c.in-Some.ensures.steps
    (c.loop-item.invariant.walked ∙ c.into_iter-item-iterator.ensures.into_iter_gives) c.requires.listed in
    let objects = c.loop-item.invariant.within.objects in
    omega arith

pub add-requires-clause-count : goal.add-requires-clause-count
add-requires-clause-count g c =
    let few = next-count c.args.types.now c.loop-item.yielded c.loop-item.item-iterator c.next.new.self c.args.items
    c.in-Some.item c.in-Some.ensures.steps
    (c.loop-item.invariant.walked ∙ c.into_iter-item-iterator.ensures.into_iter_gives) c.requires.listed in
    let low = next-known c.args.types.now c.loop-item.yielded c.loop-item.item-iterator c.next.new.self c.args.items
    c.in-Some.item c.in-Some.ensures.steps
    (c.loop-item.invariant.walked ∙ c.into_iter-item-iterator.ensures.into_iter_gives) c.requires.listed in
    let types = c.loop-item.invariant.types in
    let known : c.in-Some.item.type_id.0 < length c.loop-item.counts.tallies.items = omega arith in
    let count = (c.loop-item.invariant.within_each c.in-Some.item.type_id.0 known).count in
    omega arith

pub loop-item-preserved : goal.loop-item-preserved
loop-item-preserved g c =
    let at = next-in c.loop-item.yielded c.loop-item.item-iterator c.next.new.self c.into_iter-item-iterator.result
    c.in-Some.item c.in-Some.ensures.steps c.loop-item.invariant.walked in
    let low = next-known c.args.types.now c.loop-item.yielded c.loop-item.item-iterator c.next.new.self c.args.items
    c.in-Some.item c.in-Some.ensures.steps
    (c.loop-item.invariant.walked ∙ c.into_iter-item-iterator.ensures.into_iter_gives) c.requires.listed in
    let types = c.loop-item.invariant.types in
    let known : c.in-Some.item.type_id.0 < length c.loop-item.counts.tallies.items = omega arith in
    record {
      walked = walked-on c.loop-item.yielded c.loop-item.item-iterator c.next.new.self
          c.into_iter-item-iterator.result c.in-Some.item c.in-Some.ensures.steps c.loop-item.invariant.walked;
      types = length-counted c.loop-item.counts.tallies.items c.add.new.self.tallies.items c.in-Some.item _
          c.add.ensures.tallies types;
      within = within-counted c.loop-item.counts.totals c.add.new.self.totals c.loop-item.yielded c.in-Some.item
          c.add.ensures.totals c.loop-item.invariant.within;
      within_each = tallies-within_counted c.loop-item.counts.tallies.items c.add.new.self.tallies.items
          c.loop-item.yielded c.in-Some.item known c.add.ensures.tallies c.loop-item.invariant.within_each;
      totals = λ test answers. totals-more (is_wanted c.args.wanted.now test) c.loop-item.counts.totals
          c.loop-item.yielded c.in-Some.item c.add.new.self.totals
          (told_test c.shows.result (is_wanted c.args.wanted.now test c.in-Some.item) true
          (c.shows.ensures test (answers c.in-Some.item at)) c.if-not-shows.false)
          (c.loop-item.invariant.totals test answers) c.add.ensures.totals;
      tallies = λ test answers. tallies-more (is_wanted c.args.wanted.now test) c.loop-item.counts.tallies.items
          c.add.new.self.tallies.items c.loop-item.yielded c.in-Some.item known
          (told_test c.shows.result (is_wanted c.args.wanted.now test c.in-Some.item) true
          (c.shows.ensures test (answers c.in-Some.item at)) c.if-not-shows.false)
          c.add.ensures.tallies (c.loop-item.invariant.tallies test answers);
    }

pub returns-clause-totals : goal.returns-clause-totals
returns-clause-totals g c = λ test answers.
    let inner = λ (i : Item) (is : IsIn i c.into_iter-item-iterator.result).
    answers i (subst (λ (items : List Item). IsIn i items) c.into_iter-item-iterator.ensures.into_iter_gives is) in
    let all = walked-all c.loop-item.yielded c.loop-item.item-iterator c.args.items c.in-None.ensures.steps.0
    (c.loop-item.invariant.walked ∙ c.into_iter-item-iterator.ensures.into_iter_gives) in
    totals-all (is_wanted c.args.wanted.now test) c.loop-item.counts.totals c.loop-item.yielded c.args.items all
    (c.loop-item.invariant.totals test inner)

pub returns-clause-tallies : goal.returns-clause-tallies
returns-clause-tallies g c = λ test answers.
    let inner = λ (i : Item) (is : IsIn i c.into_iter-item-iterator.result).
    answers i (subst (λ (items : List Item). IsIn i items) c.into_iter-item-iterator.ensures.into_iter_gives is) in
    let all = walked-all c.loop-item.yielded c.loop-item.item-iterator c.args.items c.in-None.ensures.steps.0
    (c.loop-item.invariant.walked ∙ c.into_iter-item-iterator.ensures.into_iter_gives) in
    tallies-all (is_wanted c.args.wanted.now test) c.loop-item.counts.tallies.items c.loop-item.yielded c.args.items all
    (c.loop-item.invariant.tallies test inner)
