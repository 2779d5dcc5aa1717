use Rattle.std.proofs.Common.{◌≡◌, ℕ, ◌<◌, ◌+◌, ◌&&◌, true, false, ap, sym, subst, ◌∙◌, arith}
use Rattle.clr_types.specs.declared.item.Item.{Item}
use Rattle.clr_heap.specs.Parts.{item_at}
use Rattle.clr_heap.specs.View.{last_of, word_of}
use Rattle.clr_view.specs.View.{is_object}
use Rattle.clr_generations.specs.Renewing as renewing
use Rattle.clr_generations.proofs.FirstCounted.{can_go_on, IsSearch, search_found, search_on, search_starts}
use Rattle.clr_generations.proofs.renewing.first_counted.Goals as goal

pub loop-place-init : goal.loop-place-init
loop-place-init c =
    search_starts c.args.types.now c.args.heap.now (renewing.passes c.args.counted) c.args.k c.args.start
    c.requires.begins

pub word_at-mt-requires-clause-word : goal.word_at-mt-requires-clause-word
word_at-mt-requires-clause-word c =
    let rows = c.args.types.now in
    let h = c.args.heap.now in
    let k = c.args.k in
    let place = c.loop-place.place in
    let test = c.loop-place-test.true in
    let most = c.requires.end in
    let below : place < last_of h k = omega (arith, test, most) in
    let can = can_go_on rows h c.requires.heap c.requires.held c.requires.no_contexts k c.requires.in_range
    (renewing.passes c.args.counted) c.args.start place c.loop-place.invariant below in
    can.item.mt

pub word_at-mt-requires-clause-segment : goal.word_at-mt-requires-clause-segment
word_at-mt-requires-clause-segment c =
    let rows = c.args.types.now in
    let h = c.args.heap.now in
    let k = c.args.k in
    let place = c.loop-place.place in
    let test = c.loop-place-test.true in
    let most = c.requires.end in
    let below : place < last_of h k = omega (arith, test, most) in
    let can = can_go_on rows h c.requires.heap c.requires.held c.requires.no_contexts k c.requires.in_range
    (renewing.passes c.args.counted) c.args.start place c.loop-place.invariant below in
    can.mt_in

pub item_of_word-found-requires-clause-item : goal.item_of_word-found-requires-clause-item
item_of_word-found-requires-clause-item c =
    let rows = c.args.types.now in
    let h = c.args.heap.now in
    let k = c.args.k in
    let place = c.loop-place.place in
    let test = c.loop-place-test.true in
    let most = c.requires.end in
    let below : place < last_of h k = omega (arith, test, most) in
    let can = can_go_on rows h c.requires.heap c.requires.held c.requires.no_contexts k c.requires.in_range
    (renewing.passes c.args.counted) c.args.start place c.loop-place.invariant below in
    can.item

pub item_of_word-found-requires-clause-segment : goal.item_of_word-found-requires-clause-segment
item_of_word-found-requires-clause-segment c =
    let rows = c.args.types.now in
    let h = c.args.heap.now in
    let k = c.args.k in
    let place = c.loop-place.place in
    let test = c.loop-place-test.true in
    let most = c.requires.end in
    let below : place < last_of h k = omega (arith, test, most) in
    let can = can_go_on rows h c.requires.heap c.requires.held c.requires.no_contexts k c.requires.in_range
    (renewing.passes c.args.counted) c.args.start place c.loop-place.invariant below in
    can.len_in

pub returns-then-is_counted : goal.returns-then-is_counted
returns-then-is_counted c =
    let rows = c.args.types.now in
    let h = c.args.heap.now in
    let k = c.args.k in
    let place = c.loop-place.place in
    let test = c.loop-place-test.true in
    let most = c.requires.end in
    let below : place < last_of h k = omega (arith, test, most) in
    let told = sym (ap (λ (i : Item). is_object i && renewing.passes c.args.counted c.word_at-mt.result)
    c.item_of_word-found.ensures)
    ∙ sym c.is_counted.ensures ∙ c.if-is_counted.true in
    let M : ℕ → Type 0 = λ w. (is_object (item_at rows (word_of h) place) && renewing.passes c.args.counted w) ≡ true in
    search_found rows h c.requires.heap c.requires.held c.requires.no_contexts k c.requires.in_range
    (renewing.passes c.args.counted) c.args.start place c.loop-place.invariant below c.args.past test
    (subst M c.word_at-mt.ensures told)

pub overflow_add-place : goal.overflow_add-place
overflow_add-place c =
    let rows = c.args.types.now in
    let h = c.args.heap.now in
    let k = c.args.k in
    let place = c.loop-place.place in
    let test = c.loop-place-test.true in
    let most = c.requires.end in
    let below : place < last_of h k = omega (arith, test, most) in
    let can = can_go_on rows h c.requires.heap c.requires.held c.requires.no_contexts k c.requires.in_range
    (renewing.passes c.args.counted) c.args.start place c.loop-place.invariant below in
    let size = ap (λ (i : Item). i.size) c.item_of_word-found.ensures in
    let within = can.within in
    let high = can.end in
    omega (arith, size, within, high)

pub loop-place-smaller : goal.loop-place-smaller
loop-place-smaller c =
    let rows = c.args.types.now in
    let h = c.args.heap.now in
    let k = c.args.k in
    let place = c.loop-place.place in
    let test = c.loop-place-test.true in
    let most = c.requires.end in
    let below : place < last_of h k = omega (arith, test, most) in
    let can = can_go_on rows h c.requires.heap c.requires.held c.requires.no_contexts k c.requires.in_range
    (renewing.passes c.args.counted) c.args.start place c.loop-place.invariant below in
    let size = ap (λ (i : Item). i.size) c.item_of_word-found.ensures in
    let least = can.least in
    omega (arith, size, test)

pub loop-place-preserved : goal.loop-place-preserved
loop-place-preserved c =
    let rows = c.args.types.now in
    let h = c.args.heap.now in
    let k = c.args.k in
    let place = c.loop-place.place in
    let test = c.loop-place-test.true in
    let most = c.requires.end in
    let below : place < last_of h k = omega (arith, test, most) in
    let told = sym (ap (λ (i : Item). is_object i && renewing.passes c.args.counted c.word_at-mt.result)
    c.item_of_word-found.ensures)
    ∙ sym c.is_counted.ensures ∙ c.if-is_counted.false in
    let M : ℕ → Type 0 = λ w. (is_object (item_at rows (word_of h) place) && renewing.passes c.args.counted w) ≡ false
    in
    let P : Item → Type 0 = λ i. IsSearch rows h (renewing.passes c.args.counted) k c.args.start (place + i.size) in
    subst P (sym c.item_of_word-found.ensures)
    (search_on rows h c.requires.heap c.requires.held c.requires.no_contexts k c.requires.in_range
    (renewing.passes c.args.counted) c.args.start place c.loop-place.invariant below
    (subst M c.word_at-mt.ensures told))
