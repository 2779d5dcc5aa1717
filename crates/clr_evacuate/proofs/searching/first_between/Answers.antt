use Rattle.std.proofs.Common.{◌≡◌, ℕ, ◌+◌, ◌-◌, ◌<◌, true, false, Some, ap, sym, subst, ◌∙◌, arith}
use Rattle.std.proofs.lemmas.Bool.{both_ways, eq-eqb, ne_eqb}
use Rattle.clr_types.specs.Ranges.{fits, Piece}
use Rattle.clr_types.specs.declared.item.Item.{Item}
use Rattle.clr_heap.specs.Parts.{item_at}
use Rattle.clr_heap.specs.View.{last_of, word_of}
use Rattle.clr_view.specs.View.{is_free}
use Rattle.clr_evacuate.proofs.Searches.{can_read, IsSearching, search_ends, search_finds, search_on, searching_starts}
use Rattle.clr_evacuate.proofs.searching.first_between.Goals as goal
use Rattle.clr_evacuate.proofs.searching.first_between.Goals.{else-found-eq0-via-then-found-eq0+else-fits_in}
use Rattle.clr_evacuate.proofs.searching.first_between.Goals.{else-found-eq0-via-else-found-eq0}

pub loop-place-init : goal.loop-place-init
loop-place-init c =
    searching_starts c.args.types.now c.args.heap.now c.args.k c.args.start c.args.size c.requires.begins

pub word_at-requires-clause-word : goal.word_at-requires-clause-word
word_at-requires-clause-word c =
    let rows = c.args.types.now in
    let h = c.args.heap.now in
    let k = c.args.k in
    let place = c.loop-place.place in
    let test = c.loop-place-test.true in
    let most = c.requires.within in
    let below : place < last_of h k = omega (arith, test, most) in
    let can = can_read rows h c.requires.held k c.requires.in_range c.requires.heap c.requires.no_contexts c.args.start
    c.args.size place c.loop-place.invariant below in
    can.item.mt

pub word_at-requires-clause-segment : goal.word_at-requires-clause-segment
word_at-requires-clause-segment c =
    let rows = c.args.types.now in
    let h = c.args.heap.now in
    let k = c.args.k in
    let place = c.loop-place.place in
    let test = c.loop-place-test.true in
    let most = c.requires.within in
    let below : place < last_of h k = omega (arith, test, most) in
    let can = can_read rows h c.requires.held k c.requires.in_range c.requires.heap c.requires.no_contexts c.args.start
    c.args.size place c.loop-place.invariant below in
    can.mt_in

pub item_of_word-found-requires-clause-item : goal.item_of_word-found-requires-clause-item
item_of_word-found-requires-clause-item c =
    let rows = c.args.types.now in
    let h = c.args.heap.now in
    let k = c.args.k in
    let place = c.loop-place.place in
    let test = c.loop-place-test.true in
    let most = c.requires.within in
    let below : place < last_of h k = omega (arith, test, most) in
    let can = can_read rows h c.requires.held k c.requires.in_range c.requires.heap c.requires.no_contexts c.args.start
    c.args.size place c.loop-place.invariant below in
    can.item

pub item_of_word-found-requires-clause-segment : goal.item_of_word-found-requires-clause-segment
item_of_word-found-requires-clause-segment c =
    let rows = c.args.types.now in
    let h = c.args.heap.now in
    let k = c.args.k in
    let place = c.loop-place.place in
    let test = c.loop-place-test.true in
    let most = c.requires.within in
    let below : place < last_of h k = omega (arith, test, most) in
    let can = can_read rows h c.requires.held k c.requires.in_range c.requires.heap c.requires.no_contexts c.args.start
    c.args.size place c.loop-place.invariant below in
    can.len_in

pub overflow_add-place : goal.overflow_add-place
overflow_add-place c =
    let rows = c.args.types.now in
    let h = c.args.heap.now in
    let k = c.args.k in
    let place = c.loop-place.place in
    let test = c.loop-place-test.true in
    let most = c.requires.within in
    let below : place < last_of h k = omega (arith, test, most) in
    let can = can_read rows h c.requires.held k c.requires.in_range c.requires.heap c.requires.no_contexts c.args.start
    c.args.size place c.loop-place.invariant below in
    let size = ap (λ (i : Item). i.size) c.item_of_word-found.ensures in
    let within = can.within in
    let high = can.end in
    omega (arith, size, within, high)

pub returns-then-fits_in : goal.returns-then-fits_in
returns-then-fits_in c =
    let rows = c.args.types.now in
    let h = c.args.heap.now in
    let k = c.args.k in
    let place = c.loop-place.place in
    let test = c.loop-place-test.true in
    let most = c.requires.within in
    let below : place < last_of h k = omega (arith, test, most) in
    let at = c.item_of_word-found.ensures in
    let size = ap (λ (i : Item). i.size) at in
    let P : ℕ → Piece = λ n. record { place = place; size = n } in
    let whole : (place + c.item_of_word-found.result.size) - place ≡ (item_at rows (word_of h) place).size =
    omega (arith, size) in
    ap Some (c.between.ensures ∙ ap P whole)
    ∙ sym (search_finds rows h c.requires.held k c.requires.in_range c.requires.heap c.requires.no_contexts
    c.args.start c.args.size place c.loop-place.invariant below c.args.end test
    (subst (λ (i : Item). is_free i ≡ true) at (eq-eqb c.item_of_word-found.result.type_id.0 0 c.if-found-eq0.true))
    (subst (λ (i : Item). fits c.args.size i.size ≡ true) at (sym c.fits_in.ensures ∙ c.if-fits_in.true)))

pub overflow_add-place-in-loop-place : goal.overflow_add-place-in-loop-place
overflow_add-place-in-loop-place c =
    let rows = c.args.types.now in
    let h = c.args.heap.now in
    let k = c.args.k in
    let place = c.loop-place.place in
    let test = c.loop-place-test.true in
    let most = c.requires.within in
    let below : place < last_of h k = omega (arith, test, most) in
    let can = can_read rows h c.requires.held k c.requires.in_range c.requires.heap c.requires.no_contexts c.args.start
    c.args.size place c.loop-place.invariant below in
    let size = ap (λ (i : Item). i.size) c.item_of_word-found.ensures in
    let within = can.within in
    let high = can.end in
    omega (arith, size, within, high)

pub loop-place-smaller : goal.loop-place-smaller
loop-place-smaller c =
    let rows = c.args.types.now in
    let h = c.args.heap.now in
    let k = c.args.k in
    let place = c.loop-place.place in
    let test = c.loop-place-test.true in
    let most = c.requires.within in
    let below : place < last_of h k = omega (arith, test, most) in
    let can = can_read rows h c.requires.held k c.requires.in_range c.requires.heap c.requires.no_contexts c.args.start
    c.args.size place c.loop-place.invariant below in
    let size = ap (λ (i : Item). i.size) c.item_of_word-found.ensures in
    let least = can.least in
    omega (arith, size, test, least)

pub loop-place-preserved : goal.loop-place-preserved
loop-place-preserved c =
    let rows = c.args.types.now in
    let h = c.args.heap.now in
    let k = c.args.k in
    let place = c.loop-place.place in
    let test = c.loop-place-test.true in
    let most = c.requires.within in
    let below : place < last_of h k = omega (arith, test, most) in
    let other : is_free c.item_of_word-found.result ≡ true → fits c.args.size c.item_of_word-found.result.size ≡ false =
    elim c.else-found-eq0.branch [
      | else-found-eq0-via-then-found-eq0+else-fits_in w ↦ λ free. sym w.fits_in.ensures ∙ w.if-fits_in.false
      | else-found-eq0-via-else-found-eq0 w ↦ λ free.
          absurd (both_ways (is_free c.item_of_word-found.result)
          (ne_eqb c.item_of_word-found.result.type_id.0 0 w.if-found-eq0.false) free)
    ] in
    let P : Item → Type 0 = λ i. IsSearching rows h k c.args.start c.args.size (place + i.size) in
    subst P (sym c.item_of_word-found.ensures)
    (search_on rows h c.requires.held k c.requires.in_range c.requires.heap c.requires.no_contexts c.args.start
    c.args.size place c.loop-place.invariant below
    (subst (λ (i : Item). is_free i ≡ true → fits c.args.size i.size ≡ false) c.item_of_word-found.ensures other))

pub returns : goal.returns
returns c =
    sym (search_ends c.args.types.now c.args.heap.now c.args.k c.args.start c.args.size c.loop-place.place c.args.end
    c.loop-place.invariant c.loop-place-test.false)
