use Rattle.std.proofs.Common.{◌≡◌, ◌<◌, ◌+◌, ◌&&◌, true, false, ap, sym, subst, arith, refl, ◌≢◌}
use Rattle.std.proofs.lemmas.Bool.{eq-eqb, ne_eqb}
use Rattle.clr_types.specs.declared.item.Item.{Item}
use Rattle.clr_heap.specs.View.{last_of}
use Rattle.clr_view.specs.View.{is_object}
use Rattle.clr_evacuate.specs.Left.{is_any}
use Rattle.clr_generations.proofs.FirstCounted.{can_go_on, IsSearch, search_found, search_on}
use Rattle.clr_evacuate.proofs.leaving.first_object.Goals as goal

-- what isn't of type 0 is an object, and what is isn't
object_from : (i : Item) → i.type_id.0 ≢ 0 → (is_object i && true) ≡ true
object_from i ne = let miss = ne_eqb i.type_id.0 0 ne in rw miss refl

free_from : (i : Item) → i.type_id.0 ≡ 0 → (is_object i && true) ≡ false
free_from i e = let hit = eq-eqb i.type_id.0 0 e in rw hit refl

pub item-found-requires : goal.item-found-requires
item-found-requires c =
    let rows = c.args.types.now in
    let h = c.args.heap.now in
    let place = c.loop-place.place in
    let test = c.loop-place-test.true in
    let most = c.requires.end in
    let below : place < last_of h c.args.k = omega (arith, test, most) in
    let can = can_go_on rows h c.requires.heap c.requires.held c.requires.no_contexts c.args.k c.requires.in_range
    is_any c.args.start place c.loop-place.invariant below in
    can.item

pub returns-then-found-ne0 : goal.returns-then-found-ne0
returns-then-found-ne0 c =
    let rows = c.args.types.now in
    let h = c.args.heap.now in
    let place = c.loop-place.place in
    let test = c.loop-place-test.true in
    let most = c.requires.end in
    let below : place < last_of h c.args.k = omega (arith, test, most) in
    search_found rows h c.requires.heap c.requires.held c.requires.no_contexts c.args.k c.requires.in_range is_any
    c.args.start place c.loop-place.invariant below c.args.past test
    (subst (λ (i : Item). (is_object i && true) ≡ true) c.item-found.ensures
    (object_from c.item-found.result c.if-found-ne0.true))

pub overflow_add-place : goal.overflow_add-place
overflow_add-place c =
    let rows = c.args.types.now in
    let h = c.args.heap.now in
    let place = c.loop-place.place in
    let test = c.loop-place-test.true in
    let most = c.requires.end in
    let below : place < last_of h c.args.k = omega (arith, test, most) in
    let can = can_go_on rows h c.requires.heap c.requires.held c.requires.no_contexts c.args.k c.requires.in_range
    is_any c.args.start place c.loop-place.invariant below in
    let size = ap (λ (i : Item). i.size) c.item-found.ensures in
    let within = can.within in
    let high = can.end in
    omega (arith, size, within, high)

pub loop-place-smaller : goal.loop-place-smaller
loop-place-smaller c =
    let rows = c.args.types.now in
    let h = c.args.heap.now in
    let place = c.loop-place.place in
    let test = c.loop-place-test.true in
    let most = c.requires.end in
    let below : place < last_of h c.args.k = omega (arith, test, most) in
    let can = can_go_on rows h c.requires.heap c.requires.held c.requires.no_contexts c.args.k c.requires.in_range
    is_any c.args.start place c.loop-place.invariant below in
    let size = ap (λ (i : Item). i.size) c.item-found.ensures in
    let least = can.least in
    omega (arith, size, test, least)

pub loop-place-preserved : goal.loop-place-preserved
loop-place-preserved c =
    let rows = c.args.types.now in
    let h = c.args.heap.now in
    let place = c.loop-place.place in
    let test = c.loop-place-test.true in
    let most = c.requires.end in
    let below : place < last_of h c.args.k = omega (arith, test, most) in
    subst (λ (i : Item). IsSearch rows h is_any c.args.k c.args.start (place + i.size)) (sym c.item-found.ensures)
    (search_on rows h c.requires.heap c.requires.held c.requires.no_contexts c.args.k c.requires.in_range is_any
    c.args.start place c.loop-place.invariant below
    (subst (λ (i : Item). (is_object i && true) ≡ false) c.item-found.ensures
    (free_from c.item-found.result c.if-found-ne0.false)))

pub returns : goal.returns
returns c = λ x is low high.
    c.loop-place.invariant.none x is low (let ends = c.loop-place-test.false in omega (arith, high, ends))
