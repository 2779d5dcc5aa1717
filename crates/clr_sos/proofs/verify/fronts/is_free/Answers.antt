-- A free item that stands at a place of generation 0 stands in the ephemeral segment.
use Rattle.std.proofs.Common.{◌≡◌, ◌&&◌, Bool, true, false, sym, ◌∙◌, ap, arith}
use Rattle.std.proofs.lemmas.Bool.Decides.{nat_tests}
use Rattle.clr_types.specs.Ranges.{fits}
use Rattle.clr_view.specs.View.{is_free}
use Rattle.clr_sos.proofs.PlacedItems.{nothing_there, the_room, young_inside}
use Rattle.clr_sos.proofs.verify.fronts.is_free.Goals as goal

pub returns-then-room-eq0 : goal.returns-then-room-eq0
returns-then-room-eq0 c =
    let rows = c.args.types.now in
    let h = c.args.heap.now in
    let room = c.in-Some.room in
    let free : is_free room ≡ true = let e = c.if-room-eq0.true in grind (arith, nat_tests, e) in
    sym (the_room rows h c.requires.heap c.requires.walkable c.args.size c.args.place
    c.ephemeral-young.result c.ephemeral-young.ensures.in_range c.ephemeral-young.ensures.segment
    (young_inside h c.args.place c.requires.young) room (sym c.item_in.ensures ∙ c.in-Some.is)
    ∙ ap (λ (b : Bool). b && fits c.args.size room.size) free ∙ sym c.fits.ensures)

pub returns-else-room-eq0 : goal.returns-else-room-eq0
returns-else-room-eq0 c =
    let rows = c.args.types.now in
    let h = c.args.heap.now in
    let room = c.in-Some.room in
    let free : is_free room ≡ false = let e = c.if-room-eq0.false in grind (arith, nat_tests, e) in
    free ∙ sym (the_room rows h c.requires.heap c.requires.walkable c.args.size c.args.place
    c.ephemeral-young.result c.ephemeral-young.ensures.in_range c.ephemeral-young.ensures.segment
    (young_inside h c.args.place c.requires.young) room (sym c.item_in.ensures ∙ c.in-Some.is)
    ∙ ap (λ (b : Bool). b && fits c.args.size room.size) free)

pub returns-in-None : goal.returns-in-None
returns-in-None c =
    let rows = c.args.types.now in
    let h = c.args.heap.now in
    sym (nothing_there rows h c.requires.heap c.requires.walkable c.args.size c.args.place
    c.ephemeral-young.result c.ephemeral-young.ensures.in_range c.ephemeral-young.ensures.segment
    (young_inside h c.args.place c.requires.young) (sym c.item_in.ensures ∙ c.in-None.is))
