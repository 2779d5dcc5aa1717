use Rattle.std.proofs.Common.{◌≡◌, ap, is_some, not, sym, ◌∙◌, refl, true, false, Some}
use Rattle.std.proofs.lemmas.Bool.{both_ways}
use Rattle.clr_types.specs.Ranges.{fits, Piece}
use Rattle.clr_types.specs.Segments.{ephemeral, fits_in_tail}
use Rattle.clr_heap.specs.View.{frame}
use Rattle.clr_view.specs.View.{layout_in}
use Rattle.clr_ctx.specs.Contexts.{first_fit, young_items}
use Rattle.clr_items.proofs.FoundItems.{found_passes}
use Rattle.clr_ctx.proofs.Choices.{given_none, no_room, refilled_item, refilled_tail, room_is}
use Rattle.clr_ctx.proofs.Choices.{still_listed}
use Rattle.clr_ctx.proofs.young_items.YoungItems.refill.Goals as goal
use Rattle.clr_ctx.proofs.young_items.YoungItems.refill.Goals.{else-is_none-via-then-is_none+else-not-fits_behind}
use Rattle.clr_ctx.proofs.young_items.YoungItems.refill.Goals.{else-is_none-via-else-is_none}

pub returns-then-not-fits_behind-clause-none : goal.returns-then-not-fits_behind-clause-none
returns-then-not-fits_behind-clause-none c = λ _.
    let none = c.is_none.ensures ∙ ap not c.if-is_none.true in (
      no_room (layout_in c.args.types.now c.args.heap.now) c.args.size c.first_fit-found.result
          c.first_fit-found.ensures
          none (sym c.fits_behind.ensures ∙ c.if-not-fits_behind.true),
      refl,
      refl,
    )

pub open_in-requires-clause-heap : goal.open_in-requires-clause-heap
open_in-requires-clause-heap c = c.give_up.ensures.relaid.heap

pub open_in-requires-clause-none : goal.open_in-requires-clause-none
open_in-requires-clause-none c =
    given_none c.args.types.now c.args.heap.now c.give_up.new.heap c.args.t c.give_up.ensures.relaid

pub open_in-requires-clause-listed : goal.open_in-requires-clause-listed
open_in-requires-clause-listed c =
    let found : first_fit (layout_in c.args.types.now c.args.heap.now) c.args.size ≡ Some c.in-Some.item =
    sym c.first_fit-found.ensures ∙ c.in-Some.is in
    still_listed c.args.types.now c.args.heap.now c.give_up.new.heap c.args.t c.in-Some.item c.give_up.ensures.relaid
    (found_passes (λ (p : Piece). fits c.args.size p.size) (young_items (layout_in c.args.types.now c.args.heap.now))
    c.in-Some.item found).0

pub open_in-requires-clause-within : goal.open_in-requires-clause-within
open_in-requires-clause-within c =
    let found : first_fit (layout_in c.args.types.now c.args.heap.now) c.args.size ≡ Some c.in-Some.item =
    sym c.first_fit-found.ensures ∙ c.in-Some.is in
    (found_passes (λ (p : Piece). fits c.args.size p.size) (young_items (layout_in c.args.types.now c.args.heap.now))
    c.in-Some.item found).1

pub open_at_end-requires-clause-none : goal.open_at_end-requires-clause-none
open_at_end-requires-clause-none c =
    given_none c.args.types.now c.args.heap.now c.give_up.new.heap c.args.t c.give_up.ensures.relaid

pub returns-in-Some-clause-some : goal.returns-in-Some-clause-some
returns-in-Some-clause-some c =
    let found : first_fit (layout_in c.args.types.now c.args.heap.now) c.args.size ≡ Some c.in-Some.item =
    sym c.first_fit-found.ensures ∙ c.in-Some.is in
    room_is (layout_in c.args.types.now c.args.heap.now) c.args.size (Some c.in-Some.item) (sym found)

pub returns-in-Some-clause-refilled : goal.returns-in-Some-clause-refilled
returns-in-Some-clause-refilled c =
    let found : first_fit (layout_in c.args.types.now c.args.heap.now) c.args.size ≡ Some c.in-Some.item =
    sym c.first_fit-found.ensures ∙ c.in-Some.is in
    refilled_item c.args.types.now c.args.heap.now c.give_up.new.heap c.open_in.new.heap c.args.t c.args.size
    c.in-Some.item c.give_up.ensures.relaid c.open_in.ensures.relaid found

pub returns-in-None-clause-refilled : goal.returns-in-None-clause-refilled
returns-in-None-clause-refilled c =
    let room : fits_in_tail (ephemeral (frame c.args.heap.now)) c.args.size ≡ true =
    elim c.else-is_none.branch [
      | else-is_none-via-then-is_none+else-not-fits_behind w ↦ sym w.fits_behind.ensures ∙ w.if-not-fits_behind.false
      | else-is_none-via-else-is_none w ↦
          let some : is_some c.first_fit-found.result ≡ true = c.is_none.ensures ∙ ap not w.if-is_none.false in
          let none : is_some c.first_fit-found.result ≡ false = ap is_some c.in-None.is in
          absurd (both_ways (is_some c.first_fit-found.result) none some)
    ] in
    refilled_tail c.args.types.now c.args.heap.now c.give_up.new.heap c.open_at_end.new.heap c.args.t c.args.size
    c.give_up.ensures.relaid c.open_at_end.ensures.relaid room
