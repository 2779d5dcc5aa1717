use Rattle.std.proofs.Common.{ap, sym, ◌∙◌, ◌||◌, Bool}
use Rattle.clr_types.specs.Segments.{ephemeral, fits_in_tail}
use Rattle.clr_view.specs.View.{layout_in}
use Rattle.clr_ctx.proofs.Choices.{room_is}
use Rattle.clr_ctx.proofs.young_items.YoungItems.room.Goals as goal

pub returns-then-is_some : goal.returns-then-is_some
returns-then-is_some c =
    let layout = layout_in c.args.types.now c.args.heap.now in
    let some = sym c.is_some.ensures ∙ c.if-is_some.true in
    c.if-is_some.true
    ∙ sym (room_is layout c.args.size c.first_fit.result c.first_fit.ensures
    ∙ ap (λ (b : Bool). b || fits_in_tail (ephemeral layout) c.args.size) some)

pub returns-else-is_some : goal.returns-else-is_some
returns-else-is_some c =
    let layout = layout_in c.args.types.now c.args.heap.now in
    let none = sym c.is_some.ensures ∙ c.if-is_some.false in
    c.fits_behind.ensures
    ∙ sym (room_is layout c.args.size c.first_fit.result c.first_fit.ensures
    ∙ ap (λ (b : Bool). b || fits_in_tail (ephemeral layout) c.args.size) none)
