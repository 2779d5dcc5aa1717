use Rattle.std.proofs.Common.{◌-◌, ap, sym, ◌∙◌}
use Rattle.clr_types.specs.Rising.{insert_by}
use Rattle.clr_types.specs.Ranges.{Piece}
use Rattle.clr_types.specs.Segments.{rest_of}
use Rattle.clr_heap.specs.View.{frame}
use Rattle.clr_view.specs.View.{layout_in}
use Rattle.clr_ctx.specs.Contexts.{young_items}
use Rattle.clr_ctx.proofs.Steps.{bounds_none, bounds_some, closed_head, closed_least, closed_step, none_step}
use Rattle.clr_ctx.proofs.ranges.close.Goals as goal

pub returns-in_err-low-clause-relaid : goal.returns-in_err-low-clause-relaid
returns-in_err-low-clause-relaid c =
    let h = c.args.heap.now in
    none_step c.args.types.now h c.args.t c.requires.heap c.requires.held
    (bounds_none (rest_of (frame h) c.args.t) (sym c.hole.ensures ∙ c.in_err-low.was))

pub make_free-requires-clause-least : goal.make_free-requires-clause-least
make_free-requires-clause-least c =
    let h = c.args.heap.now in
    let r : Piece = record { place = c.in_ok-low.low; size = c.in_ok-low.high - c.in_ok-low.low } in
    let rest = bounds_some (rest_of (frame h) c.args.t) c.in_ok-low.low c.in_ok-low.high
    (sym c.hole.ensures ∙ c.in_ok-low.was) in
    closed_least c.args.types.now h c.args.t c.requires.heap c.requires.held c.requires.positive c.requires.few
    r rest

pub make_free-requires-clause-head : goal.make_free-requires-clause-head
make_free-requires-clause-head c =
    let h = c.args.heap.now in
    let r : Piece = record { place = c.in_ok-low.low; size = c.in_ok-low.high - c.in_ok-low.low } in
    let rest = bounds_some (rest_of (frame h) c.args.t) c.in_ok-low.low c.in_ok-low.high
    (sym c.hole.ensures ∙ c.in_ok-low.was) in
    closed_head c.args.types.now h c.args.t c.requires.heap c.requires.held c.requires.positive c.requires.few r
    rest

pub returns-clause-relaid : goal.returns-clause-relaid
returns-clause-relaid c =
    let h = c.args.heap.now in
    let r : Piece = record { place = c.in_ok-low.low; size = c.in_ok-low.high - c.in_ok-low.low } in
    let rest = bounds_some (rest_of (frame h) c.args.t) c.in_ok-low.low c.in_ok-low.high
    (sym c.hole.ensures ∙ c.in_ok-low.was) in
    (closed_step c.args.types.now h c.args.t c.requires.heap c.requires.held c.requires.positive c.requires.few
    r rest c.make_free.new.self c.set_hole.new.self c.make_free.ensures.words c.set_hole.ensures).0

pub returns-clause-young : goal.returns-clause-young
returns-clause-young c =
    let h = c.args.heap.now in
    let r : Piece = record { place = c.in_ok-low.low; size = c.in_ok-low.high - c.in_ok-low.low } in
    let rest = bounds_some (rest_of (frame h) c.args.t) c.in_ok-low.low c.in_ok-low.high
    (sym c.hole.ensures ∙ c.in_ok-low.was) in
    (closed_step c.args.types.now h c.args.t c.requires.heap c.requires.held c.requires.positive c.requires.few
    r rest c.make_free.new.self c.set_hole.new.self c.make_free.ensures.words c.set_hole.ensures).1
    ∙ ap (λ (p : Piece). insert_by (λ q. q.place) p (young_items (layout_in c.args.types.now h)))
    (sym c.between.ensures)
