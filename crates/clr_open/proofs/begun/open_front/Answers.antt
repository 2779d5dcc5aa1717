-- One context is opened.
use Rattle.std.proofs.Common.{subst, sym}
use Rattle.clr_ctx.specs.Contexts.{IsRelaid}
use Rattle.clr_sos.specs.declared.step.Step.{Step}
use Rattle.clr_view.specs.View.{layout_in}
use Rattle.clr_open.specs.Begun.{HasFront, layout_with}
use Rattle.clr_open.proofs.BegunHeaps.{front-opened}
use Rattle.clr_open.proofs.begun.open_front.Goals as goal

pub returns-in-Begun : goal.returns-in-Begun
returns-in-Begun c =
    let rows = c.args.types.now in
    let h = c.args.heap.now in
    subst (λ (s : Step). IsRelaid rows h c.open_whole.new.heap (layout_with (layout_in rows h) c.args.t s))
    (sym c.in-Begun.is)
    (front-opened rows h c.open_whole.new.heap c.args.t _ c.lawful.ensures c.requires.held
    (subst (HasFront (layout_in rows h) c.args.t) c.in-Begun.is c.requires.front) c.open_whole.ensures.relaid)
