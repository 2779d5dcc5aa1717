-- The bit of the object's header.
use Rattle.std.proofs.Common.{ap, ◌∙◌}
use Rattle.clr_view.specs.View.{has_suppressed_bit}
use Rattle.clr_view.proofs.Headers.{suppressed-at}
use Rattle.clr_view.proofs.flags.is_suppressed.Goals as goal

pub returns : goal.returns
returns c =
    c.is_suppressed.ensures ∙ ap has_suppressed_bit c.header_of.ensures.value
    ∙ suppressed-at c.args.types.now c.args.heap.now c.args.place c.header_of.ensures.heap c.requires.held
    c.requires.stands
