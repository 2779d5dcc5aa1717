use Rattle.std.proofs.Common.{ap, ◌∙◌}
use Rattle.clr_types.specs.declared.handle.Kind.TheVariants.{Pinned}
use Rattle.clr_handles.specs.Tops.{pinned_in}
use Rattle.clr_handles.proofs.PinnedCounts.{pinned_is}
use Rattle.clr_handles.proofs.handles.Handles.pinned_count.Goals as goal

pub returns : goal.returns
returns c = c.self.invariant.1 Pinned ∙ pinned_is c.self.inside.rows ∙ ap pinned_in c.self.view_is
