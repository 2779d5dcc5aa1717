-- A handle that is dependent has a second local.
use Rattle.clr_lines.proofs.handles.obey_handle.Goals as goal

pub handle-requires : goal.handle-requires
handle-requires c = record { form = (rw c.in-Handle.is at c.requires.formed).2 }
