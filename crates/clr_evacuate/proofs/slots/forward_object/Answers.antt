use Rattle.clr_view.proofs.Listed.{listed-known}
use Rattle.clr_evacuate.proofs.slots.forward_object.Goals as goal

pub reference_run-requires : goal.reference_run-requires
reference_run-requires c =
    listed-known c.args.types.now c.args.heap.now c.args.found.now c.requires.heap c.requires.held c.requires.listed
