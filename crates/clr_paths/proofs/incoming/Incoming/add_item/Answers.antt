-- The references are a run, or they are taken one by one.
use Rattle.clr_paths.proofs.incoming.Incoming.add_item.Goals as goal

pub reference_run-requires : goal.reference_run-requires
reference_run-requires c = c.requires.item.stands.known

pub add_run-requires-clause-run : goal.add_run-requires-clause-run
add_run-requires-clause-run c = c.in-Some.ensures.spelled
