-- The references are a run, or they are followed slot by slot.
use Rattle.clr_sos.proofs.reach.Reached.follow_item.Goals as goal

pub reference_run-requires : goal.reference_run-requires
reference_run-requires c = c.requires.entry.stands.known

pub follow_run-requires-clause-run : goal.follow_run-requires-clause-run
follow_run-requires-clause-run c = c.in-Some.ensures.spelled
