use Rattle.clr_sos_tests.proofs.Contexts.{without_rests}
use Rattle.clr_sos_tests.proofs.tables.verified.Goals as goal

pub verifyheap-answer-requires : goal.verifyheap-answer-requires
verifyheap-answer-requires g c = record { holes = without_rests c.args.heap.now c.requires }
