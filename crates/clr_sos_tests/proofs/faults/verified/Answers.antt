use Rattle.clr_sos_tests.proofs.Contexts.{without_rests}
use Rattle.clr_sos_tests.proofs.faults.verified.Goals as goal

pub verifyheap-answer-requires : goal.verifyheap-answer-requires
verifyheap-answer-requires g c = record { holes = without_rests c.args.heap.now c.requires }

pub verifyheap_with_room-requires-clause-holes : goal.verifyheap_with_room-requires-clause-holes
verifyheap_with_room-requires-clause-holes g c = without_rests c.args.heap.now c.requires
