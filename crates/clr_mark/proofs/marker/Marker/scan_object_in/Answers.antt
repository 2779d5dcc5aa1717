use Rattle.clr_mark.proofs.RunReferences.{run_references}
use Rattle.clr_mark.proofs.marker.Marker.scan_object_in.Goals as goal

pub scan_run-requires-clause-run : goal.scan_run-requires-clause-run
scan_run-requires-clause-run c = run_references c.args.types.now c.args.heap.now c.args.obj c.head_at-len.result.0
    c.head_at-len.result.1 c.in-Some.run' c.head_at-len.ensures.type_id c.head_at-len.ensures.len
    c.in-Some.ensures.spelled
