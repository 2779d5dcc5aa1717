use Rattle.clr_laws.proofs.SegmentStays.{keeps_segment_runs}
use Rattle.clr_laws.proofs.the_ephemeral_segment_keeps_its_length_over_runs.Goals as goal

pub returns : goal.returns
returns c = keeps_segment_runs
