use Rattle.clr_laws.proofs.SegmentStays.{keeps_segment}
use Rattle.clr_laws.proofs.the_ephemeral_segment_keeps_its_length.Goals as goal

pub returns : goal.returns
returns c = keeps_segment
