-- An object stands in a segment.
use Rattle.clr_sos.proofs.Seen.{numbered}
use Rattle.clr_sos.proofs.reach.Reached.meet.Goals as goal

pub segment_of-k-requires : goal.segment_of-k-requires
segment_of-k-requires c = (numbered c.args.view.now c.requires.sound c.args.place c.requires.stands).word
