use Rattle.clr_mark.proofs.Laws.{grayed-refl}
use Rattle.clr_mark.proofs.marker.Marker.follow_if_over.Goals as goal

pub returns-else-len-limit : goal.returns-else-len-limit
returns-else-len-limit c = record { grayed = grayed-refl c.args.types.now c.args.heap.now c.args.self.now }
