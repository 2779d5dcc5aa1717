-- Where no place is asked for, none is tested.
use Rattle.clr_heap.specs.View.{frame}
use Rattle.clr_sos.specs.Wants.{has_place}
use Rattle.clr_sos.proofs.FoundSegments.{region-told}
use Rattle.clr_sos.proofs.places.region_of.Goals as goal

pub returns : goal.returns
returns c = λ p.
    region-told (frame c.args.heap.now) c.args.g c.args.base p c.is_anywhere.result
    (has_place c.places_of_generation.result p) (has_place c.places_of_segment.result p) c.is_anywhere.ensures
    (c.places_of_generation.ensures p) (c.places_of_segment.ensures p)
