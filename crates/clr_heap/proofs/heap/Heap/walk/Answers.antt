use Rattle.std.proofs.Common.{arith}
use Rattle.clr_heap.specs.View.{first_of, last_of, sight}
use Rattle.clr_heap.proofs.Walking.{few_items}
use Rattle.clr_heap.proofs.heap.Heap.walk.Goals as goal

pub returns-clause-few : goal.returns-clause-few
returns-clause-few c =
    let h = c.args.self.now in
    let few = few_items (sight c.args.types.now h c.args.k) h.memories (first_of h c.args.k)
    (last_of h c.args.k) c.requires.walkable in
    let high = c.info-segment.ensures.lawful.high in
    let top = c.info-segment.ensures.below_top in
    let fits = c.info-segment.ensures.fits in
    rw (c.first_place-place.ensures, c.info-segment.ensures.value) (omega (arith, few, high, top, fits))
