use Rattle.std.proofs.Common.{sym, ◌∙◌}
use Rattle.clr_heap.specs.View.{sight}
use Rattle.clr_heap.proofs.Walking.{walk_done}
use Rattle.clr_heap.proofs.walk.WalkIterator.next.Goals as goal

pub returns-then-spot-now-clause-steps : goal.returns-then-spot-now-clause-steps
returns-then-spot-now-clause-steps c =
    let now = c.self.inside.cursor in
    let spot = c.past_holes-spot in
    let none = walk_done (sight now.types.now now.heap.now now.k) now.heap.now.memories spot.result.place now.end
    spot.ensures.walk c.if-spot-now.true in
    (sym c.self.view_is ∙ sym spot.ensures.same ∙ none, none)
