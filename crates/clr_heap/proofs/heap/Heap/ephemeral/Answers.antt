use Rattle.std.proofs.Common.{◌<◌, ◌∙◌, ap, length, subst, sym}
use Rattle.clr_heap.specs.View.{IsKept, segment_at}
use Rattle.clr_heap.proofs.Young.{young_in_range, young_segment, young_word}
use Rattle.clr_heap.proofs.heap.Heap.ephemeral.Goals as goal

pub segment_of-requires : goal.segment_of-requires
segment_of-requires c = rw (← c.self.view_is) (young_word _ _ _ c.self.invariant)

pub returns-clause-in_range : goal.returns-clause-in_range
returns-clause-in_range c =
    let h = c.args.self.now in
    let kept : IsKept h c.self.inside.ephemeral_first c.self.inside.ephemeral_end =
    rw (← c.self.view_is) c.self.invariant in
    subst (λ k. k < length h.segments) (sym c.segment_of.ensures)
    (young_in_range h c.self.inside.ephemeral_first c.self.inside.ephemeral_end kept)

pub returns-clause-segment : goal.returns-clause-segment
returns-clause-segment c =
    let h = c.args.self.now in
    let kept : IsKept h c.self.inside.ephemeral_first c.self.inside.ephemeral_end =
    rw (← c.self.view_is) c.self.invariant in
    ap (segment_at h) c.segment_of.ensures ∙ young_segment h c.self.inside.ephemeral_first c.self.inside.ephemeral_end
    kept
