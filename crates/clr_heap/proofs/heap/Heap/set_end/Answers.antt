use Rattle.std.proofs.Common.{◌≡◌, ◌+◌, ◌<◌, ◌≤◌, length, get_or, ap, ◌∙◌, arith}
use Rattle.std.proofs.lemmas.List.{get_or_default}
use Rattle.clr_types.specs.Segments.{empty_segment, ended_at, reserved_end}
use Rattle.clr_heap.specs.View.{HeapView}
use Rattle.clr_heap.proofs.Changing.{kept_ended}
use Rattle.clr_heap.proofs.heap.Heap.set_end.Goals as goal

pub invariant_of-self : goal.invariant_of-self
invariant_of-self c =
    let ss = c.self.inside.segments.items in
    let k = c.args.k in
    let count = ap (λ (h : HeapView). length h.segments) c.self.view_is in
    let within : k < length ss = omega (arith, c.requires.in_range) in
    let read : c.index_mut.result.now ≡ get_or ss k empty_segment =
    c.index_mut.ensures.value ∙ get_or_default ss k c.index_mut.result.now empty_segment within in
    let low : (get_or ss k empty_segment).base + 4096 ≤ c.args.end = rw (← c.self.view_is) at c.requires.above in
    let high : c.args.end ≤ reserved_end (get_or ss k empty_segment) = rw (← c.self.view_is) at c.requires.below in
    kept_ended _ k c.args.end _ _ _ c.self.invariant within (ap (ended_at c.args.end) read) low high c.requires.aligned
