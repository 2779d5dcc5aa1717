use Rattle.clr_heap.proofs.Drafting.{drafted_is}
use Rattle.clr_heap.proofs.heap.draft.HeapDraft.add_segment.Goals as goal

pub invariant_of-self-2 : goal.invariant_of-self-2
invariant_of-self-2 c =
    let next = rw (← c.self.view_is) at c.requires.next in
    rw (
      c.push_both.ensures.memories,
      c.push_both.ensures.segments,
      c.reserve_both.ensures.memories,
      c.reserve_both.ensures.segments,
    )
    (drafted_is _ c.args.head _ _ _ c.self.invariant next c.requires.memory)
