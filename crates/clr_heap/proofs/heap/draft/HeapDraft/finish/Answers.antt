use Rattle.std.proofs.Common.{sym, ◌∙◌, arith}
use Rattle.clr_heap.proofs.Drafting.{draft_kept, no_ephemeral, young_small}
use Rattle.clr_heap.proofs.heap.draft.HeapDraft.finish.Goals as goal

pub unreachable-requires : goal.unreachable-requires
unreachable-requires c =
    let one = rw (← c.self.view_is) at c.requires.one_ephemeral in
    let none = no_ephemeral c.self.inside.segments.items (sym c.ephemeral_of.ensures ∙ c.in_default.is) in
    absurd (omega arith)

pub overflow_add-result : goal.overflow_add-result
overflow_add-result c =
    let small = young_small _ c.in-Some.young c.self.invariant (sym c.ephemeral_of.ensures ∙ c.in-Some.is) in
    let high = small.0 in
    omega arith

pub overflow_add-result-2 : goal.overflow_add-result-2
overflow_add-result-2 c =
    let small = young_small _ c.in-Some.young c.self.invariant (sym c.ephemeral_of.ensures ∙ c.in-Some.is) in
    let high = small.1 in
    omega arith

pub invariant_of-result : goal.invariant_of-result
invariant_of-result c =
    let one = rw (← c.self.view_is) at c.requires.one_ephemeral in
    let last = rw (← c.self.view_is) at c.requires.ephemeral_last in
    draft_kept _ c.in-Some.young c.self.invariant one last (sym c.ephemeral_of.ensures ∙ c.in-Some.is)
