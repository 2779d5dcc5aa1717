use Rattle.std.proofs.Common.{◌≡◌, drop, find}
use Rattle.clr_types.specs.Segments.{same_kind}
use Rattle.clr_types.specs.declared.segment.SegInfo.{SegInfo}
use Rattle.clr_types.specs.declared.segment.SegKind.TheVariants.{Ephemeral}
use Rattle.clr_heap.proofs.heap.draft.ephemeral_of.Given as goal

-- the segments so far aren't ephemeral
abbrev pub invariant-loop-s : goal.invariant-loop-s
invariant-loop-s l =
    find (λ (s : SegInfo). same_kind Ephemeral s.kind) (drop l.s-index l.segments.items)
    ≡ find (λ (s : SegInfo). same_kind Ephemeral s.kind) l.segments.items
