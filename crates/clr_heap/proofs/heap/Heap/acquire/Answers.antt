use Rattle.std.proofs.Common.{◌≡◌, ◌≢◌, ◌+◌, ◌^◌, ◌≤◌, false, refl, rules}
use Rattle.clr_types.specs.declared.segment.SegKind.{SegKind}
use Rattle.clr_types.specs.declared.segment.SegKind.TheVariants.{Small, Ephemeral, Large, Pinned}
use Rattle.clr_types.specs.Segments.{reserved_sum, same_kind}
use Rattle.clr_heap.specs.View.{frame}
use Rattle.clr_heap.proofs.Changing.{kept_with_ephemeral, kept_with_other}
use Rattle.clr_heap.proofs.heap.Heap.acquire.Goals as goal

-- a kind that is none of the small heap
other_kind : (kind : SegKind) → kind ≢ Small → kind ≢ Ephemeral → (same_kind Ephemeral kind ≡ false)
    × (same_kind Small kind ≡ false)
other_kind Small small young = absurd (small refl)
other_kind Ephemeral small young = absurd (young refl)
other_kind Large small young = (refl, refl)
other_kind Pinned small young = (refl, refl)

pub invariant_of-self-then-eq : goal.invariant_of-self-then-eq
invariant_of-self-then-eq c =
    let kind : c.args.kind ≡ Ephemeral = search rules in
    let seen : reserved_sum (frame c.args.self.now) + c.args.size ≤ c.args.self.now.limit = search rules in
    let allowed = rw (← c.self.view_is) at seen in
    let top : c.self.inside.top ≤ 2 ^ 61 = search rules in
    rw (
      c.push_both.ensures.memories,
      c.push_both.ensures.segments,
      c.seal.ensures.items,
      c.reserve_both.ensures.memories,
      c.reserve_both.ensures.segments,
      c.in_ok-memory.ensures.value,
      c.first_place-first.ensures,
      c.empty-segment.ensures,
      kind,
    )
    (kept_with_ephemeral _ _ _ c.args.size c.self.invariant c.requires.aligned c.requires.least top allowed)

pub invariant_of-self-2 : goal.invariant_of-self-2
invariant_of-self-2 c =
    let other : c.args.kind ≢ Ephemeral = search rules in
    let (not_young, not_small) = other_kind c.args.kind c.requires.kind other in
    let seen : reserved_sum (frame c.args.self.now) + c.args.size ≤ c.args.self.now.limit = search rules in
    let allowed = rw (← c.self.view_is) at seen in
    let top : c.self.inside.top ≤ 2 ^ 61 = search rules in
    rw (
      c.push_both-2.ensures.memories,
      c.push_both-2.ensures.segments,
      c.reserve_both.ensures.memories,
      c.reserve_both.ensures.segments,
      c.in_ok-memory.ensures.value,
      c.empty-segment.ensures,
    )
    (kept_with_other _ _ _ c.args.size c.self.invariant c.requires.aligned c.requires.least top allowed c.args.kind
    not_young not_small)
