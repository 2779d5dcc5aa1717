use Rattle.std.proofs.Common.{◌≡◌, ◌≢◌, false, refl}
use Rattle.clr_types.specs.Segments.{same_kind}
use Rattle.clr_types.specs.declared.segment.SegKind.{SegKind}
use Rattle.clr_types.specs.declared.segment.SegKind.TheVariants.{Small, Ephemeral, Large, Pinned}
use Rattle.clr_heap.proofs.Changing.{kept_released}
use Rattle.clr_heap.proofs.heap.Heap.release.Goals as goal

other_kind : (kind : SegKind) → kind ≢ Ephemeral → same_kind Ephemeral kind ≡ false
other_kind Small h = refl
other_kind Ephemeral h = absurd (h refl)
other_kind Large h = refl
other_kind Pinned h = refl

pub invariant_of-self : goal.invariant_of-self
invariant_of-self c =
    let other = other_kind _ c.requires.not_ephemeral in
    rw (c.remove.ensures.items, c.remove-2.ensures.items)
    (kept_released _ c.args.k _ _ c.self.invariant (rw (← c.self.view_is) at c.requires.in_range)
    (rw (← c.self.view_is) at other))
