-- The bricks of what segments reserve have entries.
use Rattle.std.proofs.Common.{◌≡◌, ℕ, ◌*◌, ◌/◌, ◌<◌, ◌≤◌, ◌⊎◌, inl, inr, length, List, [], get_or, ap, refl}
use Rattle.std.proofs.Common.{subst, ◌∙◌, sym, arith, Bool, true, false, ℤ, pos}
use Rattle.std.proofs.lemmas.List.{get_or-map, length-map}
use Rattle.clr_types.specs.Segments.{empty_segment, reserved_end}
use Rattle.clr_bricks.specs.Bricks.{entry_at}
use Rattle.clr_covers.specs.Covers.{CoverView, is_covered, span_of, spans}
use Rattle.clr_covers.proofs.Finding.{at_index, cover_index, covered_index, unit_bounds}
use Rattle.clr_covers.proofs.Changing.{value_at-uncovered}
use Rattle.clr_covers.proofs.Spans.{is_covered-spans}
use Rattle.clr_heap.specs.View.{frame, HeapView, IsHeap, segment_at}
use Rattle.clr_heap.proofs.Framing.{lawful_at}
use Rattle.clr_generations.specs.Tables.{AreBricksOf, units_of}
use Rattle.clr_generations.proofs.Covered.{brick-covered}
use Rattle.clr_plugs.specs.BrickEntries.{BricksView, IsCovered}

-- covers of the same spans cover the same
pub covers-same : (bricks other : BricksView) → spans other ≡ spans bricks → (i : ℕ) → IsCovered bricks i
    → IsCovered other i
covers-same bricks other same i on = is_covered-spans other bricks i same ∙ on

pub brick-there : (h : HeapView) (k : ℕ) → IsHeap h → k < length h.segments → (bricks other : BricksView)
    → AreBricksOf (frame h) bricks → spans other ≡ spans bricks → (i : ℕ) → (segment_at h k).base ≤ i * 4096
    → i * 4096 < reserved_end (segment_at h k) → IsCovered other i
brick-there h k heap inside bricks other of same i low high =
    let whole : i * 4096 / 4096 ≡ i = omega arith in
    covers-same bricks other same i (subst (IsCovered bricks) whole (brick-covered h k (i * 4096) heap inside low high
    bricks of))

-- the cover of a brick is that of a segment
pub brick-from : (h : HeapView) (heap : IsHeap h) (bricks : BricksView) → AreBricksOf (frame h) bricks → (place : ℕ)
    → is_covered bricks (place / 4096) ≡ true → (k : ℕ) × (k < length h.segments) × ((segment_at h k).base ≤ place)
    × (place < reserved_end (segment_at h k))
brick-from h heap bricks of place on =
    let i = place / 4096 in
    let k = cover_index bricks i in
    let within : k < length bricks = covered_index bricks i on in
    let count : length bricks ≡ length h.segments = sym (length-map bricks span_of) ∙ ap length of
    ∙ length-map h.segments (units_of 4096) in
    let inside : k < length h.segments = omega (arith, within, count) in
    let d : CoverView ℤ = record { first = 0; values = [] } in
    let (low, high) = unit_bounds (get_or bricks k d) i (at_index bricks i d within) in
    let at : span_of (get_or bricks k d) ≡ units_of 4096 (segment_at h k) =
    sym (get_or-map span_of bricks k d (0, 0) within) ∙ ap (λ (us : List (ℕ × ℕ)). get_or us k (0, 0)) of
    ∙ get_or-map (units_of 4096) h.segments k empty_segment (0, 0) inside in
    let from = ap (λ (p : ℕ × ℕ). p.0) at in
    let number = ap (λ (p : ℕ × ℕ). p.1) at in
    let base = (lawful_at h k heap inside).base in
    let reserved = (lawful_at h k heap inside).reserved in
    (k, inside, omega (arith, low, from, base), omega (arith, high, from, number, base, reserved))

-- a brick of no segment has no entry
pub brick-none : (h : HeapView) (heap : IsHeap h) (bricks : BricksView) → AreBricksOf (frame h) bricks → (place : ℕ)
    → ((k : ℕ) → k < length h.segments → (place < (segment_at h k).base) ⊎ (reserved_end (segment_at h k) ≤ place))
    → pos 0 ≡ entry_at bricks (place / 4096)
brick-none h heap bricks of place none = go (is_covered bricks (place / 4096)) refl
  where
    go : (b : Bool) → is_covered bricks (place / 4096) ≡ b → pos 0 ≡ entry_at bricks (place / 4096)
    go false off = sym (value_at-uncovered bricks (pos 0) (place / 4096) off)
    go true on =
        let (k, inside, low, high) = brick-from h heap bricks of place on in
        elim (none k inside) [ inl l ↦ absurd (omega (arith, l, low)) | inr l ↦ absurd (omega (arith, l, high)) ]
