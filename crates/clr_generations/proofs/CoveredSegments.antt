-- Covers of segments one after the other: each goes above those before it.
use Rattle.std.proofs.Common.{◌≡◌, ℕ, zero, suc, ◌+◌, ◌/◌, ◌<◌, ◌≤◌, List, [], ◌∷◌, ◌++◌, length, map, get_or, take}
use Rattle.std.proofs.Common.{ap, sym, ◌∙◌, subst, arith}
use Rattle.std.proofs.lemmas.List.{map-append, take_more}
use Rattle.std.specs.List.{AllByRecursion}
use Rattle.clr_types.specs.LawfulLayout.{AreDisjoint, IsLawfulSegment}
use Rattle.clr_types.specs.Segments.{empty_segment, reserved_end}
use Rattle.clr_types.specs.declared.segment.SegInfo.{SegInfo}
use Rattle.clr_types.proofs.ChangedLists.{all-map, all_imply}
use Rattle.clr_covers.specs.Covers.{cover_of, CoverView, same_values, spans, with_cover}
use Rattle.clr_covers.proofs.Changing.{length-same_values}
use Rattle.clr_covers.proofs.Spans.{EndBelow, spans-with_cover_last}
use Rattle.clr_heap.specs.View.{HeapView, IsHeap, segment_at}
use Rattle.clr_heap.proofs.Framing.{all_at}
use Rattle.clr_generations.specs.Tables.{units_of}

-- a lawful segment that ends at b or below
record EndsBelow (b : ℕ) (s : SegInfo) : Type 0 where
  lawful : IsLawfulSegment s
  below : reserved_end s ≤ b

-- so it is with the segments before segment k
ends-before : (ss : List SegInfo) (k : ℕ) → AllByRecursion IsLawfulSegment ss → AreDisjoint ss → k < length ss
    → AllByRecursion (EndsBelow (get_or ss k empty_segment).base) (take k ss)
ends-before [] k a d l = absurd (omega arith)
ends-before (s ∷ ss) zero a d l = tt
ends-before (s ∷ ss) (suc k) a d l = (
  record {
    lawful = a.0;
    below = all_at (λ (r : SegInfo). reserved_end s ≤ r.base) ss k empty_segment d.0 (omega arith);
  },
  ends-before ss k a.1 d.1 (omega arith),
)

module _ (h : HeapView) (heap : IsHeap h) (k : ℕ) (l : k < length h.segments) where
  abbrev base : ℕ
  base = (segment_at h k).base

  before : AllByRecursion (EndsBelow base) (take k h.segments)
  before = ends-before h.segments k heap.segments heap.disjoint l

  -- their cards end at that of its base or below
  pub cards-below : {X : Type 0} (cs : List (CoverView X)) → spans cs ≡ map (units_of 2048) (take k h.segments)
      → EndBelow (base / 2048) (spans cs)
  cards-below cs e =
      subst (EndBelow (base / 2048)) (sym e)
      (all-map (units_of 2048) (λ (u : ℕ × ℕ). u.0 + u.1 ≤ base / 2048) (take k h.segments)
      (all_imply (EndsBelow base) (λ (s : SegInfo). s.base / 2048 + s.reserved / 2048 ≤ base / 2048)
      (take k h.segments)
      (λ s b. let low = b.lawful.base in let whole = b.lawful.reserved in let below = b.below in omega arith) before))

  -- and so do their bricks
  pub bricks-below : {X : Type 0} (cs : List (CoverView X)) → spans cs ≡ map (units_of 4096) (take k h.segments)
      → EndBelow (base / 4096) (spans cs)
  bricks-below cs e =
      subst (EndBelow (base / 4096)) (sym e)
      (all-map (units_of 4096) (λ (u : ℕ × ℕ). u.0 + u.1 ≤ base / 4096) (take k h.segments)
      (all_imply (EndsBelow base) (λ (s : SegInfo). s.base / 4096 + s.reserved / 4096 ≤ base / 4096)
      (take k h.segments)
      (λ s b. let low = b.lawful.base in let whole = b.lawful.reserved in let below = b.below in omega arith) before))

  -- one segment more is covered
  pub spans-more : {X : Type 0} (v : X) (unit : ℕ) (cs new : List (CoverView X)) (s : SegInfo) → s ≡ segment_at h k
      → spans cs ≡ map (units_of unit) (take k h.segments) → EndBelow (base / unit) (spans cs)
      → new ≡ with_cover (cover_of (s.base / unit) (same_values v (s.reserved / unit))) cs
      → spans new ≡ map (units_of unit) (take (k + 1) h.segments)
  spans-more v unit cs new s is e below new_is =
      let units : ℕ × ℕ → List (ℕ × ℕ) = λ u. u ∷ [] in
      let count = length-same_values v (s.reserved / unit) in
      let same : (s.base / unit, length (same_values v (s.reserved / unit))) ≡ units_of unit (segment_at h k) =
      (λ i. (s.base / unit, count i)) ∙ ap (units_of unit) is in
      ap spans new_is
      ∙ spans-with_cover_last (cover_of (s.base / unit) (same_values v (s.reserved / unit))) cs
      (subst (λ (r : SegInfo). EndBelow (r.base / unit) (spans cs)) (sym is) below)
      ∙ (λ i. e i ++ units (same i))
      ∙ sym (map-append (units_of unit) (take k h.segments) (segment_at h k ∷ []))
      ∙ ap (map (units_of unit)) (sym (take_more h.segments k empty_segment l))
