-- The cards and bricks that a heap has: those of each address that a segment reserves.
use Rattle.std.proofs.Common.{◌≡◌, ℕ, ◌+◌, ◌/◌, ◌<◌, ◌≤◌, true, List, length, map, get_or, ap, sym, ◌∙◌, arith, ℤ}
use Rattle.std.proofs.lemmas.List.{get_or-map, length-map}
use Rattle.clr_types.specs.Segments.{empty_segment, reserved_end}
use Rattle.clr_types.specs.declared.segment.SegInfo.{SegInfo}
use Rattle.clr_covers.specs.Covers.{CoverView, is_covered, span_of, spans}
use Rattle.clr_covers.proofs.Spans.{HasAll-covered, HasAll-span}
use Rattle.clr_heap.specs.View.{frame, HeapView, IsHeap, segment_at}
use Rattle.clr_heap.proofs.Framing.{lawful_at}
use Rattle.clr_generations.specs.Tables.{AreBricksOf, AreCardsOf, units_of}

-- the units of segment k are covered
unit-covered : {X : Type 0} (cs : List (CoverView X)) (ss : List SegInfo) (unit k i : ℕ)
    → spans cs ≡ map (units_of unit) ss → k < length ss → (get_or ss k empty_segment).base / unit ≤ i
    → i < (get_or ss k empty_segment).base / unit + (get_or ss k empty_segment).reserved / unit
    → is_covered cs i ≡ true
unit-covered cs ss unit k i e l low high =
    let count : length cs ≡ length ss =
    sym (length-map cs span_of) ∙ ap length e ∙ length-map ss (units_of unit) in
    let at : get_or (spans cs) k (0, 0) ≡ units_of unit (get_or ss k empty_segment) =
    ap (λ (us : List (ℕ × ℕ)). get_or us k (0, 0)) e ∙ get_or-map (units_of unit) ss k empty_segment (0, 0) l in
    let from = ap (λ (p : ℕ × ℕ). p.0) at in
    let number = ap (λ (p : ℕ × ℕ). p.1) at in
    HasAll-covered cs (get_or (spans cs) k (0, 0)).0
    ((get_or (spans cs) k (0, 0)).0 + (get_or (spans cs) k (0, 0)).1) i (HasAll-span cs k (omega arith)) (omega arith)
    (omega arith)

module _ (h : HeapView) (k a : ℕ) (heap : IsHeap h) (l : k < length h.segments)
    (low : (segment_at h k).base ≤ a) (high : a < reserved_end (segment_at h k)) where
  -- the card of the address
  pub card-covered : (cards : List (CoverView ℕ)) → AreCardsOf (frame h) cards → is_covered cards (a / 2048) ≡ true
  card-covered cards e =
      let lawful = lawful_at h k heap l in
      let base = lawful.base in
      let reserved = lawful.reserved in
      unit-covered cards h.segments 2048 k (a / 2048) e l (omega arith) (omega arith)

  -- and its brick
  pub brick-covered : (bricks : List (CoverView ℤ)) → AreBricksOf (frame h) bricks
      → is_covered bricks (a / 4096) ≡ true
  brick-covered bricks e =
      let lawful = lawful_at h k heap l in
      let base = lawful.base in
      let reserved = lawful.reserved in
      unit-covered bricks h.segments 4096 k (a / 4096) e l (omega arith) (omega arith)
