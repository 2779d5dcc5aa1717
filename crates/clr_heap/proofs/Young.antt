-- The number of the ephemeral segment, by its first place.
use Rattle.std.proofs.Common.{◌≡◌, ℕ, suc, ◌+◌, ◌<◌, List, [], ◌∷◌, length, get_or, refl, ap, sym, ◌∙◌, arith, inl, inr}
use Rattle.std.proofs.lemmas.Bool.{cases_Bool}
use Rattle.clr_types.specs.Segments.{empty_segment, ephemeral, first_place, same_kind, segment_or_empty}
use Rattle.clr_types.specs.declared.segment.SegInfo.{SegInfo}
use Rattle.clr_types.specs.declared.segment.SegKind.TheVariants.{Ephemeral}
use Rattle.clr_heap.specs.Memories.{HasWord, memory_index}
use Rattle.clr_heap.specs.View.{frame, HeapView, IsKept, segment_at}
use Rattle.clr_heap.proofs.Addresses.{has_word, index_is_segment}
use Rattle.clr_heap.proofs.Framing.{ephemerals, lawful_at}

-- the first ephemeral segment has a number
pub young_number : (ss : List SegInfo) → 0 < length (ephemerals ss)
    → (k : ℕ) × (k < length ss) × (get_or ss k empty_segment ≡ segment_or_empty (ephemerals ss))
young_number [] some = absurd (omega arith)
young_number (s ∷ ss) some = elim (cases_Bool (same_kind Ephemeral s.kind)) [
  | inl here ↦ (0, omega arith, rw here refl)
  | inr other ↦
      let more : 0 < length (ephemerals ss) = rw other at some in
      let found = young_number ss more in
      let l = found.1 in
      (suc found.0, omega arith, rw other found.2)
]

module _ (h : HeapView) (low high : ℕ) (kept : IsKept h low high) where
  abbrev found : (k : ℕ) × (k < length h.segments) × (segment_at h k ≡ ephemeral (frame h))
  found = let one = kept.heap.one_ephemeral in young_number h.segments (omega arith)

  k_base : (segment_at h found.0).base + 0x1000 ≡ low
  k_base = ap first_place found.2 ∙ sym kept.low

  -- its first place has a word
  pub young_word : HasWord h.memories low
  young_word =
      let is = lawful_at h found.0 kept.heap found.1 in
      let base = is.base in
      let least = is.least in
      let at = k_base in
      has_word h found.0 low kept.heap found.1 (omega arith) (omega arith) (omega arith)

  number_is : memory_index h.memories low ≡ found.0
  number_is =
      let is = lawful_at h found.0 kept.heap found.1 in
      let least = is.least in
      let at = k_base in
      index_is_segment h found.0 low kept.heap found.1 (omega arith) (omega arith)

  pub young_in_range : memory_index h.memories low < length h.segments
  young_in_range = let is = number_is in let l = found.1 in omega arith

  -- and the number of its memory is the segment's
  pub young_segment : segment_at h (memory_index h.memories low) ≡ ephemeral (frame h)
  young_segment = ap (segment_at h) number_is ∙ found.2
