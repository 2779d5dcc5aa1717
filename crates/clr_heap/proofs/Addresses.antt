-- Addresses that a segment reserves: their words can be read and written, and the number of their memory is the
-- segment's.
use Rattle.std.proofs.Common.{◌≡◌, ℕ, ◌+◌, ◌%◌, ◌<◌, ◌≤◌, List, [], length, get_or, ap, sym, ◌∙◌, subst, arith}
use Rattle.std.proofs.lemmas.List.{get_or-map}
use Rattle.clr_mem.specs.Words.{Memory, end_of}
use Rattle.clr_types.specs.Segments.{empty_segment, reserved_end}
use Rattle.clr_heap.specs.Memories.{HasWord, InOne, memory_index, shape_of, shapes}
use Rattle.clr_heap.specs.View.{HeapView, IsHeap, segment_at}
use Rattle.clr_heap.proofs.Framing.{count_is, held_in, memory_extent, memories_apart}
use Rattle.clr_heap.proofs.Moving.{index_unique}
use Rattle.clr_heap.proofs.Storing.{contains_from, HasWord-shapes, length-shapes, memory_index-shapes}

module _ (h : HeapView) (k a : ℕ) (heap : IsHeap h) (l : k < length h.segments) (low : (segment_at h k).base ≤ a) where
  pub has_word : a % 8 ≡ 0 → a < reserved_end (segment_at h k) → HasWord h.memories a
  has_word z high = record { aligned = z; inside = held_in h k a heap l low high }

  -- memory k is as long as segment k
  bounds_of : (d : Memory) → (get_or h.memories k d).base ≡ (segment_at h k).base
      × (end_of (get_or h.memories k d) ≡ reserved_end (segment_at h k))
  bounds_of d =
      let n = count_is h heap in
      let shape = memory_extent h.memories h.segments k d empty_segment heap.memories (omega arith) l in
      let base = ap (λ (p : ℕ × ℕ). p.0) shape in
      let size = ap (λ (p : ℕ × ℕ). p.1) shape in
      (omega arith, omega arith)

  pub index_is_segment : a < reserved_end (segment_at h k) → memory_index h.memories a ≡ k
  index_is_segment high =
      let d : Memory = record { base = 0; words = [] } in
      let n = count_is h heap in
      let b = bounds_of d in
      index_unique h.memories k a d (memories_apart h heap) (omega arith)
      (contains_from (get_or h.memories k d) a (omega arith) (omega arith))

  -- a range of whole words that a segment reserves lies in one memory
  pub in_one_segment : (n : ℕ) → a % 8 ≡ 0 → n % 8 ≡ 0 → 0 < n → a + n ≤ reserved_end (segment_at h k)
      → InOne h.memories a n
  in_one_segment n z zn some high = record {
    word = has_word z (omega arith);
    whole = zn;
    within = λ d.
        let b = bounds_of d in
        let at = index_is_segment (omega arith) in
        let P : ℕ → Type 0 = λ j. a + n ≤ end_of (get_or h.memories j d) in
        subst P (sym at) (omega arith);
  }

-- the same of other memories of the same shape
pub InOne-shapes : (ms ns : List Memory) (a n : ℕ) → shapes ns ≡ shapes ms → InOne ms a n → InOne ns a n
InOne-shapes ms ns a n e h =
    let d : Memory = record { base = 0; words = [] } in
    let same = memory_index-shapes ns ms a e in
    let count = length-shapes ns ms e in
    let inside = h.word.inside in
    let here : memory_index ns a < length ns = omega arith in
    record {
      word = HasWord-shapes ms ns a e h.word;
      whole = h.whole;
      within = λ d.
          let left = get_or-map shape_of ns (memory_index ns a) d (0, 0) here in
          let right = get_or-map shape_of ms (memory_index ns a) d (0, 0) (omega arith) in
          let shape : shape_of (get_or ns (memory_index ns a) d) ≡ shape_of (get_or ms (memory_index ns a) d) =
          sym left ∙ ap (λ (ps : List (ℕ × ℕ)). get_or ps (memory_index ns a) (0, 0)) e ∙ right in
          let ends : end_of (get_or ns (memory_index ns a) d) ≡ end_of (get_or ms (memory_index ns a) d) =
          ap (λ (p : ℕ × ℕ). p.0 + p.1) shape in
          let P : ℕ → Type 0 = λ j. a + n ≤ end_of (get_or ms j d) in
          let old : a + n ≤ end_of (get_or ms (memory_index ns a) d) = subst P (sym same) (h.within d) in
          rw ends old;
    }
