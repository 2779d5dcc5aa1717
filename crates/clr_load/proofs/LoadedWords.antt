-- The words of a heap that was read are those of its image.
use Rattle.std.proofs.Common.{◌≡◌, ℕ, ◌+◌, ◌-◌, ◌*◌, ◌/◌, ◌%◌, ◌<◌, ◌≤◌, nat_le, Bool, true, false, cond, List, ◌++◌}
use Rattle.std.proofs.Common.{length, drop, get_or, sym, ◌∙◌, ap, arith, Some, None}
use Rattle.std.proofs.lemmas.List.{drop-drop, get_or_append_left, get_or-append_right}
use Rattle.byteorder.specs.Endian.{little_from}
use Rattle.clr_mem.specs.Words.{Memory, spelled, word_at, words_of, zeros}
use Rattle.clr_mem.proofs.Callers.{length-zeros}
use Rattle.clr_mem.proofs.Spelling.{get_or-words_of, length-words_of}
use Rattle.clr_types.specs.Segments.{first_place, reserved_end}
use Rattle.clr_types.specs.declared.segment.SegInfo.{SegInfo}
use Rattle.clr_heap.specs.Filled.{memory_from}
use Rattle.clr_heap.specs.View.{first_of, HeapView, IsHeap, last_of, segment_at, word_of}
use Rattle.clr_heap.proofs.Addresses.{index_is_segment}
use Rattle.clr_heap.proofs.Framing.{count_is, lawful_at}
use Rattle.clr_heap.proofs.Storing.{get_memory}
use Rattle.clr_fields.specs.Fields as fields
use Rattle.clr_format.specs.HeapFields.{words_from}
use Rattle.clr_load.proofs.CarriedItems.{Carries}

-- a word that is there
word_is : (bytes : List ℕ) (o w : ℕ) → fields.word_at bytes o ≡ Some w → spelled (drop o bytes) ≡ w
unfolding fields.word_at spelled
word_is bytes o w e = go (nat_le (o + 8) (length bytes)) e
  where
    go : (t : Bool) → cond t (Some (little_from 0 8 (drop o bytes))) None ≡ Some w → little_from 0 8 (drop o bytes) ≡ w
    go true e = cc
    go false e = absurd cc

module _ (bytes : List ℕ) (s : SegInfo) (o : ℕ) where
  -- word j of the memory
  memory_word : (j : ℕ) → j < (s.end - first_place s) / 8
      → get_or (memory_from bytes s o).words (511 + j) 0 ≡ spelled (drop (o + 8 * j) bytes)
  memory_word j l =
      let front = length-zeros 511 in
      let count = length-words_of ((s.end - first_place s) / 8) (drop o bytes) in
      let at : 511 + j - 511 ≡ j = omega arith in
      get_or-append_right (zeros 511) (words_of ((s.end - first_place s) / 8) (drop o bytes)
      ++ zeros ((reserved_end s - s.end) / 8 + 1)) 511 (511 + j) 0 front (omega arith)
      ∙ ap (λ (i : ℕ). get_or (words_of ((s.end - first_place s) / 8) (drop o bytes)
      ++ zeros ((reserved_end s - s.end) / 8 + 1)) i 0) at
      ∙ get_or_append_left (words_of ((s.end - first_place s) / 8) (drop o bytes))
      (zeros ((reserved_end s - s.end) / 8 + 1)) 0 j (omega arith)
      ∙ get_or-words_of ((s.end - first_place s) / 8) j (drop o bytes) l
      ∙ ap spelled (drop-drop (8 * j) o bytes)

  -- the word at an address
  address_word : (a w : ℕ) → s.base % 8 ≡ 0 → a % 8 ≡ 0 → first_place s ≤ a + 8 → a + 8 < s.end → s.end % 8 ≡ 0
      → words_from bytes s o a ≡ Some w → word_at (memory_from bytes s o) a ≡ w
  address_word a w base z low high whole e =
      let j = (a - (s.base + 0xff8)) / 8 in
      let at : (a - s.base) / 8 ≡ 511 + (a - (s.base + 0xff8)) / 8 = omega arith in
      let back : o + 8 * ((a - (s.base + 0xff8)) / 8) ≡ o + (a - (s.base + 0xff8)) = omega arith in
      ap (λ (i : ℕ). get_or (memory_from bytes s o).words i 0) at
      ∙ memory_word ((a - (s.base + 0xff8)) / 8) (omega arith)
      ∙ ap (λ (i : ℕ). spelled (drop i bytes)) back
      ∙ word_is bytes (o + (a - (s.base + 0xff8))) w e

-- THE WORDS of segment k, whose memory stands in the bytes
pub words_carried : (bytes : List ℕ) (h : HeapView) (k o : ℕ) (d : Memory) → IsHeap h → k < length h.segments
    → get_or h.memories k d ≡ memory_from bytes (segment_at h k) o
    → Carries (words_from bytes (segment_at h k) o) (λ a. Some (word_of h a)) (first_of h k) (last_of h k)
words_carried bytes h k o d heap l is a w z low high e =
    let lawful = lawful_at h k heap l in
    let base = lawful.base in
    let up = lawful.high in
    let whole = lawful.aligned in
    let count = count_is h heap in
    let index = index_is_segment h k a heap l (omega arith) (omega arith) in
    ap Some
    (sym (get_memory h.memories a d (omega arith))
    ∙ ap (λ (i : ℕ). word_at (get_or h.memories i d) a) index
    ∙ ap (λ (m : Memory). word_at m a) is
    ∙ address_word bytes (segment_at h k) o a w (omega arith) z low high whole e)
