-- The words of the heap that is read back: those that were written.
use Rattle.std.proofs.Common.{◌≡◌, ℕ, ◌+◌, ◌-◌, ◌*◌, ◌/◌, ◌%◌, ◌<◌, ◌≤◌, Bool, true, false, if◌then◌else◌}
use Rattle.std.proofs.Common.{List, [], ◌∷◌, ◌++◌, append-nil, append_assoc, arith, ap, get_or, length}
use Rattle.std.proofs.Common.{map, sym, ◌∙◌, zero, suc}
use Rattle.std.proofs.lemmas.List.{length-replicate}
use Rattle.std.proofs.Math.ListN.{get_or-append}
use Rattle.std.proofs.Math.Seq.{get_or-append_right}
use Rattle.std.specs.List.{AllByRecursion}
use Rattle.clr_mem.specs.Words.{word_at, zeros}
use Rattle.clr_types.specs.Segments.{reserved_end}
use Rattle.clr_heap.specs.Memories.{contains, word_in}
use Rattle.clr_heap.specs.View.{HeapView}
use Rattle.clr_types.specs.Types.{TypeRow}
use Rattle.clr_save.proofs.SavedFills.{written_from, written_segment}
use Rattle.clr_save.specs.WrittenHeap.{heap_after, heap_behind, memory_of_segment, word_among, WrittenSegment}

-- the memories of the segments, one behind the other
pub memories-after : (h : HeapView) (segs : List WrittenSegment)
    → (heap_after h segs).memories ≡ h.memories ++ map memory_of_segment segs
memories-after h [] = sym (append-nil h.memories)
memories-after h (seg ∷ segs) =
    memories-after (heap_behind h seg) segs
    ∙ append_assoc h.memories (memory_of_segment seg ∷ []) (map memory_of_segment segs)

-- the word at an address is read in the one segment that reserves it
pub word-found : (before : List WrittenSegment) (seg : WrittenSegment) (after : List WrittenSegment) (a : ℕ)
    → AllByRecursion (λ (s : WrittenSegment). contains (memory_of_segment s) a ≡ false) before
    → contains (memory_of_segment seg) a ≡ true
    → word_in (map memory_of_segment (before ++ seg ∷ after)) a ≡ word_at (memory_of_segment seg) a
word-found [] seg after a all own =
    ap (λ (b : Bool). if b then word_at (memory_of_segment seg) a else word_in (map memory_of_segment after) a) own
word-found (s ∷ before) seg after a all own =
    ap (λ (b : Bool). if b then word_at (memory_of_segment s) a
    else word_in (map memory_of_segment (before ++ seg ∷ after)) a) all.0
    ∙ word-found before seg after a all.1 own

pub zeros-count : (n : ℕ) → length (zeros n) ≡ n
unfolding zeros
zeros-count n = length-replicate {A = ℕ} n 0

-- and there it is the word that was written
pub word-own : (seg : WrittenSegment) (a : ℕ) → seg.head.info.base % 8 ≡ 0 → a % 8 ≡ 0
    → seg.head.info.base + 0xff8 ≤ a → a < seg.head.info.base + 0xff8 + 8 * length seg.words
    → word_at (memory_of_segment seg) a ≡ word_among seg a
word-own seg a base aligned low high =
    let j = (a - (seg.head.info.base + 0xff8)) / 8 in
    let back = zeros ((reserved_end seg.head.info - seg.head.info.end) / 8 + 1) in
    let count : length (zeros 511) ≡ 511 = zeros-count 511 in
    let i = (a - seg.head.info.base) / 8 in
    let past : length (zeros 511) ≤ (a - seg.head.info.base) / 8 = omega (arith, low, count) in
    let at : (a - seg.head.info.base) / 8 - length (zeros 511) ≡ (a - (seg.head.info.base + 0xff8)) / 8 =
    omega (arith, base, aligned, low, count) in
    get_or-append_right (zeros 511) (seg.words ++ back) i 0 past
    ∙ ap (λ (n : ℕ). get_or (seg.words ++ back) n 0) at
    ∙ get_or-append seg.words back 0 j (omega (arith, low, high))

-- segment k among those that are written
pub written-cut : (rows : List TypeRow) (h : HeapView) (s k m : ℕ) → k < m → written_from rows h s m
    ≡ written_from rows h s k ++ written_segment rows h (s + k) ∷ written_from rows h (s + k + 1) (m - (k + 1))
written-cut rows h s k zero l = absurd (omega arith)
written-cut rows h s zero (suc m) l =
    let at : s ≡ s + 0 = omega arith in
    let rest : m ≡ suc m - (0 + 1) = omega arith in
    λ i. written_segment rows h (at i) ∷ written_from rows h (at i + 1) (rest i)
written-cut rows h s (suc k) (suc m) l =
    let at : s + 1 + k ≡ s + suc k = omega arith in
    let rest : m - (k + 1) ≡ suc m - (suc k + 1) = omega arith in
    ap (λ (segs : List WrittenSegment). written_segment rows h s ∷ segs) (written-cut rows h (s + 1) k m (omega arith))
    ∙ (λ i. written_segment rows h s ∷ (written_from rows h (s + 1) k
    ++ written_segment rows h (at i) ∷ written_from rows h (at i + 1) (rest i)))
