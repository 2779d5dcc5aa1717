-- The words of objects are read back.
use Rattle.std.proofs.Common.{◌≡◌, ℕ, zero, suc, ◌+◌, ◌-◌, ◌*◌, ◌/◌, ◌%◌, ◌<◌, ◌≤◌, ◌==◌, Bool, true, false}
use Rattle.std.proofs.Common.{◌&&◌, List, ◌∷◌, ◌++◌, arith, ap, length, map, refl, ◌∙◌, leb, length-append}
use Rattle.std.proofs.lemmas.Bool.{le-leb, le-ltb, lt-ltb}
use Rattle.std.specs.List.{AllByRecursion}
use Rattle.clr_mem.specs.Words.{end_of}
use Rattle.clr_types.specs.Rising.{IsIn}
use Rattle.clr_types.specs.Segments.{reserved_end}
use Rattle.clr_types.specs.Types.{TypeRow}
use Rattle.clr_types.specs.declared.item.Item.{Item}
use Rattle.clr_types.proofs.RisingLists.{all_at}
use Rattle.clr_heap.specs.Drafts.{empty_heap}
use Rattle.clr_heap.specs.Memories.{contains, word_in}
use Rattle.clr_heap.specs.View.{AreWalkable, first_of, HeapView, IsHeap, last_of, listing, segment_at, word_of}
use Rattle.clr_heap.proofs.Framing.{lawful_at}
use Rattle.clr_heap.proofs.Staying.{segment_order}
use Rattle.clr_format.specs.declared.head.Head.{Head}
use Rattle.clr_view.proofs.Items.{IsItem}
use Rattle.clr_view.proofs.Listings.{listing-are}
use Rattle.clr_save.proofs.LowBytes.{put_as}
use Rattle.clr_save.proofs.SavedFills.{segment-words, written_from, written_segment}
use Rattle.clr_save.specs.WrittenHeap.{heap_after, memory_of_segment, WrittenSegment}
use Rattle.clr_mem.specs.Words.{zeros}
use Rattle.clr_opened.proofs.ReadWords.{memories-after, word-found, word-own, written-cut, zeros-count}

all-written : (P : WrittenSegment → Type 0) (rows : List TypeRow) (h : HeapView) (s n : ℕ)
    → ((j : ℕ) → s ≤ j → j < s + n → P (written_segment rows h j)) → AllByRecursion P (written_from rows h s n)
all-written P rows h s zero each = tt
all-written P rows h s (suc n) each = (
  each s (omega arith) (omega arith),
  all-written P rows h (s + 1) n (λ j low high. each j (omega arith) (omega arith)),
)

none-and : (b : Bool) → (b && false) ≡ false
none-and true = refl
none-and false = refl

module _ (rows : List TypeRow) (h : HeapView) (heap : IsHeap h) (head : Head) (few : length rows ≤ 1000)
    (walkable : AreWalkable rows h)
    (counts : (j : ℕ) → j < length h.segments
    → 8 * length (written_segment rows h j).words ≡ last_of h j - first_of h j)
  where
    -- the memory of a segment is as long as the segment reserves
    ends : (j : ℕ) → j < length h.segments → end_of (memory_of_segment (written_segment rows h j))
        ≡ reserved_end (segment_at h j)
    ends j l =
        let seg = written_segment rows h j in
        let s = segment_at h j in
        let lawful = lawful_at h j heap l in
        let base = lawful.base in
        let reserved = lawful.reserved in
        let low = lawful.low in
        let high = lawful.high in
        let aligned = lawful.aligned in
        let count = counts j l in
        let back = zeros ((reserved_end s - s.end) / 8 + 1) in
        let a = length-append (zeros 511) (seg.words ++ back) in
        let b = length-append seg.words back in
        let c = zeros-count 511 in
        let d = zeros-count ((reserved_end s - s.end) / 8 + 1) in
        omega (arith, base, reserved, low, high, aligned, count, a, b, c, d)

    -- THE WORDS OF OBJECTS, but for what doesn't fit in eight bytes
    pub read-word : (limit k : ℕ) → k < length h.segments → (i : Item) → IsIn i (listing rows h k)
        → (i.type_id.0 == 0) ≡ false → (a : ℕ) → a % 8 ≡ 0 → i.place ≤ a + 8 → a + 8 < i.place + i.size
        → word_of (heap_after (empty_heap limit) (written_from rows h 0 (length h.segments))) a ≡ put_as (word_of h a)
    read-word limit k l i listed object a aligned low high =
        let seg = written_segment rows h k in
        let s = segment_at h k in
        let lawful = lawful_at h k heap l in
        let base = lawful.base in
        let is : IsItem rows (first_of h k) (last_of h k) i =
        all_at (IsItem rows (first_of h k) (last_of h k)) listed (listing-are rows h walkable k l) in
        let above = is.above in
        let below = is.below in
        let most = lawful.high in
        let count = counts k l in
        let end = ends k l in
        let from : s.base ≤ a = omega arith in
        let to : a < end_of (memory_of_segment seg) = omega (arith, end, below, high, most) in
        let own : contains (memory_of_segment seg) a ≡ true =
        (λ j. le-leb s.base a from j && lt-ltb a (end_of (memory_of_segment seg)) to j) in
        let before = all-written (λ (t : WrittenSegment). contains (memory_of_segment t) a ≡ false) rows h 0 k
        (λ j zero_up under.
        (let order = segment_order h j k heap (omega (arith, under)) l in
        let own_end = ends j (omega (arith, under, l)) in
        let past : end_of (memory_of_segment (written_segment rows h j)) ≤ a = omega (arith, order, own_end, from) in
        ap (λ (b : Bool). leb (segment_at h j).base a && b)
        (le-ltb a (end_of (memory_of_segment (written_segment rows h j))) past)
        ∙ none-and (leb (segment_at h j).base a))) in
        let at : 0 + k ≡ k = omega arith in
        let cut = written-cut rows h 0 k (length h.segments) l
        ∙ (λ j. written_from rows h 0 k
        ++ written_segment rows h (at j) ∷ written_from rows h (at j + 1) (length h.segments - (k + 1))) in
        ap (λ ms. word_in ms a) (memories-after (empty_heap limit) (written_from rows h 0 (length h.segments)))
        ∙ ap (λ (segs : List WrittenSegment). word_in (map memory_of_segment segs) a) cut
        ∙ word-found (written_from rows h 0 k) seg (written_from rows h (k + 1) (length h.segments - (k + 1))) a
        before own
        ∙ word-own seg a (omega (arith, base)) aligned (omega (arith, above, low))
        (omega (arith, count, below, high, above, low))
        ∙ segment-words rows h heap head few k l (walkable k l) i listed object a aligned low high
