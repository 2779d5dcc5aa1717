-- The segments of a heap as they are written: their words, how many these are, and their items.
use Rattle.std.proofs.Common.{◌≡◌, ℕ, zero, suc, ◌+◌, ◌-◌, ◌*◌, ◌/◌, ◌%◌, ◌^◌, ◌≤◌, ◌<◌, ◌==◌, Bool, true, false}
use Rattle.std.proofs.Common.{List, [], ◌∷◌, ◌++◌, length, refl, ap, ap₂, sym, ◌∙◌, subst, arith}
use Rattle.std.proofs.lemmas.List.{length-append}
use Rattle.std.specs.List.{AllByRecursion, flat_map}
use Rattle.clr_mem.specs.Words.{zeros}
use Rattle.clr_types.specs.Rising.{IsIn}
use Rattle.clr_types.specs.Segments.{first_place}
use Rattle.clr_types.specs.Types.{TypeRow}
use Rattle.clr_types.specs.declared.item.Item.{Item}
use Rattle.clr_types.proofs.ListMembers.{both_all}
use Rattle.clr_heap.specs.Parts.{item_part, Part, rest_part, Sight, Spells}
use Rattle.clr_heap.specs.View.{first_of, HeapView, IsHeap, IsWalkable, last_of, listing, parts_of, segment_at, sight}
use Rattle.clr_heap.specs.View.{word_of}
use Rattle.clr_heap.proofs.Framing.{below_top_at, lawful_at}
use Rattle.clr_heap.proofs.Spelling.{item_size, Spells-le}
use Rattle.clr_view.specs.View.{is_object}
use Rattle.clr_sos.specs.CheckedCells.{is_whole}
use Rattle.clr_format.specs.declared.head.Head.{Head}
use Rattle.clr_format.specs.HeapFields.{rules_with}
use Rattle.clr_format.specs.Saved.{words_bytes}
use Rattle.clr_save.specs.SavedWords.{bytes_of_segments, cell_words, free_words, head_of, own_boundary}
use Rattle.clr_save.specs.SavedWords.{part_words, words_at}
use Rattle.clr_save.specs.Writable.{IsWord}
use Rattle.clr_save.specs.Written.{words_of_head}
use Rattle.clr_save.specs.WrittenHeap.{IsFilled, items_of_segments, segments_bytes, word_among, WrittenSegment}
use Rattle.clr_save.proofs.LowBytes.{put_as, put_as-fits, words_at-put}
use Rattle.clr_save.proofs.SavedCells.{IsObjectCell, item-length, put_word, saved-cells, words-agree}
use Rattle.clr_save.proofs.SavedItems.{one-is, saved_from, saved_items}
use Rattle.clr_save.proofs.SavedParts.{words_bytes-append}
use Rattle.clr_save.proofs.WordRuns.{has-all, HasRun, length-free}

-- the words of segment k, each with its eight bytes alone
abbrev pub put_words : List TypeRow → HeapView → ℕ → List ℕ
put_words rows h k = flat_map (part_words (put_word (word_of h))) (parts_of rows h k)

-- segment k as it is written
abbrev pub written_segment : List TypeRow → HeapView → ℕ → WrittenSegment
written_segment rows h k =
    record { head = head_of h k; words = put_words rows h k; items = saved_items rows h k }

-- n segments from segment k on
abbrev pub written_from : List TypeRow → HeapView → ℕ → ℕ → List WrittenSegment
written_from rows h k zero = []
written_from rows h k (suc n) = written_segment rows h k ∷ written_from rows h (k + 1) n

pub length-from : (rows : List TypeRow) (h : HeapView) (k n : ℕ) → length (written_from rows h k n) ≡ n
length-from rows h k zero = refl
length-from rows h k (suc n) = ap suc (length-from rows h (k + 1) n)

pub items-from : (rows : List TypeRow) (h : HeapView) (k n : ℕ)
    → items_of_segments (written_from rows h k n) ≡ saved_from rows h k n
items-from rows h k zero = refl
items-from rows h k (suc n) = ap (λ (is : List Item). saved_items rows h k ++ is) (items-from rows h (k + 1) n)

-- ---- bytes

part-bytes : (word : ℕ → ℕ) (part : Part)
    → words_bytes (part_words (put_word word) part) ≡ words_bytes (part_words word part)
part-bytes word (rest_part low high) = refl
part-bytes word (item_part i) = go (i.type_id.0 == 0)
  where
    go : (b : Bool) → words_bytes (cell_words (put_word word) b i.place i.size)
        ≡ words_bytes (cell_words word b i.place i.size)
    go true = refl
    go false = words_at-put word (i.place - 8) (i.size / 8)

parts-bytes : (word : ℕ → ℕ) (ps : List Part)
    → words_bytes (flat_map (part_words (put_word word)) ps) ≡ words_bytes (flat_map (part_words word) ps)
parts-bytes word [] = refl
parts-bytes word (part ∷ ps) =
    words_bytes-append (part_words (put_word word) part) (flat_map (part_words (put_word word)) ps)
    ∙ ap₂ (λ (xs ys : List ℕ). xs ++ ys) (part-bytes word part) (parts-bytes word ps)
    ∙ sym (words_bytes-append (part_words word part) (flat_map (part_words word) ps))

-- the bytes are those that are put
pub bytes-from : (rows : List TypeRow) (h : HeapView) (k n : ℕ)
    → segments_bytes (written_from rows h k n) ≡ bytes_of_segments rows h k n
unfolding bytes_of_segments
bytes-from rows h k zero = refl
bytes-from rows h k (suc n) =
    ap₂ (λ (xs ys : List ℕ). (words_bytes (words_of_head (head_of h k)) ++ xs) ++ ys)
    (parts-bytes (word_of h) (parts_of rows h k)) (bytes-from rows h (k + 1) n)

-- ---- how many words there are, and that they are words

module _ (s : Sight) (word : ℕ → ℕ) where
  parts-length : (ps : List Part) (p e : ℕ) → p % 8 ≡ 0 → Spells s p ps e
      → 8 * length (flat_map (part_words word) ps) ≡ e - p
  parts-length [] p e z h = omega (arith, h)
  parts-length (item_part i ∷ ps) p e z h =
      let f = item_size s i p h.1 h.2 in
      let up = Spells-le s ps (p + i.size) e h.3 in
      let is = one-is s i p e ps z h in
      let least = is.least in
      let here = item-length word i least (omega arith) in
      let rest = parts-length ps (p + i.size) e (omega arith) h.3 in
      let both = length-append (part_words word (item_part i)) (flat_map (part_words word) ps) in
      omega (arith, here, rest, both)
  parts-length (rest_part low high ∷ ps) p e z h =
      let at = h.0 in
      let least = h.2 in
      let whole = h.3 in
      let up = Spells-le s ps high e h.4 in
      let here = length-free (high - low) (omega arith) (omega arith) in
      let rest = parts-length ps high e whole h.4 in
      let both = length-append (free_words (high - low)) (flat_map (part_words word) ps) in
      omega (arith, here, rest, both)

words_at-fit : (word : ℕ → ℕ) (a n : ℕ) → AllByRecursion IsWord (words_at (put_word word) a n)
unfolding words_at
words_at-fit word a zero = tt
words_at-fit word a (suc n) = (put_as-fits (word a), words_at-fit word (a + 8) n)

zeros-fit : (n : ℕ) → AllByRecursion IsWord (zeros n)
unfolding zeros
zeros-fit zero = tt
zeros-fit (suc n) = (omega arith, zeros-fit n)

free-fit : (size : ℕ) → size < 2 ^ 64 → AllByRecursion IsWord (free_words size)
unfolding free_words
free-fit size small = (omega arith, (omega arith, (omega arith, zeros-fit ((size - 24) / 8))))

item-fit : (word : ℕ → ℕ) (i : Item) → i.size < 2 ^ 64
    → AllByRecursion IsWord (part_words (put_word word) (item_part i))
item-fit word i small = go (i.type_id.0 == 0)
  where
    go : (b : Bool) → AllByRecursion IsWord (cell_words (put_word word) b i.place i.size)
    go true = free-fit i.size small
    go false = words_at-fit word (i.place - 8) (i.size / 8)

parts-fit : (s : Sight) (word : ℕ → ℕ) (ps : List Part) (p e : ℕ) → e < 2 ^ 64 → Spells s p ps e
    → AllByRecursion IsWord (flat_map (part_words (put_word word)) ps)
parts-fit s word [] p e small h = tt
parts-fit s word (item_part i ∷ ps) p e small h =
    let up = Spells-le s ps (p + i.size) e h.3 in
    both_all IsWord (part_words (put_word word) (item_part i)) (flat_map (part_words (put_word word)) ps)
    (item-fit word i (omega arith)) (parts-fit s word ps (p + i.size) e small h.3)
parts-fit s word (rest_part low high ∷ ps) p e small h =
    let up = Spells-le s ps high e h.4 in
    both_all IsWord (free_words (high - low)) (flat_map (part_words (put_word word)) ps)
    (free-fit (high - low) (omega arith)) (parts-fit s word ps high e small h.4)

-- ---- the memory of a segment

module _ (rows : List TypeRow) (h : HeapView) (heap : IsHeap h) (head : Head) (few : length rows ≤ 1000) (k : ℕ)
    (in_range : k < length h.segments) (walk : IsWalkable rows h k) where
  abbrev pub first1 : ℕ
  first1 = own_boundary h k h.start1

  abbrev pub first0 : ℕ
  first0 = own_boundary h k h.start0

  abbrev seg : WrittenSegment
  seg = written_segment rows h k

  put-there : HasRun (word_among seg) (first_of h k - 8) seg.words
  put-there =
      let s = segment_at h k in
      let front : first_place s - 8 ≡ s.base + 0xff8 = omega arith in
      subst (λ (b : ℕ). HasRun (word_among seg) b seg.words) (sym front) (has-all (s.base + 0xff8) seg.words)

  -- the words of its objects are put
  pub segment-words : (i : Item) → IsIn i (listing rows h k) → (i.type_id.0 == 0) ≡ false → (a : ℕ) → a % 8 ≡ 0
      → i.place ≤ a + 8 → a + 8 < i.place + i.size → word_among (written_segment rows h k) a ≡ put_as (word_of h a)
  segment-words =
      words-agree (sight rows h k) head.large (segment_at h k) first1 first0 few (word_among seg) (parts_of rows h k)
      (first_of h k) walk.start (omega arith) walk.spelled put-there

  -- it is filled with the items of the image
  pub segment-filled :
      ((i : Item) → IsIn i (listing rows h k) → is_object i ≡ true
      → IsObjectCell (rules_with head.large rows (segment_at h k) first1 first0) (word_of h) i)
      → ((i : Item) → IsIn i (saved_items rows h k)
      → is_whole (rules_with head.large rows (segment_at h k) first1 first0) i.place i.type_id.0 i.size ≡ true)
      → IsFilled head rows (written_segment rows h k)
  segment-filled objects whole =
      let s = segment_at h k in
      let lawful = lawful_at h k heap in_range in
      let low = lawful.low in
      let high = lawful.high in
      let top = below_top_at h k heap in_range in
      let small = heap.top_small in
      record {
        low = low;
        count = parts-length (sight rows h k) (put_word (word_of h)) (parts_of rows h k) (first_of h k) (last_of h k)
            walk.start walk.spelled;
        words = parts-fit (sight rows h k) (word_of h) (parts_of rows h k) (first_of h k) (last_of h k) (omega arith)
            walk.spelled;
        cells = saved-cells (sight rows h k) head.large s first1 first0 few (word_among seg) (parts_of rows h k)
            (first_of h k) walk.start (omega arith) walk.spelled put-there objects whole;
      }
