-- The segments of an image are read back.
use Rattle.std.proofs.Common.{◌≡◌, ℕ, suc, zero, ◌≤◌, ◌<◌, ◌+◌, ◌-◌, ◌*◌, ◌/◌, ◌%◌, true, ◌&&◌}
use Rattle.std.proofs.Common.{List, [], ◌∷◌, ◌++◌, length, drop, get_or, map, refl, arith, ap, sym, ◌∙◌, subst, Some}
use Rattle.std.proofs.Common.{le-leb, length-append, append_assoc, append-nil, Ok}
use Rattle.std.proofs.lemmas.Grind.{common_steps}
use Rattle.std.proofs.lemmas.Bool.Decides.{nat_tests}
use Rattle.std.proofs.lemmas.List.{map-append}
use Rattle.std.specs.List.{AllByRecursion, flat_map}
use Rattle.clr_mem.specs.Words.{words_of}
use Rattle.clr_types.specs.Descriptors.{reference_offsets}
use Rattle.clr_types.specs.Segments.{first_place}
use Rattle.clr_types.specs.Types.{form_at, size_of, TypeRow}
use Rattle.clr_types.specs.declared.item.Item.{Item}
use Rattle.clr_types.specs.declared.segment.SegKind.TheVariants.{Ephemeral, Large}
use Rattle.clr_types.proofs.Offsets.{inside_law}
use Rattle.clr_heap.specs.Drafts.{empty_heap, has_kind}
use Rattle.clr_heap.specs.View.{HeapView}
use Rattle.clr_fields.specs.Fields.{Fields, found, found_then, is_from_to, times, word_at, ◌>>=◌}
use Rattle.clr_sos.specs.CheckedCells.{checked_items, Rules}
use Rattle.clr_sos.specs.Faults.{item_addresses}
use Rattle.clr_format.specs.HeapFields.{Body, empty_body, has_needed, heap_fields, heap_more}
use Rattle.clr_format.specs.HeapFields.{memory_field, memory_of, offset_in, references_in, rules_with}
use Rattle.clr_format.specs.HeapFields.{segment_fields, segment_head_fields, value_or_zero, words_from}
use Rattle.clr_save.specs.ReadsBack.{StandsAt}
use Rattle.clr_format.specs.Saved.{word_bytes, words_bytes}
use Rattle.clr_save.specs.Writable.{IsWord, IsWrittenSegment}
use Rattle.clr_save.specs.Written.{words_of_head}
use Rattle.clr_save.specs.WrittenCells.{AreCells}
use Rattle.clr_save.specs.WrittenHeap.{AreSegments, AreWrittenSegments, heap_after, heap_behind, IsBody, IsFilled}
use Rattle.clr_save.specs.WrittenHeap.{items_of_segments, names_in, names_in_segments, segment_bytes}
use Rattle.clr_save.specs.WrittenHeap.{segments_bytes, word_among, WrittenSegment}
use Rattle.clr_format.specs.declared.head.Head.{Head}
use Rattle.clr_save.proofs.Written.{first_of, length-word, second_of, word_back, word_found}
use Rattle.clr_save.proofs.WrittenCells.{inside_end, items_back}
use Rattle.clr_save.proofs.WrittenHeads.{length-words, segment_head_back, words_back}

-- ---- words of a list

-- word j of those that stand there
pub word_there : (bytes ws others : List ℕ) (o j : ℕ) → AllByRecursion IsWord ws
    → StandsAt bytes o (words_bytes ws) others
    → j < length ws → word_at bytes (o + 8 * j) ≡ Some (get_or ws j 0)
word_there bytes [] others o j fit at less = absurd (omega arith)
word_there bytes (w ∷ ws) others o zero fit at less =
    let here : o + 8 * 0 ≡ o = omega arith in
    ap (word_at bytes) here
    ∙ word_found bytes (words_bytes ws ++ others) o w fit.0 (first_of bytes (word_bytes w) (words_bytes ws) others o at)
word_there bytes (w ∷ ws) others o (suc j) fit at less =
    let one = length-word w in
    let next : o + length (word_bytes w) + 8 * j ≡ o + 8 * suc j = omega arith in
    let rest = second_of bytes (word_bytes w) (words_bytes ws) others o at in
    ap (word_at bytes) (sym next)
    ∙ word_there bytes ws others (o + length (word_bytes w)) j fit.1 rest (omega arith)

-- the words of a segment, by address
pub segment_word : (bytes others : List ℕ) (o : ℕ) (seg : WrittenSegment) (a : ℕ) → AllByRecursion IsWord seg.words
    → StandsAt bytes o (words_bytes seg.words) others → seg.head.info.base % 8 ≡ 0 → a % 8 ≡ 0
    → first_place seg.head.info ≤ a + 8 → a + 8 < seg.head.info.end
    → 8 * length seg.words ≡ seg.head.info.end - first_place seg.head.info
    → words_from bytes seg.head.info o a ≡ Some (word_among seg a)
segment_word bytes others o seg a fit at base aligned low high count =
    let base_at = seg.head.info.base in
    let j : 8 * ((a - (seg.head.info.base + 0xff8)) / 8) ≡ a - (seg.head.info.base + 0xff8) = omega arith in
    ap (λ k. word_at bytes (o + k)) (sym j)
    ∙ word_there bytes seg.words others o ((a - (seg.head.info.base + 0xff8)) / 8) fit at (omega arith)

-- ---- what references name

offsets_inside : (rows : List TypeRow) (rules : Rules) (place : ℕ) (i : Item) (offsets : List ℕ)
    → AllByRecursion (λ offset. (8 ≤ offset) × (offset + 16 ≤ i.size) × (offset % 8 ≡ 0)) offsets → i.place ≡ place
    → place % 8 ≡ 0 → place + i.size ≤ rules.end
    → AllByRecursion (λ a. (a % 8 ≡ 0) × (place ≤ a + 8) × (a + 8 < rules.end))
    (map (λ offset. i.place + offset) offsets)
offsets_inside rows rules place i [] all at aligned high = tt
offsets_inside rows rules place i (offset ∷ offsets) all at aligned high =
    let low = all.0.0 in
    let most = all.0.1 in
    let whole = all.0.2 in
    ((omega arith, omega arith, omega arith), offsets_inside rows rules place i offsets all.1 at aligned high)

inside_more : (low place end : ℕ) (as_ : List ℕ) → low ≤ place
    → AllByRecursion (λ a. (a % 8 ≡ 0) × (place ≤ a + 8) × (a + 8 < end)) as_
    → AllByRecursion (λ a. (a % 8 ≡ 0) × (low ≤ a + 8) × (a + 8 < end)) as_
inside_more low place end [] order all = tt
inside_more low place end (a ∷ as_) order all =
    let aligned = all.0.0 in
    let above = all.0.1 in
    let below = all.0.2 in
    ((aligned, omega arith, below), inside_more low place end as_ order all.1)

pub all_append : {X : Type 0} (P : X → Type 0) (xs ys : List X) → AllByRecursion P xs → AllByRecursion P ys
    → AllByRecursion P (xs ++ ys)
all_append P [] ys all more = more
all_append P (x ∷ xs) ys all more = (all.0, all_append P xs ys all.1 more)

-- each reference of a segment's items stands in its memory
addresses_inside : (rules : Rules) (word : ℕ → ℕ) (low place : ℕ) (items : List Item) → low ≤ place
    → AreCells rules word place items
    → AllByRecursion (λ a. (a % 8 ≡ 0) × (low ≤ a + 8) × (a + 8 < rules.end))
    (flat_map (item_addresses rules.rows) items)
addresses_inside rules word low place [] order are = tt
addresses_inside rules word low place (i ∷ items) order are =
    let cell = are.2 in
    let same = are.1 in
    let size : i.size ≡ size_of (form_at rules.rows i.type_id.0) i.len = ap (λ (j : Item). j.size) same in
    let at : i.place ≡ place = ap (λ (j : Item). j.place) same in
    let below = inside_end rules place i.type_id.0 (size_of (form_at rules.rows i.type_id.0) i.len) cell.whole in
    let high : place + i.size ≤ rules.end = omega arith in
    let law = subst (λ n. AllByRecursion (λ offset. (8 ≤ offset) × (offset + 16 ≤ n) × (offset % 8 ≡ 0))
    (reference_offsets (form_at rules.rows i.type_id.0) i.len)) (sym size)
    (inside_law (form_at rules.rows i.type_id.0) i.len) in
    let here = offsets_inside rules.rows rules place i (reference_offsets (form_at rules.rows i.type_id.0) i.len) law at
    cell.aligned high in
    all_append (λ a. (a % 8 ≡ 0) × (low ≤ a + 8) × (a + 8 < rules.end)) (item_addresses rules.rows i)
    (flat_map (item_addresses rules.rows) items)
    (inside_more low place rules.end (item_addresses rules.rows i) order here)
    (addresses_inside rules word low (place + i.size) items (omega arith) are.3)

same_names : (bytes others : List ℕ) (o : ℕ) (seg : WrittenSegment) (as_ : List ℕ) → AllByRecursion IsWord seg.words
    → StandsAt bytes o (words_bytes seg.words) others → seg.head.info.base % 8 ≡ 0
    → 8 * length seg.words ≡ seg.head.info.end - first_place seg.head.info
    → AllByRecursion (λ a. (a % 8 ≡ 0) × (first_place seg.head.info ≤ a + 8) × (a + 8 < seg.head.info.end)) as_
    → map (λ (r : ℕ × ℕ). r.1)
    (map (λ a. (offset_in seg.head.info o a, value_or_zero (words_from bytes seg.head.info o a))) as_)
    ≡ map (word_among seg) as_
same_names bytes others o seg [] fit at base count all = refl
same_names bytes others o seg (a ∷ as_) fit at base count all =
    let here = segment_word bytes others o seg a fit at base all.0.0 all.0.1 all.0.2 count in
    let rest = same_names bytes others o seg as_ fit at base count all.1 in
    rw (here, rest) refl

-- ---- one segment

-- what was read of segments behind others
pub record SegmentsRead (fields : Fields Body) (bytes : List ℕ) (o next : ℕ) (h : HeapView) (items : List Item)
    (names : List ℕ) : Type 0 where
  pub body : Body
  pub is : fields bytes o ≡ found body next
  pub has : IsBody body h items names

same_heap : (bytes : List ℕ) (h : HeapView) (seg : WrittenSegment) (o : ℕ)
    → words_of ((seg.head.info.end - first_place seg.head.info) / 8) (drop o bytes) ≡ seg.words
    → heap_more bytes h seg.head.info seg.head.start1 seg.head.start0 o ≡ heap_behind h seg
same_heap bytes h seg o words = rw words refl

memory_read : (head : Head) (rows : List TypeRow) (body : Body) (seg : WrittenSegment) (bytes others : List ℕ) (o : ℕ)
    (h : HeapView) (items : List Item) (names : List ℕ) → IsBody body h items names → IsFilled head rows seg
    → seg.head.info.base % 8 ≡ 0 → StandsAt bytes o (words_bytes seg.words) others
    → SegmentsRead (memory_field head rows body seg.head.info seg.head.start1 seg.head.start0) bytes o
    (o + length (words_bytes seg.words)) (heap_behind h seg) (items ++ seg.items) (names ++ names_in rows seg)
unfolding memory_field
memory_read head rows body seg bytes others o h items names has filled base at =
    let s = seg.head.info in
    let low = filled.low in
    let count = filled.count in
    let rules = rules_with head.large rows seg.head.info seg.head.start1 seg.head.start0 in
    let checked : checked_items (seg.head.info.end - first_place seg.head.info)
    (rules_with head.large rows seg.head.info seg.head.start1 seg.head.start0)
    (words_from bytes seg.head.info o) (first_place seg.head.info) ≡ Ok seg.items =
    items_back (seg.head.info.end - first_place seg.head.info)
    (rules_with head.large rows seg.head.info seg.head.start1 seg.head.start0) (words_from bytes seg.head.info o)
    (word_among seg) (first_place seg.head.info) seg.items refl (omega arith)
    (λ a aligned near far. segment_word bytes others o seg a filled.words at base aligned near far filled.count)
    filled.cells in
    let words : words_of ((seg.head.info.end - first_place seg.head.info) / 8) (drop o bytes) ≡ seg.words =
    ap (λ n. words_of n (drop o bytes)) (let e : (seg.head.info.end - first_place seg.head.info) / 8
    ≡ length seg.words = omega arith in e)
    ∙ ap (words_of (length seg.words)) at.is ∙ words_back seg.words others filled.words in
    let size = length-words seg.words in
    let next : o + (seg.head.info.end - first_place seg.head.info) ≡ o + length (words_bytes seg.words) = omega arith in
    let inside = addresses_inside (rules_with head.large rows seg.head.info seg.head.start1 seg.head.start0)
    (word_among seg) (first_place seg.head.info) (first_place seg.head.info) seg.items (omega arith) filled.cells in
    record {
      body = record {
        heap = heap_more bytes body.heap seg.head.info seg.head.start1 seg.head.start0 o;
        offsets = body.offsets ++ o ∷ [];
        items = body.items ++ seg.items;
        references = body.references ++ references_in bytes rows seg.head.info o seg.items;
      };
      is = ap (memory_of bytes rows body seg.head.info seg.head.start1 seg.head.start0 o) checked
          ∙ ap (found (record {
            heap = heap_more bytes body.heap seg.head.info seg.head.start1 seg.head.start0 o;
            offsets = body.offsets ++ o ∷ [];
            items = body.items ++ seg.items;
            references = body.references ++ references_in bytes rows seg.head.info o seg.items;
          })) next;
      has = record {
        heap = ap (λ (g : HeapView). heap_more bytes g seg.head.info seg.head.start1 seg.head.start0 o) has.heap
            ∙ same_heap bytes h seg o words;
        items = ap (λ (js : List Item). js ++ seg.items) has.items;
        names = map-append (λ (r : ℕ × ℕ). r.1) body.references (references_in bytes rows seg.head.info o seg.items)
            ∙ ap (λ ns. ns ++ map (λ (r : ℕ × ℕ). r.1) (references_in bytes rows seg.head.info o seg.items)) has.names
            ∙ ap (λ ns. names ++ ns)
            (same_names bytes others o seg (flat_map (item_addresses rows) seg.items) filled.words at base filled.count
            inside);
      };
    }

pub segment_read : (head : Head) (rows : List TypeRow) (body : Body) (seg : WrittenSegment) (bytes others : List ℕ)
    (o : ℕ)
    (h : HeapView) (items : List Item) (names : List ℕ) → IsBody body h items names → IsWrittenSegment head h seg.head
    → IsFilled head rows seg → StandsAt bytes o (segment_bytes seg) others
    → SegmentsRead (segment_fields head rows body) bytes o (o + length (segment_bytes seg)) (heap_behind h seg)
    (items ++ seg.items) (names ++ names_in rows seg)
unfolding segment_fields
segment_read head rows body seg bytes others o h items names has lawful filled at =
    let first = first_of bytes (words_bytes (words_of_head seg.head)) (words_bytes seg.words) others o at in
    let second = second_of bytes (words_bytes (words_of_head seg.head)) (words_bytes seg.words) others o at in
    let base : seg.head.info.base % 8 ≡ 0 = let l = lawful.base in grind (arith, nat_tests, common_steps) in
    let heads : segment_head_fields head body.heap bytes o
    ≡ found seg.head (o + length (words_bytes (words_of_head seg.head))) =
    ap (λ (g : HeapView). segment_head_fields head g bytes o) has.heap
    ∙ segment_head_back head h seg.head lawful bytes (words_bytes seg.words ++ others) o first in
    let read = memory_read head rows body seg bytes others (o + length (words_bytes (words_of_head seg.head))) h items
    names has filled base second in
    let next : o + length (words_bytes (words_of_head seg.head)) + length (words_bytes seg.words)
    ≡ o + length (segment_bytes seg) =
    omega (arith, length-append (words_bytes (words_of_head seg.head)) (words_bytes seg.words)) in
    record {
      body = read.body;
      is = ap (found_then bytes (λ s. memory_field head rows body s.info s.start1 s.start0)) heads ∙ read.is
          ∙ ap (found read.body) next;
      has = read.has;
    }

-- ---- all segments

items_joined : (items : List Item) (seg : WrittenSegment) (segs : List WrittenSegment)
    → (items ++ seg.items) ++ items_of_segments segs ≡ items ++ items_of_segments (seg ∷ segs)
items_joined items seg segs = append_assoc items seg.items (items_of_segments segs)

pub segments_read : (head : Head) (rows : List TypeRow) (segs : List WrittenSegment) (body : Body)
    (bytes others : List ℕ)
    (o : ℕ) (h : HeapView) (items : List Item) (names : List ℕ) → IsBody body h items names
    → AreSegments head rows h segs
    → StandsAt bytes o (segments_bytes segs) others
    → SegmentsRead (times (length segs) (segment_fields head rows) body) bytes o (o + length (segments_bytes segs))
    (heap_after h segs) (items ++ items_of_segments segs) (names ++ names_in_segments rows segs)
unfolding times
segments_read head rows [] body bytes others o h items names has are at = record {
  body = body;
  is = ap (found body) (let e : o ≡ o + 0 = omega arith in e);
  has = record {
    heap = has.heap;
    items = has.items ∙ sym (append-nil items);
    names = has.names ∙ sym (append-nil names);
  };
}
segments_read head rows (seg ∷ segs) body bytes others o h items names has are at =
    let first = first_of bytes (segment_bytes seg) (segments_bytes segs) others o at in
    let second = second_of bytes (segment_bytes seg) (segments_bytes segs) others o at in
    let read = segment_read head rows body seg bytes (segments_bytes segs
    ++ others) o h items names has are.0 are.1 first in
    let rest = segments_read head rows segs read.body bytes others (o + length (segment_bytes seg)) (heap_behind h seg)
    (items ++ seg.items) (names ++ names_in rows seg) read.has are.2 second in
    let next : o + length (segment_bytes seg) + length (segments_bytes segs)
    ≡ o + length (segment_bytes seg ++ segments_bytes segs) =
    omega (arith, length-append (segment_bytes seg) (segments_bytes segs)) in
    let has_all = rest.has in
    record {
      body = rest.body;
      is = ap (found_then bytes (times (length segs) (segment_fields head rows))) read.is ∙ rest.is
          ∙ ap (found rest.body) next;
      has = record {
        heap = has_all.heap;
        items = has_all.items ∙ items_joined items seg segs;
        names = has_all.names ∙ append_assoc names (names_in rows seg) (names_in_segments rows segs);
      };
    }

-- the number of segments, and each of them
pub heap_read : (head : Head) (rows : List TypeRow) (segs : List WrittenSegment) (bytes others : List ℕ) (o : ℕ)
    → AreWrittenSegments head rows segs
    → StandsAt bytes o (word_bytes (length segs) ++ segments_bytes segs) others
    → SegmentsRead (heap_fields head rows) bytes o (o + length (word_bytes (length segs) ++ segments_bytes segs))
    (heap_after (empty_heap head.limit) segs) (items_of_segments segs) (names_in_segments rows segs)
unfolding heap_fields
heap_read head rows segs bytes others o are at =
    let least = are.least in
    let most = are.most in
    let low = le-leb 2 (length segs) least in
    let high = le-leb (length segs) 4096 most in
    let count : is_from_to 2 4096 (length segs) ≡ true = rw (low, high) refl in
    let first = first_of bytes (word_bytes (length segs)) (segments_bytes segs) others o at in
    let second = second_of bytes (word_bytes (length segs)) (segments_bytes segs) others o at in
    let word = word_back (is_from_to 2 4096) (length segs) (omega arith) count bytes
    (segments_bytes segs ++ others) o first in
    let read = segments_read head rows segs (empty_body head.limit) bytes others (o + length (word_bytes (length segs)))
    (empty_heap head.limit) [] [] (record { heap = refl; items = refl; names = refl }) are.each second in
    let next : o + length (word_bytes (length segs)) + length (segments_bytes segs)
    ≡ o + length (word_bytes (length segs) ++ segments_bytes segs) =
    omega (arith, length-append (word_bytes (length segs)) (segments_bytes segs)) in
    let has = read.has in
    let needed : (has_kind Ephemeral read.body.heap.segments && has_kind Large read.body.heap.segments) ≡ true =
    ap (λ (h : HeapView). has_kind Ephemeral h.segments && has_kind Large h.segments) has.heap ∙ are.needed in
    record {
      body = read.body;
      is = ap (found_then bytes (λ n. times n (segment_fields head rows) (empty_body head.limit) >>= has_needed o)) word
          ∙ ap (found_then bytes (has_needed o)) read.is ∙ rw needed (ap (found read.body) next);
      has = record { heap = has.heap; items = has.items; names = has.names };
    }
