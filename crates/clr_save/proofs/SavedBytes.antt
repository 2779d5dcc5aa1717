-- The bytes of a machine's segments are those of the words that are saved.
use Rattle.std.proofs.Common.{◌≡◌, ℕ, suc, ◌+◌, ◌-◌, ◌*◌, ◌/◌, ◌%◌, ◌≤◌, ◌<◌, Bool, true, false, List, [], ◌∷◌}
use Rattle.std.proofs.Common.{◌++◌, filter, get_or, length, map, not, refl, ap, ap₂, sym, ◌∙◌, arith, Option}
use Rattle.std.proofs.Common.{Some}
use Rattle.std.proofs.Common.{◌==◌, if◌then◌else◌, inl, inr}
use Rattle.std.specs.List.{flat_map}
use Rattle.std.proofs.lemmas.Bool.{cases_Bool, eqb-true}
use Rattle.clr_mem.specs.Words.{zeros}
use Rattle.clr_types.specs.Rising.{find_by, first, IsIn, later, sorted_by}
use Rattle.clr_types.specs.Segments.{empty_segment, Layout, stands_in}
use Rattle.clr_types.specs.Types.{form_at, is_array, mt_of, size_of, TypeRow}
use Rattle.clr_types.specs.declared.item.Item.{Item}
use Rattle.clr_types.specs.declared.segment.SegInfo.{SegInfo}
use Rattle.clr_heap.specs.Parts.{item_at, item_part, items_in, length_at, NamesItem, Part, rest_part, Sight, Spells}
use Rattle.clr_heap.specs.Parts.{type_number, unmarked}
use Rattle.clr_heap.specs.View.{first_of, heap_items, HeapView, IsHeap, last_of, parts_of, segment_at, sight}
use Rattle.clr_heap.specs.View.{word_of}
use Rattle.clr_heap.proofs.Spelling.{item_size}
use Rattle.clr_model.specs.Listing as model
use Rattle.clr_model.specs.Machine.{Machine, Object}
use Rattle.clr_model.specs.Updates.{all_given_up}
use Rattle.clr_view.specs.Clean.{AreClean}
use Rattle.clr_view.specs.Marks.{has_mark, IsUnmarked}
use Rattle.clr_view.specs.View.{IsHeld, is_object, layout_in, object_in, objects_in}
use Rattle.clr_view.proofs.Items.{IsItem}
use Rattle.clr_view.proofs.Listed.{listed-above, listed-item, listed-spelled}
use Rattle.clr_view.proofs.ObjectItems.{object-told}
use Rattle.clr_view.proofs.Standing.{listed_from, stands_from}
use Rattle.clr_format.specs.Saved.{bytes_of_object, free_bytes, segment_bytes, without_rests, words_bytes}
use Rattle.clr_format.specs.Saved.{segment_words, zero_bytes}
use Rattle.clr_save.specs.SavedWords.{bytes_of_segment, bytes_of_segments, cell_words, free_words, memory_words}
use Rattle.clr_save.specs.SavedWords.{part_words}
use Rattle.clr_save.specs.SavedWords.{words_at}
use Rattle.clr_save.proofs.ObjectBytes.{object_is}
use Rattle.clr_save.proofs.SavedItems.{one-is, saved_from, saved_item, saved_items}
use Rattle.clr_save.proofs.SavedListing.{listing-saved, segment-pass}
use Rattle.clr_save.proofs.SavedParts.{words_bytes-append, zeros_are}

-- ---- free items

-- a clear free item, of a length of whole words
pub free-are : (i : Item) (size : ℕ) → i.size ≡ size → i.len ≡ size - 24 → 24 ≤ size → size % 8 ≡ 0
    → free_bytes i ≡ words_bytes (free_words size)
unfolding free_words
free-are i size same len least whole =
    let count : 8 * ((size - 24) / 8) ≡ i.size - 24 = omega arith in
    let padding : words_bytes (zeros ((size - 24) / 8)) ≡ zero_bytes (i.size - 24) =
    zeros_are ((size - 24) / 8) ∙ ap zero_bytes count in
    ap₂ (λ (n : ℕ) (bs : List ℕ). words_bytes (0 ∷ mt_of 0 ∷ n ∷ []) ++ bs) len (sym padding)
    ∙ sym (words_bytes-append (0 ∷ mt_of 0 ∷ (size - 24) ∷ []) (zeros ((size - 24) / 8)))

-- ---- the parts of a segment

-- the bytes of an item, where these are the objects
abbrev bytes_among : List TypeRow → List Object → Item → List ℕ
bytes_among rows objects i =
    if i.type_id.0 == 0 then free_bytes i else bytes_of_object rows (find_by (λ (o : Object). o.place) i.place objects)

-- an object's bytes are those of its cell
abbrev IsObjectSaved : List TypeRow → List Object → (ℕ → ℕ) → Item → Type 0
IsObjectSaved rows objects word i = (i.type_id.0 == 0) ≡ false → bytes_of_object rows
    (find_by (λ (o : Object). o.place) i.place objects) ≡ words_bytes (words_at word (i.place - 8) (i.size / 8))

-- a free item of a heap
free-item : (rows : List TypeRow) (low high : ℕ) (i : Item) → IsItem rows low high i → i.type_id.0 ≡ 0
    → free_bytes i ≡ words_bytes (free_words i.size)
free-item rows low high i is free =
    let size : i.size ≡ size_of (form_at rows 0) i.len =
    is.sized ∙ ap (λ (t : ℕ). size_of (form_at rows t) i.len) free in
    let whole = is.whole free in
    let least = is.least in
    free-are i i.size refl (omega arith) least (omega arith)

-- what stands in the place of an item
item-saved : (rows : List TypeRow) (objects : List Object) (word : ℕ → ℕ) (i : Item) (low high : ℕ)
    → IsItem rows low high i → IsObjectSaved rows objects word i
    → bytes_among rows objects i ≡ words_bytes (part_words word (item_part i))
item-saved rows objects word i low high is saved = go (i.type_id.0 == 0) refl
  where
    go : (b : Bool) → (i.type_id.0 == 0) ≡ b
        → (if b then free_bytes i else bytes_of_object rows (find_by (λ (o : Object). o.place) i.place objects))
        ≡ words_bytes (cell_words word b i.place i.size)
    go true e = free-item rows low high i is (eqb-true i.type_id.0 0 e)
    go false e = saved e

parts-saved : (s : Sight) (objects : List Object) (ps : List Part) (p e : ℕ) → p % 8 ≡ 0 → Spells s p ps e
    → ((i : Item) → IsIn i (items_in ps) → IsObjectSaved s.rows objects s.word i)
    → flat_map (bytes_among s.rows objects) (map saved_item ps) ≡ words_bytes (flat_map (part_words s.word) ps)
parts-saved s objects [] p e z h each = refl
parts-saved s objects (item_part i ∷ ps) p e z h each =
    let f = item_size s i p h.1 h.2 in
    let here = item-saved s.rows objects s.word i p (p + i.size) (one-is s i p e ps z h) (each i first) in
    let rest = parts-saved s objects ps (p + i.size) e (omega arith) h.3 (λ j l. each j (later l)) in
    ap₂ (λ (xs ys : List ℕ). xs ++ ys) here rest
    ∙ sym (words_bytes-append (part_words s.word (item_part i)) (flat_map (part_words s.word) ps))
parts-saved s objects (rest_part low high ∷ ps) p e z h each =
    let at = h.0 in
    let up = h.2 in
    let whole = h.3 in
    let here = free-are (saved_item (rest_part low high)) (high - low) refl refl (omega arith) (omega arith) in
    let rest = parts-saved s objects ps high e whole h.4 each in
    ap₂ (λ (xs ys : List ℕ). xs ++ ys) here rest
    ∙ sym (words_bytes-append (free_words (high - low)) (flat_map (part_words s.word) ps))

-- ---- objects

-- an object that is named by its place is found by either
found-by-place : (rows : List TypeRow) (word : ℕ → ℕ) (x : ℕ) (items : List Item)
    → find_by (λ (o : Object). o.place) x (map (object_in rows word) items)
    ≡ find_by (λ (o : Object). o.name) x (map (object_in rows word) items)
found-by-place rows word x [] = refl
found-by-place rows word x (i ∷ items) =
    ap (λ (o : Option Object). if i.place == x then Some (object_in rows word i) else o)
    (found-by-place rows word x items)

-- a word that carries no mark
clear-word : (w : ℕ) → has_mark w ≡ false → unmarked w ≡ w
clear-word w e = grind (arith, e)

-- the method table word and the length word of an item that words spell
pub spelled-mt : (rows : List TypeRow) (word : ℕ → ℕ) (i : Item) → i ≡ item_at rows word i.place
    → NamesItem rows word i.place → has_mark (word i.place) ≡ false → word i.place ≡ mt_of i.type_id.0
unfolding item_at
spelled-mt rows word i is names clear =
    sym (clear-word (word i.place) clear) ∙ names.mt ∙ ap mt_of (sym (ap (λ (x : Item). x.type_id.0) is))

pub spelled-len : (rows : List TypeRow) (word : ℕ → ℕ) (i : Item) → i ≡ item_at rows word i.place
    → is_array (form_at rows i.type_id.0) ≡ true → word (i.place + 8) ≡ i.len
unfolding item_at length_at
spelled-len rows word i is array =
    let type : i.type_id.0 ≡ type_number (word i.place) = ap (λ (x : Item). x.type_id.0) is in
    let same : is_array (form_at rows (type_number (word i.place))) ≡ true =
    ap (λ (t : ℕ). is_array (form_at rows t)) (sym type) ∙ array in
    sym (ap (λ (x : Item). x.len) is
    ∙ ap (λ (b : Bool). if b then word (i.place + 8) else 0) same)

module _ (rows : List TypeRow) (h : HeapView) (heap : IsHeap h) (held : IsHeld rows h) (clear : IsUnmarked rows h)
    (clean : AreClean rows h) where
  pub no-mark : (i : Item) → IsIn i (heap_items rows h) → is_object i ≡ true → has_mark (word_of h i.place) ≡ false
  no-mark i listed object = elim (cases_Bool (has_mark (word_of h i.place))) [
    | inl marked ↦ absurd (clear i.place (record { stands = stands_from rows h i listed object; mark = marked }))
    | inr none ↦ none
  ]

  object-saved : (i : Item) → IsIn i (heap_items rows h) → IsObjectSaved rows (objects_in rows h) (word_of h) i
  object-saved i listed some =
      let object : is_object i ≡ true = ap not some in
      let spelled = listed-spelled rows h i heap held listed in
      let is = listed-item rows h i heap held listed in
      ap (bytes_of_object rows) (found-by-place rows (word_of h) i.place (filter is_object (heap_items rows h))
      ∙ object-told rows h heap held i listed object)
      ∙ object_is rows (word_of h) i is.aligned (listed-above rows h i heap held listed) (clean i listed object)
      (spelled-mt rows (word_of h) i spelled.0 spelled.1 (no-mark i listed object))
      (spelled-len rows (word_of h) i spelled.0) is.sized

  -- the items of a segment have the bytes of its words
  items-saved : (k : ℕ) → k < length h.segments
      → flat_map (bytes_among rows (objects_in rows h)) (saved_items rows h k) ≡ words_bytes (memory_words rows h k)
  items-saved k l =
      let w = held.walkable k l in
      parts-saved (sight rows h k) (objects_in rows h) (parts_of rows h k) (first_of h k)
      (last_of h k) w.start w.spelled
      (λ i here. object-saved i (listed_from rows h k i l here))

  -- ---- segments

  module _ (m : Machine) (types : m.types ≡ rows) (objects : m.objects ≡ objects_in rows h)
      (layout : m.layout ≡ layout_in rows h) where
    abbrev listing_of : List TypeRow → List Object → Layout → List Item
    listing_of rows objects layout =
        sorted_by (λ i. i.place) (map (model.object_item rows) objects ++ map model.free_item layout.free)

    -- THE LISTING of the machine, whose contexts are given up
    pub listed : model.listing (without_rests m) ≡ saved_from rows h 0 (length h.segments)
    listed = (λ j. listing_of (types j) (objects j) (all_given_up (layout j))) ∙ listing-saved rows h heap held

    -- a segment of the machine has the bytes of the heap's
    segment-saved : (k : ℕ) → k < length h.segments
        → bytes_of_segment rows h k ≡ segment_bytes (without_rests m) (segment_at h k)
    segment-saved k l =
        let s = segment_at h k in
        let inside : filter (λ (i : Item). stands_in s i.place) (model.listing (without_rests m))
        ≡ saved_items rows h k =
        ap (filter (λ (i : Item). stands_in s i.place)) listed
        ∙ segment-pass rows h heap held k 0 (length h.segments) (omega arith) (omega arith) (omega arith) in
        let items : flat_map (bytes_among m.types m.objects)
        (filter (λ (i : Item). stands_in s i.place) (model.listing (without_rests m)))
        ≡ words_bytes (memory_words rows h k) =
        (λ j. flat_map (bytes_among (types j) (objects j)) (inside j)) ∙ items-saved k l in
        λ j. words_bytes (segment_words (sym layout j) s) ++ sym items j

    from-saved : (k : ℕ) (ss : List SegInfo) → k + length ss ≤ length h.segments
        → ((i : ℕ) → i < length ss → get_or ss i empty_segment ≡ segment_at h (k + i))
        → bytes_of_segments rows h k (length ss) ≡ flat_map (segment_bytes (without_rests m)) ss
    unfolding bytes_of_segments
    from-saved k [] l at = refl
    from-saved k (s ∷ ss) l at =
        let here : s ≡ segment_at h k = at 0 (omega arith) ∙ ap (segment_at h) (let e : k + 0 ≡ k = omega arith in e) in
        ap₂ (λ (xs ys : List ℕ). xs ++ ys)
        (segment-saved k (omega arith) ∙ ap (segment_bytes (without_rests m)) (sym here))
        (from-saved (k + 1) ss (omega arith) (λ i more. at (suc i) (omega arith)
        ∙ ap (segment_at h) (let e : k + suc i ≡ k + 1 + i = omega arith in e)))

    -- THE SEGMENTS: those of the machine are written
    pub segments-saved : bytes_of_segments rows h 0 (length h.segments)
        ≡ flat_map (segment_bytes (without_rests m)) m.layout.segments
    segments-saved =
        from-saved 0 h.segments (omega arith)
        (λ i l. ap (segment_at h) (let e : i ≡ 0 + i = omega arith in e))
        ∙ ap (λ (l : Layout). flat_map (segment_bytes (without_rests m)) l.segments) (sym layout)
