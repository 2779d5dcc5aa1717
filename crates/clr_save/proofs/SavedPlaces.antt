-- The items of an image lie where they may, and its objects have clean cells.
use Rattle.std.proofs.Common.{◌≡◌, ◌≢◌, ℕ, zero, suc, ◌+◌, ◌-◌, ◌^◌, ◌≤◌, ◌<◌, ◌||◌, ◌==◌, ◌⊎◌, Bool, true}
use Rattle.std.proofs.Common.{false, not}
use Rattle.std.proofs.Common.{List, [], ◌∷◌, ◌++◌, if◌then◌else◌, length, map, refl, ap, sym, ◌∙◌}
use Rattle.std.proofs.Common.{subst, arith, inl, inr, le-leb, suc-mul}
use Rattle.std.specs.List.{AllByRecursion}
use Rattle.std.specs.Prelude.{slice_get}
use Rattle.std.proofs.lemmas.Bool.{cases_Bool, cases_eq, true≢false}
use Rattle.clr_types.specs.LawfulLayout.{DoesNotCross}
use Rattle.clr_types.specs.Ranges.{by_place, Piece}
use Rattle.clr_types.specs.Rising.{first, IsIn, later}
use Rattle.clr_types.specs.Segments.{rest_pieces, same_kind}
use Rattle.clr_types.specs.Table.{IsLawfulRow}
use Rattle.clr_types.specs.Types.{bytes_form, class_form, Form, form_at, form_of_row, has_finalizer, is_array}
use Rattle.clr_types.specs.Types.{is_lawful_form, references_form, size_of, structs_form, type_row, TypeRow}
use Rattle.clr_types.specs.declared.item.Item.{Item}
use Rattle.clr_types.specs.declared.segment.SegKind.{SegKind}
use Rattle.clr_types.specs.declared.segment.SegKind.TheVariants.{Small, Ephemeral, Large, Pinned}
use Rattle.clr_types.proofs.ChangedLists.{append_left, IsIn-map}
use Rattle.clr_types.proofs.ListMembers.{append_right, from-map, in_append}
use Rattle.clr_types.proofs.RisingLists.{all_at, in_cons}
use Rattle.clr_types.proofs.Shuffles.{shuffled-in, shuffled-sym}
use Rattle.clr_types.proofs.SortedLists.{into_sorted_by, out_of_sorted_by}
use Rattle.clr_heap.specs.Parts.{item_at, item_part, item_piece, length_at, type_number, items_in, Part, rest_part}
use Rattle.clr_heap.specs.View.{first_of, HeapView, IsHeap, last_of, listing, parts_of, segment_at, word_of}
use Rattle.clr_model.specs.Listing as model
use Rattle.clr_model.specs.Lookups.{object_piece}
use Rattle.clr_view.specs.Clean.{AreClean, IsCleanHeader, slots_end}
use Rattle.clr_view.specs.Marks.{IsUnmarked}
use Rattle.clr_view.specs.View.{free_in, IsHeld, is_object, objects_in}
use Rattle.clr_view.proofs.Items.{IsItem}
use Rattle.clr_view.proofs.Listed.{listed-above, listed-item, listed-known, listed-small, listed-spelled}
use Rattle.clr_view.proofs.Standing.{listed_from}
use Rattle.clr_sos.specs.CellScans.{suits_object}
use Rattle.clr_sos.specs.CheckedCells.{crosses, is_header, is_whole, may_hold, Rules, suits}
use Rattle.clr_format.specs.HeapFields.{rules_with}
use Rattle.clr_save.specs.SavedWords.{own_boundary}
use Rattle.clr_save.proofs.SavedBytes.{no-mark, spelled-len, spelled-mt}
use Rattle.clr_save.proofs.SavedCells.{IsObjectCell}
use Rattle.clr_save.proofs.SavedItems.{saved_from, saved_item, saved_items, segment-are}
use Rattle.clr_save.proofs.SavedListing.{all, listed-shuffled}

-- ---- tests

-- what crosses no boundary passes the test
apart-from : (boundary place size : ℕ) → (boundary ≤ place) ⊎ (place + size ≤ boundary)
    → crosses boundary place size ≡ false
apart-from boundary place size (inl above) = grind (arith, above)
apart-from boundary place size (inr below) = grind (arith, below)

-- a boundary of another segment is 0
own-apart : (b : Bool) (boundary place size : ℕ) → (b ≡ true → crosses boundary place size ≡ false)
    → crosses (if b then boundary else 0) place size ≡ false
own-apart true boundary place size apart = apart refl
own-apart false boundary place size apart = apart-from 0 place size (inl (omega arith))

free-suits : (kind : SegKind) (large t size : ℕ) → (t == 0) ≡ true → suits kind large t size ≡ true
free-suits Small large t size e = rw e refl
free-suits Ephemeral large t size e = rw e refl
free-suits Large large t size e = rw e refl
free-suits Pinned large t size e = refl

object-suits : (kind : SegKind) (large t size : ℕ) → (t == 0) ≡ false → suits_object large kind size ≡ true
    → suits kind large t size ≡ true
object-suits Small large t size e fits = rw e fits
object-suits Ephemeral large t size e fits = rw e fits
object-suits Large large t size e fits = rw e fits
object-suits Pinned large t size e fits = refl

whole-is : (rules : Rules) (p t size : ℕ) → rules.holes ≡ [] → p + size ≤ rules.end
    → crosses rules.start1 p size ≡ false → crosses rules.start0 p size ≡ false
    → suits rules.kind rules.large t size ≡ true → is_whole rules p t size ≡ true
whole-is rules p t size none inside apart1 apart0 fits =
    let l = le-leb (p + size) rules.end inside in rw (l, none, apart1, apart0, fits) refl

clean-header : (rows : List TypeRow) (t header : ℕ) → IsCleanHeader rows t header
    → (is_header header ≡ true) × ((header == 0) || has_finalizer (type_row rows t) ≡ true)
clean-header rows t header (inl none) = rw none (refl, refl)
clean-header rows t header (inr (set, final)) = rw (set, final) (refl, refl)

-- a class has no length
no-length : (rows : List TypeRow) (word : ℕ → ℕ) (i : Item) → i ≡ item_at rows word i.place
    → is_array (form_at rows i.type_id.0) ≡ false → i.len ≡ 0
unfolding item_at length_at
no-length rows word i is plain =
    let type : i.type_id.0 ≡ type_number (word i.place) = ap (λ (x : Item). x.type_id.0) is in
    let same : is_array (form_at rows (type_number (word i.place))) ≡ false =
    ap (λ (t : ℕ). is_array (form_at rows t)) (sym type) ∙ plain in
    ap (λ (x : Item). x.len) is ∙ ap (λ (b : Bool). if b then word (i.place + 8) else 0) same

-- an array is no longer than its bytes
form-len : (form : Form) (final : Bool) (len : ℕ) → is_lawful_form form final ≡ true → is_array form ≡ true
    → size_of form len ≤ 1073741824 → len ≤ 1073741824
form-len (class_form pattern) final len lawful array small = absurd cc
form-len references_form final len lawful array small = omega arith
form-len bytes_form final len lawful array small = omega arith
form-len (structs_form []) final len lawful array small = absurd cc
form-len (structs_form (b ∷ pattern)) final len lawful array small =
    let e = suc-mul (length pattern) len in omega (arith, e)

row-len : (rows : List TypeRow) (t len : ℕ) → AllByRecursion IsLawfulRow rows
    → is_array (form_of_row (slice_get rows t)) ≡ true → size_of (form_of_row (slice_get rows t)) len ≤ 1073741824
    → len ≤ 1073741824
row-len [] t len all array small = omega arith
row-len (row ∷ rows) zero len all array small = form-len row.form row.finalizer len all.0.form array small
row-len (row ∷ rows) (suc t) len all array small = row-len rows t len all.1 array small

pub array-len : (rows : List TypeRow) (t len : ℕ) → AllByRecursion IsLawfulRow rows → is_array (form_at rows t) ≡ true
    → size_of (form_at rows t) len ≤ 1073741824 → len ≤ 1073741824
array-len rows zero len all array small = omega arith
array-len rows (suc t) len all array small = row-len rows t len all array small

pub len-fits : (rows : List TypeRow) (t len : ℕ) → AllByRecursion IsLawfulRow rows
    → (is_array (form_at rows t) ≡ false → len ≡ 0) → size_of (form_at rows t) len ≤ 1073741824 → len < 2 ^ 64
len-fits rows t len all none small = elim (cases_Bool (is_array (form_at rows t))) [
  | inl array ↦ let l = array-len rows t len all array small in omega arith
  | inr plain ↦ let e = none plain in omega arith
]

-- an item of parts stands in its own place
pub item-part : (ps : List Part) (i : Item) → IsIn i (items_in ps) → IsIn i (map saved_item ps)
item-part [] i l = elim l [ ]
item-part (item_part j ∷ ps) i l = elim (in_cons l) [
  | inl here ↦ subst (λ (x : Item). IsIn x (j ∷ map saved_item ps)) (sym here) first
  | inr more ↦ later (item-part ps i more)
]
item-part (rest_part low high ∷ ps) i l = later (item-part ps i l)

-- an object in the place of parts is an item of these
pub part-item : (ps : List Part) (i : Item) → IsIn i (map saved_item ps) → is_object i ≡ true → IsIn i (items_in ps)
part-item [] i l o = elim l [ ]
part-item (item_part j ∷ ps) i l o = elim (in_cons l) [
  | inl here ↦ subst (λ (x : Item). IsIn x (j ∷ items_in ps)) (sym here) first
  | inr more ↦ later (part-item ps i more o)
]
part-item (rest_part low high ∷ ps) i l o = elim (in_cons l) [
  | inl here ↦ absurd (true≢false (sym o ∙ ap is_object here))
  | inr more ↦ part-item ps i more o
]

-- the items of a segment are among all
saved-in : (rows : List TypeRow) (h : HeapView) (i : Item) (j k n : ℕ) → j ≤ k → k < j + n
    → IsIn i (saved_items rows h k) → IsIn i (saved_from rows h j n)
saved-in rows h i j k zero low high l = absurd (omega arith)
saved-in rows h i j k (suc n) low high l = elim (cases_eq j k) [
  | inl same ↦
      append_left (saved_from rows h (j + 1) n)
      (subst (λ (m : ℕ). IsIn i (saved_items rows h m)) (sym same) l)
  | inr other ↦
      append_right (saved_items rows h j)
      (saved-in rows h i (j + 1) k n (let lower : j ≢ k = other in omega arith) (omega arith) l)
]

module _ (rows : List TypeRow) (h : HeapView) (heap : IsHeap h) (held : IsHeld rows h) where
  -- ---- where items lie

  -- the ranges of a heap: objects, free items, and what is left of contexts
  abbrev pub heap_pieces : List Piece
  heap_pieces =
      by_place ((map (object_piece rows) (objects_in rows h) ++ free_in rows h) ++ rest_pieces h.rests)

  into-pieces : (p : Piece)
      → IsIn p ((map (object_piece rows) (objects_in rows h) ++ free_in rows h) ++ rest_pieces h.rests)
      → IsIn p heap_pieces
  into-pieces p l = into_sorted_by (λ (q : Piece). q.place) p
      ((map (object_piece rows) (objects_in rows h) ++ free_in rows h) ++ rest_pieces h.rests) l

  -- the range of an item of the image is one of them
  saved-piece : (i : Item) → IsIn i (all rows h heap held) → IsIn (item_piece i) heap_pieces
  saved-piece i l = elim (in_append (map (model.object_item rows) (objects_in rows h))
      (shuffled-in i (shuffled-sym (listed-shuffled rows h heap held)) l)) [
        | inl object ↦
            let from = from-map (model.object_item rows) i (objects_in rows h) object in
            subst (λ (p : Piece). IsIn p heap_pieces) (sym (ap item_piece from.1))
            (into-pieces (object_piece rows from.0)
            (append_left (rest_pieces h.rests) (append_left (free_in rows h) (IsIn-map (object_piece rows) from.2))))
        | inr free ↦
            let from = from-map model.free_item i (by_place (free_in rows h ++ rest_pieces h.rests)) free in
            subst (λ (p : Piece). IsIn p heap_pieces) (sym (ap item_piece from.1))
            (into-pieces from.0 (elim (in_append (free_in rows h)
            (out_of_sorted_by (λ (q : Piece). q.place) from.0 (free_in rows h ++ rest_pieces h.rests) from.2)) [
              | inl item ↦
                  append_left (rest_pieces h.rests) (append_right (map (object_piece rows) (objects_in rows h)) item)
              | inr rest ↦ append_right (map (object_piece rows) (objects_in rows h) ++ free_in rows h) rest
            ]))
      ]

  module _ (large k : ℕ) (l : k < length h.segments)
      (whole1 : AllByRecursion (DoesNotCross h.start1) heap_pieces)
      (whole0 : AllByRecursion (DoesNotCross h.start0) heap_pieces)
      (fits : (i : Item) → IsIn i (listing rows h k) → is_object i ≡ true
      → suits_object large (segment_at h k).kind i.size ≡ true) where
    abbrev pub rules : Rules
    rules = rules_with large rows (segment_at h k) (own_boundary h k h.start1) (own_boundary h k h.start0)

    -- it lies whole in the segment and in one generation, and suits the segment
    pub item-whole : (i : Item) → IsIn i (saved_items rows h k)
        → is_whole rules i.place i.type_id.0 i.size ≡ true
    item-whole i here =
        let is = all_at (IsItem rows (first_of h k) (last_of h k)) here (segment-are rows h heap held.walkable k l) in
        let young = same_kind (segment_at h k).kind Ephemeral in
        let piece = saved-piece i (saved-in rows h i 0 k (length h.segments) (omega arith) (omega arith) here) in
        whole-is rules i.place i.type_id.0 i.size refl is.below
        (own-apart young h.start1 i.place i.size (λ e. apart-from h.start1 i.place i.size
        (all_at (DoesNotCross h.start1) piece whole1)))
        (own-apart young h.start0 i.place i.size (λ e. apart-from h.start0 i.place i.size
        (all_at (DoesNotCross h.start0) piece whole0)))
        (elim (cases_Bool (i.type_id.0 == 0)) [
          | inl free ↦ free-suits (segment_at h k).kind large i.type_id.0 i.size free
          | inr some ↦
              let object : is_object i ≡ true = ap not some in
              object-suits (segment_at h k).kind large i.type_id.0 i.size some
              (fits i (part-item (parts_of rows h k) i here object) object)
        ])

    -- ---- objects

    module _ (clear : IsUnmarked rows h) (clean : AreClean rows h) (lawful : AllByRecursion IsLawfulRow rows)
        (holds : (i : Item) → IsIn i (listing rows h k)
        → may_hold (segment_at h k).kind (form_at rows i.type_id.0) ≡ true) where
      -- THE CELL of an object is clean
      pub object-cell : (i : Item) → IsIn i (listing rows h k) → is_object i ≡ true → IsObjectCell rules (word_of h) i
      object-cell i here object =
          let listed = listed_from rows h k i l here in
          let is = listed-item rows h i heap held listed in
          let spelled = listed-spelled rows h i heap held listed in
          let small = listed-small rows h i heap held listed in
          let some : (i.type_id.0 == 0) ≡ false = grind (arith, object) in
          let words = clean i listed object in
          let header = clean-header rows i.type_id.0 (word_of h (i.place - 8)) words.header in
          let len = spelled-len rows (word_of h) i spelled.0 in
          let none = no-length rows (word_of h) i spelled.0 in
          let whole = item-whole i (item-part (parts_of rows h k) i here) in
          let size = is.sized in
          record {
            cell = record {
              aligned = is.aligned;
              above = listed-above rows h i heap held listed;
              header = header.0;
              final = header.1;
              known = listed-known rows h i heap held listed;
              mt = spelled-mt rows (word_of h) i spelled.0 spelled.1
                  (no-mark rows h heap held clear clean i listed object);
              held = holds i here;
              length_word = len;
              no_length = none;
              length_fits = let fits = le-leb (size_of (form_at rows i.type_id.0) i.len) 1073741824 small in
                  rw (some, fits) refl;
              whole = ap (is_whole rules i.place i.type_id.0) (sym size) ∙ whole;
              padding = λ a from low high.
                  let past : i.place + slots_end (form_at rows i.type_id.0) i.len ≤ a = grind (arith, some, from) in
                  words.padding a past (omega arith);
            };
            small = len-fits rows i.type_id.0 i.len lawful none small;
          }
