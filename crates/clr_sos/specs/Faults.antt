-- The first address of a heap that isn't lawful, and of its locals. Objects of `large` bytes and more are large.
use Rattle.std.specs.Prelude.{◌≡◌, ℕ, zero, suc, ◌+◌, ◌%◌, ◌<◌, ◌≤◌, Bool, false, not, ◌&&◌, ◌||◌, nat_le, min, ◌==◌}
use Rattle.std.specs.Prelude.{if◌then◌else◌, List, [], ◌∷◌, length, map, filter, get_or, Option, Some, None}
use Rattle.std.specs.List.{flat_map, list_all, list_any}
use Rattle.clr_types.specs.Types.{TypeRow, form_at}
use Rattle.clr_types.specs.Descriptors.{reference_offsets}
use Rattle.clr_types.specs.Ranges.{Piece, piece_end}
use Rattle.clr_types.specs.Segments.{first_place, reserved_end, same_kind}
use Rattle.clr_types.specs.declared.item.Item.{Item}
use Rattle.clr_types.specs.declared.segment.SegInfo.{SegInfo}
use Rattle.clr_types.specs.declared.segment.SegKind.TheVariants.{Ephemeral}
use Rattle.clr_heap.specs.View.{first_of, heap_items, HeapView, holes_of, last_of, segment_at, word_of}
use Rattle.clr_view.specs.View.{is_object}
use Rattle.clr_sos.specs.CheckedCells.{checked_items, fault_of, or_else, Rules, Words}

-- ---- the first pass: ends, boundaries and items

-- every word of a heap is there
abbrev pub words_in : HeapView → Words
words_in h a = Some (word_of h a)

-- segment k is the ephemeral one
abbrev pub is_young : HeapView → ℕ → Bool
is_young h k = same_kind (segment_at h k).kind Ephemeral

-- what the checks know of segment k, where objects of `large` bytes and more are large; the boundaries matter in the
-- ephemeral segment alone
abbrev pub rules_of : List TypeRow → ℕ → HeapView → ℕ → Rules
rules_of rows large h k = record {
  rows = rows;
  kind = (segment_at h k).kind;
  end = last_of h k;
  start1 = if is_young h k then h.start1 else 0;
  start0 = if is_young h k then h.start0 else 0;
  large = large;
  holes = holes_of h k;
  free_is_clear = false;
}

-- a multiple of 8 from low to high
abbrev pub is_between : ℕ → ℕ → ℕ → Bool
is_between low n high = (n % 8 == 0) && (nat_le low n && nat_le n high)

-- the end of segment k, and the boundaries where they are its own, stand in order
abbrev pub has_bounds : HeapView → ℕ → Bool
has_bounds h k =
    is_between (first_of h k) (last_of h k) (reserved_end (segment_at h k))
    && (not (is_young h k)
    || (is_between (first_of h k) h.start1 (last_of h k) && is_between h.start1 h.start0 (last_of h k)))

-- the first fault of the items of segment k
abbrev pub items_fault_of : List TypeRow → ℕ → HeapView → ℕ → Option ℕ
items_fault_of rows large h k =
    fault_of (checked_items (last_of h k) (rules_of rows large h k) (words_in h) (first_of h k))

-- the first fault of segment k; that of a bound is its base
abbrev pub segment_fault : List TypeRow → ℕ → HeapView → ℕ → Option ℕ
segment_fault rows large h k = if has_bounds h k then items_fault_of rows large h k else Some (segment_at h k).base

-- the first fault of n segments from segment k on
unfoldable pub segments_fault : List TypeRow → ℕ → HeapView → ℕ → ℕ → Option ℕ
segments_fault rows large h k zero = None
segments_fault rows large h k (suc n) = or_else (segment_fault rows large h k) (segments_fault rows large h (k + 1) n)

-- ---- the second pass: references and locals

-- an object has this place
abbrev pub stands : List Item → ℕ → Bool
stands items place = list_any (λ (i : Item). (i.place == place) && is_object i) items

-- a name is null or the place of an object
abbrev pub is_name : List Item → ℕ → Bool
is_name items place = (place == 0) || stands items place

-- the addresses of an item's references; a free item has none
abbrev pub item_addresses : List TypeRow → Item → List ℕ
item_addresses rows i = map (λ offset. i.place + offset) (reference_offsets (form_at rows i.type_id.0) i.len)

abbrev pub addresses : List TypeRow → List Item → List ℕ
addresses rows items = flat_map (item_addresses rows) items

-- the lower of two addresses, of which the first may be missing
abbrev pub lower : Option ℕ → ℕ → Option ℕ
lower None a = Some a
lower (Some b) a = Some (min b a)

-- the lowest of addresses and of one that may be missing
unfoldable pub lowest : Option ℕ → List ℕ → Option ℕ
lowest low [] = low
lowest low (a ∷ as_) = lowest (lower low a) as_

-- the lowest address of a reference that is neither null nor an object's place
abbrev pub references_fault : List TypeRow → HeapView → Option ℕ
references_fault rows h =
    lowest None (filter (λ a. not (is_name (heap_items rows h) (word_of h a))) (addresses rows (heap_items rows h)))

-- a local that is neither is the fault 0
abbrev pub locals_fault : List TypeRow → HeapView → List ℕ → Option ℕ
locals_fault rows h locals = if list_all (is_name (heap_items rows h)) locals then None else Some 0

-- ---- the answer

-- first the segments, then the references, then the locals
abbrev pub first_fault : List TypeRow → ℕ → HeapView → List ℕ → Option ℕ
first_fault rows large h locals =
    or_else (segments_fault rows large h 0 (length h.segments))
    (or_else (references_fault rows h) (locals_fault rows h locals))

-- ---- conditions

-- a range of at least 24 bytes, at multiples of 8, in the used part of a segment
pub record IsInside (s : SegInfo) (r : Piece) : Type 0 where
  pub above : first_place s ≤ r.place
  pub below : piece_end r ≤ s.end
  pub least : 24 ≤ r.size
  pub aligned : piece_end r % 8 ≡ 0

-- what is left of contexts lies in the ephemeral segment
abbrev pub AreInside : HeapView → Type 0
AreInside h =
    (i k : ℕ) (r : Piece) → get_or h.rests i None ≡ Some r → k < length h.segments → (segment_at h k).kind ≡ Ephemeral
    → IsInside (segment_at h k) r
