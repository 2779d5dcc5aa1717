-- The segments of an image and the items in their memory.
use Rattle.std.specs.Prelude.{ℕ, ◌+◌, ◌-◌, ◌%◌, ◌^◌, ◌==◌, nat_le, List, [], ◌∷◌, ◌++◌}
use Rattle.std.specs.Prelude.{map, slice_get, Bool, true, not, ◌&&◌}
use Rattle.std.specs.Prelude.{if◌then◌else◌, Option, Some, None, Result, Ok, Err}
use Rattle.std.specs.List.{flat_map}
use Rattle.clr_types.specs.Types.{TypeRow}
use Rattle.clr_types.specs.Segments.{first_place, is_small_or_ephemeral, reserved_end, reserved_sum}
use Rattle.clr_types.specs.declared.item.Item.{Item}
use Rattle.clr_types.specs.declared.segment.SegInfo.{SegInfo}
use Rattle.clr_types.specs.declared.segment.SegKind.{SegKind}
use Rattle.clr_types.specs.declared.segment.SegKind.TheVariants.{Small, Ephemeral, Large, Pinned}
use Rattle.clr_heap.specs.Drafts.{empty_heap, has_kind, is_young}
use Rattle.clr_heap.specs.Filled.{memory_from}
use Rattle.clr_heap.specs.View.{frame, HeapView}
use Rattle.clr_sos.specs.CheckedCells.{checked_items, Rules, Words}
use Rattle.clr_sos.specs.Faults.{is_between, item_addresses}
use Rattle.clr_format.specs.declared.head.Head.{Head}
use Rattle.clr_heap.specs.declared.heap.draft.SegmentHead.{SegmentHead}
use Rattle.clr_fields.specs.Fields.{anything, Found, fault, found, found_then, Fields, field, gives, is_from_to}
use Rattle.clr_fields.specs.Fields.{times, word_at, ◌>>=◌}

-- ---- kinds

-- the kinds that an image of the first version may have, by their numbers
abbrev pub first_kinds : List SegKind
first_kinds = Small ∷ Ephemeral ∷ Large ∷ []

-- and those of the second version
abbrev pub second_kinds : List SegKind
second_kinds = Small ∷ Ephemeral ∷ Large ∷ Pinned ∷ []

abbrev pub kinds_of : Bool → List SegKind
kinds_of first = if first then first_kinds else second_kinds

abbrev pub kind_number : SegKind → ℕ
kind_number Small = 0
kind_number Ephemeral = 1
kind_number Large = 2
kind_number Pinned = 3

-- no second ephemeral segment, and no small one behind it
abbrev pub may_follow : List SegInfo → SegKind → Bool
may_follow segments kind = not (is_small_or_ephemeral kind && has_kind Ephemeral segments)

abbrev pub kind_found : List SegInfo → ℕ → Option SegKind → Found SegKind
kind_found segments o None = fault o
kind_found segments o (Some kind) = if may_follow segments kind then found kind (o + 8) else fault o

-- the kind of the next segment
abbrev pub kind_field : Bool → List SegInfo → Fields SegKind
kind_field first segments bytes o =
    found_then bytes (λ n bytes next. kind_found segments o (slice_get (kinds_of first) n)) (field anything bytes o)

-- ---- the heap so far

-- the heap that was read, where the memory of each segment stands in the bytes, its items, and the offsets of the
-- references with what they name
pub record Body : Type 0 where
  pub heap : HeapView
  pub offsets : List ℕ
  pub items : List Item
  pub references : List (ℕ × ℕ)

abbrev pub empty_body : ℕ → Body
empty_body limit = record { heap = empty_heap limit; offsets = []; items = []; references = [] }

-- ---- the memory of one segment

-- where the word at an address of a segment stands, whose memory begins at the offset: its first word is the header of
-- the item at the first place
abbrev pub offset_in : SegInfo → ℕ → ℕ → ℕ
offset_in s o a = o + (a - (s.base + 0xff8))

abbrev pub words_from : List ℕ → SegInfo → ℕ → Words
words_from bytes s o a = word_at bytes (offset_in s o a)

abbrev pub value_or_zero : Option ℕ → ℕ
value_or_zero None = 0
value_or_zero (Some w) = w

abbrev pub rules_with : ℕ → List TypeRow → SegInfo → ℕ → ℕ → Rules
rules_with large rows s start1 start0 = record {
  rows = rows;
  kind = s.kind;
  end = s.end;
  start1 = start1;
  start0 = start0;
  large = large;
  holes = [];
  free_is_clear = true;
}

abbrev pub heap_more : List ℕ → HeapView → SegInfo → ℕ → ℕ → ℕ → HeapView
heap_more bytes h s start1 start0 o = record h {
  memories = h.memories ++ memory_from bytes s o ∷ [];
  segments = h.segments ++ s ∷ [];
  start1 = if is_young s then start1 else h.start1;
  start0 = if is_young s then start0 else h.start0;
  top = reserved_end s;
}

-- the word at an address, by its offset
abbrev pub word_named : List ℕ → SegInfo → ℕ → ℕ → ℕ × ℕ
word_named bytes s o a = (offset_in s o a, value_or_zero (words_from bytes s o a))

-- the offsets of the references of items, and what they name
abbrev pub references_in : List ℕ → List TypeRow → SegInfo → ℕ → List Item → List (ℕ × ℕ)
references_in bytes rows s o items = map (word_named bytes s o) (flat_map (item_addresses rows) items)

abbrev pub memory_of : List ℕ → List TypeRow → Body → SegInfo → ℕ → ℕ → ℕ → Result (List Item) ℕ → Found Body
memory_of bytes rows body s start1 start0 o (Err a) = fault (offset_in s o a)
memory_of bytes rows body s start1 start0 o (Ok items) =
    found (record {
      heap = heap_more bytes body.heap s start1 start0 o;
      offsets = body.offsets ++ o ∷ [];
      items = body.items ++ items;
      references = body.references ++ references_in bytes rows s o items;
    }) (o + (s.end - first_place s))

-- the memory of a segment: items from its first place to its end
unfoldable pub memory_field : Head → List TypeRow → Body → SegInfo → ℕ → ℕ → Fields Body
memory_field head rows body s start1 start0 bytes o =
    memory_of bytes rows body s start1 start0 o
    (checked_items (s.end - first_place s) (rules_with head.large rows s start1 start0) (words_from bytes s o)
    (first_place s))

-- ---- segments

-- above all segments so far
abbrev pub is_base : HeapView → ℕ → Bool
is_base h base = (base % 4096 == 0) && ((nat_le 0x10000000 base && nat_le h.top base) && nat_le base (2 ^ 61))

abbrev pub is_reserved : Head → HeapView → ℕ → Bool
is_reserved head h reserved =
    (reserved % 4096 == 0) && (nat_le 262144 reserved && nat_le (reserved_sum (frame h) + reserved) head.limit)

-- a multiple of 8 from the first place to the end of the reservation
abbrev pub is_end : ℕ → ℕ → ℕ → Bool
is_end base reserved end = is_between (base + 0x1000) end (base + reserved)

-- a boundary of the ephemeral segment, a multiple of 8 from low to high, and 0 in any other
abbrev pub is_boundary : SegInfo → ℕ → ℕ → Bool
is_boundary s low boundary = if is_young s then is_between low boundary s.end else boundary == 0

abbrev pub segment_with : ℕ → ℕ → SegKind → ℕ → SegInfo
segment_with base reserved kind end = record { base = base; reserved = reserved; kind = kind; end = end }

-- the fields before a segment's memory
unfoldable pub segment_head_fields : Head → HeapView → Fields SegmentHead
segment_head_fields head h = do
  base ← field (is_base h)
  reserved ← field (is_reserved head h)
  kind ← kind_field head.first h.segments
  end ← field (is_end base reserved)
  start1 ← field (is_boundary (segment_with base reserved kind end) (base + 0x1000))
  start0 ← field (is_boundary (segment_with base reserved kind end) start1)
  gives (record { info = segment_with base reserved kind end; start1 = start1; start0 = start0 })

-- one segment more
unfoldable pub segment_fields : Head → List TypeRow → Body → Fields Body
segment_fields head rows body = do
  s ← segment_head_fields head body.heap
  memory_field head rows body s.info s.start1 s.start0

-- there is an ephemeral segment, and a large one; where not, the fault is at the count of segments
abbrev pub has_needed : ℕ → Body → Fields Body
has_needed count_at body bytes o =
    if has_kind Ephemeral body.heap.segments && has_kind Large body.heap.segments then found body o
    else fault count_at

-- all segments
unfoldable pub heap_fields : Head → List TypeRow → Fields Body
heap_fields head rows bytes o =
    (field (is_from_to 2 4096) >>= (λ n.
    times n (segment_fields head rows) (empty_body head.limit) >>= has_needed o)) bytes o
