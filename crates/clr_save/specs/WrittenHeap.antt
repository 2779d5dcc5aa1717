-- The segments of an image: what is written of each, when it is lawful, and the heap that is read back.
use Rattle.std.specs.Prelude.{◌≡◌, ℕ, ◌+◌, ◌-◌, ◌*◌, ◌/◌, ◌≤◌, List, [], ◌∷◌, ◌++◌, length, map, get_or, true, ◌&&◌}
use Rattle.std.specs.Prelude.{if◌then◌else◌}
use Rattle.std.specs.List.{AllByRecursion, flat_map}
use Rattle.clr_mem.specs.Words.{Memory, zeros}
use Rattle.clr_types.specs.Segments.{first_place, reserved_end}
use Rattle.clr_types.specs.Types.{TypeRow}
use Rattle.clr_types.specs.declared.item.Item.{Item}
use Rattle.clr_types.specs.declared.segment.SegKind.TheVariants.{Ephemeral, Large}
use Rattle.clr_heap.specs.Drafts.{empty_heap, has_kind, is_young}
use Rattle.clr_heap.specs.View.{HeapView}
use Rattle.clr_sos.specs.Faults.{item_addresses}
use Rattle.clr_format.specs.HeapFields.{Body, rules_with}
use Rattle.clr_format.specs.Saved.{words_bytes}
use Rattle.clr_save.specs.Writable.{IsWord, IsWrittenSegment}
use Rattle.clr_save.specs.Written.{words_of_head}
use Rattle.clr_save.specs.WrittenCells.{AreCells}
use Rattle.clr_format.specs.declared.head.Head.{Head}
use Rattle.clr_heap.specs.declared.heap.draft.SegmentHead.{SegmentHead}

-- a segment, the words of its memory from the header of the first item on, and its items
pub record WrittenSegment : Type 0 where
  pub head : SegmentHead
  pub words : List ℕ
  pub items : List Item

abbrev pub segment_bytes : WrittenSegment → List ℕ
segment_bytes seg = words_bytes (words_of_head seg.head) ++ words_bytes seg.words

abbrev pub segments_bytes : List WrittenSegment → List ℕ
segments_bytes segs = flat_map segment_bytes segs

-- the word at an address of a segment
abbrev pub word_among : WrittenSegment → ℕ → ℕ
word_among seg a = get_or seg.words ((a - (seg.head.info.base + 0xff8)) / 8) 0

-- the memory of a segment: its words, and zeros before and behind them
abbrev pub memory_of_segment : WrittenSegment → Memory
memory_of_segment seg = record {
  base = seg.head.info.base;
  words = zeros 511
      ++ (seg.words ++ zeros ((reserved_end seg.head.info - seg.head.info.end) / 8 + 1));
}

-- the heap with one segment more
abbrev pub heap_behind : HeapView → WrittenSegment → HeapView
heap_behind h seg = record h {
  memories = h.memories ++ memory_of_segment seg ∷ [];
  segments = h.segments ++ seg.head.info ∷ [];
  start1 = if is_young seg.head.info then seg.head.start1 else h.start1;
  start0 = if is_young seg.head.info then seg.head.start0 else h.start0;
  top = reserved_end seg.head.info;
}

abbrev pub heap_after : HeapView → List WrittenSegment → HeapView
heap_after h [] = h
heap_after h (seg ∷ segs) = heap_after (heap_behind h seg) segs

abbrev pub items_of_segments : List WrittenSegment → List Item
items_of_segments segs = flat_map (λ (seg : WrittenSegment). seg.items) segs

-- what the references in a segment name
abbrev pub names_in : List TypeRow → WrittenSegment → List ℕ
names_in rows seg = map (word_among seg) (flat_map (item_addresses rows) seg.items)

abbrev pub names_in_segments : List TypeRow → List WrittenSegment → List ℕ
names_in_segments rows segs = flat_map (names_in rows) segs

-- ---- when it is lawful

-- the memory of a segment is filled with items
pub record IsFilled (head : Head) (rows : List TypeRow) (seg : WrittenSegment) : Type 0 where
  pub low : first_place seg.head.info ≤ seg.head.info.end
  pub count : 8 * length seg.words ≡ seg.head.info.end - first_place seg.head.info
  pub words : AllByRecursion IsWord seg.words
  pub cells : AreCells (rules_with head.large rows seg.head.info seg.head.start1 seg.head.start0) (word_among seg)
      (first_place seg.head.info) seg.items

-- segments behind those of a heap
abbrev pub AreSegments : Head → List TypeRow → HeapView → List WrittenSegment → Type 0
AreSegments head rows h [] = Unit {0}
AreSegments head rows h (seg ∷ segs) =
    IsWrittenSegment head h seg.head × IsFilled head rows seg × AreSegments head rows (heap_behind h seg) segs

-- all segments of an image
pub record AreWrittenSegments (head : Head) (rows : List TypeRow) (segs : List WrittenSegment) : Type 0 where
  pub least : 2 ≤ length segs
  pub most : length segs ≤ 4096
  pub each : AreSegments head rows (empty_heap head.limit) segs
  pub needed : has_kind Ephemeral (heap_after (empty_heap head.limit) segs).segments
      && has_kind Large (heap_after (empty_heap head.limit) segs).segments ≡ true

-- what was read of a heap: the heap, its items, and what their references name
pub record IsBody (body : Body) (h : HeapView) (is : List Item) (ns : List ℕ) : Type 0 where
  pub heap : body.heap ≡ h
  pub items : body.items ≡ is
  pub names : map (λ (r : ℕ × ℕ). r.1) body.references ≡ ns
