-- The heap as its callers see it.
use Rattle.std.specs.Prelude.{◌≡◌, ℕ, ◌+◌, ◌-◌, ◌%◌, ◌^◌, ◌<◌, ◌≤◌, List, [], ◌∷◌, ◌++◌, length, get_or, map, find}
use Rattle.std.specs.Prelude.{nat_eq, nat_le, if◌then◌else◌, ◌==◌, Bool, ◌&&◌, Option, Some, None, replicate}
use Rattle.std.specs.List.{AllByRecursion}
use Rattle.clr_mem.specs.Words.{is_between, Memory}
use Rattle.clr_types.specs.Types.{TypeRow, form_at, is_array, mt_of}
use Rattle.clr_types.specs.Ranges.{Piece}
use Rattle.clr_types.specs.Segments.{Layout, first_place, reserved_end, same_kind, empty_segment, segments_of}
use Rattle.clr_types.specs.Segments.{reserved_sum, ephemeral, opening_segment, sealed_segment, stands_in}
use Rattle.clr_types.specs.LawfulLayout.{AreDisjoint, IsLawfulSegment}
use Rattle.clr_types.specs.declared.item.Item.{Item}
use Rattle.clr_types.specs.declared.segment.SegInfo.{SegInfo}
use Rattle.clr_types.specs.declared.segment.SegKind.{SegKind}
use Rattle.clr_types.specs.declared.segment.SegKind.TheVariants.{Small, Ephemeral, Large, Pinned}
use Rattle.clr_heap.specs.Memories.{first_memory, HasWord, word_in, store_in, memory_index, shapes}
use Rattle.clr_heap.specs.Parts.{item_at, items_in, NamesItem, Part, parts, Sight, Spells}

-- The words of each segment, the segments by rising base, what is left of each thread's context (by thread, from 1),
-- the boundaries of the generations, the highest end of a reservation that ever was, and the most that may be reserved.
pub record HeapView : Type 0 where
  pub memories : List Memory
  pub segments : List SegInfo
  pub rests : List (Option Piece)
  pub start1 : ℕ
  pub start0 : ℕ
  pub top : ℕ
  pub limit : ℕ

-- the heap as a layout whose free items aren't told
abbrev pub frame : HeapView → Layout
frame h =
    record { segments = h.segments; start1 = h.start1; start0 = h.start0; free = []; rests = h.rests; top = h.top }

-- where a segment begins and how many bytes it reserves
abbrev pub extent_of : SegInfo → ℕ × ℕ
extent_of s = (s.base, s.reserved)

abbrev pub extents : List SegInfo → List (ℕ × ℕ)
extents ss = map extent_of ss

-- what holds of every heap
pub record IsHeap (h : HeapView) : Type 0 where
  pub memories : shapes h.memories ≡ extents h.segments
  pub segments : AllByRecursion IsLawfulSegment h.segments
  pub highest : AllByRecursion (λ (s : SegInfo). s.base ≤ 2 ^ 61) h.segments
  pub disjoint : AreDisjoint h.segments
  pub below_top : AllByRecursion (λ (s : SegInfo). reserved_end s ≤ h.top) h.segments
  pub one_ephemeral : length (segments_of Ephemeral (frame h)) ≡ 1
  pub ephemeral_last :
      AllByRecursion (λ (s : SegInfo). s.base ≤ (ephemeral (frame h)).base) (segments_of Small (frame h))
  pub top_aligned : h.top % 4096 ≡ 0
  pub top_small : h.top ≤ 2 ^ 61 + 2 ^ 30
  pub within_limit : reserved_sum (frame h) ≤ h.limit
  pub limit_small : h.limit ≤ 1073741824
  pub threads : length h.rests ≡ 16

-- what a heap keeps beside what its callers see: where the places of the ephemeral segment begin and end
pub record IsKept (h : HeapView) (first last : ℕ) : Type 0 where
  pub heap : IsHeap h
  pub low : first ≡ first_place (ephemeral (frame h))
  pub high : last ≡ reserved_end (ephemeral (frame h))

-- ---- one segment

-- segment k
abbrev pub segment_at : HeapView → ℕ → SegInfo
segment_at h k = get_or h.segments k empty_segment

-- the first place of segment k
abbrev pub first_of : HeapView → ℕ → ℕ
first_of h k = first_place (segment_at h k)

-- the end of segment k
abbrev pub last_of : HeapView → ℕ → ℕ
last_of h k = (segment_at h k).end

-- the holes of segment k, which only the ephemeral one has
abbrev pub holes_of : HeapView → ℕ → List (Option Piece)
holes_of h k = if same_kind (segment_at h k).kind Ephemeral then h.rests else []

-- ---- words

-- the word at an address
abbrev pub word_of : HeapView → ℕ → ℕ
word_of h a = word_in h.memories a

-- whether the word at an address names a place of the ephemeral segment from `low` on
abbrev pub names_from : HeapView → ℕ → ℕ → Bool
names_from h low a = nat_le low (word_of h a) && stands_in (ephemeral (frame h)) (word_of h a)

-- whether a word may be a reference: null is none, and the highest number is no place
abbrev pub may_refer : ℕ → Bool
may_refer v = is_between 1 (2 ^ 64 - 1) v

-- the heap with a word written
abbrev pub stored : HeapView → ℕ → ℕ → HeapView
stored h a v = record h { memories = store_in h.memories a v }

-- whatever became of the words, all else stays
pub record SameShape (old new : HeapView) : Type 0 where
  pub memories : shapes new.memories ≡ shapes old.memories
  pub others : new ≡ record old { memories = new.memories }

-- ---- parts

-- what a reader of segment k knows
abbrev pub sight : List TypeRow → HeapView → ℕ → Sight
sight rows h k = record { rows = rows; word = word_in h.memories; holes = holes_of h k }

-- from p to e the words spell parts, and they can be read
pub record CanWalk (s : Sight) (ms : List Memory) (p e : ℕ) : Type 0 where
  pub start : p % 8 ≡ 0
  pub spelled : Spells s p (parts e s p e) e
  pub held : (a : ℕ) → a % 8 ≡ 0 → p ≤ a + 8 → a + 8 < e → memory_index ms a < length ms

-- the items from p to e
abbrev pub items_between : Sight → ℕ → ℕ → List Item
items_between s p e = items_in (parts e s p e)

-- the parts of segment k
abbrev pub parts_of : List TypeRow → HeapView → ℕ → List Part
parts_of rows h k = parts (last_of h k) (sight rows h k) (first_of h k) (last_of h k)

-- the items of segment k
abbrev pub listing : List TypeRow → HeapView → ℕ → List Item
listing rows h k = items_between (sight rows h k) (first_of h k) (last_of h k)

-- the parts of segment k fill it from its first place to its end
abbrev pub IsWalkable : List TypeRow → HeapView → ℕ → Type 0
IsWalkable rows h k = CanWalk (sight rows h k) h.memories (first_of h k) (last_of h k)

-- the parts of every segment fill it
abbrev pub AreWalkable : List TypeRow → HeapView → Type 0
AreWalkable rows h = (k : ℕ) → k < length h.segments → IsWalkable rows h k

-- the parts of segment k are ps
pub record PartsAre (rows : List TypeRow) (h : HeapView) (k : ℕ) (ps : List Part) : Type 0 where
  pub walkable : IsWalkable rows h k
  pub parts : parts_of rows h k ≡ ps

-- the parts of segment k are ps now, and what isn't a word stayed
pub record HasParts (rows : List TypeRow) (old new : HeapView) (k : ℕ) (ps : List Part) : Type 0 where
  pub shape : SameShape old new
  pub walkable : IsWalkable rows new k
  pub parts : parts_of rows new k ≡ ps

-- what holds at an item on a walk from p to e
pub record AfterItem (s : Sight) (ms : List Memory) (p e : ℕ) : Type 0 where
  pub names : NamesItem s.rows s.word p
  pub walk : CanWalk s ms (p + (item_at s.rows s.word p).size) e
  pub items : items_between s p e
      ≡ item_at s.rows s.word p ∷ items_between s (p + (item_at s.rows s.word p).size) e
  pub mt : HasWord ms p
  pub len : HasWord ms (p + 8)
  pub within : p + (item_at s.rows s.word p).size ≤ e

-- the items of n segments from segment k on, by rising address
abbrev pub listings : List TypeRow → HeapView → ℕ → ℕ → List Item
listings rows h k ℕ.zero = []
listings rows h k (ℕ.suc n) = listing rows h k ++ listings rows h (k + 1) n

-- the items of the heap, by rising address
abbrev pub heap_items : List TypeRow → HeapView → List Item
heap_items rows h = listings rows h 0 (length h.segments)

-- the item with this place
abbrev pub item_with_place : List Item → ℕ → Option Item
item_with_place items a = find (λ i. nat_eq i.place a) items

-- an item that isn't free
abbrev pub only_object : Option Item → Option Item
only_object None = None
only_object (Some i) = if nat_eq i.type_id.0 0 then None else Some i

-- ---- heads

-- the heap with the head of an item written at a: a clear header, the method table word, and the length where the type
-- has one
unfoldable pub placed : List TypeRow → HeapView → ℕ → ℕ → ℕ → HeapView
placed rows h a t n =
    if is_array (form_at rows t)
    then stored (stored (stored h (a - 8) 0) a (mt_of t)) (a + 8) n
    else stored (stored h (a - 8) 0) a (mt_of t)

-- the heap with a free item of this size made at a
abbrev pub freed : HeapView → ℕ → ℕ → HeapView
freed h a size = placed [] h a 0 (size - 24)

-- the words of the head of an item at a can be written
pub record HasHead (h : HeapView) (a : ℕ) : Type 0 where
  pub above : 8 ≤ a
  pub header : HasWord h.memories (a - 8)
  pub mt : HasWord h.memories a
  pub len : HasWord h.memories (a + 8)

-- an item starts at a, and its head can be read
pub record HasItem (rows : List TypeRow) (h : HeapView) (a : ℕ) : Type 0 where
  pub names : NamesItem rows (word_of h) a
  pub mt : HasWord h.memories a
  pub len : HasWord h.memories (a + 8)

-- ---- contexts

-- the rest from low to high, none where it is empty
abbrev pub rest_between : ℕ → ℕ → Option Piece
rest_between low high = if low == high then None else Some (record { place = low; size = high - low })

-- where a rest begins and ends
abbrev pub rest_bounds : Piece → ℕ × ℕ
rest_bounds r = (r.place, r.place + r.size)

-- no thread has a context
abbrev pub no_rests : List (Option Piece)
no_rests = replicate 16 None

-- ---- segments that come and go

-- the heap with a new segment of another kind than the ephemeral one
abbrev pub heap_with_segment : HeapView → SegKind → ℕ → HeapView
heap_with_segment h kind size =
    record h {
      memories = h.memories ++ first_memory h.top size ∷ [];
      segments = h.segments ++ opening_segment h.top kind size ∷ [];
      top = h.top + size;
    }

-- the heap with a new ephemeral segment: the old one is small now, and no place of the new one is old
abbrev pub with_ephemeral : HeapView → ℕ → HeapView
with_ephemeral h size =
    record h {
      memories = h.memories ++ first_memory h.top size ∷ [];
      segments = map sealed_segment h.segments ++ opening_segment h.top Ephemeral size ∷ [];
      start1 = h.top + 0x1000;
      start0 = h.top + 0x1000;
      top = h.top + size;
    }

-- the heap with a new segment
abbrev pub acquired : HeapView → SegKind → ℕ → HeapView
acquired h Small size = heap_with_segment h Small size
acquired h Ephemeral size = with_ephemeral h size
acquired h Large size = heap_with_segment h Large size
acquired h Pinned size = heap_with_segment h Pinned size

-- the heap at the start
abbrev pub opening_heap : ℕ → ℕ → HeapView
opening_heap segment limit =
    record {
      memories = first_memory 0x10000000 segment ∷ first_memory (0x10000000 + segment) segment ∷ [];
      segments = opening_segment 0x10000000 Ephemeral segment
          ∷ opening_segment (0x10000000 + segment) Large segment
          ∷ [];
      rests = no_rests;
      start1 = 0x10001000;
      start0 = 0x10001000;
      top = 0x10000000 + segment + segment;
      limit = limit;
    }
