-- What has to hold of a heap and the locals of all threads so that nothing is wrong.
use Rattle.std.specs.Prelude.{◌≡◌, ℕ, ◌+◌, ◌%◌, ◌<◌, ◌≤◌, true, false, List, length}
use Rattle.clr_types.specs.Rising.{IsIn}
use Rattle.clr_types.specs.Types.{form_at, TypeRow}
use Rattle.clr_types.specs.LawfulLayout.{DoesNotCross}
use Rattle.clr_types.specs.declared.item.Item.{Item}
use Rattle.clr_heap.specs.Parts.{item_piece}
use Rattle.clr_heap.specs.View.{AreWalkable, first_of, heap_items, HeapView, holes_of, last_of, listing, segment_at}
use Rattle.clr_heap.specs.View.{word_of}
use Rattle.clr_view.specs.Clean.{AreClean}
use Rattle.clr_view.specs.Marks.{IsUnmarked}
use Rattle.clr_view.specs.View.{AreFreeHeads, is_object}
use Rattle.clr_view.specs.World.{IsNullOrStands}
use Rattle.clr_sos.specs.CheckedCells.{begins_in, may_hold}
use Rattle.clr_sos.specs.Faults.{addresses, is_young}
use Rattle.clr_sos.specs.CellScans.{suits_object}

-- an item of segment k lies in one generation, apart from holes, has a type that the segment holds, and its size suits
-- the segment, where objects of `large` bytes and more are large
pub record IsWellPlaced (rows : List TypeRow) (large : ℕ) (h : HeapView) (k : ℕ) (i : Item) : Type 0 where
  pub old : is_young h k ≡ true → DoesNotCross h.start1 (item_piece i)
  pub young : is_young h k ≡ true → DoesNotCross h.start0 (item_piece i)
  pub apart : begins_in (holes_of h k) i.place (i.place + i.size) ≡ false
  pub held : may_hold (segment_at h k).kind (form_at rows i.type_id.0) ≡ true
  pub suits : is_object i ≡ true → suits_object large (segment_at h k).kind i.size ≡ true

-- the boundaries stand in order in segment k, at multiples of 8
pub record HasBounds (h : HeapView) (k : ℕ) : Type 0 where
  pub aligned : (h.start1 % 8 ≡ 0) × (h.start0 % 8 ≡ 0)
  pub low : first_of h k ≤ h.start1
  pub middle : h.start1 ≤ h.start0
  pub high : h.start0 ≤ last_of h k

-- Nothing is wrong with a heap and the locals: the words spell items, the boundaries stand in order, each item is well
-- placed, headers, marks, padding and the heads of free items are as between lines, and each reference and each local
-- is null or the place of an object.
pub record IsFaultless (rows : List TypeRow) (large : ℕ) (h : HeapView) (locals : List ℕ) : Type 0 where
  pub walkable : AreWalkable rows h
  pub bounds : (k : ℕ) → k < length h.segments → is_young h k ≡ true → HasBounds h k
  pub placed : (k : ℕ) (i : Item) → k < length h.segments → IsIn i (listing rows h k)
      → IsWellPlaced rows large h k i
  pub clean : AreClean rows h
  pub unmarked : IsUnmarked rows h
  pub free_heads : AreFreeHeads rows h
  pub references : (a : ℕ) → IsIn a (addresses rows (heap_items rows h)) → IsNullOrStands rows h (word_of h a)
  pub locals_named : (x : ℕ) → IsIn x locals → IsNullOrStands rows h x
