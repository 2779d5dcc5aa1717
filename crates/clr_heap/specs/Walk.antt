-- What a walk has left.
use Rattle.std.specs.Prelude.{◌≡◌, ℕ, ◌<◌, ◌≤◌, List, None, length}
use Rattle.clr_types.specs.declared.item.Item.{Item}
use Rattle.clr_heap.specs.declared.walk.Cursor.{Cursor}
use Rattle.clr_heap.specs.ObjectKinds.{IsObjectKind}
use Rattle.clr_heap.specs.Parts.{hole_from}
use Rattle.clr_heap.specs.View.{CanWalk, first_of, holes_of, IsHeap, items_between, last_of, sight}

-- the items that a walk has yet to give
abbrev pub items_left : Cursor → List Item
items_left c = items_between (sight c.types.now c.heap.now c.k) c.place c.end

-- the parts ahead are of segment k and can be walked, no hole starts before the next one that is known, and what is
-- known of objects is so
pub record IsCursor (c : Cursor) : Type 0 where
  pub in_range : c.k < length c.heap.now.segments
  pub walk : CanWalk (sight c.types.now c.heap.now c.k) c.heap.now.memories c.place c.end
  pub clear : (q : ℕ) → c.place ≤ q → q < c.next_hole → q < c.end → hole_from (holes_of c.heap.now c.k) q ≡ None
  pub known : IsObjectKind c.types.now c.known
  pub heap : IsHeap c.heap.now
  pub low : first_of c.heap.now c.k ≤ c.place
  pub last : c.end ≤ last_of c.heap.now c.k
