-- The item that an object of a heap is.
use Rattle.std.proofs.Common.{◌≡◌, ◌%◌, ◌≤◌, true, List, ap, arith, filter}
use Rattle.clr_types.specs.Rising.{IsIn}
use Rattle.clr_types.specs.Types.{TypeRow}
use Rattle.clr_types.specs.declared.item.Item.{Item}
use Rattle.clr_types.proofs.ChangedLists.{out_of_filter}
use Rattle.clr_types.proofs.ListMembers.{from-map}
use Rattle.clr_heap.specs.View.{heap_items, HeapView, IsHeap, word_of}
use Rattle.clr_model.specs.Machine.{Object}
use Rattle.clr_view.specs.View.{IsHeld, is_object, object_in, objects_in}
use Rattle.clr_view.proofs.Listed.{listed-above, listed-item}

module _ (rows : List TypeRow) (h : HeapView) where
  pub record IsItemOf (o : Object) : Type 0 where
    pub item : Item
    pub listed : IsIn item (heap_items rows h)
    pub object : is_object item ≡ true
    pub is : o ≡ object_in rows (word_of h) item
    pub at : o.place ≡ item.place

  pub item-of : (o : Object) → IsIn o (objects_in rows h) → IsItemOf o
  item-of o n =
      let (i, is, there) = from-map (object_in rows (word_of h)) o (filter is_object (heap_items rows h)) n in
      let (object, listed) = out_of_filter is_object i (heap_items rows h) there in
      record { item = i; listed = listed; object = object; is = is; at = ap (λ (q : Object). q.place) is }

  pub place-high : IsHeap h → IsHeld rows h → (o : Object) → IsIn o (objects_in rows h)
      → (8 ≤ o.place) × (o.place % 8 ≡ 0)
  place-high heap held o n =
      let k = item-of o n in
      let at = k.at in
      let up = listed-above rows h k.item heap held k.listed in
      let z = (listed-item rows h k.item heap held k.listed).aligned in
      (omega (arith, at, up), omega (arith, at, z))
