-- The object at a place, and the item that its words spell.
use Rattle.std.proofs.Common.{◌≡◌, inl, inr, ℕ, true, List, [], ◌∷◌, filter, map, Some, ap, sym, ◌∙◌, subst}
use Rattle.clr_types.specs.Rising.{find_by, first, IsIn, later}
use Rattle.clr_types.specs.Types.{TypeRow}
use Rattle.clr_types.specs.declared.item.Item.{Item}
use Rattle.clr_types.proofs.ChangedLists.{into_filter, IsIn-map, out_of_filter, rising-distinct}
use Rattle.clr_types.proofs.RisingLists.{in_cons}
use Rattle.clr_types.proofs.SortedLists.{find_by-member}
use Rattle.clr_heap.specs.Memories.{HasWord}
use Rattle.clr_heap.specs.Parts.{item_at}
use Rattle.clr_heap.specs.View.{HasItem, heap_items, HeapView, IsHeap, word_of}
use Rattle.clr_model.specs.Machine.{Object}
use Rattle.clr_view.specs.View.{IsHeld, is_object, object_in, objects_in}
use Rattle.clr_view.specs.SlotValues.{IsObjectAt, StandsAt}
use Rattle.clr_view.proofs.Listed.{listed-head, listed-known, listed-small, listed-spelled, listed_word}
use Rattle.clr_view.proofs.Listings.{heap-rise}
use Rattle.clr_view.proofs.Rises.{objects-rise}

-- a member of the images is the image of a member
pub in_map : {X Y : Type 0} (f : X → Y) (y : Y) (xs : List X) → IsIn y (map f xs) → (x : X) × IsIn x xs × (f x ≡ y)
in_map f y [] l = elim l [ ]
in_map f y (x ∷ xs) l = elim (in_cons l) [
  | inl here ↦ (x, first, sym here)
  | inr more ↦ let found = in_map f y xs more in (found.0, later found.1, found.2)
]

module _ (rows : List TypeRow) (h : HeapView) (heap : IsHeap h) (held : IsHeld rows h) where
  -- each object is told by its place
  pub object-told : (i : Item) → IsIn i (heap_items rows h) → is_object i ≡ true
      → find_by (λ (o : Object). o.name) i.place (objects_in rows h) ≡ Some (object_in rows (word_of h) i)
  object-told i listed object =
      let key : Object → ℕ = λ o. o.name in
      let distinct =
      rising-distinct key (objects_in rows h)
      (objects-rise rows (word_of h) (heap_items rows h) (heap-rise rows h held.walkable heap)) in
      find_by-member key (object_in rows (word_of h) i) (objects_in rows h) distinct
      (IsIn-map (object_in rows (word_of h)) (into_filter is_object (heap_items rows h) object listed))

  module _ (place : ℕ) (stands : StandsAt rows h place) where
    -- the item that the object at the place is
    abbrev found : (i : Item) × IsIn i (filter is_object (heap_items rows h))
        × (object_in rows (word_of h) i ≡ stands.0)
    found = in_map (object_in rows (word_of h)) stands.0 (filter is_object (heap_items rows h)) stands.1

    abbrev i : Item
    i = found.0

    passed : (is_object i ≡ true) × IsIn i (heap_items rows h)
    passed = out_of_filter is_object i (heap_items rows h) found.1

    at : i.place ≡ place
    at = ap (λ (o : Object). o.place) found.2 ∙ stands.2

    -- its head can be read
    pub stands-head : HasItem rows h place
    stands-head = subst (HasItem rows h) at (listed-head rows h i heap held passed.1)

    spelled : i ≡ item_at rows (word_of h) place
    spelled = (listed-spelled rows h i heap held passed.1).0 ∙ ap (item_at rows (word_of h)) at

    this : IsObjectAt rows h place i
    this = record {
      listed = passed.1;
      object = passed.0;
      at = at;
      named = ap (λ q. find_by (λ (o : Object). o.name) q (objects_in rows h)) (sym at)
          ∙ object-told i passed.1 passed.0;
      known = listed-known rows h i heap held passed.1;
      small = listed-small rows h i heap held passed.1;
    }

    -- THE OBJECT AT A PLACE: the item that the words there spell
    pub stands-item : IsObjectAt rows h place (item_at rows (word_of h) place)
    stands-item = subst (IsObjectAt rows h place) spelled this

-- whether the heap is lawful or not, the word at an object's place can be read
pub stands_word : (rows : List TypeRow) (h : HeapView) (place : ℕ) → IsHeld rows h → StandsAt rows h place
    → HasWord h.memories place
stands_word rows h place held stands =
    let (i, among, is) = in_map (object_in rows (word_of h)) stands.0 (filter is_object (heap_items rows h)) stands.1 in
    let at : i.place ≡ place = ap (λ (o : Object). o.place) is ∙ stands.2 in
    let listed = (out_of_filter is_object i (heap_items rows h) among).1 in
    subst (HasWord h.memories) at (listed_word rows h i held listed)
