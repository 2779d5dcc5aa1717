-- The items of a heap and the pieces of the machine that it is the memory of.
use Rattle.std.proofs.Common.{◌≡◌, ℕ, ◌+◌, ◌<◌, ◌≤◌, ◌⊎◌, List, ◌++◌, map, filter, length, refl, sym, ap, subst, ◌∙◌}
use Rattle.std.proofs.Common.{arith, Bool, true, false, not}
use Rattle.clr_types.specs.Rising.{IsIn}
use Rattle.clr_types.specs.Ranges.{Piece}
use Rattle.clr_types.specs.Segments.{Layout, rest_pieces}
use Rattle.clr_types.specs.Types.{TypeRow}
use Rattle.clr_types.specs.declared.item.Item.{Item}
use Rattle.clr_types.proofs.ChangedLists.{append_left, into_filter, IsIn-map, out_of_filter}
use Rattle.clr_types.proofs.ListMembers.{append_right, from-map}
use Rattle.clr_types.proofs.RisingLists.{all_at}
use Rattle.clr_types.proofs.SegmentFacts.{between-stands}
use Rattle.clr_types.proofs.SortedLists.{into_sorted_by}
use Rattle.clr_heap.specs.Parts.{item_piece}
use Rattle.clr_heap.specs.View.{first_of, heap_items, HeapView, IsHeap, last_of, listing, segment_at, word_of}
use Rattle.clr_heap.proofs.Framing.{lawful_at}
use Rattle.clr_model.specs.Compaction.{Move}
use Rattle.clr_model.specs.Lawful.{IsLaid}
use Rattle.clr_model.specs.Lookups.{object_piece, object_size, pieces}
use Rattle.clr_model.specs.Machine.{Machine, Object}
use Rattle.clr_model.proofs.LawfulPieces.{object-in-pieces}
use Rattle.clr_view.specs.View.{IsHeld, layout_in, object_in, objects_in}
use Rattle.clr_view.specs.Items.{is_free, is_object}
use Rattle.clr_view.proofs.Items.{IsItem}
use Rattle.clr_view.proofs.Listed.{listed-in, listed-sized}
use Rattle.clr_view.proofs.Listings.{listing-are}
use Rattle.clr_sweep.proofs.SurvivorsSwept.{listed-from, seen}
use Rattle.clr_moves.specs.Moves.{part_of, takes}
use Rattle.clr_moves.specs.declared.condemned.Condemned.{Condemned}
use Rattle.clr_moves.proofs.FilledParts.{FillsParts}

module _ (rows : List TypeRow) (old : HeapView) (base : Machine) (heap : IsHeap old) (held : IsHeld rows old)
    (laid : IsLaid (seen rows old base)) where
  abbrev m : Machine
  m = seen rows old base

  -- an item's range is that of its object
  pub object_range : (i : Item) → IsIn i (heap_items rows old)
      → object_piece rows (object_in rows (word_of old) i) ≡ item_piece i
  object_range i l = let size = listed-sized rows old i heap held l in
      λ k. record { place = i.place; size = sym size k }

  -- and a piece of the machine
  pub item_in_pieces : (i : Item) → IsIn i (heap_items rows old) → IsIn (item_piece i) (pieces m)
  item_in_pieces i l = go (is_free i) refl
    where
      go : (b : Bool) → is_free i ≡ b → IsIn (item_piece i) (pieces m)
      go true free =
          into_sorted_by (λ (p : Piece). p.place) (item_piece i)
          ((map (object_piece rows) (objects_in rows old) ++ (layout_in rows old).free) ++ rest_pieces old.rests)
          (append_left (rest_pieces old.rests)
          (append_right (map (object_piece rows) (objects_in rows old))
          (IsIn-map item_piece (into_filter is_free (heap_items rows old) free l))))
      go false object =
          let is : is_object i ≡ true = ap not object in
          subst (λ p. IsIn p (pieces m)) (object_range i l)
          (object-in-pieces m laid (object_in rows (word_of old) i)
          (IsIn-map (object_in rows (word_of old)) (into_filter is_object (heap_items rows old) is l)))

  -- the item that an object is
  pub record IsItemOf (o : Object) : Type 0 where
    pub item : Item
    pub listed : IsIn item (heap_items rows old)
    pub object : is_object item ≡ true
    pub is : o ≡ object_in rows (word_of old) item
    pub size : object_size rows o ≡ item.size

  pub item_of : (o : Object) → IsIn o (objects_in rows old) → IsItemOf o
  item_of o n =
      let (i, is, there) = from-map (object_in rows (word_of old)) o (filter is_object (heap_items rows old)) n in
      let (object, listed) = out_of_filter is_object i (heap_items rows old) there in
      record {
        item = i;
        listed = listed;
        object = object;
        is = is;
        size = ap (λ (x : Object). object_size rows x) is ∙ ap (λ (p : Piece). p.size) (object_range i listed);
      }

  pub object_of : (i : Item) → IsIn i (heap_items rows old) → is_object i ≡ true
      → IsIn (object_in rows (word_of old) i) (objects_in rows old)
  object_of i l object = IsIn-map (object_in rows (word_of old)) (into_filter is_object (heap_items rows old) object l)

  -- where it stands
  pub record Stands (i : Item) : Type 0 where
    pub segment : ℕ
    pub inside : segment < length old.segments
    pub here : IsIn i (listing rows old segment)
    pub is : IsItem rows (first_of old segment) (last_of old segment) i

  pub standing : (i : Item) → IsIn i (heap_items rows old) → Stands i
  standing i l =
      let (k, below, there) = listed-in rows old i 0 (length old.segments) l in
      let inside : k < length old.segments = omega arith in
      record {
        segment = k;
        inside = inside;
        here = there;
        is = all_at (IsItem rows (first_of old k) (last_of old k)) there (listing-are rows old held.walkable k inside);
      }

  -- no item crosses the place where a part starts
  pub part_whole : (g : Condemned) (keeps : ℕ → Bool) (moves : List Move) (after : Layout)
      (c : FillsParts rows old base g keeps moves after) (t : ℕ) → t < length old.segments
      → takes g (segment_at old t) ≡ true → (i : Item) → IsIn i (listing rows old t)
      → (part_of old g t ≤ i.place) ⊎ (i.place + i.size ≤ part_of old g t)
  part_whole g keeps moves after c t inside on i l =
      let s = segment_at old t in
      let is = all_at (IsItem rows (first_of old t) (last_of old t)) l (listing-are rows old held.walkable t inside) in
      let low = is.above in
      let high = is.below in
      let least_size = is.least in
      let room = (lawful_at old t heap inside).high in
      c.uncrossed s (c.among t inside on) (item_piece i) (item_in_pieces i (listed-from rows old t i inside l))
      (between-stands s i.place low (omega arith))
