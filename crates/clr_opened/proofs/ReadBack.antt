-- The objects of a heap are read back.
use Rattle.std.proofs.Common.{◌≡◌, ℕ, zero, suc, ◌+◌, ◌-◌, ◌*◌, ◌<◌, ◌≤◌, ◌^◌, ◌==◌, Bool, true, false}
use Rattle.std.proofs.Common.{not, if◌then◌else◌, List, [], ◌∷◌, ◌++◌, filter, length, map, refl}
use Rattle.std.proofs.Common.{arith, ap, ap₂, sym, ◌∙◌}
use Rattle.std.proofs.lemmas.List.Elements.{filter-append}
use Rattle.clr_types.specs.Rising.{IsIn}
use Rattle.clr_types.specs.Types.{TypeRow}
use Rattle.clr_types.specs.declared.item.Item.{Item}
use Rattle.clr_types.proofs.ChangedLists.{all_members, map-agree, out_of_filter}
use Rattle.clr_heap.specs.Drafts.{empty_heap}
use Rattle.clr_heap.specs.Parts.{item_part, items_in, Part, rest_part}
use Rattle.clr_heap.specs.View.{first_of, heap_items, HeapView, IsHeap, last_of, listings, parts_of, word_of}
use Rattle.clr_format.specs.declared.head.Head.{Head}
use Rattle.clr_view.specs.View.{IsHeld, is_object, object_in, objects_among, objects_in}
use Rattle.clr_view.proofs.Items.{CellsStay, object-stays}
use Rattle.clr_view.proofs.Listed.{listed-above, listed-item}
use Rattle.clr_view.proofs.Standing.{standing}
use Rattle.clr_save.proofs.LowBytes.{put_as-same}
use Rattle.clr_save.proofs.SavedFills.{written_from, written_segment}
use Rattle.clr_save.proofs.SavedItems.{saved_from, saved_item, saved_items}
use Rattle.clr_save.specs.WrittenHeap.{heap_after}
use Rattle.clr_opened.proofs.ReadObjects.{read-word}

-- what is left of contexts becomes no object
objects-saved : (ps : List Part) → filter is_object (map saved_item ps) ≡ filter is_object (items_in ps)
objects-saved [] = refl
objects-saved (item_part i ∷ ps) =
    ap (λ (is : List Item). if is_object i then i ∷ is else is) (objects-saved ps)
objects-saved (rest_part low high ∷ ps) = objects-saved ps

objects-from : (rows : List TypeRow) (h : HeapView) (k n : ℕ)
    → filter is_object (saved_from rows h k n) ≡ filter is_object (listings rows h k n)
objects-from rows h k zero = refl
objects-from rows h k (suc n) =
    filter-append is_object (saved_items rows h k) (saved_from rows h (k + 1) n)
    ∙ ap₂ (λ (xs ys : List Item). xs ++ ys) (objects-saved (parts_of rows h k)) (objects-from rows h (k + 1) n)
    ∙ sym (filter-append is_object (items_in (parts_of rows h k)) (listings rows h (k + 1) n))

none-free : (b : Bool) → not b ≡ true → b ≡ false
none-free true e = absurd cc
none-free false e = refl

module _ (rows : List TypeRow) (h : HeapView) (heap : IsHeap h) (held : IsHeld rows h) (head : Head)
    (few : length rows ≤ 1000)
    (counts : (j : ℕ) → j < length h.segments
    → 8 * length (written_segment rows h j).words ≡ last_of h j - first_of h j)
    (fit : (a : ℕ) → word_of h a < 2 ^ 64) (limit : ℕ) where
  abbrev read : HeapView
  read = heap_after (empty_heap limit) (written_from rows h 0 (length h.segments))

  same-object : (i : Item) → IsIn i (filter is_object (heap_items rows h))
      → object_in rows (word_of read) i ≡ object_in rows (word_of h) i
  same-object i l =
      let passed = out_of_filter is_object i (heap_items rows h) l in
      let there = standing rows h heap held i passed.1 in
      let object = none-free (i.type_id.0 == 0) passed.0 in
      let cells : CellsStay (word_of h) (word_of read) i.place (i.place + i.size) =
      λ b aligned low high.
      read-word rows h heap head few held.walkable counts limit there.segment there.in_range i there.listed object b
      aligned low (omega (arith, high))
      ∙ put_as-same (word_of h b) (fit b) in
      object-stays rows (word_of h) (word_of read) i.place (i.place + i.size) i
      (listed-above rows h i heap held passed.1) cells (listed-item rows h i heap held passed.1)

  -- THE OBJECTS are those that were written
  pub objects-read : objects_among rows (word_of read) (saved_from rows h 0 (length h.segments)) ≡ objects_in rows h
  objects-read =
      ap (map (object_in rows (word_of read))) (objects-from rows h 0 (length h.segments))
      ∙ map-agree (object_in rows (word_of read)) (object_in rows (word_of h)) (filter is_object (heap_items rows h))
      (all_members (λ (i : Item). object_in rows (word_of read) i ≡ object_in rows (word_of h) i)
      (filter is_object (heap_items rows h)) same-object)
