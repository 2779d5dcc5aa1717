-- Where all items stay, and the words of their cells, so do objects, marks, heads of free items and clean words.
use Rattle.std.proofs.Common.{◌≡◌, ℕ, ◌+◌, ◌-◌, ◌<◌, ◌≤◌, Bool, true, false, if◌then◌else◌}
use Rattle.std.proofs.Common.{List, [], ◌∷◌, filter, length, map, get_or, refl, ap, sym, ◌∙◌, subst, arith}
use Rattle.std.proofs.Common.{None, Option, Some}
use Rattle.clr_types.specs.Ranges.{Piece}
use Rattle.clr_types.specs.Rising.{first, IsIn, later}
use Rattle.clr_types.specs.Types.{TypeRow}
use Rattle.clr_types.specs.declared.item.Item.{Item}
use Rattle.clr_types.proofs.RisingLists.{all_at}
use Rattle.clr_heap.specs.Parts.{item_at}
use Rattle.clr_heap.specs.View.{first_of, heap_items, HeapView, IsHeap, last_of, no_rests, word_of}
use Rattle.clr_model.specs.Machine.{Object}
use Rattle.clr_view.specs.Clean.{AreClean}
use Rattle.clr_view.specs.Marks.{has_mark, IsUnmarked}
use Rattle.clr_view.specs.SlotValues.{StandsAt}
use Rattle.clr_view.specs.View.{AreFreeHeads, is_object, IsHeld, object_in, objects_among, objects_in}
use Rattle.clr_view.proofs.CleanWords.{clean_but_marks}
use Rattle.clr_view.proofs.FreeHeads.{head_stays, listed_room}
use Rattle.clr_view.proofs.Items.{IsItem, object-stays}
use Rattle.clr_view.proofs.Listed.{listed-in}
use Rattle.clr_view.proofs.Listings.{listing-are}
use Rattle.clr_view.proofs.ObjectItems.{stands-item}
use Rattle.clr_view.proofs.Opening.{none-at}
use Rattle.clr_view.proofs.Standing.{standing}

-- where no thread has a context, none has a rest
pub no_rest : (h : HeapView) → h.rests ≡ no_rests → (i : ℕ) (r : Piece) → get_or h.rests i None ≡ Some r → ⊥
no_rest h none i r e =
    let clear : get_or h.rests i None ≡ None =
    ap (λ (rs : List (Option Piece)). get_or rs i None) none ∙ none-at 16 i in
    cc

-- all items are still there, and so are the words of their cells
pub record KeepsItems (rows : List TypeRow) (old new : HeapView) : Type 0 where
  pub heap : IsHeap new
  pub held : IsHeld rows new
  pub items : heap_items rows new ≡ heap_items rows old
  pub cells : (i : Item) (b : ℕ) → IsIn i (heap_items rows old) → i.place ≤ b + 8 → b + 8 < i.place + i.size
      → word_of new b ≡ word_of old b

-- an item by its own bounds
own-bounds : (rows : List TypeRow) (low high : ℕ) (i : Item) → IsItem rows low high i
    → IsItem rows i.place (i.place + i.size) i
own-bounds rows low high i is = record {
  aligned = is.aligned;
  above = omega arith;
  below = omega arith;
  least = is.least;
  known = is.known;
  sized = is.sized;
  whole = is.whole;
}

-- the objects of items whose words say the same
same-objects : (rows : List TypeRow) (old new : ℕ → ℕ) (items : List Item)
    → ((i : Item) → IsIn i items → object_in rows new i ≡ object_in rows old i) → objects_among rows new items
    ≡ objects_among rows old items
same-objects rows old new [] same = refl
same-objects rows old new (i ∷ items) same =
    go (is_object i) (same i first) (same-objects rows old new items (λ j l. same j (later l)))
  where
    go : (b : Bool) → object_in rows new i ≡ object_in rows old i → objects_among rows new items
        ≡ objects_among rows old items
        → map (object_in rows new) (if b then i ∷ filter is_object items else filter is_object items)
        ≡ map (object_in rows old) (if b then i ∷ filter is_object items else filter is_object items)
    go true here rest = λ k. here k ∷ rest k
    go false here rest = rest

module _ (rows : List TypeRow) (h new : HeapView) (heap : IsHeap h) (held : IsHeld rows h)
    (kept : KeepsItems rows h new) where
  -- THE OBJECTS STAY
  pub kept_objects : objects_in rows new ≡ objects_in rows h
  kept_objects =
      ap (objects_among rows (word_of new)) kept.items
      ∙ same-objects rows (word_of h) (word_of new) (heap_items rows h) (λ i listed.
      let home = listed-in rows h i 0 (length h.segments) listed in
      let inside : home.0 < length h.segments = let m = home.1 in omega arith in
      let is = all_at (IsItem rows (first_of h home.0) (last_of h home.0)) home.2
      (listing-are rows h held.walkable home.0 inside) in
      let above = is.above in
      object-stays rows (word_of h) (word_of new) i.place (i.place + i.size) i (omega arith)
      (λ b z low high. kept.cells i b listed low (omega arith))
      (own-bounds rows (first_of h home.0) (last_of h home.0) i is))

  -- so do the heads of free items
  pub kept_heads : AreFreeHeads rows h → AreFreeHeads rows new
  kept_heads heads i listed free =
      let was = subst (λ (is : List Item). IsIn i is) kept.items listed in
      let room = listed_room rows h heap held i was in
      head_stays (word_of h) (word_of new) i.place
      (kept.cells i (i.place - 8) was (omega arith) (omega (arith, room)))
      (kept.cells i i.place was (omega arith) (omega (arith, room))) (heads i was free)

  -- nothing is marked that wasn't
  pub kept_unmarked : IsUnmarked rows h → IsUnmarked rows new
  kept_unmarked none x u =
      let stands : StandsAt rows h x = subst (λ (os : List Object). (o : Object) × IsIn o os × (o.place ≡ x))
      kept_objects u.stands in
      let i = item_at rows (word_of h) x in
      let at = stands-item rows h heap held x stands in
      let here = standing rows h heap held i at.listed in
      let least = here.least in
      let place = at.at in
      let same : word_of new x ≡ word_of h x = kept.cells i x at.listed (omega arith) (omega arith) in
      none x (record { stands = stands; mark = sym (ap has_mark same) ∙ u.mark })

  -- and headers and padding stay clean
  pub kept_clean : AreClean rows h → AreClean rows new
  kept_clean =
      clean_but_marks rows h new heap held kept.heap kept.held
      (λ o. subst (λ (os : List Object). IsIn o os) kept_objects)
      (λ i b was l object aligned low high apart. kept.cells i b was low high)
