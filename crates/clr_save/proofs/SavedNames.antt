-- What an image names stands among its items.
use Rattle.std.proofs.Common.{◌≡◌, ℕ, ◌^◌, ◌<◌, ◌&&◌, ◌||◌, ◌==◌, Bool, true}
use Rattle.std.proofs.Common.{false, not, List, [], ◌∷◌, length, map, nat_eq, Some, None}
use Rattle.std.proofs.Common.{refl}
use Rattle.std.proofs.Common.{ap, sym, ◌∙◌, arith, inl, inr, if◌then◌else◌, true≢false}
use Rattle.std.specs.List.{list_any}
use Rattle.std.proofs.lemmas.Bool.{eq-eqb, ne_eqb}
use Rattle.std.proofs.lemmas.List.Folds.{list_any-append}
use Rattle.clr_types.specs.Ranges.{Piece}
use Rattle.clr_types.specs.Rising.{IsIn, IsRisingBy}
use Rattle.clr_types.specs.Types.{TypeRow}
use Rattle.clr_types.specs.declared.item.Item.{Item}
use Rattle.clr_types.proofs.ChangedLists.{append_left}
use Rattle.clr_types.proofs.RisingLists.{all_at, in_cons}
use Rattle.clr_types.proofs.Shuffles.{shuffled-any, shuffled-in, shuffled-sym}
use Rattle.clr_heap.specs.View.{heap_items, HeapView, IsHeap, item_with_place}
use Rattle.clr_heap.specs.View.{only_object}
use Rattle.clr_model.specs.Listing as model
use Rattle.clr_view.specs.SlotValues.{StandsAt}
use Rattle.clr_view.specs.View.{IsHeld, is_object}
use Rattle.clr_view.specs.World.{IsNullOrStands}
use Rattle.clr_view.proofs.Listed.{listed-low}
use Rattle.clr_view.proofs.ObjectItems.{stands-item}
use Rattle.clr_sos.specs.Faults.{is_name, stands}
use Rattle.clr_sos.proofs.NamedPlaces.{stands-name}
use Rattle.clr_format.specs.NameTests as tests
use Rattle.clr_save.proofs.SavedItems.{from-rise, from-shuffled, rests_from, saved_from}

-- ---- items

-- the item with a place among items that rise
find-risen : (items : List Item) (i : Item) → IsRisingBy (λ (j : Item). j.place) items → IsIn i items
    → item_with_place items i.place ≡ Some i
find-risen [] i rise l = elim l [ ]
find-risen (j ∷ items) i rise l = elim (in_cons l) [
  | inl here ↦
      let e = eq-eqb j.place i.place (ap (λ (x : Item). x.place) (sym here)) in
      rw e (ap (λ (x : Item). Some x) (sym here))
  | inr more ↦
      let low = all_at (λ (x : Item). j.place < x.place) more rise.0 in
      let e = ne_eqb j.place i.place (λ same. omega arith) in
      rw e (find-risen items i rise.1 more)
]

none-free : (x : ℕ) (rests : List Piece)
    → list_any (λ (i : Item). (i.place == x) && is_object i) (map model.free_item rests) ≡ false
none-free x [] = refl
none-free x (r ∷ rests) = go (r.place == x) (none-free x rests)
  where
    go : (b : Bool) → list_any (λ (i : Item). (i.place == x) && is_object i) (map model.free_item rests) ≡ false
        → ((b && false) || list_any (λ (i : Item). (i.place == x) && is_object i) (map model.free_item rests)) ≡ false
    go true rest = rest
    go false rest = rest

or-false : (a b : Bool) → b ≡ false → (a || b) ≡ a
or-false true b e = refl
or-false false b e = e

module _ (rows : List TypeRow) (h : HeapView) (heap : IsHeap h) (held : IsHeld rows h) where
  -- the items of the image
  abbrev pub image_items : List Item
  image_items = saved_from rows h 0 (length h.segments)

  -- no rest is an object
  same-stands : (x : ℕ) → stands image_items x ≡ stands (heap_items rows h) x
  same-stands x =
      let test : Item → Bool = λ i. (i.place == x) && is_object i in
      let rests = rests_from rows h 0 (length h.segments) in
      shuffled-any test (from-shuffled rows h 0 (length h.segments))
      ∙ list_any-append test (heap_items rows h) (map model.free_item rests)
      ∙ or-false (stands (heap_items rows h) x) (list_any test (map model.free_item rests)) (none-free x rests)

  -- what is null or stands in the heap, the image may name
  pub named : (x : ℕ) → IsNullOrStands rows h x → is_name image_items x ≡ true
  named x stands = ap (λ (b : Bool). (x == 0) || b) (same-stands x) ∙ stands-name rows h x stands

  -- its place is a word
  pub place-fits : (x : ℕ) → IsNullOrStands rows h x → x < 2 ^ 64
  place-fits x (inl null) = omega arith
  place-fits x (inr there) =
      let found = stands-item rows h heap held x there in
      let at = found.at in
      let low = listed-low rows h _ heap held found.listed in
      omega arith

  -- the item of an object among those of the image
  pub object-found : (x : ℕ) (there : StandsAt rows h x) (i : Item) → IsIn i (heap_items rows h) → is_object i ≡ true
      → i.place ≡ x → tests.object_at image_items x ≡ Some i
  object-found x there i l object at =
      let n = length h.segments in
      let inside : IsIn i image_items =
      shuffled-in i (shuffled-sym (from-shuffled rows h 0 n))
      (append_left (map model.free_item (rests_from rows h 0 n)) l) in
      let found = find-risen image_items i (from-rise rows h heap held.walkable 0 n (omega arith)) inside in
      ap only_object (ap (item_with_place image_items) (sym at) ∙ found) ∙ only-is i object
    where
      only-is : (i : Item) → is_object i ≡ true → only_object (Some i) ≡ Some i
      only-is i object = go (nat_eq i.type_id.0 0) object
        where
          go : (b : Bool) → not b ≡ true → (if b then None else Some i) ≡ Some i
          go true e = absurd (true≢false (sym e))
          go false e = refl
