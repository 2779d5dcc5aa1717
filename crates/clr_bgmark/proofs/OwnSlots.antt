-- The slots of an object, as its item spells them: the word of a reference, and where it stands.
use Rattle.std.proofs.Common.{◌≡◌, ℕ, zero, suc, ◌+◌, List, [], ◌∷◌, map, refl, sym, ap, ◌∙◌, Some, subst}
use Rattle.std.specs.Prelude.{slice_get}
use Rattle.clr_types.specs.Rising.{IsIn, find_by}
use Rattle.clr_types.specs.Types.{TypeRow, Form, form_at, slot_offset, slots_of}
use Rattle.clr_types.specs.declared.item.Item.{Item}
use Rattle.clr_types.specs.declared.shape.Slot.{Slot}
use Rattle.clr_types.proofs.ChangedLists.{into_filter, IsIn-map, rising-distinct}
use Rattle.clr_types.proofs.SortedLists.{find_by-member}
use Rattle.clr_heap.specs.View.{HeapView, heap_items, IsHeap, word_of}
use Rattle.clr_model.specs.Machine.{ref, Object}
use Rattle.clr_view.specs.View.{IsHeld, object_in, objects_in, slot_value}
use Rattle.clr_view.specs.SlotValues.{IsObjectAt}
use Rattle.clr_view.proofs.Listings.{heap-rise}
use Rattle.clr_view.proofs.Rises.{objects-rise}
use Rattle.clr_view.proofs.SlotReads.{slot-told}
use Rattle.clr_mark.specs.Markings.{item_references}
use Rattle.clr_mark.proofs.References.{value_ref}
use Rattle.clr_background.proofs.Members.{read_member}

-- what is read of the images is the image of what is read
pub map_read : {X Y : Type 0} (f : X → Y) (xs : List X) (j : ℕ) (y : Y) → slice_get (map f xs) j ≡ Some y
    → (x : X) × (slice_get xs j ≡ Some x) × (f x ≡ y)
map_read f [] j y e = absurd cc
map_read f (x ∷ xs) zero y e = let same : f x ≡ y = cc in (x, refl, same)
map_read f (x ∷ xs) (suc j) y e = map_read f xs j y e

module _ (rows : List TypeRow) (h : HeapView) (heap : IsHeap h) (held : IsHeld rows h) (x : ℕ) (i : Item)
    (stands : IsObjectAt rows h x i) where
  abbrev form : Form
  form = form_at rows i.type_id.0

  abbrev own : Object
  own = object_in rows (word_of h) i

  -- the object with the name x is the item's
  pub object_is : (o : Object) → IsIn o (objects_in rows h) → o.name ≡ x → o ≡ own
  object_is o l e =
      let key : Object → ℕ = λ o. o.name in
      let distinct = rising-distinct key (objects_in rows h)
      (objects-rise rows (word_of h) (heap_items rows h) (heap-rise rows h held.walkable heap)) in
      let same : Some o ≡ Some own =
      sym (find_by-member key o (objects_in rows h) distinct l)
      ∙ ap (λ (n : ℕ). find_by key n (objects_in rows h)) e ∙ stands.named in
      cc

  -- its slot of this number is a reference, and stands at one of the offsets of references
  pub own_reference : (number y : ℕ) → slice_get own.slots number ≡ Some (ref y)
      → IsIn (slot_offset form number) (item_references rows i)
  own_reference number y e =
      let (slot, found, value) = map_read (slot_value form (word_of h) i.place) (slots_of form i.len) number (ref y) e
      in
      let reference = value_ref form (word_of h) slot.reference (i.place + slot.offset) y value in
      let listed : IsIn slot.offset (item_references rows i) =
      IsIn-map (λ (s : Slot). s.offset)
      (into_filter (λ (s : Slot). s.reference) (slots_of form i.len) reference.0
      (read_member (slots_of form i.len) number slot found)) in
      subst (λ (n : ℕ). IsIn n (item_references rows i)) (slot-told form i.len number slot found).1 listed
