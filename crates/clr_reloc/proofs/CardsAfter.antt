-- Cards tell of what is left where it goes: the card law over the layout that is planned.
use Rattle.std.proofs.Common.{◌≡◌, ℕ, zero, suc, ◌+◌, ◌/◌, ◌<◌, Bool, true, List, [], ◌∷◌}
use Rattle.std.proofs.Common.{filter, map}
use Rattle.std.proofs.Common.{refl, ap, sym, ◌∙◌, subst, subst₂, Some}
use Rattle.std.specs.Prelude.{slice_get}
use Rattle.clr_types.specs.Rising.{first, IsIn, later}
use Rattle.clr_types.specs.Segments.{generation, Layout}
use Rattle.clr_types.specs.Types.{form_at, slot_offset, slots_of, TypeRow}
use Rattle.clr_types.specs.declared.item.Item.{Item}
use Rattle.clr_types.specs.declared.shape.Slot.{Slot}
use Rattle.clr_types.proofs.ChangedLists.{into_filter, IsIn-map, out_of_filter}
use Rattle.clr_types.proofs.ListMembers.{from-map}
use Rattle.clr_heap.specs.View.{heap_items, HeapView, word_of}
use Rattle.clr_model.specs.Compaction.{Move, moved_by}
use Rattle.clr_model.specs.Machine.{num, Object, ref, Value}
use Rattle.clr_view.specs.View.{is_object, object_in, objects_in, slot_value}
use Rattle.clr_view.proofs.SlotReads.{slot-told}
use Rattle.clr_mark.proofs.References.{value_ref}
use Rattle.clr_generations.specs.Laws.{CardLaw}
use Rattle.clr_moves.specs.Objects.{is_left_by, moved_object, relocated_object, relocated_value}
use Rattle.clr_moves.specs.declared.condemned.Condemned.{Condemned}
use Rattle.clr_reloc.specs.References.{references_of}
use Rattle.clr_reloc.specs.Relocated.{left_objects}
use Rattle.clr_reloc.specs.Relocating.{IsCarded, IsLeftItem}
use Rattle.clr_reloc.proofs.LeftPlaces.{left_by}

-- what a changed list has at a number was made of what the list has there
got_from : {X Y : Type 0} (f : X → Y) (xs : List X) (n : ℕ) (y : Y) → slice_get (map f xs) n ≡ Some y
    → (x : X) × (slice_get xs n ≡ Some x) × (f x ≡ y)
got_from f [] n y e = absurd cc
got_from f (x ∷ xs) zero y e = (x, refl, cc)
got_from f (x ∷ xs) (suc n) y e = got_from f xs n y e

got_in : {X : Type 0} (xs : List X) (n : ℕ) (x : X) → slice_get xs n ≡ Some x → IsIn x xs
got_in [] n x e = absurd cc
got_in (y ∷ xs) zero x e = let same : y ≡ x = cc in subst (λ z. IsIn z (y ∷ xs)) same first
got_in (y ∷ xs) (suc n) x e = later (got_in xs n x e)

-- a reference was one before
was_reference : (vs : List Move) (v : Value) (x : ℕ) → relocated_value vs v ≡ ref x
    → (y : ℕ) × (v ≡ ref y) × (moved_by vs y ≡ x)
was_reference vs (ref y) x e = (y, refl, cc)
was_reference vs (num n) x e = absurd cc

module _ (rows : List TypeRow) (view : HeapView) (g : Condemned) (vs : List Move) (layout : Layout) (is_set : ℕ → Bool)
    (carded : (i : Item) (offset : ℕ) → IsLeftItem rows view g i → IsIn offset (references_of rows i)
    → IsCarded view vs layout is_set i.place offset) where
  -- an object that is left, and the item that it is
  record FromItem (o : Object) : Type 0 where
    item : Item
    left : IsLeftItem rows view g item
    is : o ≡ moved_object vs (relocated_object vs (object_in rows (word_of view) item))

  from_item : (o : Object) → IsIn o (left_objects rows view g vs) → FromItem o
  from_item o n =
      let (p, is, m) = from-map (λ o. moved_object vs (relocated_object vs o)) o
      (filter (is_left_by view g) (objects_in rows view)) n in
      let (left, listed) = out_of_filter (is_left_by view g) p (objects_in rows view) m in
      let (i, at, k) = from-map (object_in rows (word_of view)) p (filter is_object (heap_items rows view)) listed in
      let (object, there) = out_of_filter is_object i (heap_items rows view) k in
      record {
        item = i;
        left = record {
          listed = there;
          object = object;
          left = sym (left_by view g (object_in rows (word_of view) i))
              ∙ subst (λ (q : Object). is_left_by view g q ≡ true) at left;
        };
        is = is ∙ ap (λ q. moved_object vs (relocated_object vs q)) at;
      }

  pub card_law : CardLaw rows layout (left_objects rows view g vs) is_set
  card_law a n =
      let f = from_item n.object n.present in
      let t = from_item n.target n.target_present in
      let i = f.item in
      let form = form_at rows i.type_id.0 in
      let slots = ap (λ (o : Object). o.slots) f.is in
      let (v, got, value) = got_from (relocated_value vs)
      (map (slot_value form (word_of view) i.place) (slots_of form i.len))
      n.slot (ref n.target.name) (subst (λ os. slice_get os n.slot ≡ Some (ref n.target.name)) slots n.named) in
      let (y, is_ref, goes) = was_reference vs v n.target.name value in
      let (s, slot_got, slot_is) = got_from (slot_value form (word_of view) i.place) (slots_of form i.len) n.slot v got
      in
      let (reference, word) = value_ref form (word_of view) s.reference (i.place + s.offset) y (slot_is ∙ is_ref) in
      let (kind, offset) = slot-told form i.len n.slot s slot_got in
      let listed : IsIn s.offset (references_of rows i) =
      IsIn-map (λ (s : Slot). s.offset)
      (into_filter (λ (s : Slot). s.reference) (slots_of form i.len) reference
      (got_in (slots_of form i.len) n.slot s slot_got)) in
      let name : n.target.name ≡ n.target.place =
      ap (λ (o : Object). o.name) t.is ∙ sym (ap (λ (o : Object). o.place) t.is) in
      let target : moved_by vs (word_of view (i.place + s.offset)) ≡ n.target.place =
      ap (moved_by vs) word ∙ goes ∙ name in
      let place : n.object.place ≡ moved_by vs i.place = ap (λ (o : Object). o.place) f.is in
      let address : a ≡ moved_by vs i.place + s.offset =
      n.address ∙ ap (λ (o : Object). o.place + slot_offset (form_at rows o.type) n.slot) f.is
      ∙ ap (λ m. moved_by vs i.place + m) (sym offset) in
      subst (λ x. is_set (x / 2048) ≡ true) (sym address)
      (carded i s.offset f.left listed
      (subst₂ (λ x y. generation layout x < generation layout y) (sym target) place n.younger))
