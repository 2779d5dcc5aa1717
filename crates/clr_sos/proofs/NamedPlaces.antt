-- What is null or the place of an object, by a test and by what stands in the heap.
use Rattle.std.proofs.Common.{◌≡◌, ℕ, ◌==◌, ◌&&◌, true, List, [], ◌∷◌, filter, refl, sym, ◌∙◌, ap, arith, inl, inr}
use Rattle.std.proofs.Common.{IsTrue, is_some, Option, subst, ◌⊎◌}
use Rattle.std.proofs.lemmas.Bool.{cases_Bool, or_right, true≢false}
use Rattle.clr_types.specs.Rising.{first, IsIn, later}
use Rattle.clr_types.specs.Types.{TypeRow}
use Rattle.clr_types.specs.declared.item.Item.{Item}
use Rattle.clr_types.proofs.ChangedLists.{into_filter, IsIn-map, out_of_filter}
use Rattle.clr_types.proofs.ListMembers.{from-map}
use Rattle.clr_types.proofs.RisingLists.{in_cons}
use Rattle.clr_heap.specs.View.{heap_items, HeapView, word_of}
use Rattle.clr_model.specs.Lookups.{object_named}
use Rattle.clr_model.specs.Machine.{Object}
use Rattle.clr_view.specs.View.{is_object, object_in, objects_in}
use Rattle.clr_view.specs.World.{IsNullOrStands}
use Rattle.clr_sos.specs.Faults.{is_name, stands}
use Rattle.clr_sos.proofs.JudgedNames.{found}

stands_in_list : (items : List Item) (i : Item) (x : ℕ) → IsIn i items → is_object i ≡ true → i.place ≡ x
    → stands items x ≡ true
stands_in_list [] i x m o e = elim m [ ]
stands_in_list (j ∷ items) i x m o e = elim (in_cons m) [
  | inl here ↦
      let place : (j.place == x) ≡ true = let p = ap (λ (k : Item). k.place) here in grind (arith, p, e) in
      let object : is_object j ≡ true = sym (ap is_object here) ∙ o in
      rw (place, object) refl
  | inr more ↦
      let ih = stands_in_list items i x more o e in
      or_right ((j.place == x) && is_object j) (stands items x) ih
]

record IsNamed (objects : List Object) (name : ℕ) : Type 0 where
  object : Object
  listed : IsIn object objects
  at : object.name ≡ name

named : (objects : List Object) (name : ℕ) → IsTrue (is_some (object_named objects name)) → IsNamed objects name
named [] name e = absurd (true≢false (sym e))
named (o ∷ objects) name e = elim (cases_Bool (o.name == name)) [
  | inl here ↦ record { object = o; listed = first; at = grind (arith, here) }
  | inr other ↦
      let found = named objects name (subst (λ (x : Option Object). IsTrue (is_some x)) (rw other refl) e) in
      record { object = found.object; listed = later found.listed; at = found.at }
]

module _ (rows : List TypeRow) (h : HeapView) where
  abbrev items : List Item
  items = heap_items rows h

  -- an object whose name is its place stands in the heap
  pub present-stands : (x : ℕ) → (x ≡ 0) ⊎ IsTrue (is_some (object_named (objects_in rows h) x))
      → IsNullOrStands rows h x
  present-stands x (inl null) = inl null
  present-stands x (inr present) =
      let o = named (objects_in rows h) x present in
      let from = from-map (object_in rows (word_of h)) o.object (filter is_object items) o.listed in
      let place : o.object.place ≡ x =
      ap (λ (p : Object). p.place) from.1 ∙ sym (ap (λ (p : Object). p.name) from.1) ∙ o.at in
      inr (o.object, o.listed, place)

  pub stands-name : (x : ℕ) → IsNullOrStands rows h x → is_name items x ≡ true
  stands-name x (inl null) = let e : (x == 0) ≡ true = grind (arith, null) in rw e refl
  stands-name x (inr there) =
      let from = from-map (object_in rows (word_of h)) there.0 (filter is_object items) there.1 in
      let passed = out_of_filter is_object from.0 items from.2 in
      let place : from.0.place ≡ x = sym (ap (λ (p : Object). p.place) from.1) ∙ there.2 in
      or_right (x == 0) (stands items x) (stands_in_list items from.0 x passed.1 passed.0 place)

  pub name-stands : (x : ℕ) → is_name items x ≡ true → IsNullOrStands rows h x
  name-stands x e = elim (cases_Bool (x == 0)) [
    | inl null ↦ inl (grind (arith, null))
    | inr other ↦
        let f = found items x (sym (rw other refl) ∙ e) in
        inr (
          object_in rows (word_of h) f.item,
          IsIn-map (object_in rows (word_of h)) (into_filter is_object items f.object f.listed),
          f.at,
        )
  ]
