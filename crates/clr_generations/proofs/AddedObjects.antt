-- A heap with one object more, wherever that stands: it lies apart from the others, and none of them names it.
use Rattle.std.proofs.Common.{◌≡◌, ◌≢◌, ◌⊎◌, inl, inr, ℕ, zero, suc, ◌+◌, ◌<◌, ◌≤◌}
use Rattle.std.proofs.Common.{List, [], ◌∷◌, ◌++◌, filter, refl, ap, sym, ◌∙◌, subst, arith, Some}
use Rattle.std.specs.Prelude.{slice_get}
use Rattle.std.proofs.lemmas.Bool.{cases_order}
use Rattle.clr_types.specs.Rising.{first, IsIn, later, sorted_by}
use Rattle.clr_types.specs.Types.{form_at, size_of, slot_kinds, TypeRow}
use Rattle.clr_types.proofs.ChangedLists.{append_left, out_of_filter, rising-distinct}
use Rattle.clr_types.proofs.ListMembers.{append_right, distinct_of_sorted, in_append}
use Rattle.clr_types.proofs.RisingLists.{all_at, in_cons}
use Rattle.clr_types.proofs.SortedLists.{into_sorted_by, IsDistinctBy, out_of_sorted_by}
use Rattle.clr_heap.specs.View.{heap_items, HeapView, IsHeap, word_of}
use Rattle.clr_heap.proofs.Young.{young_number}
use Rattle.clr_model.specs.Lookups.{object_size}
use Rattle.clr_model.specs.Machine.{Object, ref}
use Rattle.clr_view.specs.Among.{AreClosedAmong}
use Rattle.clr_view.specs.View.{IsHeld, is_object, newborn_at, object_in, objects_in}
use Rattle.clr_view.proofs.Listings.{heap-rise}
use Rattle.clr_view.proofs.ObjectItems.{in_map}
use Rattle.clr_view.proofs.Rises.{objects-rise}
use Rattle.clr_view.proofs.Standing.{high_up}
use Rattle.clr_generations.proofs.BarrierLaw.{named-by-place}
use Rattle.clr_generations.proofs.CardBirths.{IsUnnamedBirth, names-nothing}
use Rattle.clr_generations.proofs.HeapHomes.{heap_homes}

-- ---- lists

-- the last of elements without equal keys is none of those before
apart-last : {X : Type 0} (key : X → ℕ) (xs : List X) (x y : X) → IsDistinctBy key (xs ++ x ∷ []) → IsIn y xs
    → key y ≢ key x
apart-last key [] x y d i = elim i [ ]
apart-last key (z ∷ xs) x y d first = all_at (λ w. key z ≢ key w) (append_right xs first) d.0
apart-last key (z ∷ xs) x y d (later i) = apart-last key xs x y d.1 i

-- what is read in a list stands in it
in-got : {X : Type 0} (xs : List X) (j : ℕ) (x : X) → slice_get xs j ≡ Some x → IsIn x xs
in-got [] j x e = absurd cc
in-got (y ∷ xs) zero x e = let same : y ≡ x = cc in subst (λ z. IsIn z (y ∷ xs)) same first
in-got (y ∷ xs) (suc j) x e = later (in-got xs j x e)

-- ---- the heaps

-- the heap has one object more than the old one, new at the place
pub record HasOneMore (rows : List TypeRow) (old new : HeapView) (place t n : ℕ) : Type 0 where
  pub before : IsHeap old
  pub after : IsHeap new
  pub held : IsHeld rows old
  pub now_held : IsHeld rows new
  pub objects : objects_in rows new
      ≡ sorted_by (λ o. o.name) (objects_in rows old ++ newborn_at rows place t n ∷ [])

module _ (rows : List TypeRow) (old new : HeapView) (place t n : ℕ) (f : HasOneMore rows old new place t n) where
  abbrev newborn : Object
  newborn = newborn_at rows place t n

  abbrev name : Object → ℕ
  name o = o.name

  -- ---- members

  pub came : (o : Object) → IsIn o (objects_in rows new) → (o ≡ newborn) ⊎ IsIn o (objects_in rows old)
  came o i =
      elim (in_append (objects_in rows old)
      (out_of_sorted_by name o (objects_in rows old ++ newborn ∷ []) (subst (IsIn o) f.objects i))) [
        | inl was ↦ inr was
        | inr last ↦ elim (in_cons last) [ inl new_one ↦ inl new_one | inr none ↦ elim none [ ] ]
      ]

  pub stays : (o : Object) → IsIn o (objects_in rows old) → IsIn o (objects_in rows new)
  stays o i =
      subst (IsIn o) (sym f.objects)
      (into_sorted_by name o (objects_in rows old ++ newborn ∷ []) (append_left (newborn ∷ []) i))

  pub born : IsIn newborn (objects_in rows new)
  born =
      subst (IsIn newborn) (sym f.objects)
      (into_sorted_by name newborn (objects_in rows old ++ newborn ∷ []) (append_right (objects_in rows old) first))

  -- ---- places

  -- the objects after the birth have names of their own
  distinct : IsDistinctBy name (objects_in rows old ++ newborn ∷ [])
  distinct =
      distinct_of_sorted name (objects_in rows old ++ newborn ∷ [])
      (subst (IsDistinctBy name) f.objects
      (rising-distinct name (objects_in rows new)
      (objects-rise rows (word_of new) (heap_items rows new) (heap-rise rows new f.now_held.walkable f.after))))

  -- no object stood there
  was-free : (o : Object) → IsIn o (objects_in rows old) → o.place ≢ place
  was-free o i at =
      apart-last name (objects_in rows old) newborn o distinct i
      (named-by-place rows old f.before f.held o i ∙ at)

  -- it shares no byte with another
  pub apart : (o : Object) → IsIn o (objects_in rows old)
      → (o.place + object_size rows o ≤ place) ⊎ (place + size_of (form_at rows t) n ≤ o.place)
  apart o i =
      let one = f.after.one_ephemeral in
      let k = young_number new.segments (omega arith) in
      let homes = heap_homes rows new f.after f.now_held k.0 k.1 in
      elim (cases_order o.place place) [
        | inl same ↦ absurd (was-free o i same)
        | inr (inl below) ↦ inl (homes.apart o newborn (stays o i) born below)
        | inr (inr above) ↦ inr (homes.apart newborn o born (stays o i) above)
      ]

  -- ---- names

  named : (o : Object) → IsIn o (objects_in rows new) → 0 < o.name
  named o i =
      let found = in_map (object_in rows (word_of new)) o (filter is_object (heap_items rows new)) i in
      let passed = out_of_filter is_object found.0 (heap_items rows new) found.1 in
      let at = ap (λ (p : Object). p.name) found.2 in
      let high = high_up rows new f.after f.now_held found.0 passed.1 in
      omega arith

  -- where what is named stands, none names it
  pub unnamed-birth : AreClosedAmong rows (word_of old) (heap_items rows old)
      → IsUnnamedBirth (objects_in rows old) (objects_in rows new) (newborn_at rows place t n)
  unnamed-birth closed = record {
    members = came;
    names = named;
    empty = names-nothing (slot_kinds (form_at rows t) n);
    unnamed = λ o slot i names.
        (let stands = closed o.name place (record {
          object = o;
          present = i;
          named = refl;
          slot = in-got o.slots slot (ref place) names;
          not_null = named newborn born;
        }) in
        was-free stands.0 stands.1 stands.2);
  }
