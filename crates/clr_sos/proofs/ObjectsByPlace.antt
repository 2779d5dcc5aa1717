-- The object with a place among items, as a look-up among the items finds it.
use Rattle.std.proofs.Common.{◌≡◌, ℕ, ◌<◌, Bool, true, false, not, eqb, List, [], ◌∷◌, filter, map, Option, Some, None}
use Rattle.std.proofs.Common.{refl, ap, ◌∙◌, sym, subst, arith, if◌then◌else◌}
use Rattle.std.specs.List.{AllByRecursion}
use Rattle.std.proofs.lemmas.Bool.{eqb-true, ne_eqb}
use Rattle.clr_types.specs.Rising.{first, IsIn, IsRisingBy, later}
use Rattle.clr_types.specs.Types.{TypeRow}
use Rattle.clr_types.specs.declared.item.Item.{Item}
use Rattle.clr_heap.specs.View.{heap_items, HeapView, IsHeap, item_with_place, only_object, word_of}
use Rattle.clr_model.specs.Lookups.{object_at}
use Rattle.clr_model.specs.Machine.{Machine, Object}
use Rattle.clr_model.proofs.CollectedObjects.{found_by}
use Rattle.clr_view.specs.SlotValues.{StandsAt}
use Rattle.clr_view.specs.View.{is_object, IsHeld, object_in, objects_among, objects_in}
use Rattle.clr_view.proofs.Listings.{heap-rise}

-- an item among others, which is the object with the place
pub record IsObjectWith (rows : List TypeRow) (word : ℕ → ℕ) (a : ℕ) (items : List Item) (objects : List Object)
    (i : Item) : Type 0 where
  pub listed : IsIn i items
  pub at : i.place ≡ a
  pub told : object_at objects a ≡ Some (object_in rows word i)

module _ (rows : List TypeRow) (word : ℕ → ℕ) (a : ℕ) where
  -- what a look-up finds among items is what one among objects finds
  abbrev IsTold : List Item → List Object → Option Item → Type 0
  IsTold items objects None = object_at objects a ≡ None
  IsTold items objects (Some i) = IsObjectWith rows word a items objects i

  -- the objects among an item that is free, or isn't, and others
  abbrev with_item : Bool → Item → List Item → List Object
  with_item free i items =
      map (object_in rows word) (if not free then i ∷ filter is_object items else filter is_object items)

  -- an item with another place is passed over
  passed : (free : Bool) (i : Item) (items : List Item) (o : Option Item) → eqb i.place a ≡ false
      → IsTold items (objects_among rows word items) o → IsTold (i ∷ items) (with_item free i items) o
  passed true i items None miss h = h
  passed true i items (Some j) miss h = record { listed = later h.listed; at = h.at; told = h.told }
  passed false i items None miss h = rw miss h
  passed false i items (Some j) miss h = record { listed = later h.listed; at = h.at; told = rw miss h.told }

  -- one with the place is found where it isn't free
  met : (free : Bool) (i : Item) (items : List Item) → eqb i.place a ≡ true
      → object_at (objects_among rows word items) a ≡ None
      → IsTold (i ∷ items) (with_item free i items) (if free then None else Some i)
  met true i items hit none = none
  met false i items hit none =
      record { listed = first; at = eqb-true i.place a hit; told = rw hit refl }

  -- no object has a place below all items
  none-below : (items : List Item) → AllByRecursion (λ (i : Item). a < i.place) items
      → object_at (objects_among rows word items) a ≡ None
  none-below [] above = refl
  none-below (i ∷ items) above =
      let low = above.0 in
      passed (eqb i.type_id.0 0) i items None (ne_eqb i.place a (λ same. omega arith)) (none-below items above.1)

  told-among : (items : List Item) → IsRisingBy (λ (i : Item). i.place) items
      → IsTold items (objects_among rows word items) (only_object (item_with_place items a))
  told-among [] rise = refl
  told-among (i ∷ items) rise = go (eqb i.place a) refl (told-among items rise.1)
    where
      go : (b : Bool) → eqb i.place a ≡ b
          → IsTold items (objects_among rows word items) (only_object (item_with_place items a))
          → IsTold (i ∷ items) (objects_among rows word (i ∷ items))
          (only_object (if b then Some i else item_with_place items a))
      go true hit rest =
          let same = eqb-true i.place a hit in
          met (eqb i.type_id.0 0) i items hit (none-below items
          (subst (λ (p : ℕ). AllByRecursion (λ (j : Item). p < j.place) items) same rise.0))
      go false miss rest = passed (eqb i.type_id.0 0) i items (only_object (item_with_place items a)) miss rest

module _ (rows : List TypeRow) (h : HeapView) (heap : IsHeap h) (held : IsHeld rows h) (a : ℕ) where
  told : IsTold rows (word_of h) a (heap_items rows h) (objects_in rows h)
      (only_object (item_with_place (heap_items rows h) a))
  told = told-among rows (word_of h) a (heap_items rows h) (heap-rise rows h held.walkable heap)

  -- WHERE A LOOK-UP FINDS NOTHING no object of the heap has the place
  pub nothing-with_place : None ≡ only_object (item_with_place (heap_items rows h) a)
      → object_at (objects_in rows h) a ≡ None
  nothing-with_place none =
      subst (IsTold rows (word_of h) a (heap_items rows h) (objects_in rows h)) (sym none) told

  -- and an item that it finds is the object with the place
  pub object-with_place : (i : Item) → Some i ≡ only_object (item_with_place (heap_items rows h) a)
      → IsObjectWith rows (word_of h) a (heap_items rows h) (objects_in rows h) i
  object-with_place i some =
      subst (IsTold rows (word_of h) a (heap_items rows h) (objects_in rows h)) (sym some) told

  -- which stands there
  pub stands-there : (i : Item) → Some i ≡ only_object (item_with_place (heap_items rows h) a) → StandsAt rows h a
  stands-there i some =
      let is = object-with_place i some in
      let (o, at) = found_by (λ (o : Object). o.place) a (objects_in rows h) (object_in rows (word_of h) i) is.told in
      (object_in rows (word_of h) i, o, at)

  -- the same of a machine with the heap's objects
  module _ (m : Machine) (objects : m.objects ≡ objects_in rows h) where
    pub none-in_machine : None ≡ only_object (item_with_place (heap_items rows h) a) → object_at m.objects a ≡ None
    none-in_machine none = ap (λ (os : List Object). object_at os a) objects ∙ nothing-with_place none

    pub some-in_machine : (i : Item) → Some i ≡ only_object (item_with_place (heap_items rows h) a)
        → object_at m.objects a ≡ Some (object_in rows (word_of h) i)
    some-in_machine i some =
        ap (λ (os : List Object). object_at os a) objects ∙ (object-with_place i some).told

-- what was found isn't missing
pub found-not_none : {X : Type 0} (o : Option X) (x : X) → o ≡ Some x → o ≡ None → ⊥
found-not_none o x some none = cc
