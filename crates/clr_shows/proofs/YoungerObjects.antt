-- What the value of a slot tells of a younger object, and items one after the other.
use Rattle.std.proofs.Common.{◌≡◌, ◌≢◌, ◌∙◌, ℕ, zero, suc, ◌+◌, ◌<◌, ◌≤◌, ◌==◌, Bool, true, false, not, inl, inr, List}
use Rattle.std.proofs.Common.{[], ◌∷◌, ◌++◌}
use Rattle.std.proofs.Common.{arith, filter, length, map, refl, sym, ap, ap₂, append_assoc, append-nil, codes, cond}
use Rattle.std.proofs.Common.{decimal}
use Rattle.std.proofs.Common.{length-append, Some, subst}
use Rattle.std.specs.Prelude.{slice_get}
use Rattle.std.specs.List.{AllByRecursion, flat_map}
use Rattle.std.proofs.lemmas.Bool.{cases_eq, ne_eqb, true≢false}
use Rattle.std.proofs.lemmas.Grind.{flat_map-append}
use Rattle.clr_nums.specs.Numbers.{hex16}
use Rattle.clr_types.specs.Descriptors.{series_of}
use Rattle.clr_types.specs.Rising.{first, IsIn, IsRisingBy, later, sorted_by}
use Rattle.clr_types.specs.Segments.{generation, Layout}
use Rattle.clr_types.specs.Types.{form_at, name_of, TypeRow}
use Rattle.clr_types.specs.declared.item.Item.{Item}
use Rattle.clr_types.specs.declared.shape.Slot.{Slot}
use Rattle.clr_types.proofs.ChangedLists.{IsIn-map, into_filter, rising-sorted, sorted_by-done}
use Rattle.clr_types.proofs.ListMembers.{filter-rises}
use Rattle.clr_heap.specs.View.{frame, heap_items, word_of}
use Rattle.clr_model.specs.Lookups.{object_at}
use Rattle.clr_model.specs.Looks.{ephrefs_text, objects_by_place, younger_line, younger_slots}
use Rattle.clr_model.specs.Machine.{Machine, num, Object, ref, Value}
use Rattle.clr_model.specs.Sos.{line, type_of_place}
use Rattle.clr_view.specs.SlotValues.{HasSlotValue, IsSlot}
use Rattle.clr_view.specs.View.{is_object, object_in, objects_in, word_value}
use Rattle.clr_view.proofs.Listings.{heap-rise, objects-append}
use Rattle.clr_view.proofs.SlotReads.{slot-kind}
use Rattle.clr_sos.specs.Reaching.{IsObjectOf}
use Rattle.clr_sos.specs.Views.{IsShownView, IsViewOf}
use Rattle.clr_sos.specs.declared.view.View.{View}
use Rattle.clr_shows.specs.Younger.{object_of, objects_of, younger_at, younger_lines}
use Rattle.clr_shows.proofs.YoungerSlots.{at-found, at-passed, null-passed, old-passed, young-slots, younger-found}

-- an element that is found by its number is one of the list
read-in : {X : Type 0} (xs : List X) (i : ℕ) (x : X) → slice_get xs i ≡ Some x → IsIn x xs
read-in [] i x is = absurd cc
read-in {X = X} (y ∷ xs) zero x is = let same : y ≡ x = cc in subst (λ (z : X). IsIn z (y ∷ xs)) same first
read-in (y ∷ xs) (suc i) x is = later (read-in xs i x is)

-- ---- the value of one slot

module _ (v : View) (i : Item) (j : ℕ) (slot : Slot) (is : IsSlot v.types.now i j slot) where
  -- the object that the item is
  abbrev o : Object
  o = object_of v i

  -- a slot that is no reference refers to no younger object
  pub number-passed : slot.reference ≡ false → (m : Machine) → younger_at m o j ≡ []
  number-passed number m =
      let (w, holds) = slot-kind v.types.now (word_of v.heap.now) i j slot is in
      at-passed m o j (num w) (holds ∙ ap (λ (b : Bool). Some (word_value b w)) number) refl

  module _ (target : ℕ) (reference : slot.reference ≡ true)
      (value : HasSlotValue v.types.now (word_of v.heap.now) i slot target) where
    -- the slot holds a reference to the address
    holds : slice_get o.slots j ≡ Some (ref target)
    holds = value j is ∙ ap (λ (b : Bool). Some (word_value b target)) reference

    -- a slot that is null refers to no younger object
    pub null-told : target ≡ 0 → (m : Machine) → younger_at m o j ≡ []
    null-told null m = at-passed m o j (ref target) holds (null-passed m.layout o.place target null)

    module _ (m : Machine) (shown : IsViewOf v m) where
      -- the generations of addresses are those that the heap tells
      place-told : (p : ℕ) → generation (frame v.heap.now) p ≡ generation m.layout p
      place-told p = ap (λ (l : Layout). generation l p) (sym shown.layout)

      -- a slot that refers to an object that isn't of a lower generation is passed over
      pub old-told : generation (frame v.heap.now) i.place ≤ generation (frame v.heap.now) target
          → younger_at m o j ≡ []
      old-told old =
          let own = place-told i.place in
          let other = place-told target in
          at-passed m o j (ref target) holds (old-passed m.layout o.place target (omega (arith, old, own, other)))

      -- a slot that refers to an object of a lower generation counts
      pub younger-told : target ≢ 0 → generation (frame v.heap.now) target < generation (frame v.heap.now) i.place
          → younger_at m o j ≡ (j, ref target) ∷ []
      younger-told some lower =
          let own = place-told i.place in
          let other = place-told target in
          at-found m o j (ref target) holds
          (younger-found m.layout o.place target some (omega (arith, lower, own, other)))

    -- an object stands at the address that an object's slot refers to
    pub target-stands : IsShownView v → IsIn i (heap_items v.types.now v.heap.now) → is_object i ≡ true → target ≢ 0
        → IsObjectOf v target
    target-stands shown listed object some =
        shown.slots i.place target (record {
          object = o;
          present = IsIn-map (object_in v.types.now (word_of v.heap.now))
              (into_filter is_object (heap_items v.types.now v.heap.now) object listed);
          named = refl;
          slot = read-in o.slots j (ref target) holds;
          not_null = omega (arith, some);
        })

-- ---- the line of one slot

-- the line of a slot ends with the words of the object that it refers to
pub line-shows : (v : View) (m : Machine) → IsViewOf v m → (i : Item) (j target : ℕ)
    → line (hex16 i.place ∷ name_of v.types.now i.type_id.0 ∷ codes "slot" ∷ decimal j ∷ codes "ref" ∷ hex16 target
    ∷ name_of v.types.now (type_of_place (object_at (objects_in v.types.now v.heap.now) target)) ∷ [])
    ≡ younger_line m (object_of v i) (j, ref target)
line-shows v m shown i j target =
    let types = sym shown.types in
    let objects = sym shown.objects in
    λ k. line (hex16 i.place ∷ name_of (types k) i.type_id.0 ∷ codes "slot" ∷ decimal j ∷ codes "ref" ∷ hex16 target
    ∷ name_of (types k) (type_of_place (object_at (objects k) target)) ∷ [])

-- ---- one item

module _ (v : View) (m : Machine) (i : Item) where
  -- the object that the item is
  abbrev own : Object
  own = object_of v i

  -- the lines of an item that is an object, or none
  abbrev lines_if : Bool → List ℕ
  lines_if b = younger_lines m (map (object_in v.types.now (word_of v.heap.now)) (cond b (i ∷ []) []))

  -- the slots of an item that is an object and refer to younger ones, or none
  abbrev slots_if : Bool → List (ℕ × Value)
  slots_if b = flat_map (younger_slots m) (map (object_in v.types.now (word_of v.heap.now)) (cond b (i ∷ []) []))

  -- the lines of an item that is an object
  pub object-lines : is_object i ≡ true
      → younger_lines m (objects_of v (i ∷ [])) ≡ flat_map (younger_line m own) (younger_slots m own)
  object-lines object = ap lines_if object ∙ append-nil (flat_map (younger_line m own) (younger_slots m own))

  -- the slots of an item that is an object
  pub object-slots : is_object i ≡ true → flat_map (younger_slots m) (objects_of v (i ∷ [])) ≡ younger_slots m own
  object-slots object = ap slots_if object ∙ append-nil (younger_slots m own)

  -- an item whose slots refer to no younger object has no such slot
  pub no-slots : younger_slots m own ≡ [] → flat_map (younger_slots m) (objects_of v (i ∷ [])) ≡ []
  no-slots none = go (is_object i)
    where
      go : (b : Bool) → slots_if b ≡ []
      go true = append-nil (younger_slots m own) ∙ none
      go false = refl

  -- an item whose slots refer to no younger object has no line
  pub no-lines : younger_slots m own ≡ [] → younger_lines m (objects_of v (i ∷ [])) ≡ []
  no-lines none = go (is_object i)
    where
      go : (b : Bool) → lines_if b ≡ []
      go true =
          append-nil (flat_map (younger_line m own) (younger_slots m own)) ∙ ap (flat_map (younger_line m own)) none
      go false = refl

  -- the slots of an object of generation 0 refer to no younger one
  pub young-none : IsViewOf v m → generation (frame v.heap.now) i.place ≡ 0 → younger_slots m own ≡ []
  young-none shown young =
      young-slots m own (ap (λ (l : Layout). generation l i.place) shown.layout ∙ young)

-- a list that is empty, as a test says, has no element
pub empty-told : {X : Type 0} (b : Bool) (xs ys : List X) → b ≡ (length xs == 0) → xs ≡ ys → b ≡ true → ys ≡ []
empty-told b [] ys told same holds = sym same
empty-told b (x ∷ xs) ys told same holds =
    absurd (true≢false (sym holds ∙ told ∙ ne_eqb (length (x ∷ xs)) 0 (λ none. omega arith)))

-- a list that isn't empty, as a test says, is none without elements
pub some-told : {X : Type 0} (b : Bool) (xs ys : List X) → b ≡ (length xs == 0) → xs ≡ ys → b ≡ false → ys ≢ []
some-told b [] ys told same fails = λ none. absurd cc
some-told b (x ∷ xs) ys told same fails = λ none. absurd cc

-- what has series is an object, since free items have none
pub series-object : (rows : List TypeRow) (i : Item) → series_of (form_at rows i.type_id.0) ≢ [] → is_object i ≡ true
series-object rows i some = elim (cases_eq i.type_id.0 0) [
  | inl free ↦ absurd (some (ap (λ (t : ℕ). series_of (form_at rows t)) free))
  | inr object ↦ ap not (ne_eqb i.type_id.0 0 object)
]

-- ---- item after item

module _ (v : View) (m : Machine) (items : List Item) (i : Item) where
  -- the objects of items and one item more
  more : objects_of v (items ++ i ∷ []) ≡ objects_of v items ++ objects_of v (i ∷ [])
  more = objects-append v.types.now (word_of v.heap.now) items (i ∷ [])

  -- the lines of items and one item more
  pub lines-on : (one two : List ℕ) → one ≡ younger_lines m (objects_of v items)
      → two ≡ one ++ younger_lines m (objects_of v (i ∷ [])) → two ≡ younger_lines m (objects_of v (items ++ i ∷ []))
  lines-on one two before here =
      here ∙ ap (λ (front : List ℕ). front ++ younger_lines m (objects_of v (i ∷ []))) before
      ∙ sym (ap (younger_lines m) more
      ∙ flat_map-append (λ (o : Object). flat_map (younger_line m o) (younger_slots m o)) (objects_of v items)
      (objects_of v (i ∷ [])))

  -- the slots of items and one item more, counted
  pub slots-on : (count one : ℕ) → count ≡ length (flat_map (younger_slots m) (objects_of v items))
      → one ≡ length (flat_map (younger_slots m) (objects_of v (i ∷ [])))
      → count + one ≡ length (flat_map (younger_slots m) (objects_of v (items ++ i ∷ [])))
  slots-on count one before here =
      ap₂ (λ (a b : ℕ). a + b) before here
      ∙ sym (ap length (ap (flat_map (younger_slots m)) more
      ∙ flat_map-append (younger_slots m) (objects_of v items) (objects_of v (i ∷ [])))
      ∙ length-append (flat_map (younger_slots m) (objects_of v items))
      (flat_map (younger_slots m) (objects_of v (i ∷ []))))

-- ---- all items

-- the objects that items are rise by their addresses where the items do
-- the objects that items are stand above an address where the items do
mapped-all : (rows : List TypeRow) (word : ℕ → ℕ) (p : ℕ) (items : List Item)
    → AllByRecursion (λ (i : Item). p < i.place) items
    → AllByRecursion (λ (o : Object). p < o.place) (map (object_in rows word) items)
mapped-all rows word p [] above = tt
mapped-all rows word p (i ∷ items) above = (above.0, mapped-all rows word p items above.1)

mapped-rise : (rows : List TypeRow) (word : ℕ → ℕ) (items : List Item) → IsRisingBy (λ (i : Item). i.place) items
    → IsRisingBy (λ (o : Object). o.place) (map (object_in rows word) items)
mapped-rise rows word [] rise = tt
mapped-rise rows word (i ∷ items) rise =
    (mapped-all rows word i.place items rise.0, mapped-rise rows word items rise.1)

-- THE WHOLE TEXT: the objects of the heap's items are those of the machine, by rising place
pub text-shows : (v : View) (m : Machine) → IsViewOf v m → IsShownView v → (items : List Item)
    → items ≡ heap_items v.types.now v.heap.now → (one two : List ℕ) (count : ℕ)
    → one ≡ younger_lines m (objects_of v items) → count ≡ length (flat_map (younger_slots m) (objects_of v items))
    → two ≡ ((one ++ codes "refs ") ++ decimal count) ++ (10 ∷ []) → two ≡ ephrefs_text m
text-shows v m is shown items whole one two count lines counted parts =
    let rows = v.types.now in
    let word = word_of v.heap.now in
    let all = heap_items rows v.heap.now in
    let key : Object → ℕ = λ o. o.place in
    let rise = mapped-rise rows word (filter is_object all)
    (filter-rises is_object (λ (i : Item). i.place) all (heap-rise rows v.heap.now shown.held.walkable shown.heap)) in
    let sorted : objects_by_place m ≡ objects_of v items =
    ap (sorted_by key) is.objects ∙ sorted_by-done key (objects_of v all) (rising-sorted key (objects_of v all) rise)
    ∙ ap (objects_of v) (sym whole) in
    let end : ((one ++ codes "refs ") ++ decimal count) ++ (10 ∷ [])
    ≡ one ++ line (codes "refs" ∷ decimal count ∷ []) = simp append_assoc in
    parts ∙ end
    ∙ ap₂ (λ (front : List ℕ) (n : ℕ). front ++ line (codes "refs" ∷ decimal n ∷ [])) lines counted
    ∙ ap (λ (os : List Object). younger_lines m os
    ++ line (codes "refs" ∷ decimal (length (flat_map (younger_slots m) os)) ∷ [])) (sym sorted)
