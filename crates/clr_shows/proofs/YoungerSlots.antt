-- The slots of an object that refer to objects of lower generations, one by one.
use Rattle.std.proofs.Common.{◌≡◌, ◌≢◌, ◌∙◌, ℕ, ◌+◌, ◌<◌, ◌≤◌, Bool, true, false, ◌&&◌, List, [], ◌∷◌, ◌++◌, arith}
use Rattle.std.proofs.Common.{filter}
use Rattle.std.proofs.Common.{get_or, length, map, nat_lt, refl, Some, sym, take, ap, ap₂, append_assoc, codes}
use Rattle.std.proofs.Common.{length-append, cond}
use Rattle.std.specs.Prelude.{slice_get}
use Rattle.std.specs.List.{enumerate_from, flat_map}
use Rattle.std.proofs.lemmas.Bool.{le-ltb, lt-ltb}
use Rattle.std.proofs.lemmas.Grind.{flat_map-append}
use Rattle.std.proofs.lemmas.List.Elements.{filter_more}
use Rattle.std.proofs.lemmas.List.FromFn.{get_or-enumerate_from, length-enumerate_from}
use Rattle.std.proofs.lemmas.Option.{get_or_from_slice_get}
use Rattle.std.proofs.Math.Seq.{take-length}
use Rattle.clr_types.specs.Descriptors.{series_of}
use Rattle.clr_types.specs.Rising.{first, IsIn, later}
use Rattle.clr_types.specs.Segments.{generation, Layout}
use Rattle.clr_types.specs.Types.{bytes_form, class_form, Form, form_at, references_form, size_of, slot_kinds}
use Rattle.clr_types.specs.Types.{slots_of, structs_form, TypeRow}
use Rattle.clr_types.specs.declared.item.Item.{Item}
use Rattle.clr_types.specs.declared.shape.Slot.{Slot}
use Rattle.clr_types.proofs.ChangedLists.{into_filter}
use Rattle.clr_types.proofs.ListMembers.{from-map}
use Rattle.clr_model.specs.Looks.{is_younger, younger_line, younger_slots}
use Rattle.clr_model.specs.Machine.{Machine, num, Object, ref, Value}
use Rattle.clr_model.specs.Sos.{line}
use Rattle.clr_view.specs.View.{object_in, slot_value}
use Rattle.clr_view.proofs.Slots.{slot-count}
use Rattle.clr_mark.proofs.References.{no_references, value_ref}
use Rattle.clr_shows.specs.Younger.{younger_at}

-- an object has no more slots than bytes
pub few-slots : (form : Form) (len : ℕ) → length (slot_kinds form len) ≤ size_of form len
few-slots (class_form pattern) len = let count = slot-count (class_form pattern) len in omega arith
few-slots references_form len = let count = slot-count references_form len in omega arith
few-slots bytes_form len = let count = slot-count bytes_form len in omega arith
few-slots (structs_form pattern) len = let count = slot-count (structs_form pattern) len in omega arith

-- ---- no slot

-- a test that no element passes leaves nothing of a list
pub filter-none : {X : Type 0} (test : X → Bool) (xs : List X) → ((x : X) → IsIn x xs → test x ≡ false)
    → filter test xs ≡ []
filter-none test [] fails = refl
filter-none test (x ∷ xs) fails =
    let here = fails x first in
    let rest = filter-none test xs (λ y i. fails y (later i)) in
    ap (λ (b : Bool). cond b (x ∷ filter test xs) (filter test xs)) here ∙ rest

-- an element of a numbered list is one of the list
numbered-in : {X : Type 0} (n : ℕ) (xs : List X) (s : ℕ × X) → IsIn s (enumerate_from n xs) → IsIn s.1 xs
numbered-in n [] s i = elim i [ ]
numbered-in n (x ∷ xs) s first = first
numbered-in n (x ∷ xs) s (later i) = later (numbered-in (n + 1) xs s i)

-- no slot of an object of generation 0 refers to one of a lower generation
young-none : (layout : Layout) (place : ℕ) (v : Value) → generation layout place ≡ 0 → is_younger layout place v ≡ false
young-none layout place (num n) young = refl
young-none layout place (ref target) young =
    ap (λ (g : ℕ). nat_lt 0 target && nat_lt (generation layout target) g) young ∙ go (nat_lt 0 target)
  where
    go : (b : Bool) → (b && nat_lt (generation layout target) 0) ≡ false
    go true = le-ltb (generation layout target) 0 (omega arith)
    go false = refl

-- an object of generation 0 has no slot that refers to a younger one
pub young-slots : (m : Machine) (o : Object) → generation m.layout o.place ≡ 0 → younger_slots m o ≡ []
young-slots m o young = filter-none (λ (s : ℕ × Value). is_younger m.layout o.place s.1) (enumerate_from 0 o.slots)
    (λ s i. young-none m.layout o.place s.1 young)

-- a list with an element has no empty image
map-nothing : {X Y : Type 0} (f : X → Y) (xs : List X) (x : X) → map f xs ≡ [] → IsIn x xs → ⊥
map-nothing f [] x none i = elim i [ ]
map-nothing f (y ∷ xs) x none i = absurd cc

-- where a type has no series, its objects have no slot with a reference
number-slots : (rows : List TypeRow) (word : ℕ → ℕ) (i : Item) (layout : Layout) (place : ℕ)
    → series_of (form_at rows i.type_id.0) ≡ [] → (v : Value) → IsIn v (object_in rows word i).slots
    → is_younger layout place v ≡ false
number-slots rows word i layout place none (num n) there = refl
number-slots rows word i layout place none (ref target) there =
    let form = form_at rows i.type_id.0 in
    let slots = slots_of form i.len in
    let (slot, is, among) = from-map (slot_value form word i.place) (ref target) slots there in
    let kind = (value_ref form word slot.reference (i.place + slot.offset) target (sym is)).0 in
    absurd (map-nothing (λ (s : Slot). s.offset) (filter (λ (s : Slot). s.reference) slots) slot
    (no_references form i.len none) (into_filter (λ (s : Slot). s.reference) slots kind among))

-- an object of a type without series has no slot that refers to a younger one
pub plain-slots : (m : Machine) (rows : List TypeRow) (word : ℕ → ℕ) (i : Item)
    → series_of (form_at rows i.type_id.0) ≡ [] → younger_slots m (object_in rows word i) ≡ []
plain-slots m rows word i none =
    let o = object_in rows word i in
    filter-none (λ (s : ℕ × Value). is_younger m.layout o.place s.1) (enumerate_from 0 o.slots)
    (λ s there. number-slots rows word i m.layout o.place none s.1 (numbered-in 0 o.slots s there))

-- ---- slot by slot

-- those of the first n slots of an object that refer to a younger one
abbrev pub younger_below : Machine → Object → ℕ → List (ℕ × Value)
younger_below m o n = filter (λ s. is_younger m.layout o.place s.1) (take n (enumerate_from 0 o.slots))

module _ (m : Machine) (o : Object) (i : ℕ) (within : i < length o.slots) where
  -- the slots of an object that refer to younger ones, with one slot more
  pub younger-more : younger_below m o (i + 1) ≡ younger_below m o i ++ younger_at m o i
  younger-more =
      let test : ℕ × Value → Bool = λ s. is_younger m.layout o.place s.1 in
      let count = length-enumerate_from 0 o.slots in
      let none : 0 + i ≡ i = omega arith in
      filter_more test (enumerate_from 0 o.slots) i (0, num 0) (omega (arith, within, count))
      ∙ ap (λ (s : ℕ × Value). younger_below m o i ++ filter test (s ∷ []))
      (get_or-enumerate_from 0 o.slots i (0, num 0) within ∙ (λ j. (none j, get_or o.slots i (num 0))))

  -- the lines of the slots of an object, with one slot more
  pub younger-shown : (text one two : List ℕ) → one ≡ text ++ flat_map (younger_line m o) (younger_below m o i)
      → two ≡ one ++ flat_map (younger_line m o) (younger_at m o i)
      → two ≡ text ++ flat_map (younger_line m o) (younger_below m o (i + 1))
  younger-shown text one two before here =
      here ∙ ap (λ (front : List ℕ). front ++ flat_map (younger_line m o) (younger_at m o i)) before
      ∙ append_assoc text (flat_map (younger_line m o) (younger_below m o i))
      (flat_map (younger_line m o) (younger_at m o i))
      ∙ ap (λ (lines : List ℕ). text ++ lines) (sym (ap (flat_map (younger_line m o)) younger-more
      ∙ flat_map-append (younger_line m o) (younger_below m o i) (younger_at m o i)))

  -- the number of the slots of an object, with one slot more
  pub younger-counted : (count one : ℕ) → count ≡ length (younger_below m o i) → one ≡ length (younger_at m o i)
      → count + one ≡ length (younger_below m o (i + 1))
  younger-counted count one before here =
      ap₂ (λ (a b : ℕ). a + b) before here
      ∙ sym (ap length younger-more ∙ length-append (younger_below m o i) (younger_at m o i))

-- where all slots are passed, these are all that refer to younger objects
pub younger-all : (m : Machine) (o : Object) (n : ℕ) → n ≡ length o.slots → younger_below m o n ≡ younger_slots m o
younger-all m o n all =
    ap (filter (λ (s : ℕ × Value). is_younger m.layout o.place s.1))
    (ap (λ (k : ℕ). take k (enumerate_from 0 o.slots)) (all ∙ sym (length-enumerate_from 0 o.slots))
    ∙ take-length (enumerate_from 0 o.slots))

-- ---- one slot

module _ (m : Machine) (o : Object) (i : ℕ) (v : Value) (holds : slice_get o.slots i ≡ Some v) where
  -- a slot by its value
  at-is : younger_at m o i ≡ filter (λ (s : ℕ × Value). is_younger m.layout o.place s.1) ((i, v) ∷ [])
  at-is = ap (λ (x : Value). filter (λ (s : ℕ × Value). is_younger m.layout o.place s.1) ((i, x) ∷ []))
      (get_or_from_slice_get o.slots i v (num 0) holds)

  -- a slot with a value that refers to no younger object is passed over
  pub at-passed : is_younger m.layout o.place v ≡ false → younger_at m o i ≡ []
  at-passed fails = at-is ∙ ap (λ (b : Bool). cond b ((i, v) ∷ []) []) fails

  -- a slot with a value that refers to a younger object counts
  pub at-found : is_younger m.layout o.place v ≡ true → younger_at m o i ≡ (i, v) ∷ []
  at-found holds = at-is ∙ ap (λ (b : Bool). cond b ((i, v) ∷ []) []) holds

-- null refers to no object of a lower generation
pub null-passed : (layout : Layout) (place target : ℕ) → target ≡ 0 → is_younger layout place (ref target) ≡ false
null-passed layout place target null =
    let not : nat_lt 0 target ≡ false = le-ltb 0 target (omega (arith, null)) in
    ap (λ (b : Bool). b && nat_lt (generation layout target) (generation layout place)) not

-- a reference to an object that isn't of a lower generation is passed over
pub old-passed : (layout : Layout) (place target : ℕ) → generation layout place ≤ generation layout target
    → is_younger layout place (ref target) ≡ false
old-passed layout place target old =
    ap (λ (b : Bool). nat_lt 0 target && b) (le-ltb (generation layout target) (generation layout place) old)
    ∙ go (nat_lt 0 target)
  where
    go : (b : Bool) → (b && false) ≡ false
    go true = refl
    go false = refl

-- a reference to an object of a lower generation counts
pub younger-found : (layout : Layout) (place target : ℕ) → target ≢ 0
    → generation layout target < generation layout place → is_younger layout place (ref target) ≡ true
younger-found layout place target some lower =
    ap₂ (λ (a b : Bool). a && b) (lt-ltb 0 target (omega (arith, some)))
    (lt-ltb (generation layout target) (generation layout place) lower)

-- ---- a line

-- the words of the line of a slot, put behind a text one by one
pub reference_parts : (text place name number target end : List ℕ)
    → ((((((text ++ place) ++ codes " ") ++ name) ++ codes " slot ") ++ number) ++ codes " ref ")
    ++ line (target ∷ end ∷ [])
    ≡ text ++ line (place ∷ name ∷ codes "slot" ∷ number ∷ codes "ref" ∷ target ∷ end ∷ [])
reference_parts text place name number target end = simp append_assoc
