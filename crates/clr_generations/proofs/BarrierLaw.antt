-- A store of a reference and the card of its slot.
use Rattle.std.proofs.Common.{◌≡◌, ◌⊎◌, inl, inr, ℕ, ◌+◌, ◌/◌, ◌<◌, ◌≤◌, Bool, true, false, List, refl, ap}
use Rattle.std.proofs.Common.{if◌then◌else◌, ◌&&◌, ◌||◌, filter, sym, ◌∙◌, subst, arith, ltb, eqb, Some}
use Rattle.std.proofs.Math.Bool.{or-true}
use Rattle.std.proofs.lemmas.Bool.{eq-eqb}
use Rattle.std.specs.Prelude.{slice_get}
use Rattle.clr_types.specs.Rising.{IsIn}
use Rattle.clr_types.specs.Segments.{ephemeral, generation, Layout, stands_in}
use Rattle.clr_types.specs.Types.{Form, form_at, slot_kinds, slot_offset, TypeRow}
use Rattle.clr_types.specs.declared.item.Item.{Item}
use Rattle.clr_types.specs.declared.shape.Slot.{Slot}
use Rattle.clr_types.proofs.ChangedLists.{out_of_filter, rising-distinct}
use Rattle.clr_types.proofs.SortedLists.{same_by_key}
use Rattle.clr_covers.specs.Covers.{CoverView, is_covered}
use Rattle.clr_cards.specs.Cards.{is_card_set}
use Rattle.clr_heap.specs.View.{frame, heap_items, HeapView, IsHeap, word_of}
use Rattle.clr_model.specs.Machine.{Object, ref}
use Rattle.clr_model.specs.Updates.{with_slot_of}
use Rattle.clr_view.specs.SlotValues.{HasSlot, HasStoredSlot}
use Rattle.clr_view.specs.View.{HasStored, IsHeld, is_object, object_in, objects_in, word_value}
use Rattle.clr_view.proofs.Listed.{listed-head, listed-sized}
use Rattle.clr_view.proofs.Listings.{heap-rise}
use Rattle.clr_view.proofs.ObjectItems.{in_map}
use Rattle.clr_view.proofs.SlotReads.{reference-word, slot-told}
use Rattle.clr_view.proofs.Standing.{standing}
use Rattle.clr_view.proofs.StoredSlots.{kind-there, slot-there}
use Rattle.clr_generations.specs.Barrier.{carded}
use Rattle.clr_generations.specs.Laws.{NamesYounger}
use Rattle.clr_generations.specs.Tables.{AreCardsOf}
use Rattle.clr_generations.proofs.ChangedObjects.{came-from, CameFrom, got-written}
use Rattle.clr_generations.proofs.Covered.{card-covered}
use Rattle.clr_generations.proofs.KeptTables.{bounds-from}
use Rattle.clr_generations.proofs.SameBounds.{generation-same, HasSameBounds}

-- ---- generations

-- no generation is above 2
pub generation-most : (layout : Layout) (place : ℕ) → generation layout place ≤ 2
generation-most layout place =
    go (stands_in (ephemeral layout) place) (ltb place layout.start1) (ltb place layout.start0)
  where
    go : (a b c : Bool) → (if a then (if b then 2 else (if c then 1 else 0)) else 2) ≤ 2
    go true true c = omega arith
    go true false true = omega arith
    go true false false = omega arith
    go false b c = omega arith

-- a place of a generation below 2 stands in the ephemeral segment
pub younger-ephemeral : (layout : Layout) (place : ℕ) → generation layout place < 2
    → stands_in (ephemeral layout) place ≡ true
younger-ephemeral layout place =
    go (stands_in (ephemeral layout) place) (ltb place layout.start1) (ltb place layout.start0)
  where
    go : (a b c : Bool) → (if a then (if b then 2 else (if c then 1 else 0)) else 2) < 2 → a ≡ true
    go true b c l = refl
    go false b c l = absurd (omega arith)

-- ---- cards

-- a card that was set is set still
pub carded-before : (layout : Layout) (address value : ℕ) (is_set : ℕ → Bool) (card : ℕ) → is_set card ≡ true
    → carded layout address value is_set card ≡ true
carded-before layout address value is_set card e =
    ap (λ (b : Bool). (eqb card (address / 2048) && stands_in (ephemeral layout) value) || b) e
    ∙ or-true (eqb card (address / 2048) && stands_in (ephemeral layout) value)

-- and so is the slot's own, where the value is a place of the ephemeral segment
carded-here : (layout : Layout) (address value : ℕ) (is_set : ℕ → Bool) → stands_in (ephemeral layout) value ≡ true
    → carded layout address value is_set (address / 2048) ≡ true
carded-here layout address value is_set e =
    let here = eq-eqb (address / 2048) (address / 2048) refl in
    λ i. (here i && e i) || is_set (address / 2048)

-- ---- the store

module _ (rows : List TypeRow) (h : HeapView) (heap : IsHeap h) (held : IsHeld rows h) where
  -- an object of the heap has its place as its name
  pub named-by-place : (o : Object) → IsIn o (objects_in rows h) → o.name ≡ o.place
  named-by-place o i =
      let found = in_map (object_in rows (word_of h)) o (filter is_object (heap_items rows h)) i in
      ap (λ (p : Object). p.name) (sym found.2) ∙ ap (λ (p : Object). p.place) found.2

  module _ (item : Item) (slot : Slot) (listed : IsIn item (heap_items rows h)) (has : HasSlot rows item slot)
      (reference : slot.reference ≡ true) where
    abbrev form : Form
    form = form_at rows item.type_id.0

    -- the card of the slot is there
    pub slot_card-covered : (cards : List (CoverView ℕ)) → AreCardsOf (frame h) cards
        → is_covered cards ((item.place + slot.offset) / 2048) ≡ true
    slot_card-covered cards e =
        let told = slot-told form item.len has.number slot has.is in
        let z = (listed-head rows h item heap held listed).mt.aligned in
        let number = kind-there (slot_kinds form item.len) has.number slot.reference told.0 in
        let words = reference-word rows item slot has reference in
        let at = slot-there form item.len item.place has.number words z number in
        let home = standing rows h heap held item listed in
        let offset = told.1 in
        let low = at.above in
        let high = at.below in
        let sized = listed-sized rows h item heap held listed in
        let up = home.above in
        let down = home.below in
        let all = home.reserved in
        card-covered h home.segment (item.place + slot.offset) heap home.in_range (omega arith) (omega arith) cards e

    module _ (new : HeapView) (value : ℕ) (stored : HasStoredSlot rows h new item slot value) where
      abbrev key : Object → ℕ
      key o = o.name

      abbrev change : Object → Object
      change = with_slot_of has.number (ref value)

      this : HasStored rows h new item.place has.number (ref value)
      this = subst (λ (b : Bool). HasStored rows h new item.place has.number (word_value b value)) reference
          (stored has.number has.is)

      bounds : HasSameBounds (frame h) (frame new)
      bounds = bounds-from (frame h) (frame new) (ap (λ (l : Layout). l.segments) this.layout)
          (ap (λ (l : Layout). l.start1) this.layout) (ap (λ (l : Layout). l.start0) this.layout)

      came : (o : Object) → IsIn o (objects_in rows new) → CameFrom key item.place change (objects_in rows h) o
      came o i = came-from key item.place change (objects_in rows h) o (subst (IsIn o) this.objects i)

      -- an object of the item's name has the slot at its address
      slot-of : (o : Object) → IsIn o (objects_in rows h) → o.name ≡ item.place
          → o.place + slot_offset (form_at rows o.type) has.number ≡ item.place + slot.offset
      slot-of o i e =
          let found = in_map (object_in rows (word_of h)) o (filter is_object (heap_items rows h)) i in
          let passed = out_of_filter is_object found.0 (heap_items rows h) found.1 in
          let place : Item → ℕ = λ j. j.place in
          let at : found.0.place ≡ item.place = ap (λ (p : Object). p.name) found.2 ∙ e in
          let same : found.0 ≡ item = same_by_key place (heap_items rows h) found.0 item
          (rising-distinct place (heap_items rows h) (heap-rise rows h held.walkable heap)) passed.1 listed at in
          let is : object_in rows (word_of h) item ≡ o =
          ap (object_in rows (word_of h)) (sym same) ∙ found.2 in
          let told = slot-told form item.len has.number slot has.is in
          ap (λ (p : Object). p.place + slot_offset (form_at rows p.type) has.number) (sym is)
          ∙ ap (λ (n : ℕ). item.place + n) (sym told.1)

      -- a change of a slot leaves name and place
      same-name : (o : Object) (c : CameFrom key item.place change (objects_in rows h) o)
          → (o.name ≡ c.0.name) × (o.place ≡ c.0.place)
      same-name o c = elim c.2 [
        | inl here ↦ (ap (λ (p : Object). p.name) here.1, ap (λ (p : Object). p.place) here.1)
        | inr other ↦ (ap (λ (p : Object). p.name) other, ap (λ (p : Object). p.place) other)
      ]

      -- whether the value is a place of the ephemeral segment, as it was before the store
      pub ephemeral-before : (b : Bool) → stands_in (ephemeral (frame new)) value ≡ b
          → stands_in (ephemeral (frame h)) value ≡ b
      ephemeral-before b e = sym (ap (λ (l : Layout). stands_in (ephemeral l) value) this.layout) ∙ e

      -- A reference to a younger object was there before, or it is the stored one.
      abbrev pub WasOrIsStored : ℕ → Type 0
      WasOrIsStored a =
          NamesYounger rows (frame h) (objects_in rows h) a
          ⊎ ((a ≡ item.place + slot.offset) × (generation (frame new) value < 2))

      module _ (a : ℕ) (y : NamesYounger rows (frame new) (objects_in rows new) a) where
        target : (o : Object) × IsIn o (objects_in rows h) × (y.target.name ≡ o.name) × (y.target.place ≡ o.place)
        target =
            let c = came y.target y.target_present in
            let same = same-name y.target c in
            (c.0, c.1, same.0, same.1)

        -- the reference stood in the slot before
        there-before : (x : Object) → IsIn x (objects_in rows h) → y.object.place ≡ x.place → y.object.type ≡ x.type
            → slice_get x.slots y.slot ≡ Some (ref y.target.name) → NamesYounger rows (frame h) (objects_in rows h) a
        there-before x i place type named =
            let low = generation-same (frame h) (frame new) bounds y.target.place
            ∙ ap (generation (frame h)) target.3 in
            let high = generation-same (frame h) (frame new) bounds y.object.place
            ∙ ap (generation (frame h)) place in
            let younger = y.younger in
            let offset = ap (λ (t : ℕ). slot_offset (form_at rows t) y.slot) type in
            record {
              object = x;
              present = i;
              slot = y.slot;
              target = target.0;
              target_present = target.1;
              named = named ∙ ap (λ (n : ℕ). Some (ref n)) target.2;
              address = y.address ∙ λ k. place k + offset k;
              younger = omega (arith, low, high, younger);
            }

        -- the reference was stored now
        there-now : (x : Object) → IsIn x (objects_in rows h) → x.name ≡ item.place → y.object ≡ change x
            → y.slot ≡ has.number → ref y.target.name ≡ ref value
            → (a ≡ item.place + slot.offset) × (generation (frame new) value < 2)
        there-now x i name is number written =
            let name_is : y.target.name ≡ value = cc in
            let place : y.target.place ≡ value =
            target.3 ∙ sym (named-by-place target.0 target.1) ∙ sym target.2 ∙ name_is in
            let younger = y.younger in
            let most = generation-most (frame new) y.object.place in
            let young = ap (generation (frame new)) place in
            let at = ap (λ (o : Object). o.place + slot_offset (form_at rows o.type) y.slot) is
            ∙ ap (λ (n : ℕ). x.place + slot_offset (form_at rows x.type) n) number ∙ slot-of x i name in
            (y.address ∙ at, omega (arith, young, younger, most))

        told-by : CameFrom key item.place change (objects_in rows h) y.object → WasOrIsStored a
        told-by c = elim c.2 [
          | inl here ↦ elim (got-written c.0.slots has.number (ref value) y.slot (ref y.target.name)
              (ap (λ (o : Object). slice_get o.slots y.slot) (sym here.1) ∙ y.named)) [
                | inl written ↦ inr (there-now c.0 c.1 here.0 here.1 written.0 written.1)
                | inr kept ↦ inl (there-before c.0 c.1 (ap (λ (o : Object). o.place) here.1)
                    (ap (λ (o : Object). o.type) here.1) kept)
              ]
          | inr other ↦ inl (there-before c.0 c.1 (ap (λ (o : Object). o.place) other)
              (ap (λ (o : Object). o.type) other)
              (ap (λ (o : Object). slice_get o.slots y.slot) (sym other) ∙ y.named))
        ]

      pub younger-stored : (a : ℕ) → NamesYounger rows (frame new) (objects_in rows new) a → WasOrIsStored a
      younger-stored a y = told-by a y (came y.object y.present)

      -- THE BARRIER: a reference to a younger object was there before, or the card of its address is set
      pub barrier_law : (cards after : List (CoverView ℕ))
          → ((i : ℕ) → is_card_set after i
          ≡ carded (frame h) (item.place + slot.offset) value (is_card_set cards) i)
          → (a : ℕ) → NamesYounger rows (frame new) (objects_in rows new) a
          → NamesYounger rows (frame h) (objects_in rows h) a ⊎ (is_card_set after (a / 2048) ≡ true)
      barrier_law cards after told a y = elim (younger-stored a y) [
        | inl was ↦ inl was
        | inr now ↦
            let young = now.1 in
            let low = generation-same (frame h) (frame new) bounds value in
            let there = younger-ephemeral (frame h) value (omega (arith, low, young)) in
            inr (ap (λ (n : ℕ). is_card_set after (n / 2048)) now.0 ∙ told ((item.place + slot.offset) / 2048)
            ∙ carded-here (frame h) (item.place + slot.offset) value (is_card_set cards) there)
      ]

-- ---- what the call does to cards

-- where the value is a place of the ephemeral segment, the slot's card is set
pub carded-set : (layout : Layout) (address value : ℕ) (cards after : List (CoverView ℕ))
    → stands_in (ephemeral layout) value ≡ true
    → ((i : ℕ) → is_card_set after i ≡ (eqb i (address / 2048) || is_card_set cards i)) → (i : ℕ)
    → is_card_set after i ≡ carded layout address value (is_card_set cards) i
carded-set layout address value cards after e told i =
    told i ∙ go (eqb i (address / 2048)) (is_card_set cards i)
    ∙ ap (λ (b : Bool). (eqb i (address / 2048) && b) || is_card_set cards i) (sym e)
  where
    go : (b c : Bool) → (b || c) ≡ ((b && true) || c)
    go true c = refl
    go false c = refl

-- and else nothing is
pub carded-kept : (layout : Layout) (address value : ℕ) (is_set : ℕ → Bool)
    → stands_in (ephemeral layout) value ≡ false → (i : ℕ) → is_set i ≡ carded layout address value is_set i
carded-kept layout address value is_set e i =
    go (eqb i (address / 2048)) (is_set i)
    ∙ ap (λ (b : Bool). (eqb i (address / 2048) && b) || is_set i) (sym e)
  where
    go : (b c : Bool) → c ≡ ((b && false) || c)
    go true c = refl
    go false c = refl
