-- A store whose card is set later: what it leaves of what a runtime shows, and what its card does.
use Rattle.std.proofs.Common.{◌≡◌, ◌∙◌, ◌⊎◌, inl, inr, ℕ, ◌+◌, ◌-◌, ◌/◌, ◌<◌, ◌==◌, ◌||◌, List, length, refl, sym, ℤ}
use Rattle.std.proofs.Common.{ap, subst, arith, Bool, true, false, [], ◌∷◌, None, Some}
use Rattle.std.specs.Prelude.{slice_get}
use Rattle.std.proofs.Math.Bool.{or-true}
use Rattle.std.proofs.lemmas.Bool.{cases_eq, eq-eqb}
use Rattle.clr_types.specs.Rising.{IsIn}
use Rattle.clr_types.specs.Types.{form_at, slot_kinds, slot_offset, TypeRow}
use Rattle.clr_types.specs.declared.item.Item.{Item}
use Rattle.clr_types.specs.declared.shape.Slot.{Slot}
use Rattle.clr_types.proofs.ChangedLists.{into_filter, IsIn-map}
use Rattle.clr_types.proofs.RisingLists.{all_at}
use Rattle.clr_covers.specs.Covers.{CoverView, is_covered, spans}
use Rattle.clr_cards.specs.Cards.{is_card_set}
use Rattle.clr_heap.specs.View.{frame, heap_items, HeapView, IsHeap, word_of}
use Rattle.clr_model.specs.declared.Reply.TheVariants.{Done}
use Rattle.clr_model.specs.Instructions.{begin_set}
use Rattle.clr_model.specs.Lawful.{StepIsPresent}
use Rattle.clr_model.specs.Lookups.{is_step, local_of, slots_or_none, step_of}
use Rattle.clr_model.specs.Machine.{begun_store, Machine, Object, Options, ref, Sums, Value}
use Rattle.clr_model.specs.Outcomes.{answered}
use Rattle.clr_model.specs.Run.{Follows}
use Rattle.clr_model.specs.Updates.{with_slot, with_step}
use Rattle.clr_model.specs.Lawful.{is_reference_value}
use Rattle.clr_model.proofs.LineChecks.{read-within}
use Rattle.clr_model.proofs.NamedWell.{found_named}
use Rattle.clr_model.proofs.SeenSound.{found-at}
use Rattle.clr_safe.specs.Threads.{begun_by, step_by, steps_of, Threads}
use Rattle.clr_safe.specs.declared.begun.Begun.TheVariants.{Nothing, Store}
use Rattle.clr_safe.proofs.Entries.{begun-among, steps_of-set}
use Rattle.clr_view.specs.SlotValues.{HasSlot, HasStoredSlot, IsObjectAt, IsSlot, StandsAt}
use Rattle.clr_view.specs.View.{HasStored, IsHeld, is_object, object_in, objects_in, word_value}
use Rattle.clr_view.specs.World.{World}
use Rattle.clr_view.proofs.SlotReads.{slot-kind, slot-told, slots-counted}
use Rattle.clr_generations.specs.Tables.{AreCardsOf, AreTablesBy}
use Rattle.clr_generations.proofs.BarrierLaw.{slot_card-covered, younger-stored}
use Rattle.clr_generations.proofs.KeptTables.{tables-referred}
use Rattle.clr_runtime.specs.Checks.{names_refusal}
use Rattle.clr_runtime.specs.RuntimeView.{IsBegunStore, IsShown, IsToldBy}
use Rattle.clr_runtime.specs.Shown.{Ahead, shown}
use Rattle.clr_runtime.specs.Slots.{HasItsSlot}
use Rattle.clr_runtime.proofs.BeginSetLines.{begin_set_done, begin_set_of}
use Rattle.clr_runtime.proofs.SlotLines.{kind-held, on, stored-shown}
use Rattle.clr_runtime.proofs.SlotsChecked.{value-kind}
use Rattle.clr_runtime.proofs.StepChanged.{step-present}
use Rattle.clr_runtime.proofs.StepsBegun.{begun-shown, idle-no_store, store-still, told-begun, with_begun}
use Rattle.clr_runtime.proofs.StepsKept.{HaveStayed, stayed-with, told-kept}
use Rattle.clr_runtime.proofs.StepsSeen.{step-seen}

-- ---- the store

-- the slot takes the value, and the thread is in mid-step
pub store_begun : (w : World) (sums : Sums) (options : Options) (threads : Threads) (ahead : Ahead) (t place index : ℕ)
    (i : Item)
    (slot : Slot) (has : HasItsSlot w.rows w.heap place index i slot) (new : HeapView) (into from v : ℕ)
    → names_refusal (shown w sums options threads ahead) t (into ∷ from ∷ []) ≡ None
    → place ≡ local_of (shown w sums options threads ahead) t into → v
    ≡ local_of (shown w sums options threads ahead) t from
    → slot.reference ≡ true → HasStored w.rows w.heap new i.place index (word_value slot.reference v)
    → Follows (shown w sums options threads ahead) (begin_set t into index from) (answered Done)
    (shown (record w { heap = new }) sums options (with_begun threads t (Store place index)) ahead)
store_begun w sums options threads ahead t place index i slot has new into from v passed at is kind stored =
    let s = shown w sums options threads ahead in
    let (name, held) = kind-held w sums options threads ahead t place index i slot has true kind in
    let after : with_step (with_slot s (local_of s t into) index (ref (local_of s t from))) t
    (begun_store (local_of s t into) index)
    ≡ shown (record w { heap = new }) sums options (with_begun threads t (Store place index)) ahead =
    (λ k. with_step (with_slot s (local_of s t into) index (ref (sym is k))) t (begun_store (sym at k) index))
    ∙ ap (λ (m : Machine). with_step m t (begun_store place index))
    (stored-shown w sums options threads ahead t place index i slot has new (local_of s t into) v true
    (has.object.at ∙ at) kind
    stored)
    ∙ begun-shown (record w { heap = new }) sums options threads ahead t (Store place index) in
    subst (Follows s (begin_set t into index from) (answered Done)) after
    (begin_set_done s t into index from (object_in w.rows (word_of w.heap) i)
    (on w sums options threads ahead t place index i slot has (begin_set_of t into index from) passed at) name held)

-- A reference to a younger object that is new is told by the begun store, and all others by what told them before.
module _ (cards : List (CoverView ℕ)) (threads : Threads) (bricks : List (CoverView ℤ)) (rows : List TypeRow)
    (old new : HeapView) (heap : IsHeap old) (held : IsHeld rows old) (t place index value : ℕ) (item : Item)
    (slot : Slot) (has : HasItsSlot rows old place index item slot) (reference : slot.reference ≡ true)
    (stored : HasStoredSlot rows old new item slot value) (within : t - 1 < length threads.begun)
    (idle : is_step (step_by (begun_by threads t)) ≡ false)
  where
    abbrev next : Threads
    next = with_begun threads t (Store place index)

    slot-of : HasSlot rows item slot
    slot-of = record { number = index; is = has.slot }

    stayed : HaveStayed rows rows (objects_in rows old) (objects_in rows new)
    stayed = stayed-with cards threads bricks rows old new item slot value slot-of stored

    -- the begun store tells the address of its slot
    told-here : IsBegunStore rows (objects_in rows new) (steps_of next) (item.place + slot.offset)
    told-here =
        let there = stayed (object_in rows (word_of old) item)
        (IsIn-map (object_in rows (word_of old))
        (into_filter is_object (heap_items rows old) has.object.object has.object.listed)) in
        let told = slot-told (form_at rows item.type_id.0) item.len index slot has.slot in
        record {
          object = there.object;
          present = there.present;
          slot = index;
          begun = subst (λ n. IsIn (begun_store n index) (steps_of next)) (sym (there.name ∙ has.object.at))
              (subst (IsIn (begun_store place index)) (sym (steps_of-set threads.begun (t - 1) (Store place index)))
              (begun-among threads.begun (t - 1) (Store place index) within));
          address = (λ k. item.place + told.1 k) ∙ (λ k. sym there.place k + slot_offset (sym there.form k) index);
        }

    pub begun_tables : AreTablesBy rows old cards bricks (IsToldBy rows old cards threads)
        → AreTablesBy rows new cards bricks (IsToldBy rows new cards (with_begun threads t (Store place index)))
    begun_tables =
        tables-referred cards bricks rows old new item slot value slot-of stored cards refl
        (IsToldBy rows new cards next)
        (λ law a y. elim (younger-stored rows old heap held item slot has.object.listed slot-of reference new value
        stored a y) [
          | inl was ↦ told-begun rows new cards threads t (Store place index) (idle-no_store threads t idle) a
              (told-kept cards threads rows rows old new stayed a (law a was))
          | inr now ↦ inr (subst (IsBegunStore rows (objects_in rows new) (steps_of next)) (sym now.0) told-here)
        ])

-- ---- its card

module _ {w : World} {sums : Sums} {options : Options} {threads : Threads} {ahead : Ahead}
    (is : IsShown w sums options threads ahead)
    (t object index : ℕ) (begun : begun_by threads t ≡ Store object index) where
  abbrev s : Machine
  s = shown w sums options threads ahead

  -- what is begun is seen
  pub store-step : step_of s t ≡ begun_store object index
  store-step = step-seen w sums options threads ahead t ∙ ap step_by begun

  there : StepIsPresent s (begun_store object index)
  there = subst (StepIsPresent s) store-step (step-present s is.sound.lawful t)

  -- the object stands
  pub store-stands : StandsAt w.rows w.heap object
  store-stands =
      let (o, i, n) = found_named (objects_in w.rows w.heap) object there.0 in
      (o, i, sym (all_at (λ (o : Object). o.name ≡ o.place) i is.sound.places) ∙ n)

  module _ (item : Item) (at : IsObjectAt w.rows w.heap object item) where
    -- its slot is there, and refers to something
    held-there : slice_get (object_in w.rows (word_of w.heap) item).slots index ≡ Some (ref there.1)
    held-there = ap (λ r. slice_get (slots_or_none r) index) (sym at.named) ∙ there.2

    pub store-below : index < length (slot_kinds (form_at w.rows item.type_id.0) item.len)
    store-below =
        let count = slots-counted w.rows (word_of w.heap) item in
        let within = read-within (object_in w.rows (word_of w.heap) item).slots index (ref there.1) held-there in
        omega (arith, count, within)

    module _ (slot : Slot) (told : IsSlot w.rows item index slot) where
      pub store-slot : HasSlot w.rows item slot
      store-slot = record { number = index; is = told }

      store-reference : slot.reference ≡ true
      store-reference =
          let (v, e) = slot-kind w.rows (word_of w.heap) item index slot told in
          let same : word_value slot.reference v ≡ ref there.1 = one (word_value slot.reference v) (ref there.1)
          (sym e ∙ held-there) in
          sym (value-kind slot.reference v) ∙ ap is_reference_value same
        where
          one : (a b : Value) → Some a ≡ Some b → a ≡ b
          one a b e = cc

      -- and it has a card
      pub store-covered : IsHeap w.heap → (cards : List (CoverView ℕ)) → AreCardsOf (frame w.heap) cards
          → is_covered cards ((item.place + slot.offset) / 2048) ≡ true
      store-covered heap =
          slot_card-covered w.rows w.heap heap is.held item slot at.listed store-slot store-reference

      -- an object of this name is that object
      this-object : (o : Object) → IsIn o (objects_in w.rows w.heap) → o.name ≡ object
          → o ≡ object_in w.rows (word_of w.heap) item
      this-object o i name =
          one o (object_in w.rows (word_of w.heap) item)
          (sym (found-at s is.sound o i object
          (sym (all_at (λ (o : Object). o.name ≡ o.place) i is.sound.places) ∙ name))
          ∙ at.named)
        where
          one : (a b : Object) → Some a ≡ Some b → a ≡ b
          one a b e = cc

      module _ (cards after : List (CoverView ℕ))
          (set_is : (i : ℕ) → is_card_set after i
          ≡ ((i == (item.place + slot.offset) / 2048) || is_card_set cards i)) where
        abbrev done : Threads
        done = with_begun threads t Nothing

        -- the card of the begun store's address is set
        told-finished : (a : ℕ) (store : IsBegunStore w.rows (objects_in w.rows w.heap) (steps_of threads) a)
            → store.object.name ≡ object → store.slot ≡ index → is_card_set after (a / 2048) ≡ true
        told-finished a store name number =
            let same = this-object store.object store.present name in
            let offset = slot-told (form_at w.rows item.type_id.0) item.len index slot told in
            let here : a ≡ item.place + slot.offset =
            store.address
            ∙ (λ k. (same k).place + slot_offset (form_at w.rows (same k).type) (number k))
            ∙ (λ k. item.place + sym offset.1 k) in
            ap (λ (n : ℕ). is_card_set after (n / 2048)) here ∙ set_is ((item.place + slot.offset) / 2048)
            ∙ ap (λ (b : Bool). b || is_card_set cards ((item.place + slot.offset) / 2048))
            (eq-eqb ((item.place + slot.offset) / 2048) ((item.place + slot.offset) / 2048) refl)

        -- and all that was told is told still
        told-set : (a : ℕ) → IsToldBy w.rows w.heap cards threads a → IsToldBy w.rows w.heap after done a
        told-set a told_by = elim told_by [
          | inl by_card ↦ inl (set_is (a / 2048)
              ∙ ap (λ (b : Bool). (a / 2048 == (item.place + slot.offset) / 2048) || b) by_card
              ∙ or-true (a / 2048 == (item.place + slot.offset) / 2048))
          | inr store ↦ by store (cases_eq store.object.name object) (cases_eq store.slot index)
        ]
          where
            differs : (n k : ℕ) → (n ≡ object → k ≡ index → ⊥) → step_by (begun_by threads t) ≡ begun_store n k → ⊥
            differs n k apart e =
                let both : begun_store object index ≡ begun_store n k = sym (ap step_by begun) ∙ e in
                let name : n ≡ object = cc in
                let number : k ≡ index = cc in apart name number

            by : (store : IsBegunStore w.rows (objects_in w.rows w.heap) (steps_of threads) a)
                → (store.object.name ≡ object) ⊎ (store.object.name ≡ object → ⊥)
                → (store.slot ≡ index) ⊎ (store.slot ≡ index → ⊥) → IsToldBy w.rows w.heap after done a
            by store (inl name) (inl number) = inl (told-finished a store name number)
            by store (inl name) (inr other) =
                inr (store-still w.rows w.heap after threads t Nothing a store
                (differs store.object.name store.slot (λ n k. other k)))
            by store (inr other) c =
                inr (store-still w.rows w.heap after threads t Nothing a store
                (differs store.object.name store.slot (λ n k. other n)))

        pub finished_tables : (bricks : List (CoverView ℤ)) → spans after ≡ spans cards
            → AreTablesBy w.rows w.heap cards bricks (IsToldBy w.rows w.heap cards threads)
            → AreTablesBy w.rows w.heap after bricks (IsToldBy w.rows w.heap after (with_begun threads t Nothing))
        finished_tables bricks same tables = record {
          cards = same ∙ tables.cards;
          bricks = tables.bricks;
          card_law = λ a y. told-set a (tables.card_law a y);
          brick_law = tables.brick_law;
        }
