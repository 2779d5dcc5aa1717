-- What is told of references to younger objects by cards and by begun stores, as objects change.
use Rattle.std.proofs.Common.{◌≡◌, ◌∙◌, ◌⊎◌, inl, inr, ℕ, ◌+◌, ◌/◌, List, [], ◌∷◌, ◌++◌, ap, refl, sym, subst, ℤ}
use Rattle.std.proofs.Common.{Bool, true, false, None}
use Rattle.std.specs.List.{AllByRecursion}
use Rattle.clr_types.specs.Rising.{changed_by, IsIn, sorted_by}
use Rattle.clr_types.specs.Types.{form_at, form_of_row, slot_offset, TypeRow}
use Rattle.clr_types.specs.declared.item.Item.{Item}
use Rattle.clr_types.specs.declared.shape.Slot.{Slot}
use Rattle.clr_types.proofs.ChangedLists.{append_left}
use Rattle.clr_types.proofs.GrownTables.{type_row-grown}
use Rattle.clr_types.proofs.RisingLists.{all_at}
use Rattle.clr_types.proofs.SortedLists.{into_sorted_by}
use Rattle.clr_covers.specs.Covers.{CoverView, spans}
use Rattle.clr_cards.specs.Cards.{is_card_set}
use Rattle.clr_heap.specs.View.{frame, HeapView}
use Rattle.clr_model.specs.Lawful.{IsShaped}
use Rattle.clr_model.specs.Lookups.{lowest_step_from}
use Rattle.clr_model.specs.Machine.{begun_store, Machine, no_step, Object, ThreadStep, Value}
use Rattle.clr_model.specs.Updates.{with_flag_of, with_slot_of}
use Rattle.clr_model.proofs.CollectedPresent.{all_idle}
use Rattle.clr_view.specs.Flags.{HasFlagged}
use Rattle.clr_view.specs.SlotValues.{HasSlot, HasStoredSlot}
use Rattle.clr_view.specs.View.{objects_in, word_value}
use Rattle.clr_generations.specs.Barrier.{carded}
use Rattle.clr_generations.specs.Laws.{NamesYounger}
use Rattle.clr_generations.specs.Tables.{AreTablesBy, AreTablesOf}
use Rattle.clr_generations.proofs.BarrierLaw.{carded-before}
use Rattle.clr_generations.proofs.ChangedObjects.{goes-to}
use Rattle.clr_generations.proofs.KeptTables.{tables-flagged, tables-number, tables-referred}
use Rattle.clr_safe.specs.Threads.{steps_of, Threads}
use Rattle.clr_runtime.specs.RuntimeView.{IsBegunStore, IsToldBy}

-- ---- objects that stay

-- One of these objects is what this one was: of the same name, place and form.
pub record HasStayed (before now : List TypeRow) (objects : List Object) (o : Object) : Type 0 where
  pub object : Object
  pub present : IsIn object objects
  pub name : object.name ≡ o.name
  pub place : object.place ≡ o.place
  pub form : form_at now object.type ≡ form_at before o.type

-- each of the old objects is one of the new ones
abbrev pub HaveStayed : List TypeRow → List TypeRow → List Object → List Object → Type 0
HaveStayed before now old new = (o : Object) → IsIn o old → HasStayed before now new o

-- the objects are the same
pub stayed-same : (rows : List TypeRow) (old new : List Object) → new ≡ old → HaveStayed rows rows old new
stayed-same rows old new same o i = record {
  object = o;
  present = subst (IsIn o) (sym same) i;
  name = refl;
  place = refl;
  form = refl;
}

-- one of them is changed, but for its name, its place and its type
module _ (rows : List TypeRow) (place : ℕ) (objects : List Object) where
  abbrev what : Object → ℕ × (ℕ × ℕ)
  what o = (o.name, (o.place, o.type))

  stayed-changed : (change : Object → Object) → ((o : Object) → what (change o) ≡ what o)
      → HaveStayed rows rows objects (changed_by (λ (o : Object). o.name) place change objects)
  stayed-changed change keeps o i =
      let (y, there, same) = goes-to (λ (x : Object). x.name) place change what keeps objects o i in
      record {
        object = y;
        present = there;
        name = ap (λ (p : ℕ × (ℕ × ℕ)). p.0) same;
        place = ap (λ (p : ℕ × (ℕ × ℕ)). p.1.0) same;
        form = ap (λ (p : ℕ × (ℕ × ℕ)). form_at rows p.1.1) same;
      }

  -- a slot of it
  pub stayed-stored : (slot : ℕ) (value : Value)
      → HaveStayed rows rows objects (changed_by (λ (o : Object). o.name) place (with_slot_of slot value) objects)
  stayed-stored slot value = stayed-changed (with_slot_of slot value) (λ o. refl)

  -- its flag
  pub stayed-flagged : (flag : Bool)
      → HaveStayed rows rows objects (changed_by (λ (o : Object). o.name) place (with_flag_of flag) objects)
  stayed-flagged flag = stayed-changed (with_flag_of flag) (λ o. refl)

-- there is one object more
pub stayed-born : (rows : List TypeRow) (old new : List Object) (x : Object)
    → new ≡ sorted_by (λ (o : Object). o.name) (old ++ x ∷ []) → HaveStayed rows rows old new
stayed-born rows old new x is o i = record {
  object = o;
  present = subst (IsIn o) (sym is)
      (into_sorted_by (λ (o : Object). o.name) o (old ++ x ∷ []) (append_left (x ∷ []) i));
  name = refl;
  place = refl;
  form = refl;
}

-- there is one type more
pub stayed-typed : (m : Machine) (row : TypeRow) (new : List Object) → AllByRecursion (IsShaped m) m.objects
    → new ≡ m.objects → HaveStayed m.types (m.types ++ row ∷ []) m.objects new
stayed-typed m row new shapes same o i = record {
  object = o;
  present = subst (IsIn o) (sym same) i;
  name = refl;
  place = refl;
  form = ap form_of_row (type_row-grown m.types row o.type (all_at (IsShaped m) i shapes).typed);
}

-- ---- begun stores

-- the address of a begun store is that of one still
begun-kept : (before now : List TypeRow) (old new : List Object) (steps : List ThreadStep)
    → HaveStayed before now old new → (a : ℕ) → IsBegunStore before old steps a → IsBegunStore now new steps a
begun-kept before now old new steps stayed a store =
    let there = stayed store.object store.present in
    record {
      object = there.object;
      present = there.present;
      slot = store.slot;
      begun = subst (λ n. IsIn (begun_store n store.slot) steps) (sym there.name) store.begun;
      address = store.address
          ∙ sym (λ i. there.place i + slot_offset (there.form i) store.slot);
    }

-- no thread has begun one where none is in mid-step
none-begun : (steps : List ThreadStep) (object slot : ℕ) → lowest_step_from 1 steps ≡ None
    → IsIn (begun_store object slot) steps → ⊥
none-begun steps object slot idle i = clash (all_at (λ (s : ThreadStep). s ≡ no_step) i (all_idle 1 steps idle))
  where
    clash : begun_store object slot ≡ no_step → ⊥
    clash e = cc

-- ---- cards and bricks

-- what holds of the addresses of references to younger objects may be what follows from it
pub tables-by : (rows : List TypeRow) (h : HeapView) (cards : List (CoverView ℕ)) (bricks : List (CoverView ℤ))
    (Holds Next : ℕ → Type 0) → ((a : ℕ) → Holds a → Next a) → AreTablesBy rows h cards bricks Holds
    → AreTablesBy rows h cards bricks Next
tables-by rows h cards bricks Holds Next more tables = record {
  cards = tables.cards;
  bricks = tables.bricks;
  card_law = λ a y. more a (tables.card_law a y);
  brick_law = tables.brick_law;
}

module _ (cards : List (CoverView ℕ)) (threads : Threads) where
  -- what was told before is told still
  pub told-kept : (before now : List TypeRow) (old new : HeapView)
      → HaveStayed before now (objects_in before old) (objects_in now new)
      → (a : ℕ) → IsToldBy before old cards threads a → IsToldBy now new cards threads a
  told-kept before now old new stayed a told = elim told [
    | inl by_card ↦ inl by_card
    | inr store ↦ inr (begun-kept before now (objects_in before old) (objects_in now new) (steps_of threads) stayed a
        store)
  ]

  module _ (bricks : List (CoverView ℤ)) where
    -- where the law was kept for what was told before, it is kept for what is told now
    pub tables-told : (before now : List TypeRow) (old new : HeapView)
        → HaveStayed before now (objects_in before old) (objects_in now new)
        → AreTablesBy now new cards bricks (IsToldBy before old cards threads)
        → AreTablesBy now new cards bricks (IsToldBy now new cards threads)
    tables-told before now old new stayed =
        tables-by now new cards bricks (IsToldBy before old cards threads) (IsToldBy now new cards threads)
        (told-kept before now old new stayed)

    module _ (rows : List TypeRow) (h : HeapView) where
      -- where no thread is in mid-step, cards tell all
      pub tables-idle : lowest_step_from 1 (steps_of threads) ≡ None
          → AreTablesBy rows h cards bricks (IsToldBy rows h cards threads) → AreTablesOf rows h cards bricks
      tables-idle idle =
          tables-by rows h cards bricks (IsToldBy rows h cards threads) _
          (λ a told. elim told [
            | inl by_card ↦ by_card
            | inr store ↦ absurd (none-begun (steps_of threads) store.object.name store.slot idle store.begun)
          ])

      -- and what cards tell is told
      pub tables-carded : AreTablesOf rows h cards bricks
          → AreTablesBy rows h cards bricks (IsToldBy rows h cards threads)
      tables-carded = tables-by rows h cards bricks _ (IsToldBy rows h cards threads) (λ a set. inl set)

-- ---- words of objects are written

module _ (cards : List (CoverView ℕ)) (threads : Threads) (bricks : List (CoverView ℤ)) (rows : List TypeRow)
    (old new : HeapView) where
  -- a finaliser is suppressed, or isn't any more
  pub flagged_tables : (place : ℕ) (flag : Bool) → HasFlagged rows old new place flag
      → AreTablesBy rows old cards bricks (IsToldBy rows old cards threads)
      → AreTablesBy rows new cards bricks (IsToldBy rows new cards threads)
  flagged_tables place flag flagged tables =
      tables-told cards threads bricks rows rows old new
      (subst (HaveStayed rows rows (objects_in rows old)) (sym flagged.objects)
      (stayed-flagged rows place (objects_in rows old) flag))
      (tables-flagged cards bricks rows old new place flag flagged tables)

  module _ (item : Item) (slot : Slot) (value : ℕ) (has : HasSlot rows item slot) where
    pub stayed-with : HasStoredSlot rows old new item slot value
        → HaveStayed rows rows (objects_in rows old) (objects_in rows new)
    stayed-with stored =
        subst (HaveStayed rows rows (objects_in rows old)) (sym (stored has.number has.is).objects)
        (stayed-stored rows item.place (objects_in rows old) has.number (word_value slot.reference value))

    -- a number slot has another number
    pub numbered_tables : slot.reference ≡ false → HasStoredSlot rows old new item slot value
        → AreTablesBy rows old cards bricks (IsToldBy rows old cards threads)
        → AreTablesBy rows new cards bricks (IsToldBy rows new cards threads)
    numbered_tables number stored tables =
        tables-told cards threads bricks rows rows old new (stayed-with stored)
        (tables-number cards bricks rows old new item slot value has number stored tables)

    -- a reference was stored, and the card of its address was set where it names a younger object
    pub referred_tables : HasStoredSlot rows old new item slot value → (after : List (CoverView ℕ))
        → spans after ≡ spans cards
        → ((i : ℕ) → is_card_set after i
        ≡ carded (frame old) (item.place + slot.offset) value (is_card_set cards) i)
        → ((a : ℕ) → NamesYounger rows (frame new) (objects_in rows new) a
        → NamesYounger rows (frame old) (objects_in rows old) a ⊎ (is_card_set after (a / 2048) ≡ true))
        → AreTablesBy rows old cards bricks (IsToldBy rows old cards threads)
        → AreTablesBy rows new after bricks (IsToldBy rows new after threads)
    referred_tables stored after spans_are card names =
        tables-referred cards bricks rows old new item slot value has stored after spans_are
        (IsToldBy rows new after threads)
        (λ law a y. elim (names a y) [ inl was ↦ still a (law a was) | inr set ↦ inl set ])
      where
        still : (a : ℕ) → IsToldBy rows old cards threads a → IsToldBy rows new after threads a
        still a told = elim told [
          | inl by_card ↦ inl (card (a / 2048)
              ∙ carded-before (frame old) (item.place + slot.offset) value (is_card_set cards) (a / 2048) by_card)
          | inr store ↦ inr (begun-kept rows rows (objects_in rows old) (objects_in rows new) (steps_of threads)
              (stayed-with stored) a store)
        ]
