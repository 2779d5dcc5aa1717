-- Cards and bricks of a heap are those of the heap after a step that moves nothing, where no reference is new or the
-- laws were seen to.
use Rattle.std.proofs.Common.{◌≡◌, inl, inr, ◌≤◌, Bool, false, List, [], ◌∷◌, ◌++◌, length, refl, sym, ap, ◌∙◌, subst}
use Rattle.std.proofs.Common.{ℕ, ℤ}
use Rattle.clr_types.specs.Rising.{changed_by, IsIn}
use Rattle.clr_model.specs.Updates.{with_slot_of}
use Rattle.clr_types.specs.Segments.{ephemeral, Layout}
use Rattle.clr_types.specs.Types.{TypeRow}
use Rattle.clr_types.specs.declared.item.Item.{Item}
use Rattle.clr_types.specs.declared.shape.Slot.{Slot}
use Rattle.clr_covers.specs.Covers.{CoverView, spans}
use Rattle.clr_bricks.specs.Bricks.{entry_at}
use Rattle.clr_heap.specs.View.{frame, heap_items, HeapView, word_of}
use Rattle.clr_model.specs.Allocation.{IsRefilled}
use Rattle.clr_model.specs.Machine.{Object}
use Rattle.clr_view.specs.Flags.{HasFlagged}
use Rattle.clr_view.specs.SlotValues.{HasSlot, HasStoredSlot}
use Rattle.clr_view.specs.View.{HasGivenUp, HasNewborn, HasRefilled, IsHeld, is_object, layout_in}
use Rattle.clr_view.specs.View.{object_in, objects_in, word_value}
use Rattle.clr_view.proofs.ObjectItems.{in_map}
use Rattle.clr_view.proofs.TypeMore.{item-known, objects_with_type}
use Rattle.clr_types.proofs.ChangedLists.{out_of_filter}
use Rattle.clr_generations.specs.Laws.{BrickLaw, NamesNoMore, NamesYounger}
use Rattle.clr_generations.specs.Tables.{AreTablesBy}
use Rattle.clr_generations.proofs.ChangedObjects.{flag-changed, number-changed, same-objects, slot-changed}
use Rattle.clr_generations.proofs.ChangedObjects.{type-added}
use Rattle.clr_generations.proofs.KeptLaws.{brick_law-kept, HasSameObjects, HasSamePlaces, same-places}
use Rattle.clr_generations.proofs.KeptLaws.{were-younger}
use Rattle.clr_generations.proofs.SameBounds.{HasSameBounds, outlines, outlines_ended, units-same}

-- ---- layouts

pub bounds-from : (old new : Layout) → new.segments ≡ old.segments → new.start1 ≡ old.start1 → new.start0 ≡ old.start0
    → HasSameBounds old new
bounds-from old new segments start1 start0 = record {
  segments = ap outlines segments;
  start1 = start1;
  start0 = start0;
}

-- a refill moves no bound but an end
pub bounds-refilled : (old new : Layout) (thread size : ℕ) → IsRefilled old thread size new → HasSameBounds old new
bounds-refilled old new thread size refilled = elim refilled [
  | inl item ↦ bounds-from old new (ap (λ (l : Layout). l.segments) item.4) (ap (λ (l : Layout). l.start1) item.4)
      (ap (λ (l : Layout). l.start0) item.4)
  | inr tail ↦ record {
    segments = ap (λ (l : Layout). outlines l.segments) tail.1 ∙ outlines_ended (ephemeral old).base _ old.segments;
    start1 = ap (λ (l : Layout). l.start1) tail.1;
    start0 = ap (λ (l : Layout). l.start0) tail.1;
  }
]

-- nor does anything that leaves the layout
same_layout-bounds : (rows : List TypeRow) (old new : HeapView) → layout_in rows new ≡ layout_in rows old
    → HasSameBounds (frame old) (frame new)
same_layout-bounds rows old new e =
    bounds-from (frame old) (frame new) (ap (λ (l : Layout). l.segments) e) (ap (λ (l : Layout). l.start1) e)
    (ap (λ (l : Layout). l.start0) e)

module _ (cards : List (CoverView ℕ)) (bricks : List (CoverView ℤ)) {Holds : ℕ → Type 0} where
  -- THE GENERAL STEP: no bound moves but ends, no object moves, and no reference is new
  pub tables-kept : (before now : List TypeRow) (old new : HeapView) → HasSameBounds (frame old) (frame new)
      → HasSameObjects before now (objects_in before old) (objects_in now new)
      → AreTablesBy before old cards bricks Holds
      → AreTablesBy now new cards bricks Holds
  tables-kept before now old new bounds objects t = record {
    cards = t.cards ∙ sym (units-same (frame old) (frame new) bounds 2048);
    bricks = t.bricks ∙ sym (units-same (frame old) (frame new) bounds 4096);
    card_law = λ a y. t.card_law a (were-younger before now (frame old) (frame new) (objects_in before old)
        (objects_in now new) bounds objects a y);
    brick_law = brick_law-kept before now (frame old) (frame new) (objects_in before old) (objects_in now new) bounds
        (same-places before now (objects_in before old) (objects_in now new) objects) (entry_at bricks) t.brick_law;
  }

  module _ (rows : List TypeRow) (old new : HeapView) where
    -- the objects are the same
    pub tables-same : HasSameBounds (frame old) (frame new) → objects_in rows new ≡ objects_in rows old
        → AreTablesBy rows old cards bricks Holds → AreTablesBy rows new cards bricks Holds
    tables-same bounds objects =
        tables-kept rows rows old new bounds
        (subst (HasSameObjects rows rows (objects_in rows old)) (sym objects) (same-objects rows (objects_in rows old)))

    -- a thread has a new context
    pub tables-refilled : (thread size : ℕ) → HasRefilled rows old new thread size
        → AreTablesBy rows old cards bricks Holds → AreTablesBy rows new cards bricks Holds
    tables-refilled thread size r =
        let b = bounds-refilled (layout_in rows old) (layout_in rows new) thread size r.layout in
        tables-same (record { segments = b.segments; start1 = b.start1; start0 = b.start0 }) r.objects

    -- all contexts are given up
    pub tables-given_up : HasGivenUp rows old new → AreTablesBy rows old cards bricks Holds
        → AreTablesBy rows new cards bricks Holds
    tables-given_up g =
        tables-same (bounds-from (frame old) (frame new) (ap (λ (l : Layout). l.segments) g.layout)
        (ap (λ (l : Layout). l.start1) g.layout) (ap (λ (l : Layout). l.start0) g.layout)) g.objects

    -- a finaliser is suppressed, or isn't any more
    pub tables-flagged : (place : ℕ) (flag : Bool) → HasFlagged rows old new place flag
        → AreTablesBy rows old cards bricks Holds → AreTablesBy rows new cards bricks Holds
    tables-flagged place flag f =
        tables-kept rows rows old new (same_layout-bounds rows old new f.layout)
        (subst (HasSameObjects rows rows (objects_in rows old)) (sym f.objects)
        (flag-changed rows (objects_in rows old) place flag))

    -- a number slot has another number
    pub tables-number : (item : Item) (slot : Slot) (value : ℕ) → HasSlot rows item slot → slot.reference ≡ false
        → HasStoredSlot rows old new item slot value → AreTablesBy rows old cards bricks Holds
        → AreTablesBy rows new cards bricks Holds
    tables-number item slot value has number stored =
        let s = stored has.number has.is in
        let objects = s.objects
        ∙ ap (λ (b : Bool). changed_by (λ (o : Object). o.name) item.place
        (with_slot_of has.number (word_value b value)) (objects_in rows old)) number in
        tables-kept rows rows old new (same_layout-bounds rows old new s.layout)
        (subst (HasSameObjects rows rows (objects_in rows old)) (sym objects)
        (number-changed rows (objects_in rows old) item.place has.number value))

    -- a reference was stored, and something holds of the addresses of those to younger objects after it
    pub tables-referred : (item : Item) (slot : Slot) (value : ℕ) → HasSlot rows item slot
        → HasStoredSlot rows old new item slot value → (after : List (CoverView ℕ)) → spans after ≡ spans cards
        → (Next : ℕ → Type 0)
        → (((a : ℕ) → NamesYounger rows (frame old) (objects_in rows old) a → Holds a)
        → (a : ℕ) → NamesYounger rows (frame new) (objects_in rows new) a → Next a)
        → AreTablesBy rows old cards bricks Holds → AreTablesBy rows new after bricks Next
    tables-referred item slot value has stored after spans_are Next law t =
        let s = stored has.number has.is in
        let bounds = same_layout-bounds rows old new s.layout in
        let places = subst (HasSamePlaces rows rows (objects_in rows old)) (sym s.objects)
        (slot-changed rows (objects_in rows old) item.place has.number (word_value slot.reference value)) in
        record {
          cards = spans_are ∙ t.cards ∙ sym (units-same (frame old) (frame new) bounds 2048);
          bricks = t.bricks ∙ sym (units-same (frame old) (frame new) bounds 4096);
          card_law = law t.card_law;
          brick_law = brick_law-kept rows rows (frame old) (frame new) (objects_in rows old) (objects_in rows new)
              bounds places (entry_at bricks) t.brick_law;
        }

    -- an object was born, with no reference to a younger one that is new, and the law of bricks is kept
    pub tables-born : (thread t n : ℕ) → HasNewborn rows old new thread t n → (after : List (CoverView ℤ))
        → spans after ≡ spans bricks
        → NamesNoMore rows (frame old) (objects_in rows old) (frame new) (objects_in rows new)
        → (BrickLaw rows (frame old) (objects_in rows old) (entry_at bricks)
        → BrickLaw rows (frame new) (objects_in rows new) (entry_at after))
        → AreTablesBy rows old cards bricks Holds → AreTablesBy rows new cards after Holds
    tables-born thread t n born after spans_are no_more brick_law tables =
        let bounds = bounds-from (frame old) (frame new) (ap (λ (l : Layout). l.segments) born.layout)
        (ap (λ (l : Layout). l.start1) born.layout) (ap (λ (l : Layout). l.start0) born.layout) in
        record {
          cards = tables.cards ∙ sym (units-same (frame old) (frame new) bounds 2048);
          bricks = spans_are ∙ tables.bricks ∙ sym (units-same (frame old) (frame new) bounds 4096);
          card_law = λ a y. tables.card_law a (no_more a y);
          brick_law = brick_law tables.brick_law;
        }

  -- a type was added
  pub tables-typed : (rows : List TypeRow) (row : TypeRow) (h : HeapView) → IsHeld rows h
      → AreTablesBy rows h cards bricks Holds → AreTablesBy (rows ++ row ∷ []) h cards bricks Holds
  tables-typed rows row h held =
      tables-kept rows (rows ++ row ∷ []) h h (bounds-from (frame h) (frame h) refl refl refl)
      (subst (HasSameObjects rows (rows ++ row ∷ []) (objects_in rows h))
      (sym (objects_with_type rows row h held.walkable))
      (type-added rows row (objects_in rows h) known))
    where
      known : (o : Object) → IsIn o (objects_in rows h) → o.type ≤ length rows
      known o i =
          let found = in_map (object_in rows (word_of h)) o _ i in
          let passed = out_of_filter is_object found.0 (heap_items rows h) found.1 in
          subst (λ (x : Object). x.type ≤ length rows) found.2 (item-known rows row h held.walkable found.0 passed.1)
