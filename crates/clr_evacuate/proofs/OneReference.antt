-- One reference is forwarded.
use Rattle.std.proofs.Common.{◌≡◌, inl, inr, ℕ, ◌+◌, ◌/◌, true, List, refl, ap, sym, ◌∙◌, subst, ◌&&◌, ◌||◌}
use Rattle.std.proofs.Common.{false, arith}
use Rattle.std.proofs.lemmas.Bool.{cases_Bool, cases_eq, eq-eqb, true≢false}
use Rattle.clr_types.specs.Rising.{IsIn}
use Rattle.clr_types.specs.Segments.{ephemeral, stands_in}
use Rattle.clr_types.specs.Types.{bytes_form, class_form, Form, form_at, is_bytes, references_form, structs_form}
use Rattle.clr_types.specs.Types.{TypeRow}
use Rattle.clr_types.specs.declared.item.Item.{Item}
use Rattle.clr_types.specs.declared.segment.SegInfo.{SegInfo}
use Rattle.clr_types.proofs.SegmentFacts.{stands-between}
use Rattle.clr_cards.specs.Cards.{is_card_set}
use Rattle.clr_covers.specs.Covers.{CoverView, spans}
use Rattle.clr_generations.specs.Barrier.{carded}
use Rattle.clr_generations.proofs.BarrierLaw.{carded-before}
use Rattle.clr_heap.specs.Memories.{HasWord}
use Rattle.clr_heap.specs.View.{frame, heap_items, HeapView, IsHeap, SameShape, stored, word_of}
use Rattle.clr_heap.proofs.Rewrite.{SameShape-refl, SameShape-stored}
use Rattle.clr_heap.proofs.Storing.{word_in-store_in_other, word_in-store_in_same}
use Rattle.clr_mark.specs.Markings.{item_references}
use Rattle.clr_view.specs.Clean.{AreClean}
use Rattle.clr_view.specs.SlotValues.{HasSlot, HasStoredSlot, with_value, with_value_at}
use Rattle.clr_view.specs.View.{HasStored, is_object, IsHeld}
use Rattle.clr_view.proofs.SlotReads.{reference-word}
use Rattle.clr_view.proofs.Standing.{cell_has, InCell}
use Rattle.clr_model.specs.Machine.{ref}
use Rattle.clr_evacuate.specs.Forwarding.{IsForwarded, IsOffsetOf, LeadsBy}
use Rattle.clr_evacuate.proofs.Cells.{reference_at, reference_in, reference_slot}

-- a value that isn't in an array of bytes is a word
written : (form : Form) (h : HeapView) (a v : ℕ) → is_bytes form ≡ false → with_value_at form h a v ≡ stored h a v
written (class_form pattern) h a v words = refl
written references_form h a v words = refl
written bytes_form h a v words = absurd (true≢false words)
written (structs_form pattern) h a v words = refl

-- null stands in no segment
null_outside : (s : SegInfo) → stands_in s 0 ≡ false
null_outside s = elim (cases_Bool (stands_in s 0)) [
  | inl inside ↦ (let at = stands-between s 0 inside in absurd (omega (arith, at)))
  | inr outside ↦ outside
]

module _ (rows : List TypeRow) (h : HeapView) (held : IsHeld rows h) (cards : List (CoverView ℕ)) (a : ℕ) where
  -- nothing is done where a word leads to itself and names no place of the ephemeral segment
  pub same_forwarded : ((go : ℕ → ℕ) → LeadsBy rows h go → word_of h a ≡ go (word_of h a))
      → stands_in (ephemeral (frame h)) (word_of h a) ≡ false → IsForwarded rows h h cards cards (λ b. b ≡ a)
  same_forwarded goes outside = record {
    shape = SameShape-refl h;
    held = held;
    items = refl;
    words = λ b z. inl refl;
    gone = λ go leads b r same. ap (word_of h) same ∙ goes go leads ∙ ap (λ (n : ℕ). go (word_of h n)) (sym same);
    clean = λ clean. clean;
    spans = refl;
    kept = λ c set. set;
    carded = λ b r same young. absurd (true≢false (sym young
        ∙ ap (λ (n : ℕ). stands_in (ephemeral (frame h)) (word_of h n)) same ∙ outside));
  }

  -- null is such a word
  pub null_forwarded : word_of h a ≡ 0 → IsForwarded rows h h cards cards (λ b. b ≡ a)
  null_forwarded null =
      same_forwarded (λ go leads. null ∙ sym leads.forwards.null ∙ ap go (sym null))
      (ap (stands_in (ephemeral (frame h))) null ∙ null_outside (ephemeral (frame h)))

module _ (rows : List TypeRow) (h : HeapView) (heap : IsHeap h) (held : IsHeld rows h) (i : Item) (offset : ℕ)
    (listed : IsIn i (heap_items rows h)) (reference : IsIn offset (item_references rows i)) where
  abbrev a : ℕ
  a = i.place + offset

  at_offset : IsOffsetOf i.place (item_references rows i) a
  at_offset = record { offset = offset; listed = reference; address = refl }

  abbrev in_cell : InCell i a
  in_cell = (reference_in rows h heap held i a listed at_offset).0

  -- its word can be read
  pub reference_has : HasWord h.memories a
  reference_has = cell_has rows h heap held i a listed in_cell

  -- it is a slot
  pub slot_is : HasSlot rows i (reference_at offset)
  slot_is = reference_slot rows i offset reference

  -- ONE REFERENCE is forwarded
  pub forwarded_one : (new : HeapView) (cards after : List (CoverView ℕ)) (v : ℕ) → is_object i ≡ true
      → ((go : ℕ → ℕ) → LeadsBy rows h go → v ≡ go (word_of h a))
      → HasStoredSlot rows h new i (reference_at offset) v → new ≡ with_value rows h i (reference_at offset) v
      → (AreClean rows h → AreClean rows new)
      → ((c : ℕ) → is_card_set after c ≡ carded (frame h) a v (is_card_set cards) c) → spans after ≡ spans cards
      → IsForwarded rows h new cards after (λ b. b ≡ a)
  forwarded_one new cards after v object goes stored_slot is clean card covered =
      let slot = slot_is in
      let this : HasStored rows h new i.place slot.number (ref v) = stored_slot slot.number slot.is in
      let words = reference-word rows i (reference_at offset) slot refl in
      let store : new ≡ stored h a v = is ∙ written (form_at rows i.type_id.0) h a v words in
      let there : word_of new a ≡ v =
      ap (λ (g : HeapView). word_of g a) store ∙ word_in-store_in_same h.memories a v reference_has.inside in
      record {
        shape = subst (λ (g : HeapView). SameShape h g) (sym store) (SameShape-stored h h a v (SameShape-refl h));
        held = this.held;
        items = this.items;
        words = λ b z. elim (cases_eq b a) [
          | inl same ↦ inr (
            record {
              item = i;
              listed = listed;
              object = object;
              reference = record { offset = offset; listed = reference; address = same };
            },
            same,
          )
          | inr ne ↦ inl (ap (λ (g : HeapView). word_of g b) store
              ∙ word_in-store_in_other h.memories a v b in_cell.aligned z ne)
        ];
        gone = λ go leads b r same. ap (word_of new) same ∙ there ∙ goes go leads ∙ ap (λ (n : ℕ). go (word_of h n))
            (sym same);
        clean = clean;
        spans = covered;
        kept = λ c set. card c ∙ carded-before (frame h) a v (is_card_set cards) c set;
        carded = λ b r same young.
            let v_young : stands_in (ephemeral (frame h)) v ≡ true =
            ap (stands_in (ephemeral (frame h))) (sym (ap (word_of new) same ∙ there)) ∙ young in
            let here = eq-eqb (a / 2048) (a / 2048) refl in
            let set : is_card_set after (a / 2048) ≡ true =
            card (a / 2048) ∙ λ k. (here k && v_young k) || is_card_set cards (a / 2048) in
            ap (λ (n : ℕ). is_card_set after (n / 2048)) same ∙ set;
      }
