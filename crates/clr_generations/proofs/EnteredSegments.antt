-- The objects of a heap that are entered segment by segment, and cards that are all set.
use Rattle.std.proofs.Common.{◌≡◌, ◌⊎◌, inl, inr, ℕ, zero, suc, ◌+◌, ◌-◌, ◌*◌, ◌/◌, ◌%◌, ◌<◌, ◌≤◌, ◌^◌, Bool, true, List, []}
use Rattle.std.proofs.Common.{◌∷◌, ◌++◌, ◌||◌, filter, length, map, refl, ap, sym, ◌∙◌, subst, arith, eqb, ℤ, pos, Some}
use Rattle.std.proofs.Common.{append-nil, append_assoc}
use Rattle.std.proofs.Math.Bool.{or-true}
use Rattle.std.proofs.lemmas.Bool.{cases_eq, eq-eqb}
use Rattle.std.specs.Prelude.{slice_get}
use Rattle.std.proofs.lemmas.List.{length-map}
use Rattle.std.proofs.lemmas.Option.{slice_get_within}
use Rattle.clr_types.specs.Rising.{first, IsIn}
use Rattle.clr_types.specs.Segments.{empty_segment, Layout, reserved_end}
use Rattle.clr_types.specs.Types.{Form, form_at, size_of, slot_kinds, slot_offset, slots_from, slots_of, TypeRow}
use Rattle.clr_types.specs.Types.{class_form, references_form, bytes_form, structs_form}
use Rattle.clr_types.specs.declared.item.Item.{Item}
use Rattle.clr_types.specs.declared.segment.SegInfo.{SegInfo}
use Rattle.clr_types.proofs.ChangedLists.{out_of_filter}
use Rattle.clr_types.proofs.ListMembers.{append_right}
use Rattle.clr_types.proofs.RisingLists.{all_at}
use Rattle.clr_covers.specs.Covers.{CoverView, is_covered, spans}
use Rattle.clr_bricks.specs.Bricks.{entry_at, root_entry}
use Rattle.clr_cards.specs.Cards.{is_card_set}
use Rattle.clr_heap.specs.View.{first_of, frame, heap_items, HeapView, IsHeap, last_of, listing, listings, segment_at}
use Rattle.clr_heap.specs.View.{word_of}
use Rattle.clr_heap.proofs.Framing.{lawful_at}
use Rattle.clr_model.specs.Machine.{Object, ref}
use Rattle.clr_view.specs.View.{IsHeld, is_object, object_in, objects_in, slot_value}
use Rattle.clr_view.proofs.Listed.{listed-sized}
use Rattle.clr_view.proofs.Listings.{heap-cut}
use Rattle.clr_view.proofs.ObjectItems.{in_map}
use Rattle.clr_view.proofs.Slots.{slot-count}
use Rattle.clr_view.proofs.Standing.{standing}
use Rattle.clr_generations.specs.Laws.{BrickLaw, NamesYounger}
use Rattle.clr_generations.specs.Tables.{AreBricksOf, AreCardsOf}
use Rattle.clr_generations.proofs.Covered.{card-covered}
use Rattle.clr_generations.proofs.FoundItems.{in-at}
use Rattle.clr_generations.proofs.HeapHomes.{brick-covered, brick-in}

-- ---- items

-- the items of the segments up to segment k
pub listings-more : (rows : List TypeRow) (h : HeapView) (k : ℕ)
    → listings rows h 0 k ++ listing rows h k ≡ listings rows h 0 (k + 1)
listings-more rows h k =
    let none : k + 1 - (k + 1) ≡ 0 = omega arith in
    sym (heap-cut rows h k (k + 1) (omega arith)
    ∙ ap (λ (n : ℕ). listings rows h 0 k ++ (listing rows h k ++ listings rows h (k + 1) n)) none
    ∙ ap (λ (xs : List Item). listings rows h 0 k ++ xs) (append-nil (listing rows h k)))

-- an item of segment k, with those before it and those behind it
pub cut-in : (rows : List TypeRow) (h : HeapView) (k : ℕ) → k < length h.segments → (passed : List Item) (i : Item)
    (ahead : List Item) → passed ++ i ∷ ahead ≡ listing rows h k
    → (listings rows h 0 k ++ passed) ++ i ∷ (ahead ++ listings rows h (k + 1) (length h.segments - (k + 1)))
    ≡ heap_items rows h
cut-in rows h k l passed i ahead e =
    let rest = listings rows h (k + 1) (length h.segments - (k + 1)) in
    append_assoc (listings rows h 0 k) passed (i ∷ (ahead ++ rest))
    ∙ ap (λ (xs : List Item). listings rows h 0 k ++ xs)
    (sym (append_assoc passed (i ∷ ahead) rest) ∙ ap (λ (xs : List Item). xs ++ rest) e)
    ∙ sym (heap-cut rows h k (length h.segments) l)

-- so it is one of the heap's
pub listed-in : (rows : List TypeRow) (h : HeapView) (k : ℕ) → k < length h.segments → (passed : List Item) (i : Item)
    (ahead : List Item) → passed ++ i ∷ ahead ≡ listing rows h k → IsIn i (heap_items rows h)
listed-in rows h k l passed i ahead e =
    subst (IsIn i) (cut-in rows h k l passed i ahead e) (append_right (listings rows h 0 k ++ passed) first)

-- no objects were entered
pub law-none : (rows : List TypeRow) (layout : Layout) (bricks : List (CoverView ℤ))
    → ((b : ℕ) → entry_at bricks b ≡ pos 0) → BrickLaw rows layout [] (entry_at bricks)
law-none rows layout bricks unnamed = λ s l. record {
  named = λ brick offset own e. absurd (no-root brick offset e);
  starts = λ place stands inside may. elim stands.1 [ ];
  reached = λ brick own r. elim r.present [ ];
}
  where
    no-root : (brick offset : ℕ) → entry_at bricks brick ≡ root_entry offset → ⊥
    no-root brick offset e =
        let zero_is : pos 0 ≡ pos (offset + 1) = sym (unnamed brick) ∙ e in
        let none : 0 ≡ offset + 1 = cc in
        omega arith

-- ---- one item

module _ (rows : List TypeRow) (h : HeapView) (heap : IsHeap h) (held : IsHeld rows h) (i : Item)
    (listed : IsIn i (heap_items rows h)) where
  pub item-some : 0 < i.size
  item-some = let least = (standing rows h heap held i listed).least in omega arith

  pub item-fits : i.place + i.size < 2 ^ 62
  item-fits =
      let there = standing rows h heap held i listed in
      let below = there.below in
      let all = there.reserved in
      let high = all_at (λ (s : SegInfo). reserved_end s ≤ h.top)
      (in-at h.segments there.segment empty_segment there.in_range) heap.below_top in
      let top = heap.top_small in
      omega arith

  pub item-covered : (bricks now : List (CoverView ℤ)) → AreBricksOf (frame h) bricks → spans now ≡ spans bricks
      → (b : ℕ) → i.place / 4096 ≤ b → 4096 * b < i.place + i.size → is_covered now b ≡ true
  item-covered bricks now has same b low high =
      let there = standing rows h heap held i listed in
      let above = there.above in
      let below = there.below in
      brick-covered h bricks now there.segment b heap there.in_range has same
      (brick-in h there.segment b heap there.in_range (omega arith) (omega arith))

-- ---- cards

-- each card that is to be set is there
pub card-there : (h : HeapView) (k : ℕ) → IsHeap h → k < length h.segments → (cards : List (CoverView ℕ))
    → AreCardsOf (frame h) cards → (i : ℕ) → (segment_at h k).base / 2048 ≤ i
    → i < (last_of h k + 2047) / 2048 → is_covered cards i ≡ true
card-there h k heap l cards has i low high =
    let lawful = lawful_at h k heap l in
    let base = lawful.base in
    let most = lawful.high in
    let at : 2048 * i / 2048 ≡ i = omega arith in
    subst (λ (c : ℕ). is_covered cards c ≡ true) at
    (card-covered h k (2048 * i) heap l (omega arith) (omega arith) cards has)

-- a card more is set
pub card-more : (cards now : List (CoverView ℕ)) (from card : ℕ)
    → ((i : ℕ) → is_card_set now i ≡ ((eqb i (2048 * card / 2048)) || is_card_set cards i))
    → ((i : ℕ) → from ≤ i → i < card → is_card_set cards i ≡ true)
    → (i : ℕ) → from ≤ i → i < card + 1 → is_card_set now i ≡ true
card-more cards now from card told done i low high =
    let at : 2048 * card / 2048 ≡ card = omega arith in
    elim (cases_eq i card) [
      | inl same ↦ told i ∙ ap (λ (b : Bool). b || is_card_set cards i) (eq-eqb i (2048 * card / 2048) (same ∙ sym at))
      | inr other ↦ told i ∙ ap (λ (b : Bool). eqb i (2048 * card / 2048) || b) (done i low (omega arith))
          ∙ or-true (eqb i (2048 * card / 2048))
    ]

-- a card that was set is set still
pub card-still : (cards now : List (CoverView ℕ)) (at : ℕ)
    → ((i : ℕ) → is_card_set now i ≡ ((eqb i at) || is_card_set cards i))
    → (i : ℕ) → is_card_set cards i ≡ true → is_card_set now i ≡ true
card-still cards now at told i e = told i ∙ ap (λ (b : Bool). eqb i at || b) e ∙ or-true (eqb i at)

slots-count : (form : Form) (i : ℕ) (kinds : List Bool) → length (slots_from form i kinds) ≡ length kinds
slots-count form i [] = refl
slots-count form i (kind ∷ kinds) = ap suc (slots-count form (i + 1) kinds)

-- a slot stands below the end of its object
slot-below : (form : Form) (len n : ℕ) → n < length (slot_kinds form len) → slot_offset form n < size_of form len
slot-below (class_form pattern) len n l = let c = slot-count (class_form pattern) len in omega arith
slot-below references_form len n l = let c = slot-count references_form len in omega arith
slot-below bytes_form len n l = let c = slot-count bytes_form len in omega arith
slot-below (structs_form pattern) len n l = let c = slot-count (structs_form pattern) len in omega arith

-- THE CARD LAW where all cards up to the end of each segment are set
pub cards-told : (rows : List TypeRow) (h : HeapView) → IsHeap h → IsHeld rows h → (cards : List (CoverView ℕ))
    → ((k a : ℕ) → k < length h.segments → first_of h k ≤ a → a < last_of h k → is_card_set cards (a / 2048) ≡ true)
    → (a : ℕ) → NamesYounger rows (frame h) (objects_in rows h) a → is_card_set cards (a / 2048) ≡ true
cards-told rows h heap held cards set a y =
    let found = in_map (object_in rows (word_of h)) y.object (filter is_object (heap_items rows h)) y.present in
    let i : Item = found.0 in
    let passed = out_of_filter is_object i (heap_items rows h) found.1 in
    let form = form_at rows i.type_id.0 in
    let f = slot_value form (word_of h) i.place in
    let named = subst (λ (o : Object). slice_get o.slots y.slot ≡ Some (ref y.target.name)) (sym found.2) y.named in
    let within = slice_get_within (map f (slots_of form i.len)) y.slot (ref y.target.name) named in
    let count = length-map (slots_of form i.len) f ∙ slots-count form 0 (slot_kinds form i.len) in
    let below = slot-below form i.len y.slot (omega arith) in
    let address : a ≡ i.place + slot_offset form y.slot =
    subst (λ (o : Object). a ≡ o.place + slot_offset (form_at rows o.type) y.slot) (sym found.2) y.address in
    let there = standing rows h heap held i passed.1 in
    let sized = listed-sized rows h i heap held passed.1 in
    let low = there.above in
    let high = there.below in
    set there.segment a there.in_range (omega arith) (omega arith)
