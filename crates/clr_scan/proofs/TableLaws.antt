-- The laws of cards and of bricks over objects and layouts: what they say of items and words, and that they stay where
-- marks alone change.
use Rattle.std.proofs.Common.{◌≡◌, ℕ, zero, suc, ◌+◌, ◌/◌, ◌<◌, Bool, true, false, List, [], ◌∷◌}
use Rattle.std.proofs.Common.{filter, map, length, get_or, option_map, refl, ap, sym, ◌∙◌, subst}
use Rattle.std.proofs.Common.{arith, Some, slice_get}
use Rattle.std.proofs.Common.{ℤ}
use Rattle.std.proofs.lemmas.List.{get_or-map, length-map}
use Rattle.std.proofs.lemmas.Option.{slice_get-map, slice_get_within}
use Rattle.clr_types.specs.Rising.{first, IsIn, later}
use Rattle.clr_types.specs.Segments.{empty_segment, generation, Layout, reserved_end}
use Rattle.clr_types.specs.Types.{bytes_form, class_form, Form, form_at, is_bytes, references_form, slot_kinds}
use Rattle.clr_types.specs.Types.{slot_offset, slots_of, structs_form, TypeRow}
use Rattle.clr_types.specs.declared.item.Item.{Item}
use Rattle.clr_types.specs.declared.segment.SegInfo.{SegInfo}
use Rattle.clr_types.specs.declared.shape.Slot.{Slot}
use Rattle.clr_types.proofs.ChangedLists.{into_filter, IsIn-map, out_of_filter}
use Rattle.clr_types.proofs.ListMembers.{from-map}
use Rattle.clr_types.proofs.SlotKinds.{byte_kind, slot_at}
use Rattle.clr_covers.specs.Covers.{CoverView, HasAll, span_of, spans}
use Rattle.clr_covers.proofs.Spans.{HasAll-span}
use Rattle.clr_cards.specs.Cards.{is_card_set}
use Rattle.clr_bricks.specs.Bricks.{entry_at}
use Rattle.clr_heap.specs.View.{frame, heap_items, HeapView, IsHeap, segment_at, word_of}
use Rattle.clr_heap.proofs.Framing.{lawful_at}
use Rattle.clr_model.specs.Machine.{Object, ref}
use Rattle.clr_view.specs.View.{is_object, object_in, objects_in, slot_value}
use Rattle.clr_view.proofs.SlotReads.{slot-told}
use Rattle.clr_view.proofs.Standing.{high_up}
use Rattle.clr_view.proofs.StoredSlots.{value-is}
use Rattle.clr_mark.specs.Marks.{IsClosed, IsRemarked}
use Rattle.clr_mark.proofs.References.{value_ref}
use Rattle.clr_mark.proofs.Remarking.{keeps_objects, same_frame}
use Rattle.clr_generations.specs.Laws.{BrickLaw, CardLaw, NamesYounger}
use Rattle.clr_generations.specs.Tables.{AreBricksOf, AreCardsOf, AreTablesOf, units_of}
use Rattle.clr_scan.specs.Entries.{EntriesStand, HaveBricks}
use Rattle.clr_scan.specs.References.{IsReferenceOf, RefersDown}
use Rattle.clr_scan.specs.SetCards.{CardsTell, HaveCards}
use Rattle.clr_scan.proofs.CardScans.{ref_stands}
use Rattle.clr_scan.proofs.SlotScans.{slot_number, slot_reference}

-- ---- the covers of segments

-- each segment has all units of what it reserves
covers_have : {X : Type 0} (unit : ℕ) (cs : List (CoverView X)) (segments : List SegInfo)
    → spans cs ≡ map (units_of unit) segments → (k : ℕ) → k < length segments
    → HasAll cs ((get_or segments k empty_segment).base / unit)
    ((get_or segments k empty_segment).base / unit + (get_or segments k empty_segment).reserved / unit)
covers_have unit cs segments same k l =
    let count : length cs ≡ length segments =
    sym (length-map cs span_of) ∙ ap length same ∙ length-map segments (units_of unit) in
    let at : get_or (spans cs) k (0, 0) ≡ units_of unit (get_or segments k empty_segment) =
    ap (λ (ss : List (ℕ × ℕ)). get_or ss k (0, 0)) same
    ∙ get_or-map (units_of unit) segments k empty_segment (0, 0) l in
    subst (λ (s : ℕ × ℕ). HasAll cs s.0 (s.0 + s.1)) at (HasAll-span cs k (omega (arith, count, l)))

pub cards_have : (h : HeapView) (cards : List (CoverView ℕ)) → IsHeap h → AreCardsOf (frame h) cards
    → HaveCards h cards
cards_have h cards heap same k l =
    let s = lawful_at h k heap l in
    let base = s.base in
    let reserved = s.reserved in
    let end : (segment_at h k).base / 2048 + (segment_at h k).reserved / 2048 ≡ reserved_end (segment_at h k) / 2048 =
    omega (arith, base, reserved) in
    subst (λ n. HasAll cards ((segment_at h k).base / 2048) n) end (covers_have 2048 cards h.segments same k l)

pub bricks_have : (h : HeapView) (bricks : List (CoverView ℤ)) → IsHeap h → AreBricksOf (frame h) bricks
    → HaveBricks h bricks
bricks_have h bricks heap same k l =
    let s = lawful_at h k heap l in
    let base = s.base in
    let reserved = s.reserved in
    let end : (segment_at h k).base / 4096 + (segment_at h k).reserved / 4096 ≡ reserved_end (segment_at h k) / 4096 =
    omega (arith, base, reserved) in
    subst (λ n. HasAll bricks ((segment_at h k).base / 4096) n) end (covers_have 4096 bricks h.segments same k l)

-- ---- bricks

-- a segment by its number is one of the list
segment_in : (segments : List SegInfo) (k : ℕ) → k < length segments
    → IsIn (get_or segments k empty_segment) segments
segment_in [] k l = absurd (omega arith)
segment_in (s ∷ segments) zero l = first
segment_in (s ∷ segments) (suc k) l = later (segment_in segments k (omega arith))

-- by the law of the bricks, what an entry names is an object
pub entries_stand : (rows : List TypeRow) (h : HeapView) (entry : ℕ → ℤ)
    → BrickLaw rows (frame h) (objects_in rows h) entry → EntriesStand rows h entry
entries_stand rows h entry law k brick offset l own root =
    ((law (segment_at h k) (segment_in h.segments k l)).named brick offset own root).stands

-- ---- cards

-- what a changed list has at a number was made of what the list has there
got_from : {X Y : Type 0} (f : X → Y) (xs : List X) (n : ℕ) (y : Y) → slice_get (map f xs) n ≡ Some y
    → (x : X) × (slice_get xs n ≡ Some x) × (f x ≡ y)
got_from f [] n y e = absurd cc
got_from f (x ∷ xs) zero y e = (x, refl, cc)
got_from f (x ∷ xs) (suc n) y e = got_from f xs n y e

-- a slot that is a reference is none of an array of bytes
reference_words : (form : Form) (len n : ℕ) → slice_get (slot_kinds form len) n ≡ Some true → is_bytes form ≡ false
reference_words (class_form pattern) len n e = refl
reference_words references_form len n e = refl
reference_words bytes_form len n e =
    let below = slice_get_within (slot_kinds bytes_form len) n true e in
    let off : Some true ≡ Some false = sym e ∙ byte_kind bytes_form len n refl below in
    absurd cc
reference_words (structs_form pattern) len n e = refl

module _ (rows : List TypeRow) (h : HeapView) (closed : IsClosed rows h) where
  -- an object has its place as its name
  name_is : (o : Object) → IsIn o (objects_in rows h) → o.name ≡ o.place
  name_is o l =
      let found = from-map (object_in rows (word_of h)) o (filter is_object (heap_items rows h)) l in
      ap (λ (o : Object). o.name) found.1 ∙ sym (ap (λ (o : Object). o.place) found.1)

  -- and it isn't 0
  place_high : (o : Object) → IsIn o (objects_in rows h) → 0 < o.place
  place_high o l =
      let found = from-map (object_in rows (word_of h)) o (filter is_object (heap_items rows h)) l in
      let passed = out_of_filter is_object found.0 (heap_items rows h) found.2 in
      let up = high_up rows h closed.heap closed.held found.0 passed.1 in
      let place = ap (λ (o : Object). o.place) found.1 in
      omega (arith, up, place)

  -- a reference to an object of a lower generation is a slot that names one
  names_younger : (a : ℕ) → RefersDown rows h a → NamesYounger rows (frame h) (objects_in rows h) a
  names_younger a r =
      let i = r.item in
      let form = form_at rows i.type_id.0 in
      let f = slot_value form (word_of h) i.place in
      let number = slot_number form i.len r.reference.offset r.reference.reference in
      let n = number.0 in
      let slot : Slot = record { offset = slot_offset form n; reference = true } in
      let stands = ref_stands rows h closed i r.listed a r.reference r.not_null in
      let address : a ≡ i.place + slot_offset form n =
      r.reference.address ∙ ap (λ p. i.place + p) number.1.offset_is in
      let words = reference_words form i.len n number.1.kind in
      let word : word_of h (i.place + slot_offset form n) ≡ stands.0.name =
      ap (word_of h) (sym address) ∙ sym stands.2 ∙ sym (name_is stands.0 stands.1) in
      let value = value-is form (word_of h) true (i.place + slot_offset form n) words ∙ ap ref word in
      record {
        object = object_in rows (word_of h) i;
        present = IsIn-map (object_in rows (word_of h))
            (into_filter is_object (heap_items rows h) r.reference.object r.listed);
        slot = n;
        target = stands.0;
        target_present = stands.1;
        named = slice_get-map f (slots_of form i.len) n
            ∙ ap (option_map f) (slot_at form i.len n slot refl number.1.kind) ∙ ap Some value;
        address = address;
        younger = subst (λ p. generation (frame h) p < generation (frame h) i.place) (sym stands.2) r.younger;
      }

  -- and the other way round
  refers_down : (a : ℕ) → NamesYounger rows (frame h) (objects_in rows h) a → RefersDown rows h a
  refers_down a n =
      let found = from-map (object_in rows (word_of h)) n.object (filter is_object (heap_items rows h)) n.present in
      let i : Item = found.0 in
      let passed = out_of_filter is_object i (heap_items rows h) found.2 in
      let form = form_at rows i.type_id.0 in
      let named = subst (λ (o : Object). slice_get o.slots n.slot ≡ Some (ref n.target.name)) found.1 n.named in
      let got = got_from (slot_value form (word_of h) i.place) (slots_of form i.len) n.slot (ref n.target.name) named in
      let slot : Slot = got.0 in
      let value = value_ref form (word_of h) slot.reference (i.place + slot.offset) n.target.name got.2 in
      let told = slot-told form i.len n.slot slot got.1 in
      let address : a ≡ i.place + slot.offset =
      subst (λ (o : Object). a ≡ o.place + slot_offset (form_at rows o.type) n.slot) found.1 n.address
      ∙ ap (λ p. i.place + p) (sym told.1) in
      let word : word_of h a ≡ n.target.place =
      ap (word_of h) address ∙ value.1 ∙ name_is n.target n.target_present in
      let high = place_high n.target n.target_present in
      let less = subst (λ (o : Object). generation (frame h) n.target.place < generation (frame h) o.place) found.1
      n.younger in
      record {
        item = i;
        listed = passed.1;
        reference = subst (IsReferenceOf rows i) (sym address)
            (slot_reference rows i n.slot slot passed.0 got.1 value.0);
        not_null = λ e. omega (arith, word, high, e);
        younger = subst (λ p. generation (frame h) p < generation (frame h) i.place) (sym word) less;
      }

  pub cards_tell : (is_set : ℕ → Bool) → CardLaw rows (frame h) (objects_in rows h) is_set → CardsTell rows h is_set
  cards_tell is_set law a r = law a (names_younger a r)

  pub cards_law : (is_set : ℕ → Bool) → CardsTell rows h is_set → CardLaw rows (frame h) (objects_in rows h) is_set
  cards_law is_set told a n = told a (refers_down a n)

  -- THE TABLES STAY LAWFUL where marks alone change, and cards that tell of no object of a lower generation are cleared
  pub tables_on : (now : HeapView) (cards after : List (CoverView ℕ)) (bricks : List (CoverView ℤ))
      → IsRemarked rows h now → AreTablesOf rows h cards bricks → CardsTell rows h (is_card_set after)
      → spans after ≡ spans cards → AreTablesOf rows now after bricks
  tables_on now cards after bricks r tables told same =
      let layout = sym (same_frame h now r.shape) in
      let objects = sym (keeps_objects rows h now closed.heap closed.held r) in
      record {
        cards = subst (λ (l : Layout). AreCardsOf l after) layout (same ∙ tables.cards);
        bricks = subst (λ (l : Layout). AreBricksOf l bricks) layout tables.bricks;
        card_law = subst (λ (l : Layout). CardLaw rows l (objects_in rows now) (is_card_set after)) layout
            (subst (λ (os : List Object). CardLaw rows (frame h) os (is_card_set after)) objects
            (cards_law (is_card_set after) told));
        brick_law = subst (λ (l : Layout). BrickLaw rows l (objects_in rows now) (entry_at bricks)) layout
            (subst (λ (os : List Object). BrickLaw rows (frame h) os (entry_at bricks)) objects tables.brick_law);
      }

  -- so they do where marks alone change
  pub tables_remarked : (now : HeapView) (cards : List (CoverView ℕ)) (bricks : List (CoverView ℤ))
      → IsRemarked rows h now → AreTablesOf rows h cards bricks → AreTablesOf rows now cards bricks
  tables_remarked now cards bricks r tables =
      tables_on now cards cards bricks r tables (cards_tell (is_card_set cards) tables.card_law) refl
