-- Objects once all their references have been forwarded, and the cards of those that name younger objects.
use Rattle.std.proofs.Common.{◌≡◌, inl, inr, ℕ, zero, suc, ◌+◌, ◌/◌, ◌<◌, Bool, true, false, List, []}
use Rattle.std.proofs.Common.{◌∷◌, filter, map, length, refl, ap, sym, ◌∙◌, subst, arith, Some}
use Rattle.std.specs.Prelude.{slice_get}
use Rattle.std.proofs.lemmas.Bool.{both_ways, cases_Bool, cases_eq}
use Rattle.clr_types.specs.Rising.{first, IsIn, later}
use Rattle.clr_types.specs.Segments.{ephemeral, stands_in}
use Rattle.clr_types.specs.Types.{bytes_form, class_form, Form, form_at, is_bytes, references_form, slot_kinds}
use Rattle.clr_types.specs.Types.{slot_offset, slots_of, structs_form, TypeRow}
use Rattle.clr_types.specs.declared.item.Item.{Item}
use Rattle.clr_types.specs.declared.shape.Slot.{Slot}
use Rattle.clr_types.proofs.ChangedLists.{into_filter, IsIn-map, out_of_filter}
use Rattle.clr_types.proofs.ListMembers.{from-map, map-map, map-on}
use Rattle.clr_cards.specs.Cards.{is_card_set}
use Rattle.clr_covers.specs.Covers.{CoverView}
use Rattle.clr_generations.specs.Laws.{CardLaw}
use Rattle.clr_generations.proofs.BarrierLaw.{generation-most, named-by-place, younger-ephemeral}
use Rattle.clr_heap.specs.View.{frame, heap_items, HeapView, IsHeap, word_of}
use Rattle.clr_mark.specs.Markings.{item_references}
use Rattle.clr_mark.proofs.References.{value_ref}
use Rattle.clr_model.specs.Machine.{Object, ref}
use Rattle.clr_model.specs.Picture.{renamed_value}
use Rattle.clr_view.specs.View.{has_suppressed_bit, IsHeld, is_object, object_in, objects_among, objects_in}
use Rattle.clr_view.specs.View.{slot_value, value_at}
use Rattle.clr_view.proofs.Items.{IsItem}
use Rattle.clr_view.proofs.Listed.{listed-item}
use Rattle.clr_view.proofs.ObjectItems.{in_map}
use Rattle.clr_view.proofs.SlotReads.{byte-is-number, slot-told}
use Rattle.clr_view.proofs.Slots.{same-value, slot-inside, slot_word}
use Rattle.clr_view.proofs.Standing.{InCell}
use Rattle.clr_view.proofs.StoredSlots.{kind-there, offset-apart, slot-word-is, value-is}
use Rattle.clr_evacuate.specs.Forwarding.{forwarded_object, IsForwarded, IsOffsetOf, IsReferenceAt, LeadsBy}
use Rattle.clr_evacuate.proofs.Cells.{in_get, own_reference}
use Rattle.clr_evacuate.proofs.Stages.{forwarded_heap, heads_stay}

-- ---- slots

-- a slot by its number
record IsSlotNumber (form : Form) (len : ℕ) (s : Slot) : Type 0 where
  number : ℕ
  is : slice_get (slots_of form len) number ≡ Some s
  kind : slice_get (slot_kinds form len) number ≡ Some s.reference
  offset : s.offset ≡ slot_offset form number
  below : number < length (slot_kinds form len)

numbered : (form : Form) (len : ℕ) (s : Slot) → IsIn s (slots_of form len) → IsSlotNumber form len s
numbered form len s i =
    let (j, e) = in_get (slots_of form len) s i in
    let (kind, offset) = slot-told form len j s e in
    record {
      number = j;
      is = e;
      kind = kind;
      offset = offset;
      below = kind-there (slot_kinds form len) j s.reference kind;
    }

-- a reference is a whole word
reference_words : (form : Form) (len : ℕ) (s : Slot) → IsIn s (slots_of form len) → s.reference ≡ true
    → is_bytes form ≡ false
reference_words form len s i on = elim (cases_Bool (is_bytes form)) [
  | inr off ↦ off
  | inl bytes ↦
      let n = numbered form len s i in
      absurd (both_ways s.reference (byte-is-number form len n.number s bytes n.is) on)
]

number_stays : (form : Form) (word : ℕ → ℕ) (go : ℕ → ℕ) (a : ℕ)
    → renamed_value go (value_at form word false a) ≡ value_at form word false a
number_stays (class_form pattern) word go a = refl
number_stays references_form word go a = refl
number_stays bytes_form word go a = refl
number_stays (structs_form pattern) word go a = refl

-- slots whose references are forwarded, and whose numbers stay
slots_forwarded : (form : Form) (old new : ℕ → ℕ) (go : ℕ → ℕ) (place : ℕ) (slots : List Slot)
    → ((s : Slot) → IsIn s slots → s.reference ≡ true
    → (is_bytes form ≡ false) × (new (place + s.offset) ≡ go (old (place + s.offset))))
    → ((s : Slot) → IsIn s slots → s.reference ≡ false
    → new (slot_word form (place + s.offset)) ≡ old (slot_word form (place + s.offset)))
    → map (slot_value form new place) slots ≡ map (renamed_value go) (map (slot_value form old place) slots)
slots_forwarded form old new go place [] refs nums = refl
slots_forwarded form old new go place (s ∷ slots) refs nums =
    let here = by_kind s.reference refl in
    let rest = slots_forwarded form old new go place slots (λ t i. refs t (later i)) (λ t i. nums t (later i)) in
    λ k. here k ∷ rest k
  where
    a : ℕ
    a = place + s.offset

    by_kind : (b : Bool) → s.reference ≡ b → slot_value form new place s
        ≡ renamed_value go (slot_value form old place s)
    by_kind true e =
        let (words, same) = refs s first e in
        ap (λ t. value_at form new t a) e ∙ value-is form new true a words ∙ ap ref same
        ∙ ap (renamed_value go) (sym (ap (λ t. value_at form old t a) e ∙ value-is form old true a words))
    by_kind false e =
        ap (λ t. value_at form new t a) e ∙ same-value form old new false a (nums s first e)
        ∙ sym (number_stays form old go a) ∙ ap (λ t. renamed_value go (value_at form old t a)) (sym e)

-- ---- the heap

module _ (rows : List TypeRow) (old new : HeapView) (before after : List (CoverView ℕ)) (Here : ℕ → Type 0)
    (heap : IsHeap old) (held : IsHeld rows old) (f : IsForwarded rows old new before after Here)
    (all : (a : ℕ) → IsReferenceAt rows (heap_items rows old) a → Here a) where
  -- a number isn't where a reference is
  number_word : (i : Item) (s : Slot) → IsIn i (heap_items rows old)
      → IsIn s (slots_of (form_at rows i.type_id.0) i.len) → s.reference ≡ false
      → word_of new (slot_word (form_at rows i.type_id.0) (i.place + s.offset))
      ≡ word_of old (slot_word (form_at rows i.type_id.0) (i.place + s.offset))
  number_word i s listed m e =
      let q = numbered form i.len s m in
      let is_i : IsItem rows i.place (i.place + i.size) i = listed-item rows old i heap held listed in
      let z = is_i.aligned in
      let sized = is_i.sized in
      let word = slot-inside form i.len i.place q.number z q.below in
      let b = slot_word form (i.place + slot_offset form q.number) in
      let above = word.above in
      let below = word.below in
      let in_cell : InCell i b =
      record { aligned = word.aligned; low = omega arith; high = omega arith } in
      let stays : word_of new b ≡ word_of old b = elim (f.words b word.aligned) [
        | inl same ↦ same
        | inr here ↦
            let r = here.0 in
            let same = own_reference rows old heap held i b listed in_cell r in
            absurd (clash q (subst (λ (x : Item). IsOffsetOf x.place (item_references rows x) b) same r.reference))
      ] in
      subst (λ n. word_of new (slot_word form (i.place + n)) ≡ word_of old (slot_word form (i.place + n)))
      (sym q.offset) stays
    where
      form : Form
      form = form_at rows i.type_id.0

      clash : (q : IsSlotNumber form i.len s)
          → IsOffsetOf i.place (item_references rows i) (slot_word form (i.place + slot_offset form q.number)) → ⊥
      clash q r =
          let (v, at, m2) = from-map (λ (s : Slot). s.offset) r.offset
          (filter (λ (s : Slot). s.reference) (slots_of form i.len)) r.listed in
          let (on_v, m3) = out_of_filter (λ (s : Slot). s.reference) v (slots_of form i.len) m2 in
          let words = reference_words form i.len v m3 on_v in
          let w = numbered form i.len v m3 in
          let here : i.place + r.offset ≡ i.place + slot_offset form q.number =
          sym r.address ∙ slot-word-is form (i.place + slot_offset form q.number) words in
          let offsets : slot_offset form w.number ≡ slot_offset form q.number =
          sym w.offset ∙ sym at ∙ omega arith in
          elim (cases_eq w.number q.number) [
            | inr differ ↦ offset-apart form w.number q.number words differ offsets
            | inl same ↦
                let kinds : Some v.reference ≡ Some s.reference =
                sym w.kind ∙ ap (slice_get (slot_kinds form i.len)) same ∙ q.kind in
                let equal : v.reference ≡ s.reference = cc in
                both_ways s.reference e (sym equal ∙ on_v)
          ]

  -- a slot that is a reference stands at an address of one
  slot_reference : (i : Item) (s : Slot) → IsIn i (heap_items rows old) → is_object i ≡ true
      → IsIn s (slots_of (form_at rows i.type_id.0) i.len) → s.reference ≡ true
      → IsReferenceAt rows (heap_items rows old) (i.place + s.offset)
  slot_reference i s listed object m on = record {
    item = i;
    listed = listed;
    object = object;
    reference = record {
      offset = s.offset;
      listed = IsIn-map (λ (s : Slot). s.offset)
          (into_filter (λ (s : Slot). s.reference) (slots_of (form_at rows i.type_id.0) i.len) on m);
      address = refl;
    };
  }

  object_gone : (go : ℕ → ℕ) → LeadsBy rows old go → (i : Item) → IsIn i (filter is_object (heap_items rows old))
      → object_in rows (word_of new) i ≡ forwarded_object go (object_in rows (word_of old) i)
  object_gone go leads i n =
      let (object, listed) = out_of_filter is_object i (heap_items rows old) n in
      let form = form_at rows i.type_id.0 in
      let header = (heads_stay rows old new before after Here heap held f i listed).0 in
      let slots = slots_forwarded form (word_of old) (word_of new) go i.place (slots_of form i.len)
      (λ s m on.
      let r = slot_reference i s listed object m on in
      (reference_words form i.len s m on, f.gone go leads (i.place + s.offset) r (all (i.place + s.offset) r)))
      (λ s m off. number_word i s listed m off) in
      λ k. record (object_in rows (word_of old) i) { slots = slots k; suppressed = has_suppressed_bit (header k) }

  -- ALL OBJECTS are forwarded
  pub objects_gone : (go : ℕ → ℕ) → LeadsBy rows old go
      → objects_in rows new ≡ map (forwarded_object go) (objects_in rows old)
  objects_gone go leads =
      ap (objects_among rows (word_of new)) f.items
      ∙ map-on (object_in rows (word_of new)) (λ i. forwarded_object go (object_in rows (word_of old) i))
      (filter is_object (heap_items rows old)) (object_gone go leads)
      ∙ sym (map-map (object_in rows (word_of old)) (forwarded_object go) (filter is_object (heap_items rows old)))

  -- a word that names a place of the ephemeral segment did so by the old bounds
  young_before : (w place : ℕ) → w ≡ place → stands_in (ephemeral (frame new)) place ≡ true
      → stands_in (ephemeral (frame old)) w ≡ true
  young_before w place named young =
      ap (λ (g : HeapView). stands_in (ephemeral (frame g)) w) (sym f.shape.others)
      ∙ ap (stands_in (ephemeral (frame new))) named ∙ young

  -- where a slot of an item's object stands
  slot_address_is : (i : Item) (o : Object) (offset slot a : ℕ) → object_in rows (word_of new) i ≡ o
      → a ≡ o.place + slot_offset (form_at rows o.type) slot → offset ≡ slot_offset (form_at rows i.type_id.0) slot
      → a ≡ i.place + offset
  slot_address_is i o offset slot a is at told =
      at ∙ sym (ap (λ (p : Object). p.place + slot_offset (form_at rows p.type) slot) is)
      ∙ ap (λ (n : ℕ). i.place + n) (sym told)

  -- THE CARD LAW, of whatever cards were set before
  pub cards_told : CardLaw rows (frame new) (objects_in rows new) (is_card_set after)
  cards_told a y =
      let heap_new = forwarded_heap rows old new before after Here heap held f in
      let (i, passed, is) =
      in_map (object_in rows (word_of new)) y.object (filter is_object (heap_items rows new)) y.present in
      let (object, listed) = out_of_filter is_object i (heap_items rows new) passed in
      let was : IsIn i (heap_items rows old) = subst (λ (is : List Item). IsIn i is) f.items listed in
      let form = form_at rows i.type_id.0 in
      let got : slice_get (map (slot_value form (word_of new) i.place) (slots_of form i.len)) y.slot
      ≡ Some (ref y.target.name) = ap (λ (o : Object). slice_get o.slots y.slot) is ∙ y.named in
      let (s, at, value) = slot_got (slot_value form (word_of new) i.place) (slots_of form i.len) y.slot
      (ref y.target.name) got in
      let (on, word) = value_ref form (word_of new) s.reference (i.place + s.offset) y.target.name value in
      let m = got_in (slots_of form i.len) y.slot s at in
      let offset = (slot-told form i.len y.slot s at).1 in
      let address = slot_address_is i y.object s.offset y.slot a is y.address offset in
      let r = slot_reference i s was object m on in
      let most = generation-most (frame new) y.object.place in
      let younger = y.younger in
      let young : stands_in (ephemeral (frame new)) y.target.place ≡ true =
      younger-ephemeral (frame new) y.target.place (omega (arith, most, younger)) in
      let named : word_of new (i.place + s.offset) ≡ y.target.place =
      word ∙ named-by-place rows new heap_new f.held y.target y.target_present in
      let young_word : stands_in (ephemeral (frame old)) (word_of new (i.place + s.offset)) ≡ true =
      young_before (word_of new (i.place + s.offset)) y.target.place named young in
      ap (λ (n : ℕ). is_card_set after (n / 2048)) address
      ∙ f.carded (i.place + s.offset) r (all (i.place + s.offset) r) young_word
    where
      slot_got : {X Y : Type 0} (g : X → Y) (xs : List X) (j : ℕ) (y : Y) → slice_get (map g xs) j ≡ Some y
          → (x : X) × (slice_get xs j ≡ Some x) × (g x ≡ y)
      slot_got g [] j y e = absurd cc
      slot_got g (x ∷ xs) zero y e = let same : g x ≡ y = cc in (x, refl, same)
      slot_got g (x ∷ xs) (suc j) y e = slot_got g xs j y e

      got_in : {X : Type 0} (xs : List X) (j : ℕ) (x : X) → slice_get xs j ≡ Some x → IsIn x xs
      got_in [] j x e = absurd cc
      got_in (z ∷ xs) zero x e = let same : z ≡ x = cc in subst (λ w. IsIn w (z ∷ xs)) same first
      got_in (z ∷ xs) (suc j) x e = later (got_in xs j x e)
