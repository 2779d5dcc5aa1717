-- What relocation makes of the objects of a heap, once all references of what is left have gone.
use Rattle.std.proofs.Common.{◌≡◌, inl, inr, ℕ, zero, suc, ◌+◌, ◌-◌, ◌%◌, ◌<◌, Bool, true, false}
use Rattle.std.proofs.Common.{◌&&◌}
use Rattle.std.proofs.Common.{List, [], ◌∷◌, filter, map, length, refl, ap, ap₂, sym, ◌∙◌, subst, arith}
use Rattle.std.proofs.Common.{if◌then◌else◌, ◌==◌, Some}
use Rattle.std.specs.Prelude.{slice_get}
use Rattle.std.proofs.lemmas.Bool.{and_parts, both_ways, cases_Bool, cases_eq, cases_lt, eq-eqb, eqb-true}
use Rattle.clr_types.specs.Rising.{first, IsIn, later}
use Rattle.clr_types.specs.Types.{bytes_form, class_form, Form, form_at, is_bytes, references_form}
use Rattle.clr_types.specs.Types.{slot_kinds}
use Rattle.clr_types.specs.Types.{slot_offset, slots_of, structs_form, TypeRow}
use Rattle.clr_types.specs.declared.item.Item.{Item}
use Rattle.clr_types.specs.declared.shape.Slot.{Slot}
use Rattle.clr_types.proofs.ChangedLists.{append_left, into_filter, IsIn-map, out_of_filter}
use Rattle.clr_types.proofs.ListMembers.{any-from, any-in, append_right, from-map, in_append, map-map, map-on}
use Rattle.clr_heap.specs.View.{heap_items, HeapView, IsHeap, listing, no_rests, word_of}
use Rattle.clr_model.specs.Compaction.{Move, moved_by}
use Rattle.clr_model.specs.Machine.{ref}
use Rattle.clr_view.specs.View.{has_suppressed_bit, IsHeld, is_object, object_in, objects_among, objects_in}
use Rattle.clr_view.specs.View.{slot_value, value_at}
use Rattle.clr_view.proofs.Items.{IsItem, object-stays}
use Rattle.clr_view.proofs.Listed.{listed-item}
use Rattle.clr_view.proofs.SlotReads.{byte-is-number, slot-told}
use Rattle.clr_view.proofs.Slots.{same-value, slot-inside, slot_word}
use Rattle.clr_view.proofs.Standing.{listed_from, standing}
use Rattle.clr_view.proofs.StoredSlots.{kind-there, offset-apart, slot-word-is, value-is}
use Rattle.clr_moves.specs.Objects.{is_left_by, relocated_object, relocated_value}
use Rattle.clr_moves.specs.declared.condemned.Condemned.{Condemned}
use Rattle.clr_reloc.specs.References.{is_reference_at, keeps, leads_to, limit_of, references_of, relocated}
use Rattle.clr_reloc.specs.References.{staying_items}
use Rattle.clr_reloc.specs.Relocated.{HasRelocated}
use Rattle.clr_reloc.specs.Relocating.{is_left_at, IsLeftItem, IsLeftReference, IsUnderway}
use Rattle.clr_reloc.proofs.LeftPlaces.{left_by}
use Rattle.clr_reloc.proofs.Heads.{head_left, items_same, own_reference, word_left}
use Rattle.clr_reloc.proofs.Seen.{held_now, layout_now}

-- ---- slots

in_get : {X : Type 0} (xs : List X) (x : X) → IsIn x xs → (j : ℕ) × (slice_get xs j ≡ Some x)
in_get [] x i = elim i [ ]
in_get (y ∷ xs) x first = (0, refl)
in_get (y ∷ xs) x (later i) = let (j, e) = in_get xs x i in (suc j, e)

-- a slot by its number
record IsSlotNumber (form : Form) (len : ℕ) (s : Slot) : Type 0 where
  number : ℕ
  is : slice_get (slots_of form len) number ≡ Some s
  kind : slice_get (slot_kinds form len) number ≡ Some s.reference
  offset : s.offset ≡ slot_offset form number
  below : number < length (slot_kinds form len)

numbered : (form : Form) (len : ℕ) (s : Slot) → IsIn s (slots_of form len) → IsSlotNumber form len s
numbered form len s i =
    let (j, e) = in_get (slots_of form len) s i in
    let (kind, offset) = slot-told form len j s e in
    record {
      number = j;
      is = e;
      kind = kind;
      offset = offset;
      below = kind-there (slot_kinds form len) j s.reference kind;
    }

-- a reference is a whole word
reference_words : (form : Form) (len : ℕ) (s : Slot) → IsIn s (slots_of form len) → s.reference ≡ true
    → is_bytes form ≡ false
reference_words form len s i on = elim (cases_Bool (is_bytes form)) [
  | inr off ↦ off
  | inl bytes ↦
      let n = numbered form len s i in
      absurd (both_ways s.reference (byte-is-number form len n.number s bytes n.is) on)
]

number_stays : (form : Form) (word : ℕ → ℕ) (moves : List Move) (a : ℕ)
    → relocated_value moves (value_at form word false a) ≡ value_at form word false a
number_stays (class_form pattern) word moves a = refl
number_stays references_form word moves a = refl
number_stays bytes_form word moves a = refl
number_stays (structs_form pattern) word moves a = refl

-- slots whose references are relocated, and whose numbers stay
slots_relocated : (form : Form) (old new : ℕ → ℕ) (moves : List Move) (place : ℕ) (slots : List Slot)
    → ((s : Slot) → IsIn s slots → s.reference ≡ true
    → (is_bytes form ≡ false) × (new (place + s.offset) ≡ moved_by moves (old (place + s.offset))))
    → ((s : Slot) → IsIn s slots → s.reference ≡ false
    → new (slot_word form (place + s.offset)) ≡ old (slot_word form (place + s.offset)))
    → map (slot_value form new place) slots ≡ map (relocated_value moves) (map (slot_value form old place) slots)
slots_relocated form old new moves place [] refs nums = refl
slots_relocated form old new moves place (s ∷ slots) refs nums =
    let here = go s.reference refl in
    let rest = slots_relocated form old new moves place slots (λ t i. refs t (later i)) (λ t i. nums t (later i)) in
    λ k. here k ∷ rest k
  where
    a : ℕ
    a = place + s.offset

    go : (b : Bool) → s.reference ≡ b → slot_value form new place s
        ≡ relocated_value moves (slot_value form old place s)
    go true e =
        let (words, same) = refs s first e in
        ap (λ t. value_at form new t a) e ∙ value-is form new true a words ∙ ap ref same
        ∙ ap (relocated_value moves) (sym (ap (λ t. value_at form old t a) e ∙ value-is form old true a words))
    go false e =
        ap (λ t. value_at form new t a) e ∙ same-value form old new false a (nums s first e)
        ∙ sym (number_stays form old moves a) ∙ ap (λ t. relocated_value moves (value_at form old t a)) (sym e)

-- ---- the items that are left

module _ (rows : List TypeRow) (h : HeapView) (g : Condemned) where
  abbrev kept_of : ℕ → List Item
  kept_of t = filter (keeps (word_of h) (limit_of h g t)) (listing rows h t)

  staying-in : (n : ℕ) (i : Item) → IsIn i (staying_items rows h g n) → (t : ℕ) × (t < n) × IsIn i (kept_of t)
  staying-in zero i m = elim m [ ]
  staying-in (suc n) i m = elim (in_append (staying_items rows h g n) m) [
    | inl before ↦ let (t, l, here) = staying-in n i before in (t, omega arith, here)
    | inr here ↦ (n, omega arith, here)
  ]

  staying-from : (n t : ℕ) (i : Item) → t < n → IsIn i (kept_of t) → IsIn i (staying_items rows h g n)
  staying-from zero t i l m = absurd (omega arith)
  staying-from (suc n) t i l m = elim (cases_lt t n) [
    | inl less ↦ append_left (kept_of n) (staying-from n t i less m)
    | inr last ↦
        let e : t ≡ n = omega arith in
        append_right (staying_items rows h g n) (subst (λ k. IsIn i (kept_of k)) e m)
  ]

module _ (rows : List TypeRow) (view now : HeapView) (g : Condemned) (vs : List Move) (heap : IsHeap view)
    (held : IsHeld rows view) (none : view.rests ≡ no_rests) (u : IsUnderway rows view now g vs)
    (told : (i : Item) (t : ℕ) → t < length view.segments → IsIn i (listing rows view t)
    → keeps (word_of view) (limit_of view g t) i ≡ (is_object i && is_left_at view g i.place))
    (all_done : (b : ℕ) → IsLeftReference rows view g b → word_of now b ≡ moved_by vs (word_of view b)) where
  abbrev all : List Item
  all = staying_items rows view g (length view.segments)

  refers : (b : ℕ) → is_reference_at rows all b ≡ true → IsLeftReference rows view g b
  refers b on =
      let (i, m, at) = any-in (λ (i : Item). leads_to i.place (references_of rows i) b) all on in
      let (offset, n, here) = any-in (λ offset. (i.place + offset) == b) (references_of rows i) at in
      let (t, l, k) = staying-in rows view g (length view.segments) i m in
      let (keep, listed) = out_of_filter (keeps (word_of view) (limit_of view g t)) i (listing rows view t) k in
      let p = and_parts (is_object i) (is_left_at view g i.place) (sym (told i t l listed) ∙ keep) in
      record {
        item = i;
        left = record { listed = listed_from rows view t i l listed; object = p.0; left = p.1 };
        offset = offset;
        reference = n;
        address = sym (eqb-true (i.place + offset) b here);
      }

  referred : (b : ℕ) → IsLeftReference rows view g b → is_reference_at rows all b ≡ true
  referred b r =
      let i = r.item in
      let s = standing rows view heap held i r.left.listed in
      let keep : keeps (word_of view) (limit_of view g s.segment) i ≡ true =
      told i s.segment s.in_range s.listed ∙ ap₂ (λ x y. x && y) r.left.object r.left.left in
      any-from (λ (i : Item). leads_to i.place (references_of rows i) b) all i
      (staying-from rows view g (length view.segments) s.segment i s.in_range
      (into_filter (keeps (word_of view) (limit_of view g s.segment)) (listing rows view s.segment) keep s.listed))
      (any-from (λ offset. (i.place + offset) == b) (references_of rows i) r.offset r.reference
      (eq-eqb (i.place + r.offset) b (sym r.address)))

  words_are : (b : ℕ) → b % 8 ≡ 0 → word_of now b ≡ relocated rows vs all b (word_of view b)
  words_are b z = elim (cases_Bool (is_reference_at rows all b)) [
    | inl on ↦ all_done b (refers b on) ∙ sym (ap (λ t. if t then moved_by vs (word_of view b) else word_of view b) on)
    | inr off ↦
        word_left rows view now g vs heap held u b z (λ r. both_ways (is_reference_at rows all b) off (referred b r))
        ∙ sym (ap (λ t. if t then moved_by vs (word_of view b) else word_of view b) off)
  ]

  -- an object that is left
  left_object : (i : Item) → IsLeftItem rows view g i
      → object_in rows (word_of now) i ≡ relocated_object vs (object_in rows (word_of view) i)
  left_object i left =
      let s = standing rows view heap held i left.listed in
      let z = s.aligned in
      let up = s.above in
      let header = head_left rows view now g vs heap held u i left.listed (i.place - 8) (omega arith) (omega arith)
      (omega arith) in
      let slots = slots_relocated form (word_of view) (word_of now) vs i.place (slots_of form i.len) refs nums in
      λ k. record (object_in rows (word_of view) i) { slots = slots k; suppressed = has_suppressed_bit (header k) }
    where
      form : Form
      form = form_at rows i.type_id.0

      is_i : IsItem rows i.place (i.place + i.size) i
      is_i = listed-item rows view i heap held left.listed

      refs : (s : Slot) → IsIn s (slots_of form i.len) → s.reference ≡ true
          → (is_bytes form ≡ false) × (word_of now (i.place + s.offset)
          ≡ moved_by vs (word_of view (i.place + s.offset)))
      refs s m e = (
        reference_words form i.len s m e,
        all_done (i.place + s.offset) (record {
          item = i;
          left = left;
          offset = s.offset;
          reference = IsIn-map (λ (s : Slot). s.offset)
              (into_filter (λ (s : Slot). s.reference) (slots_of form i.len) e m);
          address = refl;
        }),
      )

      nums : (s : Slot) → IsIn s (slots_of form i.len) → s.reference ≡ false
          → word_of now (slot_word form (i.place + s.offset)) ≡ word_of view (slot_word form (i.place + s.offset))
      nums s m e =
          let q = numbered form i.len s m in
          let z = is_i.aligned in
          let sized = is_i.sized in
          let word = slot-inside form i.len i.place q.number z q.below in
          let b = slot_word form (i.place + slot_offset form q.number) in
          let above = word.above in
          let below = word.below in
          let stays : word_of now b ≡ word_of view b = word_left rows view now g vs heap held u b word.aligned (λ r.
          let same = own_reference rows view now g vs heap held u i b left.listed (omega arith) (omega arith) r in
          clash q r.offset (subst (λ (x : Item). IsIn r.offset (references_of rows x)) same r.reference)
          (sym (r.address ∙ ap (λ (x : Item). x.place + r.offset) same))) in
          subst (λ n. word_of now (slot_word form (i.place + n)) ≡ word_of view (slot_word form (i.place + n)))
          (sym q.offset) stays
        where
          clash : (q : IsSlotNumber form i.len s) (offset : ℕ) → IsIn offset (references_of rows i)
              → i.place + offset ≡ slot_word form (i.place + slot_offset form q.number) → ⊥
          clash q offset listed at_b =
              let (v, at, m2) = from-map (λ (s : Slot). s.offset) offset
              (filter (λ (s : Slot). s.reference) (slots_of form i.len)) listed in
              let (on_v, m3) = out_of_filter (λ (s : Slot). s.reference) v (slots_of form i.len) m2 in
              let words = reference_words form i.len v m3 on_v in
              let w = numbered form i.len v m3 in
              let here : i.place + offset ≡ i.place + slot_offset form q.number =
              at_b ∙ slot-word-is form (i.place + slot_offset form q.number) words in
              let offsets : slot_offset form w.number ≡ slot_offset form q.number =
              sym w.offset ∙ sym at ∙ omega arith in
              elim (cases_eq w.number q.number) [
                | inr differ ↦ offset-apart form w.number q.number words differ offsets
                | inl same ↦
                    let kinds : Some v.reference ≡ Some s.reference =
                    sym w.kind ∙ ap (slice_get (slot_kinds form i.len)) same ∙ q.kind in
                    let equal : v.reference ≡ s.reference = cc in
                    both_ways s.reference e (sym equal ∙ on_v)
              ]

  -- an object that isn't
  other_object : (i : Item) → IsIn i (heap_items rows view) → is_object i ≡ true → is_left_at view g i.place ≡ false
      → object_in rows (word_of now) i ≡ object_in rows (word_of view) i
  other_object i listed object off =
      let s = standing rows view heap held i listed in
      let up = s.above in
      object-stays rows (word_of view) (word_of now) i.place (i.place + i.size) i (omega arith)
      (λ b z low high. word_left rows view now g vs heap held u b z (λ r.
      let same = own_reference rows view now g vs heap held u i b listed low (omega arith) r in
      both_ways (is_left_at view g i.place) off
      (subst (λ (x : Item). is_left_at view g x.place ≡ true) same r.left.left)))
      (listed-item rows view i heap held listed)

  object_told : (i : Item) → IsIn i (filter is_object (heap_items rows view)) → object_in rows (word_of now) i
      ≡ (if is_left_by view g (object_in rows (word_of view) i)
      then relocated_object vs (object_in rows (word_of view) i) else object_in rows (word_of view) i)
  object_told i n =
      let (object, listed) = out_of_filter is_object i (heap_items rows view) n in
      elim (cases_Bool (is_left_at view g i.place)) [
        | inl on ↦
            left_object i (record { listed = listed; object = object; left = on })
            ∙ sym (ap (λ b. if b then relocated_object vs (object_in rows (word_of view) i)
            else object_in rows (word_of view) i) (left_by view g (object_in rows (word_of view) i) ∙ on))
        | inr off ↦
            other_object i listed object off
            ∙ sym (ap (λ b. if b then relocated_object vs (object_in rows (word_of view) i)
            else object_in rows (word_of view) i) (left_by view g (object_in rows (word_of view) i) ∙ off))
      ]

  objects_relocated : objects_in rows now
      ≡ map (λ o. if is_left_by view g o then relocated_object vs o else o) (objects_in rows view)
  objects_relocated =
      ap (objects_among rows (word_of now)) (items_same rows view now g vs heap held u)
      ∙ map-on (object_in rows (word_of now))
      (λ i. if is_left_by view g (object_in rows (word_of view) i)
      then relocated_object vs (object_in rows (word_of view) i) else object_in rows (word_of view) i)
      (filter is_object (heap_items rows view)) object_told
      ∙ sym (map-map (object_in rows (word_of view)) (λ o. if is_left_by view g o then relocated_object vs o else o)
      (filter is_object (heap_items rows view)))

  heads : (i : Item) → IsIn i (heap_items rows view) → (word_of now (i.place - 8) ≡ word_of view (i.place - 8))
      × (word_of now i.place ≡ word_of view i.place)
  heads i listed =
      let s = standing rows view heap held i listed in
      let z = s.aligned in
      let up = s.above in (
        head_left rows view now g vs heap held u i listed (i.place - 8) (omega arith) (omega arith) (omega arith),
        head_left rows view now g vs heap held u i listed i.place z (omega arith) (omega arith),
      )

  -- RELOCATION of a heap
  pub has_relocated : HasRelocated rows view now g vs
  has_relocated = record {
    words = words_are;
    others = u.shape.others;
    memories = u.shape.memories;
    objects = objects_relocated;
    items = items_same rows view now g vs heap held u;
    heads = heads;
    layout = layout_now rows view now g vs heap held none u;
    free_heads = λ free i n is_free.
        let listed = subst (λ is. IsIn i is) (items_same rows view now g vs heap held u) n in
        let f = free i listed is_free in
        let e = heads i listed in
        (e.0 ∙ f.0, e.1 ∙ f.1);
    held = held_now rows view now g vs heap held none u;
  }
