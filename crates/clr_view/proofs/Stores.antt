-- A word that is written into an object's cell: its header or a slot changes, and all else that the heap holds stays.
use Rattle.std.proofs.Common.{if◌then◌else◌, ◌==◌, ◌≡◌, ◌≢◌, ◌⊎◌, ℕ, ◌+◌, ◌-◌, ◌%◌, ◌<◌, ◌≤◌, Bool, true, false, List}
use Rattle.std.proofs.Common.{[], ◌∷◌, filter, length, map, refl, ap, sym, ◌∙◌, subst, arith, inl, inr, slice_set}
use Rattle.std.proofs.lemmas.Bool.{cases_eq, eq-eqb, ne_eqb}
use Rattle.clr_types.specs.Rising.{changed_by, first, IsIn, later}
use Rattle.clr_types.specs.Types.{bytes_form, TypeRow, Form, form_at, is_array, slot_kinds, slot_offset, slots_of}
use Rattle.clr_types.specs.Ranges.{Piece, piece_end}
use Rattle.clr_types.specs.Segments.{reserved_end}
use Rattle.clr_types.specs.declared.item.Item.{Item}
use Rattle.clr_types.proofs.RisingLists.{all_at}
use Rattle.clr_types.proofs.ChangedLists.{all_imply, rising-distinct}
use Rattle.clr_types.proofs.SortedLists.{same_by_key}
use Rattle.clr_heap.specs.Memories.{HasWord, word_address}
use Rattle.clr_heap.specs.Parts.{Among, item_part, items_in, rest_part}
use Rattle.clr_heap.specs.View.{first_of, frame, heap_items, HeapView, IsHeap, last_of, listing, parts_of, PartsAre}
use Rattle.clr_heap.specs.View.{segment_at, sight, stored, word_of}
use Rattle.clr_heap.proofs.Addresses.{has_word}
use Rattle.clr_heap.proofs.Framing.{lawful_at}
use Rattle.clr_heap.proofs.Staying.{outside_other}
use Rattle.clr_heap.proofs.Storing.{word_in-store_in_other, word_in-store_in_same}
use Rattle.clr_heap.proofs.Writing.{stored_elsewhere, stored_in_item}
use Rattle.clr_heap.proofs.Spelling.{Among-bounds}
use Rattle.clr_model.specs.Machine.{num, Object, Value}
use Rattle.clr_mem.specs.Words.{byte_of, with_byte}
use Rattle.clr_mem.proofs.Digits.{byte_of-with_byte_other, byte_of-with_byte_same}
use Rattle.std.proofs.lemmas.List.{length-replicate}
use Rattle.clr_model.specs.Updates.{with_slot_of}
use Rattle.clr_view.specs.View.{free_among, HasStored, IsContext, IsHeld, is_object, has_suppressed_bit, IsByteSlot}
use Rattle.clr_view.specs.View.{IsWordSlot, layout_in, object_in, objects_among, objects_in, slot_address, slot_value}
use Rattle.clr_view.specs.View.{word_value}
use Rattle.clr_view.proofs.Items.{CellsStay, IsItem, object-stays, stacked-apart}
use Rattle.clr_view.proofs.Listed.{listed-in, listed-sized, part-among, type-named}
use Rattle.clr_view.proofs.Listings.{heap-rise, heap-stacked, listing-are, listings-agree, listings-all}
use Rattle.clr_view.proofs.Cuts.{parts-apart}
use Rattle.clr_view.proofs.Slots.{above-length, IsSlotWord, slot-inside, slot_word}
use Rattle.clr_view.proofs.Tails.{found-young, kind-young}
use Rattle.clr_view.proofs.StoredSlots.{byte-stored, byte_slot, bytes-form, kind-there, offset-apart, slot-there}
use Rattle.clr_view.proofs.StoredSlots.{slot-word-is, slots-stored}

-- ---- objects, of which one changes

module _ (rows : List TypeRow) (old new : ℕ → ℕ) (place : ℕ) (change : Object → Object) where
  -- the object of an item is changed where it has the place, and else the same
  abbrev ChangesAt : Item → Type 0
  ChangesAt x = (x.place ≡ place → object_in rows new x ≡ change (object_in rows old x))
      × (x.place ≢ place → object_in rows new x ≡ object_in rows old x)

  one-changed : (x : Item) → ChangesAt x
      → object_in rows new x ≡ (if x.place == place then change (object_in rows old x) else object_in rows old x)
  one-changed x each = elim (cases_eq x.place place) [
    | inl same ↦ let hit = eq-eqb x.place place same in rw hit (each.0 same)
    | inr other ↦ let miss = ne_eqb x.place place other in rw miss (each.1 other)
  ]

  objects-changed : (items : List Item) → ((x : Item) → IsIn x items → ChangesAt x)
      → objects_among rows new items ≡ changed_by (λ o. o.name) place change (objects_among rows old items)
  objects-changed [] each = refl
  objects-changed (x ∷ items) each =
      go (is_object x) (one-changed x (each x first)) (objects-changed items (λ y l. each y (later l)))
    where
      go : (b : Bool)
          → object_in rows new x ≡ (if x.place == place then change (object_in rows old x) else object_in rows old x)
          → objects_among rows new items ≡ changed_by (λ o. o.name) place change (objects_among rows old items)
          → map (object_in rows new) (if b then x ∷ filter is_object items else filter is_object items)
          ≡ changed_by (λ o. o.name) place change
          (map (object_in rows old) (if b then x ∷ filter is_object items else filter is_object items))
      go true here rest = λ k. here k ∷ rest k
      go false here rest = rest

-- ---- a word in a cell

-- a word of the cell of an item of the heap by which the item isn't told: its header, or a word behind its head
pub record IsCellWord (rows : List TypeRow) (h : HeapView) (i : Item) (a : ℕ) : Type 0 where
  pub listed : IsIn i (heap_items rows h)
  pub aligned : a % 8 ≡ 0
  pub low : i.place ≤ a + 8
  pub high : a + 16 ≤ i.place + i.size
  pub no_mt : a ≢ i.place
  pub no_length : is_array (form_at rows i.type_id.0) ≡ true → a ≢ i.place + 8

-- a word behind the head is one
behind-head : (rows : List TypeRow) (h : HeapView) (i : Item) (a : ℕ) → IsHeap h → IsHeld rows h
    → IsIn i (heap_items rows h) → IsSlotWord (form_at rows i.type_id.0) i.len i.place a
    → (is_array (form_at rows i.type_id.0) ≡ true → i.place + 16 ≤ a) → IsCellWord rows h i a
behind-head rows h i a heap held listed cell long =
    let sized = listed-sized rows h i heap held listed in
    let above = cell.above in
    let below = cell.below in
    record {
      listed = listed;
      aligned = cell.aligned;
      low = omega arith;
      high = omega arith;
      no_mt = λ same. omega arith;
      no_length = λ array same. let l = long array in omega arith;
    }

module _ (rows : List TypeRow) (h : HeapView) (i : Item) (a v : ℕ) (heap : IsHeap h) (held : IsHeld rows h)
    (slot : IsCellWord rows h i a) where
  abbrev form : Form
  form = form_at rows i.type_id.0

  -- the heap after the word is written
  abbrev pub after : HeapView
  after = stored h a v

  home : (k : ℕ) × (k < 0 + length h.segments) × IsIn i (listing rows h k)
  home = listed-in rows h i 0 (length h.segments) slot.listed

  abbrev k : ℕ
  k = home.0

  in_range : k < length h.segments
  in_range = let l = home.1 in omega arith

  item-is : IsItem rows (first_of h k) (last_of h k) i
  item-is = all_at (IsItem rows (first_of h k) (last_of h k)) home.2 (listing-are rows h held.walkable k in_range)

  -- the item's cell ends within its segment
  reserved : ((segment_at h k).base ≤ a) × (a + 16 ≤ reserved_end (segment_at h k))
  reserved =
      let above = item-is.above in
      let below = item-is.below in
      let low = slot.low in
      let high = slot.high in
      let lawful = lawful_at h k heap in_range in
      let end = lawful.high in
      (omega arith, omega arith)

  -- the word can be read and written
  pub cell_has_word : HasWord h.memories a
  cell_has_word = let r = reserved in let low = r.0 in let high = r.1 in
      has_word h k a heap in_range low slot.aligned (omega arith)

  -- it is the value, and all others stay
  pub there-now : word_of after a ≡ v
  there-now = word_in-store_in_same h.memories a v cell_has_word.inside

  pub elsewhere : (b : ℕ) → b % 8 ≡ 0 → b ≢ a → word_of after b ≡ word_of h b
  elsewhere b z ne = word_in-store_in_other h.memories a v b slot.aligned z ne

  -- ---- the parts of each segment

  parts-after : (m : ℕ) → m < length h.segments → PartsAre rows after m (parts_of rows h m)
  parts-after m l = elim (cases_eq m k) [
    | inl same ↦
        let w = held.walkable k in_range in
        let number = type-named (sight rows h k) (parts_of rows h k) i (first_of h k) (last_of h k) w.spelled home.2 in
        let P = λ (n : ℕ). PartsAre rows after n (parts_of rows h n) in
        let high = slot.high in
        let has = stored_in_item rows h k i a v w (part-among (parts_of rows h k) i home.2) slot.aligned slot.low
        (omega arith) slot.no_mt
        (λ array. slot.no_length (ap (λ t. is_array (form_at rows t)) (sym number) ∙ array)) in
        subst P (sym same) (record { walkable = has.walkable; parts = has.parts })
    | inr other ↦
        let r = reserved in
        let low = r.0 in
        let high = r.1 in
        let lawful = lawful_at h m heap l in
        let end = lawful.high in
        let out = outside_other h k m a heap in_range l (λ same. other (sym same)) low (omega arith) in
        let has = stored_elsewhere rows h m a v (held.walkable m l) slot.aligned
        (elim out [ inl under ↦ inl (omega arith) | inr over ↦ inr (omega arith) ]) in
        record { walkable = has.walkable; parts = has.parts }
  ]

  -- it is no word of a context
  outside-rest : (r : Piece) → IsContext rows h r → (a + 8 < r.place) ⊎ (piece_end r ≤ a + 8)
  outside-rest r context =
      let found = found-young h heap in
      let e = found.0 in
      let l = found.1.in_range in
      let w = held.walkable e l in
      let rest = context.among e l (kind-young h e heap found.1) in
      let cell_low = slot.low in
      let cell_high = slot.high in
      elim (cases_eq k e) [
        | inl same ↦
            let item = part-among (parts_of rows h k) i home.2 in
            let P : ℕ → Type 0 = λ m. Among (parts_of rows h m) (item_part i) in
            elim (parts-apart (sight rows h e) (parts_of rows h e) (item_part i) (rest_part r.place (piece_end r))
            (first_of h e) (last_of h e) w.spelled (subst P same item) rest) [
              | inl clash ↦ absurd cc
              | inr apart ↦ elim apart [ inl under ↦ inl (omega arith) | inr over ↦ inr (omega arith) ]
            ]
        | inr other ↦
            let own = reserved in
            let low = own.0 in
            let high = own.1 in
            let lawful = lawful_at h e heap l in
            let end = lawful.high in
            let bounds =
            Among-bounds (sight rows h e) (parts_of rows h e) (rest_part r.place (piece_end r)) (first_of h e)
            (last_of h e) w.spelled rest in
            elim (outside_other h k e a heap in_range l other low (omega arith)) [
              | inl under ↦ inl (omega arith)
              | inr over ↦ inr (omega arith)
            ]
      ]

  pub items-stay : heap_items rows after ≡ heap_items rows h
  items-stay =
      listings-agree rows rows h after 0 (length h.segments)
      (λ m low high. ap items_in (parts-after m (omega arith)).parts)

  -- ---- the objects

  -- an item of the heap, by its own bounds
  own-bounds : (x : Item) → IsIn x (heap_items rows h) → IsItem rows x.place (x.place + x.size) x × (8 ≤ x.place)
  own-bounds x l = all_at (λ (y : Item). IsItem rows y.place (y.place + y.size) y × (8 ≤ y.place)) l
      (listings-all rows h held.walkable (λ (y : Item). IsItem rows y.place (y.place + y.size) y × (8 ≤ y.place)) 0
      (length h.segments) (λ m low high.
      all_imply (IsItem rows (first_of h m) (last_of h m))
      (λ (y : Item). IsItem rows y.place (y.place + y.size) y × (8 ≤ y.place)) (listing rows h m) (λ y is.
      let up = is.above in (
        record {
          aligned = is.aligned;
          above = omega arith;
          below = omega arith;
          least = is.least;
          known = is.known;
          sized = is.sized;
          whole = is.whole;
        },
        omega arith,
      )) (listing-are rows h held.walkable m (omega arith))))

  same-elsewhere : (x : Item) → IsIn x (heap_items rows h) → x.place ≢ i.place
      → object_in rows (word_of after) x ≡ object_in rows (word_of h) x
  same-elsewhere x l ne =
      let own = own-bounds x l in
      let cell_low = slot.low in
      let cell_high = slot.high in
      let cells : CellsStay (word_of h) (word_of after) x.place (x.place + x.size) = λ c z low high.
      elsewhere c z
      (λ same. elim (stacked-apart (heap_items rows h) x i (heap-stacked rows h held.walkable heap) l slot.listed
      ne) [ inl under ↦ omega arith | inr over ↦ omega arith ]) in
      object-stays rows (word_of h) (word_of after) x.place (x.place + x.size) x own.1 cells own.0

  -- what isn't told by items stays, and so do contexts
  pub layout-stays : layout_in rows after ≡ layout_in rows h
  layout-stays = ap (λ (is : List Item). record (frame h) { free = free_among is }) items-stay

  pub held-stays : IsHeld rows after
  held-stays = record {
    walkable = λ m l. (parts-after m l).walkable;
    contexts = λ c r e.
        let context = held.contexts c r e in
        record {
          among = λ m l young. subst (λ ps. Among ps (rest_part r.place (piece_end r))) (sym (parts-after m l).parts)
              (context.among m l young);
          young = context.young;
          clear = λ b z low high.
              elsewhere b z (λ same. elim (outside-rest r context) [ inl l ↦ omega arith | inr l ↦ omega arith ])
              ∙ context.clear b z low high;
        };
    apart = held.apart;
    young = held.young;
  }

  -- where the item's object is changed, it alone is
  module _ (change : Object → Object)
      (here : object_in rows (word_of after) i ≡ change (object_in rows (word_of h) i)) where
    changes : (x : Item) → IsIn x (heap_items rows h) → ChangesAt rows (word_of h) (word_of after) i.place change x
    changes x l =
        let distinct =
        rising-distinct (λ (y : Item). y.place) (heap_items rows h) (heap-rise rows h held.walkable heap) in (
          λ same. subst (λ (y : Item). object_in rows (word_of after) y ≡ change (object_in rows (word_of h) y))
              (same_by_key (λ (y : Item). y.place) (heap_items rows h) i x distinct slot.listed l (sym same)) here,
          same-elsewhere x l,
        )

    pub objects-written : objects_in rows after ≡ changed_by (λ o. o.name) i.place change (objects_in rows h)
    objects-written = ap (objects_among rows (word_of after)) items-stay
        ∙ objects-changed rows (word_of h) (word_of after) i.place change (heap_items rows h) changes

  -- where the word is that of slot j, that slot of that object has another value, and all else that the heap holds
  -- stays
  pub cell_stored : (j : ℕ) (value : Value) → i.place + 8 ≤ a
      → map (slot_value form (word_of after) i.place) (slots_of form i.len)
      ≡ slice_set (map (slot_value form (word_of h) i.place) (slots_of form i.len)) j value
      → HasStored rows h after i.place j value
  cell_stored j value above slots =
      let z = item-is.aligned in
      let up = item-is.above in
      let header : has_suppressed_bit (word_of after (i.place - 8)) ≡ has_suppressed_bit (word_of h (i.place - 8)) =
      ap has_suppressed_bit (elsewhere (i.place - 8) (omega arith) (λ same. omega arith)) in
      record {
        objects = objects-written (with_slot_of j value)
            (λ n. record (object_in rows (word_of h) i) { slots = slots n; suppressed = header n });
        items = items-stay;
        layout = layout-stays;
        held = held-stays;
      }

-- ---- slots

module _ (rows : List TypeRow) (h : HeapView) (i : Item) (j v : ℕ) (heap : IsHeap h) (held : IsHeld rows h) where
  abbrev form_of_item : Form
  form_of_item = form_at rows i.type_id.0

  item-aligned : IsIn i (heap_items rows h) → i.place % 8 ≡ 0
  item-aligned l =
      all_at (λ (y : Item). y.place % 8 ≡ 0) l
      (listings-all rows h held.walkable (λ (y : Item). y.place % 8 ≡ 0) 0 (length h.segments) (λ m low high.
      all_imply (IsItem rows (first_of h m) (last_of h m)) (λ (y : Item). y.place % 8 ≡ 0) (listing rows h m)
      (λ y is. is.aligned) (listing-are rows h held.walkable m (omega arith))))

  module _ (reference : Bool) (slot : IsWordSlot rows h i j reference) where
    abbrev a : ℕ
    a = slot_address rows i j

    there : IsSlotWord form_of_item i.len i.place a
    there = slot-there form_of_item i.len i.place j slot.words (item-aligned slot.listed)
        (kind-there (slot_kinds form_of_item i.len) j reference slot.kind)

    pub word_slot : IsCellWord rows h i a
    word_slot = behind-head rows h i a heap held slot.listed there (λ array.
        let at = above-length form_of_item i.place j (item-aligned slot.listed) array in
        let word : slot_word form_of_item a ≡ a = slot-word-is form_of_item a slot.words in
        omega arith)

    pub word_slot_above : i.place + 8 ≤ a
    word_slot_above = there.above

    -- A SLOT STORED: that slot of that object has the value, and all else that the heap holds stays
    pub slot_stored : HasStored rows h (stored h a v) i.place j (word_value reference v)
    slot_stored =
        let z = item-aligned slot.listed in
        let slots = slots-stored form_of_item (word_of h) (word_of (stored h a v)) i.place v reference slot.words i.len
        j slot.kind (λ m l ne.
        let at = slot-there form_of_item i.len i.place m slot.words z l in
        let apart = offset-apart form_of_item m j slot.words ne in
        elsewhere rows h i a v heap held word_slot (i.place + slot_offset form_of_item m) at.aligned
        (λ same. apart (omega arith))) (there-now rows h i a v heap held word_slot) in
        cell_stored rows h i a v heap held word_slot j (word_value reference v) word_slot_above slots

  module _ (slot : IsByteSlot rows h i j) (small : v < 256) where
    abbrev b : ℕ
    b = slot_address rows i j

    abbrev w : ℕ
    w = with_byte (word_of h (word_address b)) (b % 8) v

    form-is : form_of_item ≡ bytes_form
    form-is = bytes-form form_of_item slot.bytes

    abbrev at : ℕ
    at = i.place + slot_offset bytes_form j

    b-is : b ≡ at
    b-is = ap (λ (form : Form). i.place + slot_offset form j) form-is

    byte-there : IsSlotWord form_of_item i.len i.place (word_address b)
    byte-there =
        let count = length-replicate {A = Bool} i.len false in
        let l = slot.inside in
        subst (λ (form : Form). IsSlotWord form i.len i.place (word_address (i.place + slot_offset form j)))
        (sym form-is) (slot-inside bytes_form i.len i.place j (item-aligned slot.listed) (omega arith))

    pub byte_slot_word : IsCellWord rows h i (word_address b)
    byte_slot_word = behind-head rows h i (word_address b) heap held slot.listed byte-there (λ array.
        let z = item-aligned slot.listed in
        let e = b-is in
        omega arith)

    pub byte_slot_above : i.place + 8 ≤ word_address b
    byte_slot_above = byte-there.above

    -- A BYTE STORED: the same for a slot of an array of bytes
    pub byte_slot_stored : HasStored rows h (stored h (word_address b) w) i.place j (num v)
    byte_slot_stored =
        let z = item-aligned slot.listed in
        let new = stored h (word_address b) w in
        let e = b-is in
        let written : word_of new (word_address at) ≡ with_byte (word_of h (word_address at)) (at % 8) v =
        ap (λ n. word_of new (word_address n)) (sym e) ∙ there-now rows h i (word_address b) w heap held byte_slot_word
        ∙ ap (λ n. with_byte (word_of h (word_address n)) (n % 8) v) e in
        let here : byte_slot (word_of new) i.place j ≡ v = ap (λ (u : ℕ). byte_of u (at % 8)) written
        ∙ byte_of-with_byte_same (word_of h (word_address at)) (at % 8) v small in
        let others : (m : ℕ) → m < i.len → m ≢ j → byte_slot (word_of new) i.place m ≡ byte_slot (word_of h) i.place m =
        λ m l ne.
        let am = i.place + slot_offset bytes_form m in
        elim (cases_eq (word_address am) (word_address at)) [
          | inl same ↦
              ap (λ n. byte_of (word_of new n) (am % 8)) same ∙ ap (λ (u : ℕ). byte_of u (am % 8)) written
              ∙ byte_of-with_byte_other (word_of h (word_address at)) (at % 8) (am % 8) v small
              (λ digit. ne (omega arith))
              ∙ ap (λ n. byte_of (word_of h n) (am % 8)) (sym same)
          | inr other ↦ ap (λ (u : ℕ). byte_of u (am % 8))
              (elsewhere rows h i (word_address b) w heap held byte_slot_word (word_address am) (omega arith)
              (λ same. other (omega arith)))
        ] in
        let slots = byte-stored (word_of h) (word_of new) i.place v i.len j slot.inside others here in
        let P : Form → Type 0 =
        λ form. map (slot_value form (word_of new) i.place) (slots_of form i.len)
        ≡ slice_set (map (slot_value form (word_of h) i.place) (slots_of form i.len)) j (num v) in
        cell_stored rows h i (word_address b) w heap held byte_slot_word j (num v) byte_slot_above
        (subst P (sym form-is) slots)
