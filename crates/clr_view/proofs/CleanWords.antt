-- Headers and padding stay clean where an object is born, where a slot is written and where a type is defined, and
-- where objects stay.
use Rattle.std.proofs.Common.{◌≡◌, ◌≢◌, ◌⊎◌, inl, inr, ℕ, ◌+◌, ◌-◌, ◌%◌, ◌<◌, ◌≤◌, true, Option, List, [], ◌∷◌}
use Rattle.std.proofs.Common.{◌++◌, filter, ap, sym, ◌∙◌, subst, arith}
use Rattle.std.proofs.lemmas.Bool.{cases_eq}
use Rattle.clr_types.specs.Bits.{suppressed_bit}
use Rattle.clr_mem.specs.Words.{byte_of}
use Rattle.clr_types.specs.Rising.{IsIn}
use Rattle.clr_types.specs.Types.{Form, form_at, has_finalizer, is_array, size_of, TypeRow}
use Rattle.clr_types.specs.declared.item.Item.{Item}
use Rattle.clr_types.proofs.ChangedLists.{into_filter, IsIn-map, out_of_filter}
use Rattle.clr_types.proofs.ListMembers.{rising_same}
use Rattle.clr_types.proofs.RisingLists.{in_cons}
use Rattle.clr_types.proofs.SortedLists.{out_of_sorted_by}
use Rattle.clr_heap.specs.Memories.{word_address}
use Rattle.clr_heap.specs.Parts.{item_at}
use Rattle.clr_heap.specs.View.{frame, heap_items, HeapView, IsHeap, opening_heap, placed, stored, word_of}
use Rattle.clr_heap.proofs.Placing.{Placed, placed_leaves}
use Rattle.clr_model.specs.Allocation.{context_front}
use Rattle.clr_model.specs.Machine.{Object}
use Rattle.clr_view.specs.Clean.{AreClean, AreZero, HasCleanWords, IsCleanHeader, slots_end}
use Rattle.clr_view.specs.SlotValues.{StandsAt}
use Rattle.clr_view.specs.View.{IsHeld, is_object, KeepsObjects, newborn_at, object_in, objects_in}
use Rattle.clr_view.proofs.Bearing.{born-listed, born-stands, IsBirth}
use Rattle.clr_view.proofs.FreeHeads.{listed_room, outside-header}
use Rattle.clr_view.proofs.Items.{stacked-apart}
use Rattle.clr_view.proofs.Listed.{in_append, listed-above, listed-item, listed-sized}
use Rattle.clr_view.proofs.Listings.{heap-rise, heap-stacked}
use Rattle.clr_view.proofs.ObjectItems.{in_map, stands-head, stands-item}
use Rattle.clr_view.proofs.Opening.{items-none}
use Rattle.clr_view.proofs.Padding.{clean-clear, clean-stays, padding-word}
use Rattle.clr_view.proofs.Rises.{objects-rise}
use Rattle.clr_view.proofs.Stores.{elsewhere, IsCellWord, items-stay, there-now}
use Rattle.clr_view.proofs.TypeMore as more
use Rattle.clr_view.proofs.TypeMore.{form-stays, item-known, row-stays}

-- ---- objects that stay

-- in the cell of an item no object stands but at its place
pub no-object-inside : (rows : List TypeRow) (h : HeapView) → IsHeap h → IsHeld rows h → (i : Item) (b : ℕ)
    → IsIn i (heap_items rows h) → i.place ≤ b + 8 → b + 8 < i.place + i.size → b ≢ i.place → StandsAt rows h b → ⊥
no-object-inside rows h heap held i b listed low high ne stands =
    let this = stands-item rows h heap held b stands in
    let at = this.at in
    let least = (stands-head rows h heap held b stands).names.least in
    elim (stacked-apart (heap_items rows h) (item_at rows (word_of h) b) i (heap-stacked rows h held.walkable heap)
    this.listed listed (λ same. ne (sym at ∙ same))) [
      | inl under ↦ omega arith
      | inr over ↦ omega arith
    ]

module _ (rows : List TypeRow) (old new : HeapView) (heap : IsHeap old) (held : IsHeld rows old) (new_heap : IsHeap new)
    (new_held : IsHeld rows new) where
  -- an item that is one of the objects that were there is one of the items that were there
  pub item-was : (i : Item) → IsIn i (heap_items rows new) → IsIn (object_in rows (word_of new) i) (objects_in rows old)
      → (is_object i ≡ true) × IsIn i (heap_items rows old)
  item-was i listed among =
      let o = object_in rows (word_of new) i in
      let (x, passed, same) = in_map (object_in rows (word_of old)) o (filter is_object (heap_items rows old)) among in
      let (object, there) = out_of_filter is_object x (heap_items rows old) passed in
      let place : x.place ≡ i.place = ap (λ (o : Object). o.place) same in
      let type : x.type_id.0 ≡ i.type_id.0 = ap (λ (o : Object). o.type) same in
      let len : x.len ≡ i.len = ap (λ (o : Object). o.len) same in
      let sized : size_of (form_at rows x.type_id.0) x.len ≡ size_of (form_at rows i.type_id.0) i.len =
      λ k. size_of (form_at rows (type k)) (len k) in
      let size : x.size ≡ i.size = listed-sized rows old x heap held there ∙ sized
      ∙ sym (listed-sized rows new i new_heap new_held listed) in
      let is : x ≡ i = λ k. record { place = place k; size = size k; type_id = record { 0 = type k }; len = len k } in
      subst (λ (y : Item). (is_object y ≡ true) × IsIn y (heap_items rows old)) is (object, there)

  -- OBJECTS THAT STAY, but for their marks, stay clean
  pub clean_but_marks : ((o : Object) → IsIn o (objects_in rows new) → IsIn o (objects_in rows old))
      → ((i : Item) (b : ℕ) → IsIn i (heap_items rows old) → IsIn i (heap_items rows new) → is_object i ≡ true
      → b % 8 ≡ 0 → i.place ≤ b + 8 → b + 8 < i.place + i.size → b ≢ i.place → word_of new b ≡ word_of old b)
      → AreClean rows old → AreClean rows new
  clean_but_marks left stays clean i listed object =
      let among = left (object_in rows (word_of new) i)
      (IsIn-map (object_in rows (word_of new)) (into_filter is_object (heap_items rows new) object listed)) in
      let there = (item-was i listed among).1 in
      clean-stays rows (word_of old) (word_of new) i i.place (i.place + i.size)
      (listed-above rows new i new_heap new_held listed) (listed-item rows new i new_heap new_held listed)
      (λ b z low high ne. stays i b there listed object z low high ne) (clean i there object)

  -- and so do all objects, whose words stay
  pub clean_kept : objects_in rows new ≡ objects_in rows old → KeepsObjects rows old new → AreClean rows old
      → AreClean rows new
  clean_kept objects cells =
      clean_but_marks (λ o l. subst (IsIn o) objects l)
      (λ i b there listed object z low high ne. cells i b there object z low high)

  -- where words stay but at the places of objects
  pub clean_remarked : objects_in rows new ≡ objects_in rows old
      → ((a : ℕ) → a % 8 ≡ 0 → (word_of new a ≡ word_of old a) ⊎ StandsAt rows old a) → AreClean rows old
      → AreClean rows new
  clean_remarked objects words =
      clean_but_marks (λ o l. subst (IsIn o) objects l) (λ i b there listed object z low high ne.
      elim (words b z) [
        | inl same ↦ same
        | inr stands ↦ absurd (no-object-inside rows old heap held i b there low high ne stands)
      ])

-- ---- births

module _ (rows : List TypeRow) (old new : HeapView) (thread t n : ℕ) (birth : IsBirth rows old new thread t n) where
  open birth use {after, before, born, clear, head, held, words}

  abbrev front : ℕ
  front = context_front (frame old) thread

  abbrev newborn : Object
  newborn = newborn_at rows front t n

  leaves : Placed rows old (placed rows old front t n) front t n
  leaves = placed_leaves rows old front t n head

  object-now : (i : Item) → IsIn i (heap_items rows new) → is_object i ≡ true
      → IsIn (object_in rows (word_of new) i) (objects_in rows new)
  object-now i listed object =
      IsIn-map (object_in rows (word_of new)) (into_filter is_object (heap_items rows new) object listed)

  -- the item at the front is the new object
  newborn-item : (i : Item) → IsIn i (heap_items rows new) → is_object i ≡ true → i.place ≡ front
      → object_in rows (word_of new) i ≡ newborn
  newborn-item i listed object at =
      let key : Object → ℕ = λ o. o.name in
      let rise = objects-rise rows (word_of new) (heap_items rows new) (heap-rise rows new born.held.walkable after) in
      rising_same key (objects_in rows new) (object_in rows (word_of new) i) newborn rise (object-now i listed object)
      (born-listed rows old new thread t n born) at

  -- its words are clean
  newborn-clean : (i : Item) → IsIn i (heap_items rows new) → is_object i ≡ true → i.place ≡ front
      → HasCleanWords rows (word_of new) i
  newborn-clean i listed object at =
      let same = newborn-item i listed object at in
      let type : i.type_id.0 ≡ t = ap (λ (o : Object). o.type) same in
      let len : i.len ≡ n = ap (λ (o : Object). o.len) same in
      let header : word_of new (i.place - 8) ≡ 0 = ap (λ (p : ℕ). word_of new (p - 8)) at
      ∙ ap (λ (g : HeapView). word_of g (front - 8)) words ∙ leaves.header in
      let sized : i.size ≡ size_of (form_at rows t) n = listed-sized rows new i after born.held listed
      ∙ (λ k. size_of (form_at rows (type k)) (len k)) in
      clean-clear rows (word_of new) i i.place (i.place + i.size) (listed-item rows new i after born.held listed) header
      (λ b z low high long. clear b z (omega arith) (omega arith)
      (λ array. let far = long (ap (λ (t : ℕ). is_array (form_at rows t)) type ∙ array) in omega arith))

  -- an object elsewhere was there before
  was-there : (i : Item) → IsIn i (heap_items rows new) → is_object i ≡ true → i.place ≢ front
      → IsIn i (heap_items rows old)
  was-there i listed object ne =
      let key : Object → ℕ = λ o. o.name in
      let o = object_in rows (word_of new) i in
      let among = out_of_sorted_by key o (objects_in rows old ++ newborn ∷ [])
      (subst (IsIn o) born.objects (object-now i listed object)) in
      elim (in_append o (objects_in rows old) (newborn ∷ []) among) [
        | inl was ↦ (item-was rows old new before held after born.held i listed was).1
        | inr last ↦ elim (in_cons last) [
          | inl this ↦ absurd (ne (ap (λ (o : Object). o.place) this))
          | inr none ↦ elim none [ ]
        ]
      ]

  -- and keeps apart from the new one's head
  head-apart : (i : Item) → IsIn i (heap_items rows new) → i.place ≢ front
      → (i.place + i.size ≤ front) ⊎ (front + 24 ≤ i.place)
  head-apart i listed ne =
      let stands = born-stands rows old new thread t n born in
      let b = stands-item rows new after born.held front stands in
      let at = b.at in
      let least = (stands-head rows new after born.held front stands).names.least in
      elim (stacked-apart (heap_items rows new) i (item_at rows (word_of new) front)
      (heap-stacked rows new born.held.walkable after) listed b.listed (λ same. ne (same ∙ at))) [
        | inl under ↦ inl (omega (arith, under, at))
        | inr over ↦ inr (omega (arith, over, at, least))
      ]

  -- A BIRTH leaves all words clean
  pub clean_born : AreClean rows old → AreClean rows new
  clean_born clean i listed object = elim (cases_eq i.place front) [
    | inl at ↦ newborn-clean i listed object at
    | inr ne ↦
        let up = head.above in
        let there = was-there i listed object ne in
        clean-stays rows (word_of old) (word_of new) i i.place (i.place + i.size)
        (listed-above rows new i after born.held listed) (listed-item rows new i after born.held listed)
        (λ b z low high other. ap (λ (g : HeapView). word_of g b) words ∙ elim (head-apart i listed ne) [
          | inl under ↦ leaves.others b z (λ e. omega arith) (λ e. omega arith) (λ e. omega arith)
          | inr over ↦ leaves.others b z (λ e. omega arith) (λ e. omega arith) (λ e. omega arith)
        ]) (clean i there object)
  ]

-- ---- stores

module _ (rows : List TypeRow) (h : HeapView) (i : Item) (a v : ℕ) (heap : IsHeap h) (held : IsHeld rows h)
    (slot : IsCellWord rows h i a) where
  -- no byte of the padding comes to be another
  abbrev pub LeavesPadding : Type 0
  LeavesPadding = (p : ℕ) → i.place + slots_end (form_at rows i.type_id.0) i.len ≤ p → word_address p ≡ a
      → byte_of v (p % 8) ≡ byte_of (word_of h a) (p % 8)

  -- an item in whose padding the word stands is that of the slot
  own-padding : (x : Item) → IsIn x (heap_items rows h) → (p : ℕ)
      → x.place + slots_end (form_at rows x.type_id.0) x.len ≤ p → p < x.place + x.size - 8 → word_address p ≡ a → x ≡ i
  own-padding x listed p low high at =
      let own = listed-item rows h x heap held listed in
      let sized = own.sized in
      let here = padding-word (form_at rows x.type_id.0) x.len x.place p own.aligned low (omega arith) in
      let above = here.above in
      let under = here.below in
      let up = slot.low in
      let down = slot.high in
      elim (cases_eq x.place i.place) [
        | inl same ↦ rising_same (λ (y : Item). y.place) (heap_items rows h) x i (heap-rise rows h held.walkable heap)
            listed slot.listed same
        | inr other ↦ elim (stacked-apart (heap_items rows h) x i (heap-stacked rows h held.walkable heap) listed
            slot.listed other) [
              | inl before ↦ absurd (omega arith)
              | inr after ↦ absurd (omega arith)
            ]
      ]

  -- the item's header comes to be a clean one
  abbrev pub LeavesHeader : Type 0
  LeavesHeader = IsCleanHeader rows i.type_id.0 (word_of h (i.place - 8))
      → IsCleanHeader rows i.type_id.0 (word_of (stored h a v) (i.place - 8))

  -- a word behind the head is no header
  pub behind-header : i.place + 8 ≤ a → LeavesHeader
  behind-header above was =
      let z = (listed_room rows h heap held i slot.listed).0 in
      let stays = elsewhere rows h i a v heap held slot (i.place - 8) (omega arith)
      (outside-header rows h i a v heap held slot i slot.listed (inr above)) in
      subst (IsCleanHeader rows i.type_id.0) (sym stays) was

  header-stored : LeavesHeader → (x : Item) → IsIn x (heap_items rows h)
      → IsCleanHeader rows x.type_id.0 (word_of h (x.place - 8))
      → IsCleanHeader rows x.type_id.0 (word_of (stored h a v) (x.place - 8))
  header-stored own x listed was = elim (cases_eq x.place i.place) [
    | inl same ↦
        let one : i ≡ x = rising_same (λ (y : Item). y.place) (heap_items rows h) i x
        (heap-rise rows h held.walkable heap) slot.listed listed (sym same) in
        subst (λ (y : Item). IsCleanHeader rows y.type_id.0 (word_of h (y.place - 8))
        → IsCleanHeader rows y.type_id.0 (word_of (stored h a v) (y.place - 8))) one own was
    | inr other ↦
        let z = (listed_room rows h heap held x listed).0 in
        let stays = elsewhere rows h i a v heap held slot (x.place - 8) (omega arith)
        (outside-header rows h i a v heap held slot x listed (inl other)) in
        subst (IsCleanHeader rows x.type_id.0) (sym stays) was
  ]

  -- A STORE into an object's cell leaves all words clean
  pub clean_stored : LeavesHeader → LeavesPadding → AreClean rows h → AreClean rows (stored h a v)
  clean_stored own leaves clean x listed object =
      let there = subst (IsIn x) (items-stay rows h i a v heap held slot) listed in
      let was = clean x there object in
      let stays = elsewhere rows h i a v heap held slot in
      record {
        header = header-stored own x there was.header;
        padding = λ p low high. elim (cases_eq (word_address p) a) [
          | inl at ↦
              let same = own-padding x there p low high at in
              let low' : i.place + slots_end (form_at rows i.type_id.0) i.len ≤ p =
              subst (λ (y : Item). y.place + slots_end (form_at rows y.type_id.0) y.len ≤ p) same low in
              ap (λ (b : ℕ). byte_of (word_of (stored h a v) b) (p % 8)) at
              ∙ ap (λ (w : ℕ). byte_of w (p % 8)) (there-now rows h i a v heap held slot)
              ∙ leaves p low' at
              ∙ ap (λ (b : ℕ). byte_of (word_of h b) (p % 8)) (sym at)
              ∙ was.padding p low high
          | inr other ↦ ap (λ (w : ℕ). byte_of w (p % 8)) (stays (word_address p) (omega arith) other)
              ∙ was.padding p low high
        ];
      }

-- ---- types

-- a type more leaves all words clean
pub clean_with_type : (rows : List TypeRow) (row : TypeRow) (h : HeapView) → IsHeld rows h → AreClean rows h
    → AreClean (rows ++ row ∷ []) h
clean_with_type rows row h held clean i listed object =
    let there = subst (IsIn i) (more.items-stay rows row h held.walkable) listed in
    let was = clean i there object in
    let known = item-known rows row h held.walkable i there in
    let word = word_of h in
    record {
      header = subst (λ (r : Option TypeRow). (word (i.place - 8) ≡ 0)
          ⊎ ((word (i.place - 8) ≡ suppressed_bit) × (has_finalizer r ≡ true)))
          (sym (row-stays rows row i.type_id.0 known))
          was.header;
      padding = subst (λ (f : Form). AreZero word (i.place + slots_end f i.len) (i.place + i.size - 8))
          (sym (form-stays rows row i.type_id.0 known)) was.padding;
    }

-- ---- the opening_heap

-- where no object stands all words are clean
pub clean_at_start : (rows : List TypeRow) (segment limit : ℕ) → segment % 4096 ≡ 0
    → AreClean rows (opening_heap segment limit)
clean_at_start rows segment limit aligned i listed object =
    let none : IsIn i [] = subst (IsIn i) (items-none rows segment limit aligned) listed in
    elim none [ ]
