-- An object is copied to the front of a free item below it, and where it stood becomes free: both steps together.
use Rattle.std.proofs.Common.{◌≡◌, ◌≢◌, ◌⊎◌, inl, inr, ℕ, ◌+◌, ◌-◌, ◌%◌, ◌<◌, ◌≤◌, true, false, Bool, List, [], ◌∷◌}
use Rattle.std.proofs.Common.{◌++◌}
use Rattle.std.proofs.Common.{refl, ap, sym, ◌∙◌, subst, arith, filter, map, if◌then◌else◌, ◌==◌, ◌&&◌, leb, ltb, not}
use Rattle.std.proofs.lemmas.Bool.{cases_eq, eq-eqb, le-leb, le-ltb, lt-leb, lt-ltb, ne_eqb, true≢false}
use Rattle.clr_types.specs.Bits.{has_mark}
use Rattle.clr_types.specs.Rising.{first, IsIn, IsRisingBy, sorted_by}
use Rattle.clr_types.specs.Types.{mt_of, TypeRow}
use Rattle.clr_types.specs.Ranges.{by_place, fits, Piece}
use Rattle.clr_types.specs.declared.item.Item.{Item}
use Rattle.clr_types.proofs.ChangedLists.{into_filter, IsIn-map, out_of_filter, rising-distinct}
use Rattle.clr_types.proofs.ListMembers.{distinct-by, distinct_map, from-map, rising_same}
use Rattle.clr_types.proofs.RisingLists.{in_cons}
use Rattle.clr_types.proofs.SortedLists.{sorted_by-unique}
use Rattle.clr_heap.specs.Parts.{item_piece, items_in, Part}
use Rattle.clr_heap.specs.View.{frame, heap_items, HeapView, IsHeap, no_rests, SameShape, word_of}
use Rattle.clr_heap.proofs.Framing.{SameShape-trans}
use Rattle.clr_model.specs.Allocation.{taken_from}
use Rattle.clr_model.specs.Compaction.{moved_by}
use Rattle.clr_model.specs.Machine.{Object}
use Rattle.clr_view.specs.SlotValues.{StandsAt}
use Rattle.clr_view.specs.Memory.{is_marked}
use Rattle.clr_view.specs.View.{free_in, is_free, IsHeld, is_object, layout_in, object_in, objects_in}
use Rattle.clr_view.proofs.Bearing.{fits-is}
use Rattle.clr_view.proofs.Listed.{listed-above, listed-item}
use Rattle.clr_view.proofs.Listings.{heap-rise}
use Rattle.clr_view.proofs.Rises.{objects-rise}
use Rattle.clr_moves.specs.Objects.{moved_object}
use Rattle.clr_evacuate.specs.Carried.{ArePadded, CanCarry, carry_of, going_there, HasCarried, HasCopied}
use Rattle.clr_evacuate.specs.Carried.{HasVacated, IsUnmovedIn}
use Rattle.clr_evacuate.specs.Forwards.{forward_of, HasForwards}
use Rattle.clr_evacuate.proofs.Copied.{Carries, copied_apart, copied_free, copied_is_object, copied_item}
use Rattle.clr_evacuate.proofs.Copied.{copied_object}
use Rattle.clr_evacuate.proofs.Copied.{copied_one, copied_only, copied_parts, copied_replaces, copied_unmarked, copy}
use Rattle.clr_evacuate.proofs.Copied.{left_at}
use Rattle.clr_evacuate.proofs.Copying.{free_item_of, not_free}
use Rattle.clr_evacuate.proofs.Padded.{IsPadded, padding-moves, padding-stays}
use Rattle.clr_evacuate.proofs.Replacing.{IsApart, item_now, item_stays, object_born, object_now, object_stays}
use Rattle.clr_evacuate.proofs.Replacing.{replaced_heap, replaced_held, replaced_rests, Replaces, whole_size}
use Rattle.clr_evacuate.proofs.Vacated.{vacated_free, vacated_parts, vacated_replaces, Vacates}

-- ---- where one object goes

module _ (i : Item) (to : ℕ) where
  pub carried_here : 24 ≤ i.size → moved_by (carry_of i to) i.place ≡ to
  carried_here least =
      let from = le-leb i.place i.place (omega arith) in
      let below = lt-ltb i.place (i.place + i.size) (omega (arith, least)) in
      let same : to + (i.place - i.place) ≡ to = omega arith in
      rw (from, below) same

  pub carried_past : (p : ℕ) → (p < i.place) ⊎ (i.place + i.size ≤ p) → moved_by (carry_of i to) p ≡ p
  carried_past p out = elim out [
    | inl low ↦ let t = lt-leb i.place p low in rw t refl
    | inr high ↦ go (leb i.place p) high
  ]
    where
      go : (b : Bool) → i.place + i.size ≤ p
          → (if b && ltb p (i.place + i.size) then to + (p - i.place) else p) ≡ p
      go true high = let t = le-ltb p (i.place + i.size) high in rw t refl
      go false high = refl

module _ (rows : List TypeRow) (h mid new : HeapView) (i x : Item) (f : Carries rows h i x)
    (c : HasCopied h mid i (item_piece x)) (v : HasVacated mid new i x.place) where
  open f use {heap, held, listed, lower, there}

  abbrev ns : List Part
  ns = copied_parts rows h mid i x f c

  a : Replaces rows h mid x ns
  a = copied_replaces rows h mid i x f c

  g : Vacates rows mid i
  g = record {
    heap = replaced_heap rows h mid x ns a;
    held = replaced_held rows h mid x ns a;
    none = replaced_rests rows h mid x ns a;
    listed = elim (item_stays rows h mid x ns a i listed) [
      | inl same ↦ let at = ap (λ (j : Item). j.place) same in absurd (omega (arith, at, lower))
      | inr (now, apart) ↦ now
    ];
    object = f.object;
  }

  abbrev qs : List Part
  qs = vacated_parts rows mid new i x.place g v

  b : Replaces rows mid new i qs
  b = vacated_replaces rows mid new i x.place g v

  least : 24 ≤ i.size
  least = (listed-item rows h i heap held listed).least

  apart : x.place + x.size ≤ i.place
  apart = copied_apart rows h mid i x f c

  least_x : 24 ≤ x.size
  least_x = (listed-item rows h x heap held there).least

  new_heap : IsHeap new
  new_heap = replaced_heap rows mid new i qs b

  pub carried_held : IsHeld rows new
  carried_held = replaced_held rows mid new i qs b

  pub carried_shape : SameShape h new
  carried_shape = SameShape-trans h mid new c.shape v.shape

  -- ---- items

  same_place : (j k : Item) → IsIn j (heap_items rows h) → IsIn k (heap_items rows h) → j.place ≡ k.place → j ≡ k
  same_place j k there_j there_k e =
      rising_same (λ (l : Item). l.place) (heap_items rows h) j k (heap-rise rows h held.walkable heap) there_j there_k
      e

  -- an item is the vacated one, the copy, what is left of the item, or was there before
  data WasItem (j : Item) : Type 0 where
    is_vacated : IsIn j (items_in qs) → WasItem j
    is_copied : IsIn j (items_in ns) → IsApart rows mid new i qs b j → WasItem j
    was_there : IsIn j (heap_items rows h) → IsApart rows h mid x ns a j → IsApart rows mid new i qs b j → WasItem j

  was_item : (j : Item) → IsIn j (heap_items rows new) → WasItem j
  was_item j now = elim (item_now rows mid new i qs b j now) [
    | inl here ↦ is_vacated here
    | inr (in_mid, out_i) ↦ elim (item_now rows h mid x ns a j in_mid) [
      | inl here ↦ is_copied here out_i
      | inr (was, out_x) ↦ was_there was out_x out_i
    ]
  ]

  -- ---- words

  outside : (b : ℕ) → b % 8 ≡ 0 → (b + 8 < x.place) ⊎ (x.place + x.size ≤ b + 8)
      → (b + 8 < i.place) ⊎ (i.place + i.size ≤ b + 8) → word_of new b ≡ word_of h b
  outside q z out_x out_i = b.words q z out_i ∙ a.words q z out_x

  cell_same : (j : Item) → IsApart rows h mid x ns a j → IsApart rows mid new i qs b j → (q : ℕ) → q % 8 ≡ 0
      → j.place ≤ q + 8 → q + 8 < j.place + j.size → word_of new q ≡ word_of h q
  cell_same j out_x out_i q z lo hi =
      outside q z (elim out_x [ inl l ↦ inl (omega (arith, l, hi)) | inr l ↦ inr (omega (arith, l, lo)) ])
      (elim out_i [ inl l ↦ inl (omega (arith, l, hi)) | inr l ↦ inr (omega (arith, l, lo)) ])

  -- the cell of an item that is neither the object's nor the free one stays
  stays_word : (j : Item) → IsIn j (heap_items rows h) → j.place ≢ i.place → j.place ≢ x.place → (q : ℕ)
      → q % 8 ≡ 0 → j.place ≤ q + 8 → q + 8 < j.place + j.size → word_of new q ≡ word_of h q
  stays_word j was off_i off_x = elim (item_stays rows h mid x ns a j was) [
    | inl same ↦ absurd (off_x (ap (λ (k : Item). k.place) same))
    | inr (in_mid, out_x) ↦ elim (item_stays rows mid new i qs b j in_mid) [
      | inl same ↦ absurd (off_i (ap (λ (k : Item). k.place) same))
      | inr (in_new, out_i) ↦ cell_same j out_x out_i
    ]
  ]

  -- the words at the item's front are those of the copy
  front_word : (q : ℕ) → q % 8 ≡ 0 → q + 8 < x.place + x.size → word_of new q ≡ word_of mid q
  front_word q z hi = b.words q z (inl (omega (arith, hi, apart)))

  -- ---- objects

  item_of : (o : Object) → IsIn o (objects_in rows h)
      → (j : Item) × (o ≡ object_in rows (word_of h) j) × (is_object j ≡ true) × IsIn j (heap_items rows h)
  item_of o mine =
      let (j, same, among) = from-map (object_in rows (word_of h)) o (filter is_object (heap_items rows h)) mine in
      let (object, was) = out_of_filter is_object j (heap_items rows h) among in
      (j, same, object, was)

  named : (o : Object) → IsIn o (objects_in rows h) → o.name ≡ o.place
  named o mine =
      let (j, same, object, was) = item_of o mine in
      ap (λ (p : Object). p.name) same ∙ sym (ap (λ (p : Object). p.place) same)

  abbrev go : Object → Object
  go = moved_object (carry_of i x.place)

  -- no object stands where the item did
  off_item : (o : Object) → IsIn o (objects_in rows h) → o.place ≢ x.place
  off_item o mine e =
      let (j, same, object, was) = item_of o mine in
      let at : j.place ≡ x.place = sym (ap (λ (p : Object). p.place) same) ∙ e in
      let one = same_place j x was there at in
      true≢false (sym object ∙ ap is_object one ∙ ap not f.free)

  -- the object itself
  this : (o : Object) → IsIn o (objects_in rows h) → o.place ≡ i.place → o ≡ object_in rows (word_of h) i
  this o mine e =
      let (j, same, object, was) = item_of o mine in
      let at : j.place ≡ i.place = sym (ap (λ (p : Object). p.place) same) ∙ e in
      same ∙ ap (object_in rows (word_of h)) (same_place j i was listed at)

  -- any other stays
  stays : (o : Object) → IsIn o (objects_in rows h) → o.place ≢ i.place
      → IsIn o (objects_in rows new) × ((o.place < i.place) ⊎ (i.place + i.size ≤ o.place))
  stays o mine other =
      object_stays rows mid new i qs b o (object_stays rows h mid x ns a o mine (off_item o mine)).0 other

  moved_other : (o : Object) → IsIn o (objects_in rows h) → (o.place < i.place) ⊎ (i.place + i.size ≤ o.place)
      → go o ≡ o
  moved_other o mine out =
      let place = carried_past i x.place o.place out in
      let name = place ∙ sym (named o mine) in
      λ k. record o { name = name k; place = place k }

  copied : object_in rows (word_of mid) (copy rows h mid i x f c) ≡ go (object_in rows (word_of h) i)
  copied =
      let to = sym (carried_here i x.place least) in
      copied_object rows h mid i x f c ∙ (λ k. record (object_in rows (word_of h) i) { name = to k; place = to k })

  now_there : (o : Object) → IsIn o (objects_in rows new) → IsIn o (map go (objects_in rows h))
  now_there o now = elim (object_now rows mid new i qs b o now) [
    | inl none ↦ elim none [ ]
    | inr (in_mid, out) ↦ elim (object_now rows h mid x ns a o in_mid) [
      | inl one ↦
          let is = copied_one rows h mid i x f c o one ∙ copied in
          subst (λ (p : Object). IsIn p (map go (objects_in rows h))) (sym is)
          (IsIn-map go (IsIn-map (object_in rows (word_of h))
          (into_filter is_object (heap_items rows h) f.object listed)))
      | inr (was, out_x) ↦
          subst (λ (p : Object). IsIn p (map go (objects_in rows h))) (moved_other o was out) (IsIn-map go was)
    ]
  ]

  there_now : (o : Object) → IsIn o (map go (objects_in rows h)) → IsIn o (objects_in rows new)
  there_now o moved =
      let (p, is, mine) = from-map go o (objects_in rows h) moved in
      elim (cases_eq p.place i.place) [
        | inl same ↦
            let born = object_born rows h mid x ns a (copy rows h mid i x f c) first
            (copied_is_object rows h mid i x f c) in
            let still = object_stays rows mid new i qs b (object_in rows (word_of mid) (copy rows h mid i x f c)) born
            (λ e. omega (arith, e, lower)) in
            subst (λ (q : Object). IsIn q (objects_in rows new)) (copied ∙ ap go (sym (this p mine same)) ∙ sym is)
            still.0
        | inr other ↦
            let (still, out) = stays p mine other in
            subst (λ (q : Object). IsIn q (objects_in rows new)) (sym (is ∙ moved_other p mine out)) still
      ]

  abbrev key : Object → ℕ
  key o = o.name

  -- where an object goes, by cases
  goes : (o : Object) → IsIn o (objects_in rows h)
      → ((o.place ≡ i.place) × ((go o).name ≡ x.place)) ⊎ ((o.place ≢ i.place) × ((go o).name ≡ o.place))
  goes o mine = elim (cases_eq o.place i.place) [
    | inl same ↦ inl (same, ap (moved_by (carry_of i x.place)) same ∙ carried_here i x.place least)
    | inr other ↦ inr (other, carried_past i x.place o.place (stays o mine other).1)
  ]

  apart_names : (o p : Object) → IsIn o (objects_in rows h) → IsIn p (objects_in rows h)
      → (go o).name ≡ (go p).name → o.name ≡ p.name
  apart_names o p mine_o mine_p e =
      let no = named o mine_o in
      let np = named p mine_p in
      elim (goes o mine_o) [
        | inl (at_o, to_o) ↦ elim (goes p mine_p) [
          | inl (at_p, to_p) ↦ no ∙ at_o ∙ sym at_p ∙ sym np
          | inr (ne_p, to_p) ↦ absurd (off_item p mine_p (sym to_p ∙ sym e ∙ to_o))
        ]
        | inr (ne_o, to_o) ↦ elim (goes p mine_p) [
          | inl (at_p, to_p) ↦ absurd (off_item o mine_o (sym to_o ∙ e ∙ to_p))
          | inr (ne_p, to_p) ↦ no ∙ sym to_o ∙ e ∙ to_p ∙ sym np
        ]
      ]

  old_rise : IsRisingBy key (objects_in rows h)
  old_rise = objects-rise rows (word_of h) (heap_items rows h) (heap-rise rows h held.walkable heap)

  -- THE OBJECTS: the same, one of them at its new place
  pub carried_objects : objects_in rows new ≡ sorted_by key (map go (objects_in rows h))
  carried_objects =
      sorted_by-unique key (objects_in rows new) (map go (objects_in rows h))
      (distinct_map go key (objects_in rows h)
      (distinct-by key (λ (o : Object). (go o).name) (objects_in rows h) apart_names
      (rising-distinct key (objects_in rows h) old_rise)))
      (objects-rise rows (word_of new) (heap_items rows new) (heap-rise rows new carried_held.walkable new_heap))
      (λ o. (now_there o, there_now o))

  -- ---- the layout

  pub carried_layout : layout_in rows new
      ≡ record (layout_in rows h) {
        free = by_place (taken_from x.place i.size (free_in rows h) ++ item_piece i ∷ []);
      }
  carried_layout =
      let free : free_in rows new ≡ by_place (taken_from x.place i.size (free_in rows h) ++ item_piece i ∷ []) =
      vacated_free rows mid new i x.place g v
      ∙ ap (λ (ps : List Piece). by_place (ps ++ item_piece i ∷ [])) (copied_free rows h mid i x f c) in
      λ k. record (frame (carried_shape.others k)) { free = free k }

  -- ---- marks

  pub carried_marks : (o : Object) → IsIn o (objects_in rows h)
      → is_marked new (go o) ≡ (if o.place == i.place then false else is_marked h o)
  carried_marks o mine = elim (cases_eq o.place i.place) [
    | inl same ↦
        let hit = eq-eqb o.place i.place same in
        let z = (listed-item rows h x heap held there).aligned in
        let to = ap (moved_by (carry_of i x.place)) same ∙ carried_here i x.place least in
        rw hit (ap (λ n. has_mark (word_of new n)) to
        ∙ ap has_mark (front_word x.place z (omega (arith, least_x))) ∙ copied_unmarked rows h mid i x f c)
    | inr other ↦
        let miss = ne_eqb o.place i.place other in
        let (j, same, object, was) = item_of o mine in
        let at : o.place ≡ j.place = ap (λ (p : Object). p.place) same in
        let z = (listed-item rows h j heap held was).aligned in
        let n = (listed-item rows h j heap held was).least in
        let to = carried_past i x.place o.place (stays o mine other).1 in
        rw miss (ap (λ n. has_mark (word_of new n)) (to ∙ at)
        ∙ ap has_mark (stays_word j was (λ e. other (at ∙ e)) (λ e. off_item o mine (at ∙ e)) j.place z
        (omega arith) (omega (arith, n)))
        ∙ ap (λ n. has_mark (word_of h n)) (sym at))
  ]

  -- ---- headers

  -- the header of each object is at its new place what it was at its old one
  pub carried_headers : (o : Object) → IsIn o (objects_in rows h)
      → word_of new ((go o).place - 8) ≡ word_of h (o.place - 8)
  carried_headers o mine = elim (cases_eq o.place i.place) [
    | inl same ↦
        let zx = (listed-item rows h x heap held there).aligned in
        let up = listed-above rows h x heap held there in
        let back : x.place - 8 + (i.place - x.place) ≡ i.place - 8 = omega (arith, up, lower) in
        let to = ap (moved_by (carry_of i x.place)) same ∙ carried_here i x.place least in
        ap (λ n. word_of new (n - 8)) to
        ∙ front_word (x.place - 8) (omega (arith, zx, up)) (omega (arith, up, least_x))
        ∙ c.cells (x.place - 8) (omega (arith, zx, up)) (omega (arith, up)) (omega (arith, up, least))
        (λ e. omega (arith, e, up))
        ∙ ap (word_of h) back ∙ ap (λ n. word_of h (n - 8)) (sym same)
    | inr other ↦
        let (j, same, object, was) = item_of o mine in
        let at : o.place ≡ j.place = ap (λ (p : Object). p.place) same in
        let z = (listed-item rows h j heap held was).aligned in
        let n = (listed-item rows h j heap held was).least in
        let up = listed-above rows h j heap held was in
        let to = carried_past i x.place o.place (stays o mine other).1 in
        ap (λ n. word_of new (n - 8)) (to ∙ at)
        ∙ stays_word j was (λ e. other (at ∙ e)) (λ e. off_item o mine (at ∙ e)) (j.place - 8)
        (omega (arith, z, up)) (omega (arith, up)) (omega (arith, up, n))
        ∙ ap (λ n. word_of h (n - 8)) (sym at)
  ]

  -- ---- padding

  -- the padding of the copy is zero where the object's was
  copy_padded : IsPadded rows (word_of h) i → IsPadded rows (word_of new) (copy rows h mid i x f c)
  copy_padded =
      let is_i = listed-item rows h i heap held listed in
      let zx = (listed-item rows h x heap held there).aligned in
      let up = listed-above rows h x heap held there in
      let above = listed-above rows h i heap held listed in
      let fit = within in
      padding-moves rows (word_of h) (word_of new) i (copy rows h mid i x f c) x.place (x.place + i.size) above
      is_i.aligned up (copied_item rows h mid i x f c) refl refl refl
      (λ d z l ne.
      let at : x.place - 8 + d + (i.place - x.place) ≡ i.place - 8 + d = omega (arith, up, lower) in
      front_word (x.place - 8 + d) (omega (arith, zx, z, up)) (omega (arith, up, l, fit))
      ∙ c.cells (x.place - 8 + d) (omega (arith, zx, z, up)) (omega (arith, up)) (omega (arith, up, l))
      (λ e. omega (arith, e, up, ne))
      ∙ ap (word_of h) at)
    where
      within : i.size ≤ x.size
      within = elim (fits-is i.size x.size f.within)
          [ inl l ↦ omega arith | inr l ↦ omega arith ]

  -- the padding of each object stays zero
  pub carried_padded : ArePadded rows h → ArePadded rows new
  carried_padded padded j now object = elim (was_item j now) [
    | is_vacated here ↦ absurd (elim (in_cons here) [
      | inl is ↦ true≢false (sym object ∙ ap is_object is)
      | inr none ↦ elim none [ ]
    ])
    | is_copied here out_i ↦
        let is = copied_only rows h mid i x f c j here object in
        subst (IsPadded rows (word_of new)) (sym is) (copy_padded (padded i listed f.object))
    | was_there was out_x out_i ↦
        padding-stays rows (word_of h) (word_of new) j j.place (j.place + j.size) (listed-above rows h j heap held was)
        (listed-item rows h j heap held was) (λ q z lo hi ne. cell_same j out_x out_i q z lo hi) (padded j was object)
  ]

  -- ---- forwards

  -- what stands where the object stood says where it went, and all others say what they did
  pub carried_forwards : (to : ℕ → ℕ) → HasForwards rows h to → IsUnmovedIn to (item_piece x)
      → HasForwards rows new (going_there to i.place x.place)
  carried_forwards to old unmoved = record {
    free = free;
    objects = objects;
    null = null;
  }
    where
      elsewhere : (p : ℕ) → p ≢ i.place → going_there to i.place x.place p ≡ to p
      elsewhere p ne = let miss = ne_eqb p i.place ne in rw miss refl

      there_goes : going_there to i.place x.place i.place ≡ x.place
      there_goes = let hit = eq-eqb i.place i.place refl in rw hit refl

      forward_here : forward_of (going_there to i.place x.place) i.place ≡ x.place
      forward_here =
          let miss = ne_eqb x.place i.place (λ e. omega (arith, e, lower)) in
          ap (λ n. if n == i.place then 0 else n) there_goes ∙ ap (λ (t : Bool). if t then 0 else x.place) miss

      forward_else : (p : ℕ) → p ≢ i.place → forward_of (going_there to i.place x.place) p ≡ forward_of to p
      forward_else p ne = ap (λ n. if n == p then 0 else n) (elsewhere p ne)

      unforwarded : (p : ℕ) → to p ≡ p → forward_of to p ≡ 0
      unforwarded p e = let hit = eq-eqb (to p) p e in ap (λ (t : Bool). if t then 0 else to p) hit

      null : going_there to i.place x.place 0 ≡ 0
      null =
          let up = listed-above rows h i heap held listed in
          elsewhere 0 (λ e. omega (arith, e, up)) ∙ old.null

      objects : (p : ℕ) → StandsAt rows new p → going_there to i.place x.place p ≡ p
      objects p (o, now, at) = elim (object_now rows mid new i qs b o now) [
        | inl none ↦ elim none [ ]
        | inr (in_mid, out) ↦
            let ne : p ≢ i.place = λ e. elim out [
              | inl l ↦ omega (arith, l, at, e)
              | inr l ↦ omega (arith, l, at, e, least)
            ] in
            elim (object_now rows h mid x ns a o in_mid) [
              | inl one ↦
                  let is = copied_one rows h mid i x f c o one in
                  let to_x : p ≡ x.place = sym at ∙ ap (λ (q : Object). q.place) is in
                  elsewhere p ne ∙ unmoved p (omega (arith, to_x)) (omega (arith, to_x, least_x))
              | inr (was, out_x) ↦ elsewhere p ne ∙ old.objects p (o, was, at)
            ]
      ]

      free : (j : Item) → IsIn j (heap_items rows new) → is_free j ≡ true
          → (word_of new (j.place - 8) ≡ forward_of (going_there to i.place x.place) j.place)
          × (word_of new j.place ≡ mt_of 0)
      free j now is_one = elim (was_item j now) [
        | is_vacated here ↦ elim (in_cons here) [
          | inl is ↦
              let at : j.place ≡ i.place = ap (λ (k : Item). k.place) is in (
                ap (λ n. word_of new (n - 8)) at ∙ v.header ∙ sym forward_here
                    ∙ ap (forward_of (going_there to i.place x.place)) (sym at),
                ap (word_of new) at ∙ v.mt,
              )
          | inr none ↦ elim none [ ]
        ]
        | is_copied here out_i ↦ elim (in_cons here) [
          | inl is ↦ absurd (true≢false (sym is_one ∙ ap is_free is ∙ not_free i f.object))
          | inr left ↦
              let (at, room) = left_at rows h mid i x f c j left in
              let head = (c.left (omega (arith, room, least_x))).0 in
              let zi = whole_size rows h i heap held listed in
              let zx = (listed-item rows h x heap held there).aligned in
              let ne : j.place ≢ i.place = λ e. omega (arith, e, at, room, apart) in
              let same = to_left j.place at room in (
                ap (λ n. word_of new (n - 8)) at
                    ∙ front_word (x.place + i.size - 8) (omega (arith, zi, zx, least)) (omega (arith, room, least))
                    ∙ head.0 ∙ sym (forward_else j.place ne ∙ unforwarded j.place same),
                ap (word_of new) at
                    ∙ front_word (x.place + i.size) (omega (arith, zi, zx)) (omega (arith, room)) ∙ head.1,
              )
        ]
        | was_there was out_x out_i ↦
            let told = old.free j was is_one in
            let is = listed-item rows h j heap held was in
            let z = is.aligned in
            let n = is.least in
            let up = listed-above rows h j heap held was in
            let ne : j.place ≢ i.place = λ e. elim out_i [
              | inl l ↦ omega (arith, l, e, n)
              | inr l ↦ omega (arith, l, e, least)
            ] in (
              cell_same j out_x out_i (j.place - 8) (omega (arith, z, up)) (omega (arith, up)) (omega (arith, up, n))
                  ∙ told.0 ∙ sym (forward_else j.place ne),
              cell_same j out_x out_i j.place z (omega arith) (omega (arith, n)) ∙ told.1,
            )
      ]
        where
          to_left : (p : ℕ) → p ≡ x.place + i.size → i.size + 24 ≤ x.size → to p ≡ p
          to_left p at room = unmoved p (omega (arith, at)) (omega (arith, at, room))

  -- THE HEAP after an object was carried
  pub carried_heap : HasCarried rows h new i (item_piece x)
  carried_heap = record {
    objects = carried_objects;
    layout = carried_layout;
    marks = carried_marks;
    words = outside;
    headers = carried_headers;
    padding = carried_padded;
    forwards = carried_forwards;
    shape = carried_shape;
    held = carried_held;
  }

-- whatever item it is
pub carried : (rows : List TypeRow) (h mid new : HeapView) (i : Item) (item : Piece) → IsHeap h → IsHeld rows h
    → h.rests ≡ no_rests → CanCarry rows h i item → HasCopied h mid i item → HasVacated mid new i item.place
    → HasCarried rows h new i item
carried rows h mid new i item heap held none asked c v =
    let (x, is_x) = free_item_of rows h item asked.free in
    let place = ap (λ (p : Piece). p.place) is_x.is in
    subst (HasCarried rows h new i) (sym is_x.is)
    (carried_heap rows h mid new i x
    (record {
      heap = heap;
      held = held;
      none = none;
      listed = asked.listed;
      object = asked.object;
      there = is_x.listed;
      free = is_x.free;
      lower = subst (λ n. n < i.place) place asked.lower;
      within = ap (λ (p : Piece). fits i.size p.size) (sym is_x.is) ∙ asked.within;
    }) (subst (HasCopied h mid i) is_x.is c) (subst (HasVacated mid new i) place v))
