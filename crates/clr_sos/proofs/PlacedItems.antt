-- Objects and free items of a walkable heap by their places.
use Rattle.std.proofs.Common.{◌≡◌, ℕ, ◌<◌, ◌≤◌, ◌==◌, ◌&&◌, ◌||◌, nat_eq, nat_le, Bool, true}
use Rattle.std.proofs.Common.{false, cond, if◌then◌else◌, List, [], ◌∷◌, filter, length, Some, None}
use Rattle.std.proofs.Common.{refl, sym, ◌∙◌, ap, subst, arith, inl, inr}
use Rattle.std.proofs.lemmas.Bool.{and_parts, both_ways, cases_Bool, cases_lt}
use Rattle.std.proofs.lemmas.Bool.Decides.{nat_tests}
use Rattle.std.specs.List.{list_any}
use Rattle.clr_types.specs.Ranges as ranges
use Rattle.clr_types.specs.Ranges.{Piece}
use Rattle.clr_types.specs.Rising.{first, IsIn, IsRisingBy, later}
use Rattle.clr_types.specs.Segments.{ephemeral, generation, reserved_end, stands_in}
use Rattle.clr_types.specs.Types.{form_at, size_of, TypeRow}
use Rattle.clr_types.specs.declared.item.Item.{Item}
use Rattle.clr_types.specs.declared.segment.SegInfo.{SegInfo}
use Rattle.clr_types.proofs.ChangedLists.{into_filter, IsIn-map, out_of_filter}
use Rattle.clr_types.proofs.ListMembers.{any-from, any-in, from-map, rising_same}
use Rattle.clr_types.proofs.RisingLists.{all_at, in_cons}
use Rattle.clr_heap.specs.Parts.{item_at, item_piece}
use Rattle.clr_heap.specs.View.{AreWalkable, first_of, frame, HasItem, heap_items, HeapView, IsHeap}
use Rattle.clr_heap.specs.View.{item_with_place, last_of, listing, only_object, parts_of, segment_at, sight, word_of}
use Rattle.clr_heap.proofs.Framing.{lawful_at}
use Rattle.clr_heap.proofs.Staying.{segment_order}
use Rattle.clr_heap.proofs.Writing.{words_of_item}
use Rattle.clr_view.specs.SlotValues.{IsObjectAt, StandsAt}
use Rattle.clr_view.specs.View.{free_among, is_free, is_object}
use Rattle.clr_view.proofs.Items.{IsItem}
use Rattle.clr_view.proofs.Listed.{item-spelled, listed-in, part-among}
use Rattle.clr_view.proofs.Listings.{heap-rise, listing-are}
use Rattle.clr_view.proofs.Standing.{listed_from, stands_from}
use Rattle.clr_sos.specs.Faults.{stands}
use Rattle.clr_sos.specs.Steps.{object_at}
use Rattle.clr_sos.proofs.JudgedNames.{found}

abbrev place_of : Item → ℕ
place_of i = i.place

-- ---- items by their places

-- the item that has the place
pub find_item : (items : List Item) (i : Item) (a : ℕ) → IsRisingBy place_of items → IsIn i items → i.place ≡ a
    → item_with_place items a ≡ Some i
find_item [] i a rising m at = elim m [ ]
find_item (j ∷ items) i a rising m at = elim (in_cons m) [
  | inl here ↦
      let place : i.place ≡ j.place = ap place_of here in
      let hit : nat_eq j.place a ≡ true = grind (arith, nat_tests, place, at) in
      rw hit (ap Some (sym here))
  | inr more ↦
      let below : j.place < i.place = all_at (λ (k : Item). j.place < k.place) more rising.0 in
      let miss : nat_eq j.place a ≡ false = grind (arith, nat_tests, below, at) in
      rw miss (find_item items i a rising.1 more at)
]

-- what is found is an item with the place
pub found_item : (items : List Item) (a : ℕ) (i : Item) → item_with_place items a ≡ Some i
    → IsIn i items × (i.place ≡ a)
found_item [] a i e = absurd cc
found_item (j ∷ items) a i e = go (nat_eq j.place a) refl e (found_item items a i)
  where
    go : (t : Bool) → nat_eq j.place a ≡ t → cond t (Some j) (item_with_place items a) ≡ Some i
        → (item_with_place items a ≡ Some i → IsIn i items × (i.place ≡ a)) → IsIn i (j ∷ items) × (i.place ≡ a)
    go true hit e more =
        let same : j ≡ i = cc in
        let at : j.place ≡ a = grind (arith, nat_tests, hit) in
        subst (λ (k : Item). IsIn k (j ∷ items) × (k.place ≡ a)) same (first, at)
    go false miss e more = let f = more e in (later f.0, f.1)

-- no object has the place
pub no_object : (items : List Item) (a : ℕ) → stands items a ≡ false → object_at items a ≡ None
no_object [] a e = refl
no_object (j ∷ items) a e =
    let parts = or_parts ((j.place == a) && is_object j) (stands items a) e in
    go (nat_eq j.place a) refl parts.0 (no_object items a parts.1)
  where
    or_parts : (s t : Bool) → (s || t) ≡ false → (s ≡ false) × (t ≡ false)
    or_parts true t e = absurd cc
    or_parts false t e = (refl, e)

    go : (t : Bool) → nat_eq j.place a ≡ t → ((j.place == a) && is_object j) ≡ false → object_at items a ≡ None
        → only_object (cond t (Some j) (item_with_place items a)) ≡ None
    go true hit off rest =
        let free : nat_eq j.type_id.0 0 ≡ true = grind (arith, nat_tests, hit, off) in
        ap (λ (b : Bool). if b then None else Some j) free
    go false miss off rest = rest

module _ (rows : List TypeRow) (h : HeapView) (heap : IsHeap h) (walkable : AreWalkable rows h) where
  abbrev items : List Item
  items = heap_items rows h

  rises : IsRisingBy place_of items
  rises = heap-rise rows h walkable heap

  -- an object stands there
  pub stands_there : (a : ℕ) → stands items a ≡ true → StandsAt rows h a
  stands_there a e =
      let f = found items a e in
      subst (StandsAt rows h) f.at (stands_from rows h f.item f.listed f.object)

  pub the_object : (a : ℕ) (i : Item) → IsObjectAt rows h a i → object_at items a ≡ Some i
  the_object a i is =
      let object = is.object in
      let other : nat_eq i.type_id.0 0 ≡ false = grind (arith, nat_tests, object) in
      ap only_object (find_item items i a rises is.listed is.at)
      ∙ ap (λ (b : Bool). if b then None else Some i) other

  -- where one stands one is found
  pub stands_found : (a : ℕ) (i : Item) → object_at items a ≡ Some i → stands items a ≡ true
  stands_found a i e = elim (cases_Bool (stands items a)) [
    | inl on ↦ on
    | inr off ↦ let clash : None ≡ Some i = sym (no_object items a off) ∙ e in absurd cc
  ]

  pub none_found : (a : ℕ) → object_at items a ≡ None → stands items a ≡ false
  none_found a e = elim (cases_Bool (stands items a)) [
    | inr off ↦ off
    | inl on ↦
        let f = found items a on in
        let object = f.object in
        let other : nat_eq f.item.type_id.0 0 ≡ false = grind (arith, nat_tests, object) in
        let some : object_at items a ≡ Some f.item =
        ap only_object (find_item items f.item a rises f.listed f.at)
        ∙ ap (λ (b : Bool). if b then None else Some f.item) other in
        let clash : None ≡ Some f.item = sym e ∙ some in absurd cc
  ]

  -- ---- room for objects that are begun

  module _ (size a : ℕ) where
    abbrev has_room : Piece → Bool
    has_room p = (p.place == a) && ranges.fits size p.size

    record IsRoom (i : Item) : Type 0 where
      listed : IsIn i items
      free : is_free i ≡ true
      at : i.place ≡ a
      fits : ranges.fits size i.size ≡ true

    -- what has room is a free item
    room_found : list_any has_room (free_among items) ≡ true → (i : Item) × IsRoom i
    room_found e =
        let some = any-in has_room (free_among items) e in
        let from = from-map item_piece some.0 (filter is_free items) some.1 in
        let passed = out_of_filter is_free from.0 items from.2 in
        let parts = and_parts (some.0.place == a) (ranges.fits size some.0.size) some.2 in
        let here = parts.0 in
        let place : from.0.place ≡ some.0.place = sym (ap (λ (p : Piece). p.place) from.1) in
        let bytes : from.0.size ≡ some.0.size = sym (ap (λ (p : Piece). p.size) from.1) in (
          from.0,
          record {
            listed = passed.1;
            free = passed.0;
            at = place ∙ (let e : some.0.place ≡ a = grind (arith, nat_tests, here) in e);
            fits = ap (ranges.fits size) bytes ∙ parts.1;
          },
        )

    -- and one that is large enough has room
    room_from : (i : Item) → IsRoom i → list_any has_room (free_among items) ≡ true
    room_from i r =
        let at = r.at in
        let here : (i.place == a) ≡ true = grind (arith, nat_tests, at) in
        let fits = r.fits in
        any-from has_room (free_among items) (item_piece i)
        (IsIn-map item_piece (into_filter is_free items r.free r.listed)) (rw (here, fits) refl)

    -- it stands in the ephemeral segment
    module _ (k : ℕ) (l : k < length h.segments) (young : segment_at h k ≡ ephemeral (frame h))
        (inside : stands_in (ephemeral (frame h)) a ≡ true) where
      bounds : (first_of h k ≤ a) × (a < reserved_end (segment_at h k))
      bounds =
          let on : stands_in (segment_at h k) a ≡ true = ap (λ (s : SegInfo). stands_in s a) young ∙ inside in
          let parts = and_parts (nat_le (first_of h k) a) _ on in
          let low = parts.0 in
          let high = parts.1 in
          (grind (arith, nat_tests, low), grind (arith, nat_tests, high))

      -- so an item with the place is one of that segment
      item_in_young : (i : Item) → IsIn i items → i.place ≡ a → IsIn i (listing rows h k)
      item_in_young i m at =
          let home = listed-in rows h i 0 (length h.segments) m in
          let j : ℕ = home.0 in
          let lj : home.0 < length h.segments = let b = home.1 in omega arith in
          let is = all_at (IsItem rows (first_of h home.0) (last_of h home.0)) home.2
          (listing-are rows h walkable home.0 lj) in
          let above = is.above in
          let below = is.below in
          let least = is.least in
          let end = (lawful_at h home.0 heap lj).high in
          let b = bounds in
          let low = b.0 in
          let high = b.1 in
          elim (cases_lt home.0 k) [
            | inl lower ↦
                let order = segment_order h home.0 k heap lower l in
                absurd (omega arith)
            | inr upper ↦ elim (cases_lt k home.0) [
              | inl higher ↦
                  let order = segment_order h k home.0 heap higher lj in
                  absurd (omega arith)
              | inr same ↦
                  let is_k : home.0 ≡ k = omega arith in
                  subst (λ (n : ℕ). IsIn i (listing rows h n)) is_k home.2
            ]
          ]

      -- no item has the place
      pub nothing_there : item_with_place (listing rows h k) a ≡ None → list_any has_room (free_among items) ≡ false
      nothing_there none = elim (cases_Bool (list_any has_room (free_among items))) [
        | inr off ↦ off
        | inl on ↦
            let r = room_found on in
            let there = item_in_young r.0 r.1.listed r.1.at in
            absurd (never (listing rows h k) r.0 there r.1.at none)
      ]
        where
          never : (xs : List Item) (i : Item) → IsIn i xs → i.place ≡ a → item_with_place xs a ≡ None → ⊥
          never [] i m at e = elim m [ ]
          never (j ∷ xs) i m at e = elim (in_cons m) [
            | inl here ↦
                let place : i.place ≡ j.place = ap place_of here in
                let hit : nat_eq j.place a ≡ true = grind (arith, nat_tests, place, at) in
                let clash : Some j ≡ None = sym (rw hit refl) ∙ e in cc
            | inr more ↦ elim (cases_Bool (nat_eq j.place a)) [
              | inl hit ↦ let clash : Some j ≡ None = sym (rw hit refl) ∙ e in cc
              | inr miss ↦ never xs i more at (sym (rw miss refl) ∙ e)
            ]
          ]

      -- the item with the place is room, or nothing is
      pub the_room : (i : Item) → item_with_place (listing rows h k) a ≡ Some i
          → list_any has_room (free_among items) ≡ (is_free i && ranges.fits size i.size)
      the_room i e =
          let f = found_item (listing rows h k) a i e in
          let listed = listed_from rows h k i l f.0 in
          elim (cases_Bool (is_free i && ranges.fits size i.size)) [
            | inl on ↦
                let parts = and_parts (is_free i) (ranges.fits size i.size) on in
                room_from i (record { listed = listed; free = parts.0; at = f.1; fits = parts.1 }) ∙ sym on
            | inr off ↦ elim (cases_Bool (list_any has_room (free_among items))) [
              | inr none ↦ none ∙ sym off
              | inl some ↦
                  let r = room_found some in
                  let same : r.0 ≡ i = rising_same place_of items r.0 i rises r.1.listed listed (r.1.at ∙ sym f.1) in
                  let free : is_free i ≡ true = ap is_free (sym same) ∙ r.1.free in
                  let fits : ranges.fits size i.size ≡ true =
                  ap (λ (j : Item). ranges.fits size j.size) (sym same) ∙ r.1.fits in
                  let on : (is_free i && ranges.fits size i.size) ≡ true = rw (free, fits) refl in
                  absurd (both_ways (is_free i && ranges.fits size i.size) off on)
            ]
          ]

-- a place of generation 0 stands in the ephemeral segment
pub young_inside : (h : HeapView) (a : ℕ) → generation (frame h) a ≡ 0 → stands_in (ephemeral (frame h)) a ≡ true
young_inside h a e = elim (cases_Bool (stands_in (ephemeral (frame h)) a)) [
  | inl on ↦ on
  | inr off ↦ let two : generation (frame h) a ≡ 2 = rw off refl in absurd (omega arith)
]

-- ---- what the words of an object spell

-- the object that stands at a place, as it is found and as its words spell it
pub record IsThere (rows : List TypeRow) (h : HeapView) (a : ℕ) (i : Item) : Type 0 where
  pub found : object_at (heap_items rows h) a ≡ Some i
  pub stands : StandsAt rows h a
  pub known : i.type_id.0 ≤ length rows
  pub small : size_of (form_at rows i.type_id.0) i.len ≤ 1073741824
  pub spelled : i ≡ item_at rows (word_of h) a
  pub head : HasItem rows h a

module _ (rows : List TypeRow) (h : HeapView) (heap : IsHeap h) (walkable : AreWalkable rows h) where
  -- no item has more than a GiB
  pub listed_small : (i : Item) → IsIn i (heap_items rows h) → i.size ≤ 1073741824
  listed_small i m =
      let home = listed-in rows h i 0 (length h.segments) m in
      let l : home.0 < length h.segments = let b = home.1 in omega arith in
      let spelled =
      item-spelled (sight rows h home.0) (parts_of rows h home.0) i (first_of h home.0) (last_of h home.0)
      (walkable home.0 l).spelled home.2 in
      let same = ap (λ (x : Item). x.size) spelled.0 in
      let most = spelled.1.most in
      omega (arith, same, most)

  listed_there : (a : ℕ) (i : Item) → IsIn i (heap_items rows h) → is_object i ≡ true → i.place ≡ a → IsThere rows h a i
  listed_there a i m object at =
      let home = listed-in rows h i 0 (length h.segments) m in
      let l : home.0 < length h.segments = let b = home.1 in omega arith in
      let is =
      all_at (IsItem rows (first_of h home.0) (last_of h home.0)) home.2 (listing-are rows h walkable home.0 l) in
      let spelled =
      item-spelled (sight rows h home.0) (parts_of rows h home.0) i (first_of h home.0) (last_of h home.0)
      (walkable home.0 l).spelled home.2 in
      let words = words_of_item rows h home.0 i (walkable home.0 l) (part-among (parts_of rows h home.0) i home.2) in
      let sized = is.sized in
      let same = ap (λ (x : Item). x.size) spelled.0 in
      let most = spelled.1.most in
      let other : nat_eq i.type_id.0 0 ≡ false = grind (arith, nat_tests, object) in
      subst (λ (p : ℕ). IsThere rows h p i) at
      (record {
        found = ap only_object (find_item (heap_items rows h) i i.place (heap-rise rows h walkable heap) m refl)
            ∙ ap (λ (b : Bool). if b then None else Some i) other;
        stands = stands_from rows h i m object;
        known = is.known;
        small = omega (arith, sized, same, most);
        spelled = spelled.0;
        head = record { names = spelled.1; mt = words.0; len = words.1 };
      })

  -- where an object stands there is one
  pub there_stands : (a : ℕ) → stands (heap_items rows h) a ≡ true → (i : Item) × IsThere rows h a i
  there_stands a e =
      let f = found (heap_items rows h) a e in (f.item, listed_there a f.item f.listed f.object f.at)

  -- and it is what is found
  pub there_found : (a : ℕ) (i : Item) → object_at (heap_items rows h) a ≡ Some i → IsThere rows h a i
  there_found a i e =
      let f = there_stands a (stands_found rows h heap walkable a i e) in
      let same : f.0 ≡ i = some-is (sym f.1.found ∙ e) in
      subst (IsThere rows h a) same f.1
    where
      some-is : {x y : Item} → Some x ≡ Some y → x ≡ y
      some-is e = cc
