-- The front of a free item becomes a copy of an object, without its mark: what the heap holds then.
use Rattle.std.proofs.Common.{◌≡◌, ◌⊎◌, inl, inr, ℕ, ◌+◌, ◌-◌, ◌%◌, ◌<◌, ◌≤◌, true, false, Bool, List, [], ◌∷◌, ◌++◌}
use Rattle.std.proofs.Common.{refl, ap, sym, ◌∙◌, subst, arith, filter, map, if◌then◌else◌, ◌==◌, None}
use Rattle.std.proofs.lemmas.Bool.{cases_eq, eq-eqb, ne_eqb}
use Rattle.clr_types.specs.Bits.{has_mark}
use Rattle.clr_types.specs.Rising.{IsIn, IsRisingBy}
use Rattle.clr_types.specs.Types.{TypeRow}
use Rattle.clr_types.specs.Ranges.{fits, Piece}
use Rattle.clr_types.specs.declared.item.Item.{Item}
use Rattle.clr_types.proofs.ChangedLists.{into_filter, out_of_filter}
use Rattle.clr_types.proofs.ListMembers.{filter-rises, from-map}
use Rattle.clr_types.proofs.RisingLists.{in_cons}
use Rattle.clr_heap.specs.Parts.{free_item, hole_from, item_at, item_part, item_piece, items_in, NamesItem, Part}
use Rattle.clr_heap.specs.Parts.{Spells, unmarked}
use Rattle.clr_heap.specs.View.{heap_items, HeapView, holes_of, IsHeap, no_rests, sight, word_of}
use Rattle.clr_heap.proofs.Spelling.{AgreesAt, item_at-agrees, NamesItem-agrees, Spells-append}
use Rattle.clr_heap.proofs.Swaps.{free_parts, left_spelled}
use Rattle.clr_model.specs.Allocation.{taken_from}
use Rattle.clr_model.specs.Machine.{Object}
use Rattle.clr_view.specs.View.{free_among, free_in, is_free, IsHeld, is_object, object_in, objects_among}
use Rattle.clr_view.proofs.Bearing.{fits-is}
use Rattle.clr_view.proofs.Carving.{left_free, left_objects}
use Rattle.clr_view.proofs.Items.{IsItem}
use Rattle.clr_view.proofs.Listed.{listed-above, listed-item, listed-spelled}
use Rattle.clr_view.proofs.Listings.{heap-rise}
use Rattle.clr_sweep.proofs.LayoutSwept.{free-rise}
use Rattle.clr_sweep.proofs.PassEnds.{none_starts}
use Rattle.clr_items.proofs.Lists.{apart_around, taken-between}
use Rattle.clr_compact.proofs.MovedObjects.{object_moved}
use Rattle.clr_compact.proofs.Respelled.{item_moved, names_moved}
use Rattle.clr_evacuate.specs.Carried.{HasCopied}
use Rattle.clr_evacuate.proofs.Copying.{not_free, stands_below}
use Rattle.clr_evacuate.proofs.Replacing.{free_above, free_after, free_before, free_below, most_size, Replaces}
use Rattle.clr_evacuate.proofs.Replacing.{whole_size}

-- an object, and a free item below it in which its size fits, where no thread has a context
pub record Carries (rows : List TypeRow) (h : HeapView) (i x : Item) : Type 0 where
  pub heap : IsHeap h
  pub held : IsHeld rows h
  pub none : h.rests ≡ no_rests
  pub listed : IsIn i (heap_items rows h)
  pub object : is_object i ≡ true
  pub there : IsIn x (heap_items rows h)
  pub free : is_free x ≡ true
  pub lower : x.place < i.place
  pub within : fits i.size x.size ≡ true

module _ (rows : List TypeRow) (h mid : HeapView) (i x : Item) (f : Carries rows h i x)
    (c : HasCopied h mid i (item_piece x)) where
  open f use {heap, held, listed, lower, there}

  abbrev low : ℕ
  low = x.place

  abbrev between : ℕ
  between = x.place + i.size

  abbrev high : ℕ
  high = x.place + x.size

  -- the copy
  abbrev pub copy : Item
  copy = record i { place = x.place }

  abbrev ls : List Part
  ls = free_parts between high

  abbrev pub copied_parts : List Part
  copied_parts = item_part copy ∷ ls

  cuts : (between ≡ high) ⊎ (between + 24 ≤ high)
  cuts = elim (fits-is i.size x.size f.within) [ inl l ↦ inl (omega arith) | inr l ↦ inr (omega arith) ]

  is_i : IsItem rows i.place (i.place + i.size) i
  is_i = listed-item rows h i heap held listed

  is_x : IsItem rows x.place (x.place + x.size) x
  is_x = listed-item rows h x heap held there

  -- ---- what the words of the copy spell

  -- the words of the old heap, in which the object isn't marked
  abbrev was : ℕ → ℕ
  was b = if b == i.place then unmarked (word_of h b) else word_of h b

  was_mt : was i.place ≡ unmarked (word_of h i.place)
  was_mt = let hit = eq-eqb i.place i.place refl in rw hit refl

  was_len : was (i.place + 8) ≡ word_of h (i.place + 8)
  was_len = let miss = ne_eqb (i.place + 8) i.place (λ e. omega arith) in rw miss refl

  twice : (w : ℕ) → unmarked (unmarked w) ≡ unmarked w
  twice w = omega arith

  agrees : AgreesAt rows (word_of h) was i.place
  agrees = record { mt = ap unmarked was_mt ∙ twice (word_of h i.place); len = λ _. was_len }

  mt_now : word_of mid x.place ≡ was i.place
  mt_now = c.mt ∙ sym was_mt

  len_now : word_of mid (x.place + 8) ≡ was (i.place + 8)
  len_now =
      let z = is_x.aligned in
      let least = is_i.least in
      let at : x.place + 8 + (i.place - x.place) ≡ i.place + 8 = omega (arith, lower) in
      c.cells (x.place + 8) (omega (arith, z)) (omega arith) (omega (arith, least)) (λ e. omega arith)
      ∙ ap (word_of h) at ∙ sym was_len

  item_was : item_at rows was i.place ≡ i
  item_was = item_at-agrees rows (word_of h) was i.place agrees ∙ sym (listed-spelled rows h i heap held listed).0

  copy_is : copy ≡ item_at rows (word_of mid) x.place
  copy_is = sym (item_moved rows was (word_of mid) x.place i.place mt_now len_now
      ∙ ap (λ (j : Item). record j { place = x.place }) item_was)

  copy_names : NamesItem rows (word_of mid) x.place
  copy_names = names_moved rows was (word_of mid) x.place i.place mt_now len_now
      (NamesItem-agrees rows (word_of h) was i.place agrees (listed-spelled rows h i heap held listed).1)

  no_hole : (k q : ℕ) → hole_from (holes_of mid k) q ≡ None
  no_hole k q = none_starts mid k q (ap (λ (g : HeapView). g.rests) c.shape.others ∙ f.none)

  spelled : (k : ℕ) → Spells (sight rows mid k) low copied_parts high
  spelled k =
      let z = is_x.aligned in
      let wi = whole_size rows h i heap held listed in
      let wx = whole_size rows h x heap held there in
      let most = most_size rows h x heap held there in
      Spells-append (sight rows mid k) (item_part copy ∷ []) ls low between high
      (no_hole k low, copy_is, copy_names, refl)
      (left_spelled rows mid k between high cuts (omega (arith, z, wi)) (omega (arith, z, wx)) (omega (arith, most))
      (λ more. no_hole k between)
      (λ more.
      let left = c.left (omega (arith, more)) in
      let count : x.size - i.size - 24 ≡ high - between - 24 = omega (arith, more) in
      (left.0.1, left.1 ∙ count)))

  pub copied_replaces : Replaces rows h mid x copied_parts
  copied_replaces = record {
    heap = heap;
    held = held;
    none = f.none;
    listed = there;
    shape = c.shape;
    spelled = spelled;
    words = c.others;
  }

  -- ---- the copy

  pub copied_apart : high ≤ i.place
  copied_apart = stands_below rows h heap held x i there listed lower

  copy_item : IsItem rows x.place (x.place + i.size) copy
  copy_item = record {
    aligned = is_x.aligned;
    above = omega arith;
    below = omega arith;
    least = is_i.least;
    known = is_i.known;
    sized = is_i.sized;
    whole = is_i.whole;
  }

  pub copied_item : IsItem rows x.place (x.place + copy.size) copy
  copied_item = copy_item

  pub copied_object : object_in rows (word_of mid) copy
      ≡ record (object_in rows (word_of h) i) { name = x.place; place = x.place }
  copied_object =
      let d = i.place - x.place in
      let zx = is_x.aligned in
      let zi = is_i.aligned in
      let up : 8 ≤ x.place = listed_up in
      let to : i.place ≡ x.place + d = omega (arith, lower) in
      object_moved rows (word_of h) (word_of mid) d x.place x.place (x.place + i.size) i (omega (arith, zx, zi, lower))
      (sym to) up copy_item (λ b z lo hi. elim (cases_eq b x.place) [
        | inl same ↦
            let hit = eq-eqb b x.place same in
            let at : i.place ≡ b + d = to ∙ ap (λ n. n + d) (sym same) in
            rw hit (ap (word_of mid) same ∙ c.mt ∙ ap (λ n. unmarked (word_of h n)) at)
        | inr other ↦ let miss = ne_eqb b x.place other in rw miss (c.cells b z lo hi other)
      ])
    where
      listed_up : 8 ≤ x.place
      listed_up = listed-above rows h x heap held there

  pub copied_is_object : is_object copy ≡ true
  copied_is_object = f.object

  left_none : filter is_object (items_in ls) ≡ []
  left_none = left_objects between high

  -- what is left of the item is no object
  pub copied_only : (j : Item) → IsIn j (items_in copied_parts) → is_object j ≡ true → j ≡ copy
  copied_only j here object = elim (in_cons here) [
    | inl it ↦ it
    | inr left ↦
        let none = subst (IsIn j) left_none (into_filter is_object (items_in ls) object left) in
        absurd (elim none [ ])
  ]

  pub copied_one : (o : Object) → IsIn o (objects_among rows (word_of mid) (items_in copied_parts))
      → o ≡ object_in rows (word_of mid) copy
  copied_one o here =
      let (j, same, among) =
      from-map (object_in rows (word_of mid)) o (filter is_object (items_in copied_parts)) here in
      let (object, there) = out_of_filter is_object j (items_in copied_parts) among in
      same ∙ ap (object_in rows (word_of mid)) (copied_only j there object)

  -- and has its place behind the copy, where there is something left
  pub left_at : (j : Item) → IsIn j (items_in ls) → (j.place ≡ between) × (i.size + 24 ≤ x.size)
  left_at j left = elim cuts [
    | inl all ↦
        let hit = eq-eqb between high all in
        let none : IsIn j (items_in (if true then [] else item_part (free_item between (high - between)) ∷ [])) =
        subst (λ (t : Bool). IsIn j (items_in (if t then [] else item_part (free_item between (high - between)) ∷ [])))
        hit left in
        absurd (elim none [ ])
    | inr more ↦
        let miss = ne_eqb between high (λ e. omega (arith, e, more)) in
        let one : IsIn j (free_item between (high - between) ∷ []) =
        subst (λ (t : Bool). IsIn j (items_in (if t then [] else item_part (free_item between (high - between)) ∷ [])))
        miss left in
        elim (in_cons one) [
          | inl is ↦ (ap (λ (k : Item). k.place) is, omega (arith, more))
          | inr none ↦ absurd (elim none [ ])
        ]
  ]

  -- ---- the free items

  abbrev fs : List Piece
  fs = free_below rows h mid x copied_parts copied_replaces

  abbrev bs : List Piece
  bs = free_above rows h mid x copied_parts copied_replaces

  was_free : free_in rows h ≡ fs ++ item_piece x ∷ bs
  was_free =
      let free = f.free in
      let one : free_among (x ∷ []) ≡ item_piece x ∷ [] = rw free refl in
      free_before rows h mid x copied_parts copied_replaces ∙ ap (λ (ps : List Piece). fs ++ (ps ++ bs)) one

  left_range : free_among (items_in copied_parts) ≡ free_among (items_in ls)
  left_range =
      ap (λ (b : Bool). map item_piece
      (if b then copy ∷ filter is_free (items_in ls) else filter is_free (items_in ls)))
      (not_free copy f.object)

  rising : IsRisingBy (λ (p : Piece). p.place) (fs ++ item_piece x ∷ bs)
  rising = subst (IsRisingBy (λ (p : Piece). p.place)) was_free
      (free-rise (filter is_free (heap_items rows h))
      (filter-rises is_free (λ (j : Item). j.place) (heap_items rows h) (heap-rise rows h held.walkable heap)))

  pub copied_free : free_in rows mid ≡ taken_from x.place i.size (free_in rows h)
  copied_free =
      free_after rows h mid x copied_parts copied_replaces
      ∙ ap (λ (ps : List Piece). fs ++ (ps ++ bs)) (left_range ∙ left_free between high cuts)
      ∙ sym (taken-between fs (item_piece x) bs i.size (apart_around fs (item_piece x) bs rising))
      ∙ ap (taken_from x.place i.size) (sym was_free)

  -- ---- the mark

  pub copied_unmarked : has_mark (word_of mid x.place) ≡ false
  copied_unmarked = ap has_mark c.mt ∙ even (word_of h i.place)
    where
      even : (w : ℕ) → has_mark (unmarked w) ≡ false
      even w = ne_eqb (unmarked w % 2) 1 (λ e. omega arith)
