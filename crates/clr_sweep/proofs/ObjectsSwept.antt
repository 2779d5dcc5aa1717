-- What a sweep leaves of the items of a heap: exactly those that stay, each the same object.
use Rattle.std.proofs.Common.{◌≡◌, ◌≢◌, ℕ, zero, suc, ◌+◌, ◌-◌, ◌%◌, ◌<◌, ◌≤◌, List, [], ◌∷◌, ◌++◌, map, filter, length}
use Rattle.std.proofs.Common.{get_or, refl, sym, ap, ap₂, subst, ◌∙◌, arith, Bool, true, false, if◌then◌else◌}
use Rattle.std.proofs.Common.{nat_lt, None, Some, replicate}
use Rattle.std.proofs.lemmas.Bool.{and_parts, ne_eqb, eqb-true, eq-eqb}
use Rattle.std.proofs.lemmas.List.Elements.{filter-append}
use Rattle.clr_types.specs.Rising.{IsIn}
use Rattle.clr_types.specs.Types.{TypeRow, form_at, slot_offset}
use Rattle.clr_types.specs.Ranges.{Piece}
use Rattle.clr_types.specs.Segments.{same_kind}
use Rattle.clr_types.specs.declared.item.Item.{Item}
use Rattle.clr_types.specs.declared.segment.SegKind.TheVariants.{Ephemeral}
use Rattle.clr_types.proofs.ChangedLists.{into_filter, out_of_filter}
use Rattle.clr_types.proofs.ListMembers.{filter-map, from-map, map-on}
use Rattle.clr_types.proofs.RisingLists.{all_at}
use Rattle.clr_heap.specs.Parts.{free_item, hole_from, item_at, item_part, items_in, Part, rest_part, Sight, Spells}
use Rattle.clr_heap.specs.Parts.{unmarked}
use Rattle.clr_heap.specs.View.{AreWalkable, first_of, heap_items, HeapView, holes_of, IsHeap, last_of, listing}
use Rattle.clr_heap.specs.View.{listings, no_rests, parts_of, segment_at, sight, word_of}
use Rattle.clr_model.specs.Machine.{Object}
use Rattle.clr_view.specs.Marks.{has_mark, IsUnmarked}
use Rattle.clr_view.specs.View.{IsHeld, is_object, has_suppressed_bit, object_in, objects_in, tail_of}
use Rattle.clr_view.proofs.Items.{IsItem}
use Rattle.clr_view.proofs.Listed.{listed-in}
use Rattle.clr_view.proofs.Listings.{listing-are}
use Rattle.clr_view.proofs.Slots.{slot-inside, slot_word, slots-stay}
use Rattle.clr_view.specs.Memory.{is_marked, word_without_mark}
use Rattle.clr_sweep.specs.SweptItems.{gap, HasSweptItems, is_cut, stays, swept_from}
use Rattle.clr_sweep.proofs.Filters.{filter-filter}
use Rattle.clr_sweep.proofs.SectionsSwept.{AreFilled}

-- ---- segments without contexts

no-hole : (p : ℕ) → hole_from no_rests p ≡ None
no-hole p = refl

pub no-holes : (h : HeapView) (k p : ℕ) → h.rests ≡ no_rests → hole_from (holes_of h k) p ≡ None
no-holes h k p none = go (same_kind (segment_at h k).kind Ephemeral)
  where
    go : (b : Bool) → hole_from (if b then h.rests else []) p ≡ None
    go true = ap (λ rs. hole_from rs p) none
    go false = refl

pub filled-parts : (s : Sight) (ps : List Part) (p e : ℕ) → ((q : ℕ) → hole_from s.holes q ≡ None) → Spells s p ps e
    → AreFilled p (items_in ps) e
unfolding item_at
filled-parts s [] p e none h = h
filled-parts s (item_part i ∷ ps) p e none h =
    let least = h.2.least in
    let size : i.size ≡ (item_at s.rows s.word p).size = ap (λ (j : Item). j.size) h.1 in
    (ap (λ (j : Item). j.place) h.1, omega arith, filled-parts s ps (p + i.size) e none h.3)
filled-parts s (rest_part low high ∷ ps) p e none h = let hole = h.1 in let no_hole = none p in absurd cc

-- without contexts, the items of a segment fill it
pub listing-filled : (rows : List TypeRow) (h : HeapView) → IsHeld rows h → h.rests ≡ no_rests → (k : ℕ)
    → k < length h.segments → AreFilled (first_of h k) (listing rows h k) (last_of h k)
listing-filled rows h held none k l = filled-parts (sight rows h k) (parts_of rows h k) (first_of h k) (last_of h k)
    (λ q. no-holes h k q none) (held.walkable k l).spelled

-- ---- what stays of items

module _ (keep : Item → Bool) (cut : ℕ → Bool) (objects : (i : Item) → keep i ≡ true → is_object i ≡ true) where
  no-object-gap : (a p : ℕ) → filter is_object (gap a p) ≡ []
  no-object-gap a p = go (nat_lt a p)
    where
      go : (b : Bool) → filter is_object (if b then free_item a (p - a) ∷ [] else []) ≡ []
      go true = refl
      go false = refl

  -- the objects that a sweep leaves are those that stay
  pub swept-objects : (pending : List Item) (a p : ℕ) (is : List Item) → filter is_object pending ≡ []
      → filter is_object (swept_from keep cut pending a p is) ≡ filter keep is
  swept-objects pending a p [] none = refl
  swept-objects pending a p (i ∷ is) none =
      go (keep i) (cut (p + i.size)) refl (swept-objects [] (p + i.size) (p + i.size) is refl)
      (swept-objects (pending ++ gap a (p + i.size)) (p + i.size) (p + i.size) is more)
      (swept-objects pending a (p + i.size) is none)
    where
      more : filter is_object (pending ++ gap a (p + i.size)) ≡ []
      more = filter-append is_object pending (gap a (p + i.size))
          ∙ ap₂ (λ (xs ys : List Item). xs ++ ys) none (no-object-gap a (p + i.size))

      go : (b c : Bool) → keep i ≡ b
          → filter is_object (swept_from keep cut [] (p + i.size) (p + i.size) is) ≡ filter keep is
          → filter is_object (swept_from keep cut (pending ++ gap a (p + i.size)) (p + i.size) (p + i.size) is)
          ≡ filter keep is
          → filter is_object (swept_from keep cut pending a (p + i.size) is) ≡ filter keep is
          → filter is_object (if b then pending ++ (gap a p ++ i ∷ swept_from keep cut [] (p + i.size) (p + i.size) is)
          else (if c then swept_from keep cut (pending ++ gap a (p + i.size)) (p + i.size) (p + i.size) is
          else swept_from keep cut pending a (p + i.size) is))
          ≡ (if b then i ∷ filter keep is else filter keep is)
      go true c stays e f g =
          let object = objects i stays in
          let rest = swept_from keep cut [] (p + i.size) (p + i.size) is in
          filter-append is_object pending (gap a p ++ i ∷ rest)
          ∙ ap₂ (λ (xs ys : List Item). xs ++ ys) none
          (filter-append is_object (gap a p) (i ∷ rest) ∙ ap₂ (λ (xs ys : List Item). xs ++ ys) (no-object-gap a p)
          (ap (λ b. if b then i ∷ filter is_object rest else filter is_object rest) object ∙ ap (λ xs. i ∷ xs) e))
      go false true stays e f g = f
      go false false stays e f g = g

pub stays-object : (word : ℕ → ℕ) (i : Item) → stays word i ≡ true → is_object i ≡ true
stays-object word i e = (and_parts (is_object i) (has_mark (word i.place)) e).0

-- ---- the words of what stays

-- words that differ in the mark alone hold the same object
pub object-kept : (rows : List TypeRow) (old new : ℕ → ℕ) (low high : ℕ) (i : Item) → 8 ≤ low → IsItem rows low high i
    → ((b : ℕ) → b % 8 ≡ 0 → i.place ≤ b + 8 → b + 8 < i.place + i.size → b ≢ i.place → new b ≡ old b)
    → object_in rows new i ≡ object_in rows old i
object-kept rows old new low high i up is other =
    let form = form_at rows i.type_id.0 in
    let z = is.aligned in
    let above = is.above in
    let least = is.least in
    let sized = is.sized in
    let header : new (i.place - 8) ≡ old (i.place - 8) = other (i.place - 8) (omega arith) (omega arith) (omega arith)
    (λ e. omega arith) in
    let slots = slots-stay form old new i.place i.len (λ j l.
    let at = slot-inside form i.len i.place j z l in
    let high' = at.below in
    let low' = at.above in
    other (slot_word form (i.place + slot_offset form j)) at.aligned (omega arith) (omega arith) (λ e. omega arith)) in
    λ k. record (object_in rows old i) { slots = slots k; suppressed = has_suppressed_bit (header k) }

-- away from where an object stands no word lost a mark
pub mark-elsewhere : (h : HeapView) (i : Item) (b : ℕ) → b ≢ i.place → word_without_mark h i b ≡ word_of h b
mark-elsewhere h i b ne = ap (λ t. if t then unmarked (word_of h b) else word_of h b) (ne_eqb b i.place ne)

-- a walkable heap without contexts holds its objects, where generation 0 begins at the tail or below
pub held_without : (rows : List TypeRow) (h : HeapView) → AreWalkable rows h → h.rests ≡ no_rests → h.start0 ≤ tail_of h
    → IsHeld rows h
held_without rows h walkable none young = record {
  walkable = walkable;
  contexts = λ i r e. absurd (no-rest i r e);
  apart = λ i j r q e f same. absurd (no-rest i r e);
  young = young;
}
  where
    none-at : (n i : ℕ) (r : Piece) → get_or (replicate n None) i None ≡ Some r → ⊥
    none-at zero i r e = absurd cc
    none-at (suc n) zero r e = absurd cc
    none-at (suc n) (suc i) r e = none-at n i r e

    no-rest : (i : ℕ) (r : Piece) → get_or h.rests i None ≡ Some r → ⊥
    no-rest i r e = none-at 16 i r (ap (λ rs. get_or rs i None) (sym none) ∙ e)

-- ---- a heap

module _ (rows : List TypeRow) (old new : HeapView) (s : HasSweptItems rows old new) (heap : IsHeap old)
    (held : IsHeld rows old) where
  abbrev keep : Item → Bool
  keep = stays (word_of old)

  objects-left : (i n : ℕ) → i + n ≤ length old.segments → filter is_object (listings rows new i n)
      ≡ filter keep (listings rows old i n)
  objects-left i zero l = refl
  objects-left i (suc n) l =
      filter-append is_object (listing rows new i) (listings rows new (i + 1) n)
      ∙ ap₂ (λ (xs ys : List Item). xs ++ ys)
      (ap (filter is_object) (s.items i (omega arith)) ∙ swept-objects keep (is_cut old) (stays-object (word_of old)) []
      (first_of old i) (first_of old i) (listing rows old i) refl)
      (objects-left (i + 1) n (omega arith))
      ∙ sym (filter-append keep (listing rows old i) (listings rows old (i + 1) n))

  -- the items that aren't free are those that stay
  pub items_left : filter is_object (heap_items rows new) ≡ filter keep (heap_items rows old)
  items_left = ap (λ n. filter is_object (listings rows new 0 n)) s.count
      ∙ objects-left 0 (length old.segments) (omega arith)

  -- so each of them is one that stays
  pub left-stays : (i : Item) → IsIn i (heap_items rows new) → is_object i ≡ true → (keep i ≡ true)
      × IsIn i (heap_items rows old)
  left-stays i l object =
      out_of_filter keep i (heap_items rows old)
      (subst (IsIn i) items_left (into_filter is_object (heap_items rows new) object l))

  pub swept_cells : (i : Item) (b : ℕ) → IsIn i (heap_items rows new) → is_object i ≡ true → b % 8 ≡ 0 → i.place ≤ b + 8
      → b + 8 < i.place + i.size → word_of new b ≡ word_without_mark old i b
  swept_cells i b l object z low high = let (on, there) = left-stays i l object in s.cells i b there on z low high

  -- where an item of the old heap stands
  standing : (i : Item) → IsIn i (heap_items rows old) → (low : ℕ) × (high : ℕ) × (4096 ≤ low) × IsItem rows low high i
  standing i l =
      let (k, below, there) = listed-in rows old i 0 (length old.segments) l in
      let inside : k < length old.segments = omega arith in (
        first_of old k,
        last_of old k,
        omega arith,
        all_at (IsItem rows (first_of old k) (last_of old k)) there
            (listing-are rows old held.walkable k inside),
      )

  same_object : (i : Item) → IsIn i (filter keep (heap_items rows old)) → object_in rows (word_of new) i
      ≡ object_in rows (word_of old) i
  same_object i m =
      let (on, l) = out_of_filter keep i (heap_items rows old) m in
      let (low, high, up, is) = standing i l in
      object-kept rows (word_of old) (word_of new) low high i (omega arith) is (λ b z a c ne. s.cells i b l on z a c
      ∙ mark-elsewhere old i b ne)

  -- EXACTLY THE MARKED OBJECTS STAY
  pub swept_objects : objects_in rows new ≡ filter (is_marked old) (objects_in rows old)
  swept_objects =
      ap (map (object_in rows (word_of new))) items_left
      ∙ map-on (object_in rows (word_of new)) (object_in rows (word_of old)) (filter keep (heap_items rows old))
      same_object
      ∙ ap (map (object_in rows (word_of old)))
      (sym (filter-filter is_object (λ i. has_mark (word_of old i.place))
      (heap_items rows old)))
      ∙ sym (filter-map (object_in rows (word_of old)) (is_marked old) (filter is_object (heap_items rows old)))

  -- and no mark is left
  pub swept_unmarked : IsUnmarked rows new
  swept_unmarked x marked =
      let (o, m, at) = marked.stands in
      let (i, is, there) = from-map (object_in rows (word_of new)) o (filter is_object (heap_items rows new)) m in
      let (object, l) = out_of_filter is_object i (heap_items rows new) there in
      let (on, before) = left-stays i l object in
      let (low, high, up, item) = standing i before in
      let least = item.least in
      let place : i.place ≡ x = sym (ap (λ (o : Object). o.place) is) ∙ at in
      let word : word_of new i.place ≡ unmarked (word_of old i.place) =
      s.cells i i.place before on item.aligned (omega arith) (omega arith)
      ∙ ap (λ t. if t then unmarked (word_of old i.place) else word_of old i.place) (eq-eqb i.place i.place refl) in
      let mark : has_mark (word_of new i.place) ≡ true = subst (λ n. has_mark (word_of new n) ≡ true) (sym place)
      marked.mark in
      let odd : word_of new i.place % 2 ≡ 1 = eqb-true (word_of new i.place % 2) 1 mark in
      omega arith

  -- ---- what holds of the whole

  pub swept_limit : new.limit ≡ old.limit
  swept_limit = ap (λ (h : HeapView). h.limit) s.others

  pub swept_rests : new.rests ≡ old.rests
  swept_rests = ap (λ (h : HeapView). h.rests) s.others

  pub swept_held : old.rests ≡ no_rests → IsHeld rows new
  swept_held none = held_without rows new s.walkable (swept_rests ∙ none) (let start = s.start0 in omega arith)
