-- An object's cells are copied to the front of a free item: what may be written, and what the words are then.
use Rattle.std.proofs.Common.{◌≡◌, ◌≢◌, ◌⊎◌, inl, inr, ℕ, ◌+◌, ◌-◌, ◌%◌, ◌<◌, ◌≤◌, true, false, not, Bool, List, []}
use Rattle.std.proofs.Common.{refl, ap, sym, ◌∙◌, subst, arith, filter}
use Rattle.std.proofs.lemmas.Bool.{true≢false}
use Rattle.clr_types.specs.Rising.{IsIn}
use Rattle.clr_types.specs.Types.{TypeRow}
use Rattle.clr_types.specs.Ranges.{Piece, piece_end}
use Rattle.clr_types.specs.declared.item.Item.{Item}
use Rattle.clr_types.proofs.ChangedLists.{out_of_filter}
use Rattle.clr_types.proofs.ListMembers.{from-map}
use Rattle.clr_heap.specs.Memories.{HasWord, InOne, moves}
use Rattle.clr_heap.specs.Parts.{item_piece, unmarked}
use Rattle.clr_heap.specs.View.{freed, HasHead, heap_items, HeapView, IsHeap, SameShape, stored, word_of}
use Rattle.clr_heap.proofs.Addresses.{InOne-shapes}
use Rattle.clr_heap.proofs.Framing.{SameShape-trans}
use Rattle.clr_heap.proofs.Placing.{placed_leaves}
use Rattle.clr_heap.proofs.Rewrite.{SameShape-refl, SameShape-stored}
use Rattle.clr_heap.proofs.Storing.{HasWord-shapes, word_in-store_in_other, word_in-store_in_same}
use Rattle.clr_view.specs.View.{free_in, is_free, IsHeld, is_object}
use Rattle.clr_view.proofs.Bearing.{fits-is}
use Rattle.clr_view.proofs.Carving.{carved, CarvedWords, Carves}
use Rattle.clr_view.proofs.Items.{stacked-apart}
use Rattle.clr_view.proofs.Listed.{listed-above, listed-item}
use Rattle.clr_view.proofs.Listings.{heap-stacked}
use Rattle.clr_compact.proofs.Landing.{moves_inside, moves_outside}
use Rattle.clr_evacuate.specs.Carried.{CanCarry, HasCopied, HasVacated}
use Rattle.clr_evacuate.proofs.Replacing.{cells_in, head_in, whole_size}

-- a free range is a free item of the heap
pub record IsFreeItem (rows : List TypeRow) (h : HeapView) (p : Piece) (x : Item) : Type 0 where
  pub is : p ≡ item_piece x
  pub free : is_free x ≡ true
  pub listed : IsIn x (heap_items rows h)

pub free_item_of : (rows : List TypeRow) (h : HeapView) (p : Piece) → IsIn p (free_in rows h)
    → (x : Item) × IsFreeItem rows h p x
free_item_of rows h p there =
    let (x, is, among) = from-map item_piece p (filter is_free (heap_items rows h)) there in
    let (free, listed) = out_of_filter is_free x (heap_items rows h) among in
    (x, record { is = is; free = free; listed = listed })

-- an object isn't free
pub not_free : (i : Item) → is_object i ≡ true → is_free i ≡ false
not_free i object = go (is_free i) object
  where
    go : (b : Bool) → not b ≡ true → b ≡ false
    go true e = absurd (true≢false (sym e))
    go false e = refl

-- two items of the heap, the lower of which is free and the higher is an object, stand apart
pub stands_below : (rows : List TypeRow) (h : HeapView) → IsHeap h → IsHeld rows h → (x i : Item)
    → IsIn x (heap_items rows h) → IsIn i (heap_items rows h) → x.place < i.place → x.place + x.size ≤ i.place
stands_below rows h heap held x i there listed lower =
    let least = (listed-item rows h i heap held listed).least in
    elim (stacked-apart (heap_items rows h) x i (heap-stacked rows h held.walkable heap) there listed
    (λ e. omega arith)) [ inl under ↦ under | inr over ↦ absurd (omega arith) ]

module _ (rows : List TypeRow) (h : HeapView) (i : Item) (item : Piece) (heap : IsHeap h) (held : IsHeld rows h)
    (asked : CanCarry rows h i item) where
  open asked use {listed, lower, within}

  abbrev x : Item
  x = (free_item_of rows h item asked.free).0

  is_x : IsFreeItem rows h item x
  is_x = (free_item_of rows h item asked.free).1

  place_is : item.place ≡ x.place
  place_is = ap (λ (p : Piece). p.place) is_x.is

  size_is : item.size ≡ x.size
  size_is = ap (λ (p : Piece). p.size) is_x.is

  pub carried_cut : (i.size ≡ item.size) ⊎ (i.size + 24 ≤ item.size)
  carried_cut = fits-is i.size item.size within

  pub carried_within : i.size ≤ item.size
  carried_within = elim carried_cut [ inl l ↦ omega arith | inr l ↦ omega arith ]

  pub rest_least : i.size < item.size → i.size + 24 ≤ item.size
  rest_least less = elim carried_cut [ inl l ↦ absurd (omega arith) | inr l ↦ l ]

  pub from_above : 8 ≤ i.place
  from_above = listed-above rows h i heap held listed

  pub to_above : 8 ≤ item.place
  to_above = let up = listed-above rows h x heap held is_x.listed in let at = place_is in omega (arith, up, at)

  to_aligned : item.place % 8 ≡ 0
  to_aligned = let z = (listed-item rows h x heap held is_x.listed).aligned in let at = place_is in
      omega (arith, z, at)

  from_aligned : i.place % 8 ≡ 0
  from_aligned = (listed-item rows h i heap held listed).aligned

  least : 24 ≤ i.size
  least = (listed-item rows h i heap held listed).least

  whole : i.size % 8 ≡ 0
  whole = whole_size rows h i heap held listed

  pub rest_head : i.size < item.size → HasHead h (item.place + i.size)
  rest_head less =
      let more = rest_least less in
      let at = place_is in
      let size = size_is in
      let z = to_aligned in
      let w = whole in
      head_in rows h x heap held is_x.listed (item.place + i.size) (omega (arith, at)) (omega (arith, z, w))
      (omega (arith, at, size, more))

  pub carried_head : HasHead h i.place
  carried_head = let n = least in
      head_in rows h i heap held listed i.place (omega arith) from_aligned (omega (arith, n))

  pub carried_least : 24 ≤ i.size
  carried_least = least

  pub cells_from : (now : HeapView) → SameShape h now → InOne now.memories (i.place - 8) i.size
  cells_from now shape =
      let n = least in
      InOne-shapes h.memories now.memories (i.place - 8) i.size shape.memories
      (cells_in rows h i heap held listed i.size whole (omega (arith, n)) (omega arith))

  pub cells_to : (now : HeapView) → SameShape h now → InOne now.memories (item.place - 8) i.size
  cells_to now shape =
      let n = least in
      let fit = carried_within in
      let size = size_is in
      InOne-shapes h.memories now.memories (item.place - 8) i.size shape.memories
      (subst (λ a. InOne h.memories (a - 8) i.size) (sym place_is)
      (cells_in rows h x heap held is_x.listed i.size whole (omega (arith, n)) (omega (arith, fit, size))))

  pub word_to : (now : HeapView) → SameShape h now → HasWord now.memories item.place
  word_to now shape =
      let n = least in
      let fit = carried_within in
      let size = size_is in
      let z = (listed-item rows h x heap held is_x.listed).aligned in
      HasWord-shapes h.memories now.memories item.place shape.memories
      (subst (HasWord h.memories) (sym place_is)
      (head_in rows h x heap held is_x.listed x.place (omega arith) z (omega (arith, n, fit, size))).mt)

  pub carried_apart : piece_end item ≤ i.place
  carried_apart =
      let at = place_is in
      let size = size_is in
      let apart = stands_below rows h heap held x i is_x.listed listed (omega (arith, lower, at)) in
      omega (arith, at, size, apart)

  pub rest_shape : (rest : HeapView) → Carves h item i.size rest → SameShape h rest
  rest_shape rest carves = (carved h item i.size rest carried_cut rest_head carves).shape

  -- THE WORDS of a copy
  module _ (rest moved : HeapView) (carves : Carves h item i.size rest) (shape : SameShape rest moved)
      (words : (b : ℕ) → b % 8 ≡ 0
      → word_of moved b ≡ moves (i.place - 8) (item.place - 8) i.size (word_of rest) b) where
    c : CarvedWords h item i.size rest
    c = carved h item i.size rest carried_cut rest_head carves

    pub to_moved : SameShape h moved
    to_moved = SameShape-trans h rest moved c.shape shape

    abbrev v : ℕ
    v = unmarked (word_of moved item.place)

    abbrev new : HeapView
    new = stored moved item.place v

    in_range : HasWord moved.memories item.place
    in_range = word_to moved to_moved

    stays : (b : ℕ) → b % 8 ≡ 0 → b ≢ item.place → word_of new b ≡ word_of moved b
    stays b z ne = word_in-store_in_other moved.memories item.place v b to_aligned z ne

    inside : (b : ℕ) → b % 8 ≡ 0 → item.place ≤ b + 8 → b + 8 < item.place + i.size
        → word_of moved b ≡ word_of h (b + (i.place - item.place))
    inside b z lo hi =
        let up = to_above in
        let apart = carried_apart in
        let zi = from_aligned in
        let zt = to_aligned in
        let at : i.place - 8 + (b - (item.place - 8)) ≡ b + (i.place - item.place) = omega (arith, up, lo, lower) in
        words b z
        ∙ moves_inside (i.place - 8) (item.place - 8) i.size (word_of rest) b (omega (arith, lo))
        (omega (arith, hi, up))
        ∙ ap (word_of rest) at
        ∙ c.words (b + (i.place - item.place)) (omega (arith, z, zi, zt, lower))
        (inr (omega (arith, apart, lower, lo)))

    outside : (b : ℕ) → b % 8 ≡ 0 → (b + 8 < item.place) ⊎ (item.place + i.size ≤ b + 8)
        → word_of new b ≡ word_of rest b
    outside b z out =
        let up = to_above in
        let n = least in
        stays b z (λ e. elim out [ inl under ↦ omega (arith, under, e) | inr over ↦ omega (arith, over, e, n) ])
        ∙ words b z
        ∙ moves_outside (i.place - 8) (item.place - 8) i.size (word_of rest) b
        (elim out [ inl under ↦ inl (omega (arith, under, up)) | inr over ↦ inr (omega (arith, over, up)) ])

    copied_now : HasCopied h new i item
    copied_now =
        let n = least in
        let w = whole in
        let zt = to_aligned in
        let up = to_above in
        let fit = carried_within in
        record {
          shape = SameShape-trans h moved new to_moved
              (SameShape-stored moved moved item.place v (SameShape-refl moved));
          cells = λ b z lo hi ne. stays b z ne ∙ inside b z lo hi;
          mt = word_in-store_in_same moved.memories item.place v in_range.inside
              ∙ ap unmarked (inside item.place zt (omega arith) (omega (arith, n))
              ∙ ap (word_of h) (omega (arith, lower)));
          left = λ some.
              let more = rest_least (omega (arith, some)) in
              let head = c.head more in (
                (
                  outside (item.place + i.size - 8) (omega (arith, zt, w, n)) (inr (omega (arith, n))) ∙ c.header more,
                  outside (item.place + i.size) (omega (arith, zt, w)) (inr (omega arith)) ∙ head.0,
                ),
                outside (item.place + i.size + 8) (omega (arith, zt, w)) (inr (omega arith)) ∙ head.1,
              );
          others = λ b z out.
              outside b z (elim out [ inl under ↦ inl under | inr over ↦ inr (omega (arith, over, fit)) ])
              ∙ c.words b z (elim out [ inl under ↦ inl (omega (arith, under)) | inr over ↦ inr over ]);
        }

    pub copied : (now : HeapView) → now ≡ new → HasCopied h now i item
    copied now is = subst (λ g. HasCopied h g i item) (sym is) copied_now

-- ---- what is vacated

-- a head that can be written can be so where the memories have other words
pub head_kept : (h now : HeapView) (a : ℕ) → SameShape h now → HasHead h a → HasHead now a
head_kept h now a shape g = record {
  above = g.above;
  header = HasWord-shapes h.memories now.memories (a - 8) shape.memories g.header;
  mt = HasWord-shapes h.memories now.memories a shape.memories g.mt;
  len = HasWord-shapes h.memories now.memories (a + 8) shape.memories g.len;
}

-- THE WORDS of what is vacated
module _ (h : HeapView) (i : Item) (to : ℕ) (head : HasHead h i.place) (least : 24 ≤ i.size) where
  abbrev free : HeapView
  free = freed h i.place i.size

  vacated_now : HasVacated h (stored free (i.place - 8) to) i to
  vacated_now =
      let p = placed_leaves [] h i.place 0 (i.size - 24) head in
      let up = head.above in
      let zh = head.header.aligned in
      let zm = head.mt.aligned in
      let zl = head.len.aligned in
      let inside = (HasWord-shapes h.memories free.memories (i.place - 8) p.shape.memories head.header).inside in
      record {
        shape = SameShape-stored h free (i.place - 8) to p.shape;
        header = word_in-store_in_same free.memories (i.place - 8) to inside;
        mt = word_in-store_in_other free.memories (i.place - 8) to i.place zh zm (λ e. omega (arith, e, up)) ∙ p.mt;
        len = word_in-store_in_other free.memories (i.place - 8) to (i.place + 8) zh zl (λ e. omega (arith, e, up))
            ∙ p.len refl;
        others = λ b z e1 e2 e3. word_in-store_in_other free.memories (i.place - 8) to b zh z e1
            ∙ p.others b z e1 e2 e3;
      }

  pub vacated : (made now : HeapView) → made ≡ free → now ≡ stored made (i.place - 8) to → HasVacated h now i to
  vacated made now made_is now_is =
      subst (λ g. HasVacated h g i to) (sym (now_is ∙ ap (λ (g : HeapView). stored g (i.place - 8) to) made_is))
      vacated_now
