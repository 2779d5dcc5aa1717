-- A walk over the items of a segment in which all items stay, whatever is written.
use Rattle.std.proofs.Common.{◌≡◌, ◌⊎◌, inl, inr, ℕ, ◌+◌, ◌<◌, ◌≤◌, ◌^◌, List, length, ap, sym, ◌∙◌, subst}
use Rattle.std.proofs.Common.{arith, None, Option}
use Rattle.clr_types.specs.Ranges.{Piece}
use Rattle.clr_types.specs.Rising.{first, IsIn, later}
use Rattle.clr_types.specs.Types.{TypeRow}
use Rattle.clr_types.specs.declared.item.Item.{Item}
use Rattle.clr_types.proofs.RisingLists.{in_cons}
use Rattle.clr_heap.specs.Memories.{memory_index}
use Rattle.clr_heap.specs.Parts.{hole_from, item_at}
use Rattle.clr_heap.specs.View.{CanWalk, first_of, HasItem, heap_items, HeapView, holes_of, IsHeap, items_between}
use Rattle.clr_heap.specs.View.{last_of, listing, no_rests, SameShape, sight, word_of}
use Rattle.clr_heap.proofs.Addresses.{index_is_segment}
use Rattle.clr_heap.proofs.Framing.{below_top_at, lawful_at}
use Rattle.clr_heap.proofs.Rewrite.{holes_same, shaped_heap}
use Rattle.clr_heap.proofs.Spelling.{place-item_at}
use Rattle.clr_heap.proofs.Walking.{walk_item}
use Rattle.clr_mark.proofs.Remarking.{same_segments}
use Rattle.clr_view.specs.View.{IsHeld}
use Rattle.clr_view.proofs.Listed.{listed-head, listed-spelled}
use Rattle.clr_view.proofs.Standing.{listed_from}
use Rattle.clr_compact.proofs.BrickWalks.{no_hole}

-- The walk over segment k has come to p: its items end there or below, or are ahead.
pub record IsWalking (rows : List TypeRow) (h : HeapView) (k p e : ℕ) : Type 0 where
  pub walk : CanWalk (sight rows h k) h.memories p e
  pub among : (i : Item) → IsIn i (items_between (sight rows h k) p e) → IsIn i (listing rows h k)
  pub split : (i : Item) → IsIn i (listing rows h k) → (i.place + i.size ≤ p)
      ⊎ IsIn i (items_between (sight rows h k) p e)
  pub up : first_of h k ≤ p
  pub within : p ≤ e

pub walking_starts : (rows : List TypeRow) (h : HeapView) (k : ℕ) → IsHeap h → IsHeld rows h → k < length h.segments
    → IsWalking rows h k (first_of h k) (last_of h k)
walking_starts rows h k heap held l =
    let low = (lawful_at h k heap l).low in
    record {
      walk = held.walkable k l;
      among = λ i a. a;
      split = λ i a. inr a;
      up = omega arith;
      within = omega (arith, low);
    }

module _ (rows : List TypeRow) (old now : HeapView) (k p e : ℕ) (heap : IsHeap old) (held : IsHeld rows old)
    (inside : k < length old.segments) (shape : SameShape old now) (held_now : IsHeld rows now)
    (items : heap_items rows now ≡ heap_items rows old) (r : IsWalking rows old k p e) (below : p < e) where
  hole_before : (o : Option ℕ) → hole_from (holes_of now k) p ≡ o → hole_from (holes_of old k) p ≡ o
  hole_before o l = ap (λ (hs : List (Option Piece)). hole_from hs p) (sym (holes_same old now k shape)) ∙ l

  module _ (l : hole_from (holes_of now k) p ≡ None) where
    -- the item that the walk has come to
    pub record AtItem : Type 0 where
      pub listed : IsIn (item_at rows (word_of now) p) (heap_items rows now)
      pub same : item_at rows (word_of now) p ≡ item_at rows (word_of old) p
      pub head : HasItem rows now p
      pub within : p + (item_at rows (word_of now) p).size ≤ e
      pub least : 24 ≤ (item_at rows (word_of now) p).size

    pub at_item : AtItem
    at_item =
        let i = item_at rows (word_of old) p in
        let step = walk_item (sight rows old k) old.memories p e r.walk below (hole_before None l) in
        let here = r.among i (subst (λ (is : List Item). IsIn i is) (sym step.items) first) in
        let listed : IsIn i (heap_items rows now) =
        subst (λ (is : List Item). IsIn i is) (sym items) (listed_from rows old k i inside here) in
        let heap_now = shaped_heap old now shape heap in
        let place = place-item_at rows (word_of old) p in
        let same : item_at rows (word_of now) p ≡ i =
        ap (item_at rows (word_of now)) (sym place) ∙ sym (listed-spelled rows now i heap_now held_now listed).0 in
        let P : ℕ → Type 0 = λ q. HasItem rows now q in
        record {
          listed = subst (λ (j : Item). IsIn j (heap_items rows now)) (sym same) listed;
          same = same;
          head = subst P place (listed-head rows now i heap_now held_now listed);
          within = rw same step.within;
          least = rw same step.names.least;
        }

    pub past_item : IsWalking rows old k (p + (item_at rows (word_of now) p).size) e
    past_item =
        let step = walk_item (sight rows old k) old.memories p e r.walk below (hole_before None l) in
        let up = r.up in
        let place = place-item_at rows (word_of old) p in
        rw at_item.same (record {
          walk = step.walk;
          among = λ i a. r.among i (subst (λ (is : List Item). IsIn i is) (sym step.items) (later a));
          split = λ i a. elim (r.split i a) [
            | inl under ↦ inl (omega (arith, under))
            | inr ahead ↦ elim (in_cons (subst (λ (is : List Item). IsIn i is) step.items ahead)) [
              | inl is ↦
                  let at = ap (λ (j : Item). j.place) is in
                  let size = ap (λ (j : Item). j.size) is in
                  inl (omega (arith, at, size, place))
              | inr more ↦ inr more
            ]
          ];
          up = omega (arith, up);
          within = step.within;
        })

-- what is known of the item at a place of segment k, so that it can be read there
pub record CanRead (rows : List TypeRow) (now : HeapView) (k p e : ℕ) : Type 0 where
  pub listed : IsIn (item_at rows (word_of now) p) (heap_items rows now)
  pub head : HasItem rows now p
  pub mt_in : k ≡ memory_index now.memories p
  pub len_in : k ≡ memory_index now.memories (p + 8)
  pub least : 24 ≤ (item_at rows (word_of now) p).size
  pub within : p + (item_at rows (word_of now) p).size ≤ e
  pub end : e < 2 ^ 62

-- where contexts are given up, none has a part of a segment
pub whole_segment : (old now : HeapView) (k p : ℕ) → old.rests ≡ no_rests → SameShape old now
    → hole_from (holes_of now k) p ≡ None
whole_segment old now k p none shape = no_hole now k p (ap (λ (h : HeapView). h.rests) shape.others ∙ none)

-- then the item that a walk has come to can be read
pub can_read : (rows : List TypeRow) (old now : HeapView) (k p : ℕ) → IsHeap old → IsHeld rows old
    → k < length old.segments → old.rests ≡ no_rests → SameShape old now → IsHeld rows now
    → heap_items rows now ≡ heap_items rows old → IsWalking rows old k p (last_of old k) → p < last_of old k
    → CanRead rows now k p (last_of old k)
can_read rows old now k p heap held inside none shape held_now items walking below =
    let at = at_item rows old now k p (last_of old k) heap held inside shape held_now items walking below
    (whole_segment old now k p none shape) in
    let least = at.least in
    let within = at.within in
    let low = walking.up in
    let heap_now = shaped_heap old now shape heap in
    let same = same_segments old now shape in
    let inside_now : k < length now.segments = omega (arith, same, inside) in
    let start : first_of now k ≡ first_of old k = ap (λ (g : HeapView). first_of g k) shape.others in
    let stop : last_of now k ≡ last_of old k = ap (λ (g : HeapView). last_of g k) shape.others in
    let lawful = (lawful_at now k heap_now inside_now).high in
    let top = below_top_at now k heap_now inside_now in
    let small = heap_now.top_small in
    record {
      listed = at.listed;
      head = at.head;
      mt_in = sym (index_is_segment now k p heap_now inside_now (omega (arith, low, start))
          (omega (arith, below, stop, lawful)));
      len_in = sym (index_is_segment now k (p + 8) heap_now inside_now (omega (arith, low, start))
          (omega (arith, within, least, stop, lawful)));
      least = least;
      within = within;
      end = omega (arith, stop, lawful, top, small);
    }
