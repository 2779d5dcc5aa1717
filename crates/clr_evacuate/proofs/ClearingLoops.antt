-- What the loop over the items of a part of a segment has cleared, from a place on that no item reaches over.
use Rattle.std.proofs.Common.{◌≡◌, ◌⊎◌, inl, inr, ℕ, ◌+◌, ◌-◌, ◌<◌, ◌≤◌, List, length, sym, subst, arith}
use Rattle.std.proofs.lemmas.Bool.{cases_lt}
use Rattle.clr_types.specs.Rising.{IsIn}
use Rattle.clr_types.specs.Segments.{ephemeral, first_place}
use Rattle.clr_types.specs.Types.{TypeRow}
use Rattle.clr_types.specs.declared.item.Item.{Item}
use Rattle.clr_types.specs.declared.segment.SegInfo.{SegInfo}
use Rattle.clr_types.proofs.ListMembers.{append_right, in_append}
use Rattle.clr_types.proofs.RisingLists.{all_at}
use Rattle.clr_heap.specs.Parts.{item_at, parts}
use Rattle.clr_heap.specs.View.{first_of, frame, heap_items, HeapView, IsHeap, items_between}
use Rattle.clr_heap.specs.View.{last_of, no_rests, segment_at, sight, word_of}
use Rattle.clr_view.specs.View.{IsHeld}
use Rattle.clr_view.proofs.Items.{IsItem, items-are}
use Rattle.clr_view.proofs.Listed.{listed-above}
use Rattle.clr_view.proofs.Standing.{listed_from}
use Rattle.clr_plan.proofs.SplitScans.{IsSplit, scan-segment, scan-split}
use Rattle.clr_evacuate.specs.Forwarding.{AreCleared, HasOlderBorder, IsBetween, IsBorderAt}
use Rattle.clr_evacuate.specs.Forwarding.{IsUnmovedOutside}
use Rattle.clr_evacuate.proofs.ClearedHeads.{cleared_alike, cleared_more, cleared_none}
use Rattle.clr_evacuate.proofs.Walks.{can_read, CanRead, IsWalking, past_item, whole_segment}

-- the start of generation 1 is a border of the ephemeral segment
pub border_at : (rows : List TypeRow) (h : HeapView) (k : ℕ) → k < length h.segments
    → segment_at h k ≡ ephemeral (frame h) → HasOlderBorder (frame h) (heap_items rows h)
    → IsBorderAt rows h k h.start1
border_at rows h k inside young b =
    let order = b.order in
    let high = b.high in
    record {
      aligned = b.aligned;
      low = subst (λ (u : SegInfo). first_place u ≤ h.start1) (sym young) b.low;
      high = subst (λ (u : SegInfo). h.start1 ≤ u.end) (sym young) (omega (arith, order, high));
      whole = λ i l. b.whole i (listed_from rows h k i inside l);
    }

-- a walk begins at a border
pub walking_from : (rows : List TypeRow) (h : HeapView) (k from : ℕ) → IsHeap h → IsHeld rows h
    → k < length h.segments → h.rests ≡ no_rests → IsBorderAt rows h k from → IsWalking rows h k from (last_of h k)
walking_from rows h k from heap held inside none b =
    let low : List Item = items_between (sight rows h k) (first_of h k) from in
    let high : List Item = items_between (sight rows h k) from (last_of h k) in
    let whole = scan-segment rows h k heap inside (held.walkable k inside) none in
    let split : IsSplit rows h k (first_of h k) from (last_of h k) =
    scan-split rows h k (first_of h k) from (last_of h k) whole b.aligned b.low b.high b.whole in
    record {
      walk = split.above.walk;
      among = λ i a. subst (λ (is : List Item). IsIn i is) (sym split.items) (append_right low a);
      split = λ i a. elim (in_append low (subst (λ (is : List Item). IsIn i is) split.items a)) [
        | inl under ↦ inl (all_at (IsItem rows (first_of h k) from) under
            (items-are (sight rows h k) (parts from (sight rows h k) (first_of h k) from) (first_of h k) from
            split.below.walk.start split.below.walk.spelled)).below
        | inr ahead ↦ inr ahead
      ];
      up = b.low;
      within = b.high;
    }

-- The loop from a border has come to p: the headers that it passed are clear.
pub record IsClearing (rows : List TypeRow) (old now : HeapView) (k from p : ℕ) : Type 0 where
  pub walking : IsWalking rows old k p (last_of old k)
  pub cleared : AreCleared rows old now (λ a. IsBetween from p a)
  pub up : from ≤ p

-- it begins
pub clearing_starts : (rows : List TypeRow) (h : HeapView) (k from : ℕ) → IsHeap h → IsHeld rows h
    → k < length h.segments → h.rests ≡ no_rests → IsBorderAt rows h k from → IsClearing rows h h k from from
clearing_starts rows h k from heap held inside none b = record {
  walking = walking_from rows h k from heap held inside none b;
  cleared = cleared_none rows h (λ a. IsBetween from from a) held
      (λ a r c. let low = c.0 in let high = c.1 in omega (arith, low, high));
  up = omega arith;
}

module _ (rows : List TypeRow) (old now : HeapView) (k from p : ℕ) (heap : IsHeap old) (held : IsHeld rows old)
    (inside : k < length old.segments) (none : old.rests ≡ no_rests) (c : IsClearing rows old now k from p)
    (below : p < last_of old k) where
  -- the item at the place can be read
  pub can_clear : CanRead rows now k p (last_of old k)
  can_clear =
      let f = c.cleared in
      can_read rows old now k p heap held inside none f.shape f.held f.items c.walking below

  -- and the loop goes on behind it
  pub clearing_on : (new : HeapView)
      → AreCleared rows now new (λ a. IsBetween p (p + (item_at rows (word_of now) p).size) a)
      → IsClearing rows old new k from (p + (item_at rows (word_of now) p).size)
  clearing_on new g =
      let f = c.cleared in
      let up = c.up in
      let size : ℕ = (item_at rows (word_of now) p).size in
      record {
        walking = past_item rows old now k p (last_of old k) heap held inside f.shape f.held f.items c.walking below
            (whole_segment old now k p none f.shape);
        cleared =
            cleared_alike rows old new (λ a. IsBetween from p a ⊎ IsBetween p (p + size) a)
            (λ a. IsBetween from (p + size) a)
            (λ a r b. elim b [
              | inl old ↦ (let low = old.0 in let high = old.1 in (low, omega (arith, high)))
              | inr new ↦ (let low = new.0 in let high = new.1 in (omega (arith, low, up), high))
            ])
            (λ a r b. let low = b.0 in let high = b.1 in elim (cases_lt (a + 8) p) [
              | inl under ↦ inl (low, under)
              | inr over ↦ inr (omega (arith, over), high)
            ])
            (cleared_more rows old now new (λ a. IsBetween from p a) (λ a. IsBetween p (p + size) a) heap held f g);
        up = omega (arith, up);
      }

-- the header of each item is passed, or nothing went from its place
pub all_passed : (rows : List TypeRow) (h : HeapView) (go : ℕ → ℕ) (from end to : ℕ) → IsHeap h → IsHeld rows h
    → IsUnmovedOutside go from end → end ≤ to → (i : Item) → IsIn i (heap_items rows h)
    → IsBetween from to (i.place - 8) ⊎ (go i.place ≡ i.place)
all_passed rows h go from end to heap held still most i listed =
    let up = listed-above rows h i heap held listed in
    elim (cases_lt i.place from) [
      | inl under ↦ inr (still i.place (inl under))
      | inr over ↦ elim (cases_lt i.place to) [
        | inl below ↦ inl (omega (arith, over, up), omega (arith, below, up))
        | inr past ↦ inr (still i.place (inr (omega (arith, past, most))))
      ]
    ]
