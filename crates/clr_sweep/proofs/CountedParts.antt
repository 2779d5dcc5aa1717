-- Counting the items of a part, one after the other.
use Rattle.std.proofs.Common.{◌≡◌, ℕ, ◌+◌, ◌^◌, ◌<◌, ◌≤◌, List, refl, ap, sym, ◌∙◌, arith, length}
use Rattle.clr_types.specs.Types.{TypeRow}
use Rattle.clr_types.specs.declared.item.Item.{Item}
use Rattle.clr_heap.specs.Memories.{memory_index}
use Rattle.clr_heap.specs.Parts.{item_at, parts}
use Rattle.clr_heap.specs.View.{AfterItem, CanWalk, first_of, HasItem, HeapView, IsHeap, items_between, last_of}
use Rattle.clr_heap.specs.View.{listing, listings, sight, word_of}
use Rattle.clr_heap.proofs.Spelling.{Spells-le}
use Rattle.clr_heap.proofs.Framing.{lawful_at}
use Rattle.clr_heap.proofs.Staying.{segment_order}
use Rattle.clr_view.proofs.Walked.{walked-on}
use Rattle.clr_heap.proofs.Walking.{walk_done, walk_item}
use Rattle.clr_sweep.specs.Passes.{IsAtMost, item_tally, no_tally, plus}
use Rattle.clr_sweep.specs.SweptItems.{tally_among}
use Rattle.clr_sweep.specs.declared.tally.Tally.{Tally}
use Rattle.clr_sweep.proofs.Passing.{IsHome}
use Rattle.clr_sweep.proofs.Tallies.{at_most_more, at_most_up, plus-assoc, plus-none, tally-append, tally-cons}

-- items from `first` up to `place` are counted, and those from there to `e` aren't
pub record IsCounting (rows : List TypeRow) (h : HeapView) (k first e place : ℕ) (before tally : Tally) : Type 0 where
  pub low : first ≤ place
  pub walk : CanWalk (sight rows h k) h.memories place e
  pub counts : plus tally (tally_among h (items_between (sight rows h k) place e))
      ≡ plus before (tally_among h (items_between (sight rows h k) first e))
  pub counted : IsAtMost tally place

pub counting_starts : (rows : List TypeRow) (h : HeapView) (k first e : ℕ) (before : Tally) → IsHome rows h k first e
    → IsAtMost before first → IsCounting rows h k first e first before before
counting_starts rows h k first e before home most =
    record { low = omega arith; walk = home.walk; counts = refl; counted = most }

-- ---- one item

module _ (rows : List TypeRow) (h : HeapView) (k first e place : ℕ) (home : IsHome rows h k first e)
    (low : first ≤ place) (walk : CanWalk (sight rows h k) h.memories place e) where
  -- the place is one of the part
  pub up_to : place ≤ e
  up_to = Spells-le (sight rows h k) (parts e (sight rows h k) place e) place e walk.spelled

  -- an item stands there
  pub item_after : place < e → AfterItem (sight rows h k) h.memories place e
  item_after below = walk_item (sight rows h k) h.memories place e walk below (home.none place)

  -- what reading it needs
  pub record CanCount : Type 0 where
    pub item : HasItem rows h place
    pub mt_in : k ≡ memory_index h.memories place
    pub len_in : k ≡ memory_index h.memories (place + 8)
    pub room : place + 8 < 2 ^ 64
    pub fits : place + (item_at rows (word_of h) place).size < 2 ^ 64
    pub least : 24 ≤ (item_at rows (word_of h) place).size

  pub can_count : place < e → CanCount
  can_count below =
      let after = item_after below in
      let high = home.high in
      let within = after.within in
      let least = after.names.least in
      record {
        item = record { names = after.names; mt = after.mt; len = after.len };
        mt_in = sym (home.index place (omega arith) (omega arith));
        len_in = sym (home.index (place + 8) (omega arith) (omega arith));
        room = omega arith;
        fits = omega arith;
        least = least;
      }

module _ (rows : List TypeRow) (h : HeapView) (k first e place : ℕ) (before tally : Tally)
    (home : IsHome rows h k first e) (s : IsCounting rows h k first e place before tally) where
  pub counting_ends : e ≤ place → tally ≡ plus before (tally_among h (items_between (sight rows h k) first e))
  counting_ends past =
      sym (plus-none tally)
      ∙ ap (λ (is : List Item). plus tally (tally_among h is))
      (sym (walk_done (sight rows h k) h.memories place e s.walk past))
      ∙ s.counts

  pub ends_counted : IsAtMost tally e
  ends_counted = at_most_up tally place e (up_to rows h k first e place home s.low s.walk) s.counted

  pub counting_goes_on : place < e → IsCounting rows h k first e (place + (item_at rows (word_of h) place).size) before
      (plus tally (item_tally h (item_at rows (word_of h) place)))
  counting_goes_on below =
      let it = item_at rows (word_of h) place in
      let after = item_after rows h k first e place home s.low s.walk below in
      let low = s.low in
      record {
        low = omega arith;
        walk = after.walk;
        counts =
            plus-assoc tally (item_tally h it) (tally_among h (items_between (sight rows h k) (place + it.size) e))
            ∙ ap (plus tally) (sym (tally-cons h it (items_between (sight rows h k) (place + it.size) e)))
            ∙ ap (λ (is : List Item). plus tally (tally_among h is)) (sym after.items)
            ∙ s.counts;
        counted = at_most_more h it tally place after.names.least s.counted;
      }

-- ---- segment by segment

-- the items of the segments below k are counted
pub record HaveCounted (rows : List TypeRow) (h : HeapView) (k : ℕ) (tally : Tally) : Type 0 where
  pub within : k ≤ length h.segments
  pub counts : tally ≡ tally_among h (listings rows h 0 k)
  pub counted : (j : ℕ) → k ≤ j → j < length h.segments → IsAtMost tally (first_of h j)

pub none_counted : (rows : List TypeRow) (h : HeapView) → HaveCounted rows h 0 no_tally
none_counted rows h = record {
  within = omega arith;
  counts = refl;
  counted = λ j l m. record {
    kept = omega arith;
    freed = omega arith;
    promoted1 = omega arith;
    promoted2 = omega arith;
  };
}

pub more_counted : (rows : List TypeRow) (h : HeapView) (k : ℕ) (tally more : Tally) → IsHeap h → k < length h.segments
    → HaveCounted rows h k tally → more ≡ plus tally (tally_among h (listing rows h k)) → IsAtMost more (last_of h k)
    → HaveCounted rows h (k + 1) more
more_counted rows h k tally more heap inside s adds most = record {
  within = omega arith;
  counts = adds ∙ ap (λ (t : Tally). plus t (tally_among h (listing rows h k))) s.counts
      ∙ sym (tally-append h (listings rows h 0 k) (listing rows h k))
      ∙ ap (tally_among h) (sym (walked-on rows h k));
  counted = λ j above l.
      let high = (lawful_at h k heap inside).high in
      let order = segment_order h k j heap (omega arith) l in
      at_most_up more (last_of h k) (first_of h j) (omega (arith, high, order)) most;
}
