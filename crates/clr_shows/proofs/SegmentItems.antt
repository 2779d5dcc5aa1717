-- The items of a segment among those of the heap, and the listing of the machine that a view shows.
use Rattle.std.proofs.Common.{◌≡◌, ◌≢◌, ◌∙◌, ◌&&◌, ℕ, zero, suc, ◌+◌, ◌-◌, ◌<◌, ◌≤◌, Bool, true, false, inl, inr, List}
use Rattle.std.proofs.Common.{[], ◌∷◌, ◌++◌}
use Rattle.std.proofs.Common.{append-nil, arith, cond, filter, get_or, length, map, refl, sym, ap, ap₂}
use Rattle.std.specs.List.{AllByRecursion, flat_map}
use Rattle.std.proofs.lemmas.Bool.{and_parts, cases_Bool, le-leb, leb-true, lt-ltb, ltb-true}
use Rattle.std.proofs.lemmas.List.Elements.{filter-append}
use Rattle.clr_types.specs.Rising.{sorted_by}
use Rattle.clr_types.specs.Segments.{empty_segment, first_place, reserved_end, stands_in}
use Rattle.clr_types.specs.Types.{TypeRow}
use Rattle.clr_types.specs.declared.item.Item.{Item}
use Rattle.clr_types.specs.declared.segment.SegInfo.{SegInfo}
use Rattle.clr_types.proofs.ChangedLists.{all_imply}
use Rattle.clr_heap.specs.View.{AreWalkable, first_of, heap_items, HeapView, IsHeap, last_of, listing, listings}
use Rattle.clr_heap.specs.View.{segment_at}
use Rattle.clr_heap.proofs.Addresses.{index_is_segment}
use Rattle.clr_heap.proofs.Framing.{lawful_at}
use Rattle.clr_model.specs.Listing.{free_item, listing as machine_listing, object_item}
use Rattle.clr_model.specs.Machine.{Machine}
use Rattle.clr_view.proofs.Items.{IsItem}
use Rattle.clr_view.proofs.Listings.{heap-cut, listing-are, listings-all}
use Rattle.clr_view.proofs.Walked.{listing_shown}
use Rattle.clr_sos.specs.Views.{IsShownView, IsViewOf}
use Rattle.clr_sos.specs.declared.view.View.{View}
use Rattle.clr_shows.proofs.NearItems.{filter-failed, filter-passed}

-- the listing of a machine that a view shows has the heap's items
pub listing-told : (v : View) (m : Machine) → IsViewOf v m → IsShownView v
    → machine_listing m ≡ heap_items v.types.now v.heap.now
listing-told v m is shown =
    let types = is.types in
    let objects = is.objects in
    let layout = is.layout in
    (λ j. sorted_by (λ (i : Item). i.place) (map (object_item (types j)) (objects j) ++ map free_item (layout j).free))
    ∙ listing_shown v.types.now v.heap.now shown.heap shown.held

module _ (rows : List TypeRow) (h : HeapView) (heap : IsHeap h) where
  -- an item of a segment stands in the segment
  pub item-there : (k : ℕ) → k < length h.segments → (i : Item) → IsItem rows (first_of h k) (last_of h k) i
      → stands_in (segment_at h k) i.place ≡ true
  item-there k l i is =
      let low = is.above in
      let high = is.below in
      let least = is.least in
      let end = (lawful_at h k heap l).high in
      ap₂ (λ (b c : Bool). b && c) (le-leb (first_place (segment_at h k)) i.place low)
      (lt-ltb i.place (reserved_end (segment_at h k)) (omega (arith, high, least, end)))

  -- an item of a segment stands in no other segment
  pub item-elsewhere : (k j : ℕ) → k < length h.segments → j < length h.segments → j ≢ k → (i : Item)
      → IsItem rows (first_of h k) (last_of h k) i → stands_in (segment_at h j) i.place ≡ false
  item-elsewhere k j l m other i is = elim (cases_Bool (stands_in (segment_at h j) i.place)) [
    | inl there ↦
        let bounds = and_parts _ _ there in
        let low = leb-true (first_place (segment_at h j)) i.place bounds.0 in
        let high = ltb-true i.place (reserved_end (segment_at h j)) bounds.1 in
        let above = is.above in
        let below = is.below in
        let least = is.least in
        let end = (lawful_at h k heap l).high in
        let here = index_is_segment h k i.place heap l (omega (arith, above)) (omega (arith, below, least, end)) in
        let away = index_is_segment h j i.place heap m (omega (arith, low)) high in
        absurd (other (sym away ∙ here))
    | inr nowhere ↦ nowhere
  ]

  module _ (walkable : AreWalkable rows h) (k : ℕ) (l : k < length h.segments) where
    -- items of other segments don't stand in segment k
    outside : (from m : ℕ) → ((j : ℕ) → from ≤ j → j < from + m → (j < length h.segments) × (k ≢ j))
        → AllByRecursion (λ (i : Item). stands_in (segment_at h k) i.place ≡ false) (listings rows h from m)
    outside from m apart = listings-all rows h walkable
        (λ (i : Item). stands_in (segment_at h k) i.place ≡ false) from m (λ j low high.
        let there = apart j low high in
        all_imply (IsItem rows (first_of h j) (last_of h j))
        (λ (i : Item). stands_in (segment_at h k) i.place ≡ false) (listing rows h j)
        (λ i is. item-elsewhere j k there.0 l there.1 i is) (listing-are rows h walkable j there.0))

    -- the heap's items that stand in segment k are those of the segment's walk
    pub segment-items : filter (λ (i : Item). stands_in (segment_at h k) i.place) (heap_items rows h)
        ≡ listing rows h k
    segment-items =
        let n = length h.segments in
        let test : Item → Bool = λ i. stands_in (segment_at h k) i.place in
        let below = listings rows h 0 k in
        let above = listings rows h (k + 1) (n - (k + 1)) in
        let none_below = filter-failed test below
        (outside 0 k (λ j low high. (omega (arith, high, l), λ is. omega (arith, high, is)))) in
        let none_above = filter-failed test above (outside (k + 1) (n - (k + 1))
        (λ j low high. (omega (arith, high, l), λ is. omega (arith, low, is)))) in
        let own = filter-passed test (listing rows h k)
        (all_imply (IsItem rows (first_of h k) (last_of h k)) (λ (i : Item). test i ≡ true) (listing rows h k)
        (item-there k l) (listing-are rows h walkable k l)) in
        ap (filter test) (heap-cut rows h k n l)
        ∙ filter-append test below (listing rows h k ++ above)
        ∙ ap₂ (λ (xs ys : List Item). xs ++ ys) none_below
        (filter-append test (listing rows h k) above ∙ ap₂ (λ (xs ys : List Item). xs ++ ys) own none_above
        ∙ append-nil (listing rows h k))

-- ---- the one segment that a test passes

module _ {X : Type 0} (test : SegInfo → Bool) (says : SegInfo → List X) where
  -- what is said of the segments that the test passes
  abbrev pub said : List SegInfo → List X
  said ss = flat_map (λ s. cond (test s) (says s) []) ss

  -- where the test fails at each segment, nothing is said
  pub said-none : (ss : List SegInfo) → ((j : ℕ) → j < length ss → test (get_or ss j empty_segment) ≡ false)
      → said ss ≡ []
  said-none [] fails = refl
  said-none (s ∷ ss) fails =
      ap (λ (b : Bool). cond b (says s) [] ++ said ss) (fails 0 (omega arith))
      ∙ said-none ss (λ j low. fails (suc j) (omega arith))

  -- where the test passes one segment alone, what is said is of that
  pub said-one : (ss : List SegInfo) (k : ℕ) → k < length ss → test (get_or ss k empty_segment) ≡ true
      → ((j : ℕ) → j < length ss → j ≢ k → test (get_or ss j empty_segment) ≡ false)
      → said ss ≡ says (get_or ss k empty_segment)
  said-one [] k low here others = absurd (omega arith)
  said-one (s ∷ ss) zero low here others =
      ap (λ (b : Bool). cond b (says s) [] ++ said ss) here
      ∙ ap (λ (more : List X). says s ++ more)
      (said-none ss (λ j m. others (suc j) (omega arith) (λ is. omega (arith, is))))
      ∙ append-nil (says s)
  said-one (s ∷ ss) (suc k) low here others =
      ap (λ (b : Bool). cond b (says s) [] ++ said ss) (others 0 (omega arith) (λ is. omega (arith, is)))
      ∙ said-one ss k (omega arith) here (λ j m other. others (suc j) (omega arith) (λ is. other (omega (arith, is))))
