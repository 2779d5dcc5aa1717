-- A heap with a new empty segment above all others: all items stay, and cards and bricks of the segment tell nothing.
use Rattle.std.proofs.Common.{◌≡◌, inl, inr, ℕ, ◌+◌, ◌-◌, ◌/◌, ◌%◌, ◌<◌, ◌≤◌, List, [], ◌∷◌, ◌++◌, length, get_or}
use Rattle.std.proofs.Common.{refl, ap, sym, ◌∙◌, subst, arith, ℤ, pos}
use Rattle.std.proofs.lemmas.Bool.{cases_lt}
use Rattle.std.proofs.lemmas.List.{append-nil}
use Rattle.clr_types.specs.Rising.{IsIn}
use Rattle.clr_types.specs.Segments.{Layout, opening_segment}
use Rattle.clr_types.specs.Types.{TypeRow}
use Rattle.clr_types.specs.declared.item.Item.{Item}
use Rattle.clr_types.specs.declared.segment.SegKind.{SegKind}
use Rattle.clr_types.proofs.SegmentFacts.{stands-between}
use Rattle.clr_bricks.specs.Bricks.{entry_at, root_entry}
use Rattle.clr_covers.specs.Covers.{CoverView, spans}
use Rattle.clr_covers.proofs.Changing.{value_at-uncovered}
use Rattle.clr_covers.proofs.Spans.{free_above}
use Rattle.clr_heap.specs.Memories.{memory_index}
use Rattle.clr_heap.specs.Parts.{items_in}
use Rattle.clr_heap.specs.View.{AreWalkable, CanWalk, first_of, frame, heap_items, HeapView, IsHeap, last_of, listing}
use Rattle.clr_heap.specs.View.{listings, sight, word_of}
use Rattle.clr_heap.proofs.Acquiring.{nothing_in}
use Rattle.clr_heap.proofs.Framing.{below_top_at, held_in}
use Rattle.clr_heap.proofs.Staying.{parts_stay, StaysAs}
use Rattle.clr_model.specs.Lookups.{object_size}
use Rattle.clr_model.specs.Machine.{Object}
use Rattle.clr_view.specs.View.{IsHeld, objects_in}
use Rattle.clr_view.proofs.Listings.{heap-cut, listings-agree}
use Rattle.clr_view.proofs.Standing.{standing}
use Rattle.clr_generations.specs.Acquiring.{AreBelow}
use Rattle.clr_generations.specs.Laws.{AreEntered}
use Rattle.clr_generations.specs.Tables.{AreBricksOf}
use Rattle.clr_generations.proofs.HeapHomes.{item-of}
use Rattle.clr_generations.proofs.NewCovers.{bricks_under, ends_below}

-- behind a list stands what is appended
pub get_or-behind : {X : Type 0} (xs : List X) (x d : X) → get_or (xs ++ x ∷ []) (length xs) d ≡ x
get_or-behind [] x d = refl
get_or-behind (y ∷ xs) x d = get_or-behind xs x d

-- ---- items

-- the old segments are as they were, and the one behind them is empty
pub record HasGained (old new : HeapView) : Type 0 where
  pub count : length new.segments ≡ length old.segments + 1
  pub stays : (j : ℕ) → j < length old.segments → StaysAs old j new j
  pub words : (b : ℕ) → memory_index old.memories b < length old.memories → word_of new b ≡ word_of old b
  pub start : first_of new (length old.segments) % 8 ≡ 0
  pub empty : first_of new (length old.segments) ≡ last_of new (length old.segments)

module _ (rows : List TypeRow) (h : HeapView) (heap : IsHeap h) (held : IsHeld rows h) (new : HeapView)
    (gained : HasGained h new) where
  abbrev n : ℕ
  n = length h.segments

  -- the parts of each segment fill it
  pub gained_walkable : AreWalkable rows new
  gained_walkable j l =
      let count = gained.count in
      elim (cases_lt j n) [
        | inl below ↦ (parts_stay rows h new j j (held.walkable j below) (gained.stays j below)).walkable
        | inr above ↦
            let same : n ≡ j = omega arith in
            subst (λ (i : ℕ). CanWalk (sight rows new i) new.memories (first_of new i) (last_of new i)) same
            (nothing_in rows new n gained.start gained.empty).walkable
      ]

  -- the old ones have the same items
  listing-old : (j : ℕ) → j < n → listing rows new j ≡ listing rows h j
  listing-old j below = ap items_in (parts_stay rows h new j j (held.walkable j below) (gained.stays j below)).parts

  -- the new one has none
  listing-new : listing rows new n ≡ []
  listing-new = ap items_in (nothing_in rows new n gained.start gained.empty).parts

  -- THE ITEMS are the same
  pub gained_items : heap_items rows new ≡ heap_items rows h
  gained_items =
      let none : n + 1 - (n + 1) ≡ 0 = omega arith in
      ap (listings rows new 0) gained.count
      ∙ heap-cut rows new n (n + 1) (omega arith)
      ∙ (λ i. listings-agree rows rows h new 0 n (λ j low high. listing-old j (omega arith)) i
      ++ (listing-new i ++ listings rows new (n + 1) (none i)))
      ∙ append-nil (listings rows h 0 n)

  -- and so are the words of their cells
  pub gained_cells : (i : Item) (b : ℕ) → IsIn i (heap_items rows h) → i.place ≤ b + 8 → b + 8 < i.place + i.size
      → word_of new b ≡ word_of h b
  gained_cells i b listed low high =
      let home = standing rows h heap held i listed in
      let above = home.above in
      let below = home.below in
      let end = home.reserved in
      gained.words b (held_in h home.segment b heap home.in_range (omega arith) (omega arith))

-- ---- objects and bricks

module _ (rows : List TypeRow) (h : HeapView) (heap : IsHeap h) (held : IsHeld rows h) where
  -- an object ends at the top or below
  pub object_under : (o : Object) → IsIn o (objects_in rows h)
      → (o.place + object_size rows o ≤ h.top) × (24 ≤ object_size rows o)
  object_under o i =
      let is = item-of rows h heap held o i in
      let place = is.place in
      let size = is.size in
      let below = is.at.below in
      let least = is.at.least in
      let high = is.at.reserved in
      let end = below_top_at h is.at.segment heap is.at.in_range in
      (omega arith, omega arith)

  -- no brick from the top on names anything
  no-entry : (bricks : List (CoverView ℤ)) (b offset : ℕ) → AreBricksOf (frame h) bricks → h.top / 4096 ≤ b
      → entry_at bricks b ≡ root_entry offset → ⊥
  no-entry bricks b offset own above is =
      let below = ends_below (h.top / 4096) (spans bricks)
      (subst (AreBelow (h.top / 4096)) (sym own) (bricks_under h.top h.segments heap.segments heap.below_top)) in
      let free = free_above bricks (h.top / 4096) (b + 1) below b above (omega arith) in
      let zero_is : pos 0 ≡ pos (offset + 1) = sym (value_at-uncovered bricks (pos 0) b free) ∙ is in
      let nothing : 0 ≡ offset + 1 = cc in
      omega arith

  -- THE NEW BRICKS of a segment above the top tell nothing, as they should: nothing stands there
  pub opening_entered : (layout : Layout) (bricks : List (CoverView ℤ)) (entry : ℕ → ℤ) (kind : SegKind) (size : ℕ)
      → AreBricksOf (frame h) bricks → ((b : ℕ) → h.top / 4096 ≤ b → entry b ≡ entry_at bricks b)
      → AreEntered rows layout (objects_in rows h) entry (opening_segment h.top kind size)
  opening_entered layout bricks entry kind size own same = record {
    named = λ brick offset of is. absurd (no-entry bricks brick offset own of.0 (sym (same brick of.0) ∙ is));
    starts = λ place stands in_s may.
        (let between = stands-between (opening_segment h.top kind size) place in_s in
        let low = between.0 in
        let under = object_under stands.0 stands.1 in
        let end = under.0 in
        let at = stands.2 in
        absurd (omega arith));
    reached = λ brick of r.
        (let first = of.0 in
        let top = heap.top_aligned in
        let to = r.to in
        let end = (object_under r.object r.present).0 in
        absurd (omega arith));
  }
