-- Where older items and runs stand: bricks are told of the one, and no longer of the other.
use Rattle.std.proofs.Common.{◌≡◌, inl, inr, ℕ, ◌+◌, ◌<◌, ◌≤◌, true, false, Bool, List, [], ◌∷◌, ◌&&◌, ◌==◌}
use Rattle.std.proofs.Common.{ap, sym, ◌∙◌, subst, arith, if◌then◌else◌, nat_lt}
use Rattle.std.specs.List.{AllByRecursion, list_any}
use Rattle.std.proofs.lemmas.Bool.{and_parts, cases_lt, lt-ltb}
use Rattle.clr_types.specs.Ranges.{Piece, piece_end}
use Rattle.clr_types.specs.Rising.{IsIn}
use Rattle.clr_types.specs.Segments.{ephemeral, generation, is_small_or_ephemeral, Layout, stands_in}
use Rattle.clr_types.specs.Types.{TypeRow}
use Rattle.clr_types.specs.declared.item.Item.{Item}
use Rattle.clr_types.specs.declared.segment.SegInfo.{SegInfo}
use Rattle.clr_types.proofs.ListMembers.{any-in}
use Rattle.clr_types.proofs.SegmentFacts.{between-stands}
use Rattle.clr_heap.specs.View.{first_of, frame, heap_items, HeapView, IsHeap, last_of, segment_at}
use Rattle.clr_heap.proofs.Framing.{lawful_at}
use Rattle.clr_model.specs.Fitting.{older_items}
use Rattle.clr_view.specs.View.{IsHeld, layout_in}
use Rattle.clr_view.proofs.Items.{IsItem}
use Rattle.clr_view.proofs.Tails.{found-young}
use Rattle.clr_sweep.proofs.LargeSwept.{one_segment}
use Rattle.clr_evacuate.specs.FittedRun.{AreOlder, IsYoungRun}
use Rattle.clr_evacuate.specs.Fittings.{AreSideBySide}
use Rattle.clr_evacuate.specs.Left.{IsOldHome}
use Rattle.clr_evacuate.proofs.Replacing.{home_item, home_of, home_there}

-- ---- older items

-- a place below the first boundary isn't young
old_below : (layout : Layout) (p : ℕ) → p < layout.start1 → 0 < generation layout p
old_below layout p low = go (stands_in (ephemeral layout) p) (nat_lt p layout.start1) (lt-ltb p layout.start1 low)
  where
    go : (b c : Bool) → c ≡ true
        → 0 < (if b then (if c then 2 else (if nat_lt p layout.start0 then 1 else 0)) else 2)
    go true c e = subst (λ (d : Bool). 0 < (if d then 2 else (if nat_lt p layout.start0 then 1 else 0))) (sym e)
        (omega arith)
    go false c e = omega arith

-- EACH PLACE OF AN OLDER ITEM stands in a segment that is old up to it
pub older_home : (rows : List TypeRow) (h : HeapView) (item : Piece) → AreOlder (layout_in rows h)
    → IsIn item (older_items (layout_in rows h)) → (q : ℕ) → item.place ≤ q → q < piece_end item
    → IsOldHome (frame h) q
older_home rows h item are there q low high =
    let (small, age) = and_parts (list_any (λ s. is_small_or_ephemeral s.kind && stands_in s q) h.segments)
    (generation (frame h) q == 2) (are.throughout item (record { place = q; size = 0 }) there low high) in
    let (s, listed, passes) = any-in (λ (t : SegInfo). is_small_or_ephemeral t.kind && stands_in t q) h.segments
    small in
    let end = are.below item there in
    record {
      home = s;
      listed = listed;
      inside = (and_parts (is_small_or_ephemeral s.kind) (stands_in s q) passes).1;
      old = λ p stands up. old_below (frame h) p (omega (arith, end, up, high));
    }

-- ---- runs

module _ (rows : List TypeRow) (h : HeapView) (heap : IsHeap h) (held : IsHeld rows h) where
  -- all of an item that begins in the ephemeral segment stands there
  item_inside : (i : Item) → IsIn i (heap_items rows h) → stands_in (ephemeral (frame h)) i.place ≡ true → (p : ℕ)
      → i.place ≤ p → p < i.place + i.size → stands_in (ephemeral (frame h)) p ≡ true
  item_inside i listed inside p low high =
      let j = home_of rows h i heap held listed in
      let there = home_there rows h i heap held listed in
      let is : IsItem rows (first_of h j) (last_of h j) i = home_item rows h i heap held listed in
      let (k, young) = found-young h heap in
      let up = is.above in
      let down = is.below in
      let least = is.least in
      let end = (lawful_at h j heap there).high in
      let same : j ≡ k = one_segment h heap j k i.place there young.in_range
      (between-stands (segment_at h j) i.place up (omega (arith, down, least, end)))
      (subst (λ (s : SegInfo). stands_in s i.place ≡ true) (sym young.is) inside) in
      subst (λ (s : SegInfo). stands_in s p ≡ true) (ap (segment_at h) same ∙ young.is)
      (between-stands (segment_at h j) p (omega (arith, up, low)) (omega (arith, down, end, high)))

  places_inside : (is : List Item) (q e : ℕ) → AllByRecursion (λ (i : Item). IsIn i (heap_items rows h)) is
      → AllByRecursion (λ (i : Item). stands_in (ephemeral (frame h)) i.place ≡ true) is → AreSideBySide q is e
      → (p : ℕ) → q ≤ p → p < e → stands_in (ephemeral (frame h)) p ≡ true
  places_inside [] q e listed inside side p low high =
      absurd (let at : q ≡ e = side in omega (arith, at, low, high))
  places_inside (i ∷ is) q e listed inside side p low high =
      let at = side.0 in
      elim (cases_lt p (q + i.size)) [
        | inl here ↦ item_inside i listed.0 inside.0 p (omega (arith, at, low)) (omega (arith, at, here))
        | inr behind ↦ places_inside is (q + i.size) e listed.1 inside.1 side.1 p behind high
      ]

  -- EACH PLACE OF A RUN stands in the ephemeral segment
  pub run_inside : (run : List Item) (plug : Piece) → IsYoungRun rows h run plug → (p : ℕ) → plug.place ≤ p
      → p < piece_end plug → stands_in (ephemeral (frame h)) p ≡ true
  run_inside run plug is =
      places_inside run plug.place (piece_end plug) is.listed is.inside is.side_by_side
