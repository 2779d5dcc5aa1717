-- Steps of a scan over a segment's items.
use Rattle.std.proofs.Common.{◌≡◌, ℕ, zero, suc, ◌+◌, ◌-◌, ◌%◌, ◌^◌, ◌<◌, ◌≤◌, nat_le, false, List, [], Option, Some}
use Rattle.std.proofs.Common.{None, Result, Ok, Err, refl, sym, ◌∙◌, ap, arith}
use Rattle.std.proofs.lemmas.Bool.{le-leb}
use Rattle.clr_types.specs.Types.{TypeRow}
use Rattle.clr_types.specs.declared.item.Item.{Item}
use Rattle.clr_heap.specs.Parts.{hole_from}
use Rattle.clr_heap.specs.View.{first_of, HeapView, holes_of, last_of, word_of}
use Rattle.clr_sos.specs.CheckedCells.{checked_item, checked_items, fault_of, or_else, Rules, with_item, Words}
use Rattle.clr_sos.specs.CellScans.{IsNext}
use Rattle.clr_sos.specs.Faults.{rules_of, segment_fault, segments_fault, words_in}
use Rattle.clr_sos.specs.SegmentScans.{IsScanning}
use Rattle.clr_sos.proofs.HoleStarts.{next_after}
use Rattle.clr_sos.proofs.SoundCells.{IsRoom, item_ok, roomy}

not_over : (end p : ℕ) → p < end → nat_le end p ≡ false
not_over end p l = grind (arith, l)

-- ---- one part of the definition

pub at_end : (f : ℕ) (rules : Rules) (words : Words) (p : ℕ) → rules.end ≤ p → checked_items f rules words p ≡ Ok []
unfolding checked_items
at_end zero rules words p l = refl
at_end (suc f) rules words p l = rw (le-leb rules.end p l) refl

pub at_hole : (f : ℕ) (rules : Rules) (words : Words) (p high : ℕ) → p < rules.end → hole_from rules.holes p ≡ Some high
    → checked_items (suc f) rules words p ≡ checked_items f rules words high
unfolding checked_items
at_hole f rules words p high l e = rw (not_over rules.end p l, e) refl

pub at_item : (f : ℕ) (rules : Rules) (words : Words) (p : ℕ) (i : Item) → p < rules.end
    → hole_from rules.holes p ≡ None → checked_item rules words p ≡ Ok i
    → checked_items (suc f) rules words p ≡ with_item i (checked_items f rules words (p + i.size))
unfolding checked_items
at_item f rules words p i l e ok = rw (not_over rules.end p l, e, ok) refl

pub at_fault : (f : ℕ) (rules : Rules) (words : Words) (p a : ℕ) → p < rules.end → hole_from rules.holes p ≡ None
    → checked_item rules words p ≡ Err a → checked_items (suc f) rules words p ≡ Err a
unfolding checked_items
at_fault f rules words p a l e bad = rw (not_over rules.end p l, e, bad) refl

pub same_fault : (i : Item) (r : Result (List Item) ℕ) → fault_of (with_item i r) ≡ fault_of r
same_fault i (Ok items) = refl
same_fault i (Err a) = refl

-- ---- the scan

module _ (rows : List TypeRow) (large : ℕ) (h : HeapView) (k : ℕ) where
  abbrev rules : Rules
  rules = rules_of rows large h k

  abbrev words : Words
  words = words_in h

  abbrev whole : Option ℕ
  whole = fault_of (checked_items (last_of h k) rules words (first_of h k))

  pub scan_starts : (next : ℕ) → first_of h k % 8 ≡ 0 → first_of h k ≤ last_of h k
      → IsNext (holes_of h k) (first_of h k) next → IsScanning rows large h k (first_of h k) next
  scan_starts next z l is =
      record {
        aligned = z;
        low = omega arith;
        high = l;
        following = is;
        fuel = last_of h k;
        enough = omega arith;
        same = refl;
      }

  module _ (p next : ℕ) (s : IsScanning rows large h k p next) where
    pub scan_ends : last_of h k ≤ p → whole ≡ None
    scan_ends l = sym s.same ∙ ap fault_of (at_end s.fuel rules words p l)

    module _ (l : p < last_of h k) where
      pub scan_hole : (high now : ℕ) → IsRoom h k p high → hole_from (holes_of h k) p ≡ Some high
          → IsNext (holes_of h k) high now → IsScanning rows large h k high now
      scan_hole high now room e is = go s.fuel s.enough s.same
        where
          go : (f : ℕ) → last_of h k ≤ p + f → fault_of (checked_items f rules words p) ≡ whole
              → IsScanning rows large h k high now
          go zero enough same = absurd (omega arith)
          go (suc f) enough same =
              let low = s.low in
              let up = room.higher in
              record {
                aligned = room.aligned;
                low = omega arith;
                high = room.below;
                following = is;
                fuel = f;
                enough = omega arith;
                same = ap fault_of (sym (at_hole f rules words p high l e)) ∙ same;
              }

      pub scan_fault : (a : ℕ) → hole_from (holes_of h k) p ≡ None → checked_item rules words p ≡ Err a → whole ≡ Some a
      scan_fault a e bad = go s.fuel s.enough s.same
        where
          go : (f : ℕ) → last_of h k ≤ p + f → fault_of (checked_items f rules words p) ≡ whole → whole ≡ Some a
          go zero enough same = absurd (omega arith)
          go (suc f) enough same = sym same ∙ ap fault_of (at_fault f rules words p a l e bad)

      pub scan_item : (i : Item) → hole_from (holes_of h k) p ≡ None → checked_item rules words p ≡ Ok i
          → last_of h k < 2 ^ 64 → IsScanning rows large h k (p + i.size) next
      scan_item i e ok small = go s.fuel s.enough s.same
        where
          go : (f : ℕ) → last_of h k ≤ p + f → fault_of (checked_items f rules words p) ≡ whole
              → IsScanning rows large h k (p + i.size) next
          go zero enough same = absurd (omega arith)
          go (suc f) enough same =
              let room = roomy rules (word_of h) p i (item_ok rules (word_of h) p i ok) in
              let low = s.low in
              let z = s.aligned in
              let zi = room.aligned in
              let least = room.least in
              let below = room.below in
              let begins = s.following (p + i.size) (omega arith) in
              let clear = room.clear in
              let far : p + i.size ≤ next = grind (arith, begins, clear) in
              record {
                aligned = omega arith;
                low = omega arith;
                high = below;
                following = next_after (holes_of h k) p next (p + i.size) s.following (omega arith) far (omega arith);
                fuel = f;
                enough = omega arith;
                same =
                    sym (same_fault i (checked_items f rules words (p + i.size)))
                    ∙ ap fault_of (sym (at_item f rules words p i l e ok)) ∙ same;
              }

-- ---- all segments

segments_more : (rows : List TypeRow) (large : ℕ) (h : HeapView) (k n m : ℕ) → n - k ≡ suc m
    → segments_fault rows large h k (n - k)
    ≡ or_else (segment_fault rows large h k) (segments_fault rows large h (k + 1) m)
unfolding segments_fault
segments_more rows large h k n m e = ap (segments_fault rows large h k) e

pub segments_step : (rows : List TypeRow) (large : ℕ) (h : HeapView) (k n : ℕ) → k < n
    → segments_fault rows large h k (n - k)
    ≡ or_else (segment_fault rows large h k) (segments_fault rows large h (k + 1) (n - (k + 1)))
segments_step rows large h k n l = segments_more rows large h k n (n - (k + 1)) (omega arith)

pub segments_done : (rows : List TypeRow) (large : ℕ) (h : HeapView) (k n : ℕ) → n ≤ k
    → segments_fault rows large h k (n - k) ≡ None
unfolding segments_fault
segments_done rows large h k n l = let none : n - k ≡ 0 = omega arith in ap (segments_fault rows large h k) none
