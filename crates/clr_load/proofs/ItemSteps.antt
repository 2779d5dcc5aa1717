-- Steps of a scan over the items in a segment's memory.
use Rattle.std.proofs.Common.{◌≡◌, ℕ, zero, suc, ◌+◌, ◌-◌, ◌%◌, ◌<◌, ◌≤◌, ◌==◌, ◌&&◌, ◌||◌, nat_le, Bool, true, false}
use Rattle.std.proofs.Common.{List, [], ◌∷◌, ◌++◌, length, Result, Ok, Err, refl, sym, ◌∙◌, ap, arith}
use Rattle.std.proofs.Common.{append_assoc, append-nil}
use Rattle.std.proofs.lemmas.Bool.{le-leb}
use Rattle.clr_types.specs.Segments.{first_place}
use Rattle.clr_types.specs.declared.item.Item.{Item}
use Rattle.clr_view.specs.View.{is_object}
use Rattle.clr_sos.specs.CheckedCells.{checked_item, checked_items, Rules, with_item, Words}
use Rattle.clr_sos.specs.Faults.{stands}
use Rattle.clr_load.specs.ItemScans.{after_items, IsItemScan, IsRangeOf, items_of}
use Rattle.clr_load.specs.Scans.{HasRoom, rules_in, words_in}
use Rattle.clr_load.specs.Starts.{has_place}
use Rattle.clr_load.specs.declared.cells.Scan.{Scan}
use Rattle.clr_load.specs.declared.starts.Range.{Range}

not_over : (end p : ℕ) → p < end → nat_le end p ≡ false
not_over end p l = grind (arith, l)

at_end : (f : ℕ) (rules : Rules) (words : Words) (p : ℕ) → rules.end ≤ p → checked_items f rules words p ≡ Ok []
unfolding checked_items
at_end zero rules words p l = refl
at_end (suc f) rules words p l = rw (le-leb rules.end p l) refl

-- no hole stands in an image
module _ (s : Scan) where
  at_item : (f p : ℕ) (i : Item) → p < s.info.end → checked_item (rules_in s) (words_in s) p ≡ Ok i
      → checked_items (suc f) (rules_in s) (words_in s) p
      ≡ with_item i (checked_items f (rules_in s) (words_in s) (p + i.size))
  unfolding checked_items
  at_item f p i l ok = rw (not_over s.info.end p l, ok) refl

  at_fault : (f p a : ℕ) → p < s.info.end → checked_item (rules_in s) (words_in s) p ≡ Err a
      → checked_items (suc f) (rules_in s) (words_in s) p ≡ Err a
  unfolding checked_items
  at_fault f p a l bad = rw (not_over s.info.end p l, bad) refl

one_more : (done : List Item) (i : Item) (r : Result (List Item) ℕ)
    → after_items done (with_item i r) ≡ after_items (done ++ i ∷ []) r
one_more done i (Err a) = refl
one_more done i (Ok items) = ap Ok (sym (append_assoc done (i ∷ []) items))

pub stands_both : (xs ys : List Item) (x : ℕ) → stands (xs ++ ys) x ≡ (stands xs x || stands ys x)
stands_both [] ys x = refl
stands_both (i ∷ xs) ys x =
    ap (λ (b : Bool). ((i.place == x) && is_object i) || b) (stands_both xs ys x)
    ∙ or_assoc ((i.place == x) && is_object i) (stands xs x) (stands ys x)
  where
    or_assoc : (a b c : Bool) → (a || (b || c)) ≡ ((a || b) || c)
    or_assoc true b c = refl
    or_assoc false b c = refl

or_joined : (a b c : Bool) → ((a || b) || c) ≡ (a || (b || c))
or_joined true b c = refl
or_joined false b c = refl

or_false : (b : Bool) → (b || false) ≡ b
or_false true = refl
or_false false = refl

module _ (s : Scan) (old : Range) where
  pub scan_starts : (z : first_place s.info % 8 ≡ 0) → first_place s.info ≤ s.info.end
      → s.at ≤ length s.bytes.now → IsRangeOf s old
      → IsItemScan s (first_place s.info) old old
  unfolding items_of
  scan_starts z l within range = record {
    aligned = z;
    low = omega arith;
    high = l;
    there = omega arith;
    range = range;
    fuel = s.info.end - first_place s.info;
    enough = omega arith;
    done = [];
    same = same_of (checked_items (s.info.end - first_place s.info) (rules_in s) (words_in s) (first_place s.info));
    marked = λ x. sym (or_false (has_place old x));
  }
    where
      same_of : (r : Result (List Item) ℕ) → r ≡ after_items [] r
      same_of (Ok items) = refl
      same_of (Err a) = refl

  module _ (p : ℕ) (now : Range) (at : IsItemScan s p old now) where
    pub scan_ends : s.info.end ≤ p → items_of s ≡ Ok at.done
    scan_ends l =
        at.same ∙ ap (after_items at.done) (at_end at.fuel (rules_in s) (words_in s) p l)
        ∙ ap Ok (append-nil at.done)

    module _ (l : p < s.info.end) where
      pub scan_fault : (a : ℕ) → checked_item (rules_in s) (words_in s) p ≡ Err a → items_of s ≡ Err a
      scan_fault a bad = go at.fuel at.enough at.same
        where
          go : (f : ℕ) → s.info.end ≤ p + f
              → items_of s ≡ after_items at.done (checked_items f (rules_in s) (words_in s) p) → items_of s ≡ Err a
          go zero enough same = absurd (omega arith)
          go (suc f) enough same = same ∙ ap (after_items at.done) (at_fault s f p a l bad)

      pub scan_item : (i : Item) (new : Range) → checked_item (rules_in s) (words_in s) p ≡ Ok i → HasRoom s p i
          → IsRangeOf s new → ((x : ℕ) → has_place new x ≡ (has_place now x || ((p == x) && is_object i)))
          → IsItemScan s (p + i.size) old new
      scan_item i new ok room range more = go at.fuel at.enough at.same
        where
          go : (f : ℕ) → s.info.end ≤ p + f
              → items_of s ≡ after_items at.done (checked_items f (rules_in s) (words_in s) p)
              → IsItemScan s (p + i.size) old new
          go zero enough same = absurd (omega arith)
          go (suc f) enough same =
              let z = at.aligned in
              let low = at.low in
              let least = room.least in
              let whole = room.whole in
              record {
                aligned = omega arith;
                low = omega arith;
                high = room.inside;
                there = room.there;
                range = range;
                fuel = f;
                enough = omega arith;
                done = at.done ++ i ∷ [];
                same =
                    same ∙ ap (after_items at.done) (at_item s f p i l ok)
                    ∙ one_more at.done i (checked_items f (rules_in s) (words_in s) (p + i.size));
                marked = λ x.
                    let here : ((p == x) && is_object i) ≡ stands (i ∷ []) x =
                    ap (λ (q : ℕ). (q == x) && is_object i) (sym room.at)
                    ∙ sym (or_false ((i.place == x) && is_object i))
                    in
                    more x ∙ ap (λ (b : Bool). b || ((p == x) && is_object i)) (at.marked x)
                    ∙ or_joined (has_place old x) (stands at.done x) ((p == x) && is_object i)
                    ∙ ap (λ (b : Bool). has_place old x || (stands at.done x || b)) here
                    ∙ ap (λ (b : Bool). has_place old x || b) (sym (stands_both at.done (i ∷ []) x));
              }
