-- References one behind the other.
use Rattle.std.proofs.Common.{◌≡◌, ℕ, ◌+◌, ◌-◌, ◌*◌, ◌/◌, ◌%◌, ◌^◌, ◌<◌, ◌≤◌, true, false, List, [], ◌∷◌, ◌++◌, map}
use Rattle.std.proofs.Common.{Option, Some, None, is_some, refl, sym, ◌∙◌, ap, subst, arith, zero, suc, nat_le, Result}
use Rattle.std.proofs.Common.{Ok, Err}
use Rattle.std.proofs.lemmas.Bool.{le-leb}
use Rattle.clr_heap.specs.Parts.{hole_from}
use Rattle.std.proofs.lemmas.List.{map-append}
use Rattle.std.specs.List.{flat_map}
use Rattle.clr_types.specs.Ranges.{Piece}
use Rattle.clr_sos.proofs.PaddingBytes.{has_size}
use Rattle.clr_types.specs.Rising as rising
use Rattle.clr_types.specs.Rising.{first}
use Rattle.clr_types.specs.Descriptors.{reference_offsets}
use Rattle.clr_types.specs.Types.{form_at, size_of}
use Rattle.clr_types.specs.declared.item.Item.{Item}
use Rattle.clr_types.proofs.ListMembers.{append_right}
use Rattle.clr_types.proofs.Offsets.{inside_law}
use Rattle.clr_types.proofs.RisingLists.{all_at}
use Rattle.clr_sos.specs.CheckedCells.{checked_item, checked_items, or_else, Rules, with_item, Words}
use Rattle.clr_sos.specs.Faults.{is_name, item_addresses}
use Rattle.clr_load.specs.FoundItems.{AreThere, IsLeft, IsThere}
use Rattle.clr_load.specs.declared.starts.Range.{Range}
use Rattle.clr_format.specs.HeapFields.{offset_in, references_in, value_or_zero, word_named}
use Rattle.clr_format.specs.NameTests.{first_failed, reference_test, Test}
use Rattle.clr_load.specs.Scans.{IsIn, IsScan, words_in}
use Rattle.clr_load.specs.declared.cells.Scan.{Scan}
use Rattle.clr_load.proofs.FoundItems.{known_there}
use Rattle.clr_load.proofs.NameSteps.{failed_both, failed_one, none_failed, passed_one}
use Rattle.clr_types.specs.Segments.{first_place}
use Rattle.clr_load.specs.KnownStarts.{AreStarts}

pub in_middle : (xs : List ℕ) (n : ℕ) (ys zs : List ℕ) → xs ++ n ∷ ys ≡ zs → rising.IsIn n zs
in_middle xs n ys zs e = subst (rising.IsIn n) e (append_right xs first)

-- the word of a reference
pub record IsSlot (s : Scan) (a : ℕ) : Type 0 where
  pub low : s.info.base + 4088 ≤ a
  pub high : a < 2 ^ 62
  pub there : is_some (words_in s a) ≡ true

pub slot_facts : (s : Scan) (i : Item) (offset : ℕ) → IsScan s → IsIn s i.place → IsThere s i.place i
    → rising.IsIn offset (reference_offsets (form_at s.types.now i.type_id.0) i.len) → IsSlot s (i.place + offset)
slot_facts s i offset scan at there among =
    let k = known_there s i.place i there in
    let inside =
    all_at (λ (o : ℕ). (8 ≤ o) × (o + 16 ≤ size_of (form_at s.types.now i.type_id.0) i.len) × (o % 8 ≡ 0)) among
    (inside_law (form_at s.types.now i.type_id.0) i.len) in
    let least = inside.0 in
    let up = inside.1 in
    let whole = inside.2 in
    let size = k.size in
    let end = k.inside in
    let low = at.low in
    let high = scan.high in
    let highest = scan.highest in
    let place : i.place + 8 + 8 * ((offset - 8) / 8) ≡ i.place + offset = omega arith in
    let few : (offset - 8) / 8 < (i.size - 16) / 8 = omega (arith, up, size, least, whole) in
    record {
      low = omega arith;
      high = omega (arith, up, size, end);
      there = ap (λ (a : ℕ). is_some (words_in s a)) (sym place) ∙ k.words ((offset - 8) / 8) few;
    }

module _ (T : ℕ × ℕ → Test) (N : ℕ → ℕ × ℕ) (A : ℕ → ℕ) where
  abbrev nested : List ℕ → List Test
  nested xs = map T (map N (map A xs))

  nested_both : (xs ys : List ℕ) → nested (xs ++ ys) ≡ nested xs ++ nested ys
  nested_both [] ys = refl
  nested_both (x ∷ xs) ys = ap (λ (ts : List Test). T (N (A x)) ∷ ts) (nested_both xs ys)

  pub passed_more : (xs : List ℕ) (x : ℕ) → first_failed (nested xs) ≡ None → first_failed (T (N (A x)) ∷ []) ≡ None
      → first_failed (nested (xs ++ x ∷ [])) ≡ None
  passed_more xs x good fine =
      ap first_failed (nested_both xs (x ∷ [])) ∙ failed_both (nested xs) (nested (x ∷ []))
      ∙ ap (λ (f : Option ℕ). or_else f (first_failed (nested (x ∷ [])))) good ∙ fine

  pub failed_at : (xs : List ℕ) (x : ℕ) (ys : List ℕ) (o : ℕ) → first_failed (nested xs) ≡ None
      → first_failed (T (N (A x)) ∷ []) ≡ Some o → first_failed (nested (xs ++ x ∷ ys)) ≡ Some o
  failed_at xs x ys o good bad =
      ap first_failed (nested_both xs (x ∷ ys)) ∙ failed_both (nested xs) (nested (x ∷ ys))
      ∙ ap (λ (f : Option ℕ). or_else f (first_failed (nested (x ∷ ys)))) good
      ∙ failed_both (T (N (A x)) ∷ []) (nested ys)
      ∙ ap (λ (f : Option ℕ). or_else f (first_failed (nested ys))) bad

-- one reference, whose word is there
module _ (s : Scan) (items : List Item) (a w : ℕ) (is : words_in s a ≡ Some w) where
  pub reference_fails : is_name items w ≡ false
      → first_failed (reference_test items (word_named s.bytes.now s.info s.at a) ∷ [])
      ≡ Some (offset_in s.info s.at a)
  reference_fails bad =
      failed_one (offset_in s.info s.at a) (is_name items (value_or_zero (words_in s a)))
      (ap (λ (v : Option ℕ). is_name items (value_or_zero v)) is ∙ bad)

  pub reference_passes : is_name items w ≡ true
      → first_failed (reference_test items (word_named s.bytes.now s.info s.at a) ∷ []) ≡ None
  reference_passes good =
      passed_one (offset_in s.info s.at a) (is_name items (value_or_zero (words_in s a)))
      (ap (λ (v : Option ℕ). is_name items (value_or_zero v)) is ∙ good)

-- ---- the items of a segment

not_over : (end p : ℕ) → p < end → nat_le end p ≡ false
not_over end p l = grind (arith, l)

over : (f : ℕ) (rules : Rules) (words : Words) (p : ℕ) → rules.end ≤ p → checked_items f rules words p ≡ Ok []
unfolding checked_items
over zero rules words p l = refl
over (suc f) rules words p l = rw (le-leb rules.end p l) refl

-- the next item, and what is left behind it
pub record IsNext (s : Scan) (rules : Rules) (place : ℕ) (left : List Item) : Type 0 where
  pub item : Item
  pub rest : List Item
  pub fuel : ℕ
  pub is : left ≡ item ∷ rest
  pub here : checked_item rules (words_in s) place ≡ Ok item
  pub behind : checked_items fuel rules (words_in s) (place + item.size) ≡ Ok rest
  pub enough : s.info.end ≤ place + suc fuel

step_item : (f : ℕ) (rules : Rules) (words : Words) (p : ℕ) (i : Item) → p < rules.end → rules.holes ≡ []
    → checked_item rules words p ≡ Ok i
    → checked_items (suc f) rules words p ≡ with_item i (checked_items f rules words (p + i.size))
unfolding checked_items
step_item f rules words p i l holes ok =
    let none : hole_from rules.holes p ≡ None = ap (λ (hs : List (Option Piece)). hole_from hs p) holes in
    rw (not_over rules.end p l, none, ok) refl

step_fault : (f : ℕ) (rules : Rules) (words : Words) (p a : ℕ) → p < rules.end → rules.holes ≡ []
    → checked_item rules words p ≡ Err a → checked_items (suc f) rules words p ≡ Err a
unfolding checked_items
step_fault f rules words p a l holes bad =
    let none : hole_from rules.holes p ≡ None = ap (λ (hs : List (Option Piece)). hole_from hs p) holes in
    rw (not_over rules.end p l, none, bad) refl

first_of : (i : Item) (r : Result (List Item) ℕ) (left : List Item) → with_item i r ≡ Ok left
    → (rest : List Item) × (left ≡ i ∷ rest) × (r ≡ Ok rest)
first_of i (Err a) left e = let clash : Err a ≡ Ok left = e in absurd cc
first_of i (Ok rest) left e = let same : left ≡ i ∷ rest = cc in (rest, same, refl)

module _ (s : Scan) (rules : Rules) (place : ℕ) (end : rules.end ≡ s.info.end) (holes : rules.holes ≡ [])
    (less : place < s.info.end) (left : List Item) where
  found_item : (f : ℕ) → s.info.end ≤ place + suc f → checked_items (suc f) rules (words_in s) place ≡ Ok left
      → (r : Result Item ℕ) → checked_item rules (words_in s) place ≡ r → IsNext s rules place left
  found_item f enough found (Err a) is =
      let clash : Err a ≡ Ok left =
      sym (step_fault f rules (words_in s) place a (omega (arith, end, less)) holes is) ∙ found in absurd cc
  found_item f enough found (Ok i) is =
      let parts =
      first_of i (checked_items f rules (words_in s) (place + i.size)) left
      (sym (step_item f rules (words_in s) place i (omega (arith, end, less)) holes is) ∙ found) in
      record {
        item = i;
        rest = parts.0;
        fuel = f;
        is = parts.1;
        here = is;
        behind = parts.2;
        enough = enough;
      }

  pub next_item : (f : ℕ) → s.info.end ≤ place + f → checked_items f rules (words_in s) place ≡ Ok left
      → IsNext s rules place left
  next_item zero enough found = absurd (omega arith)
  next_item (suc f) enough found = found_item f enough found (checked_item rules (words_in s) place) refl

-- nothing is left at the end
pub none_left : (s : Scan) (rules : Rules) (place : ℕ) → rules.end ≡ s.info.end → s.info.end ≤ place → (f : ℕ)
    → (left : List Item) → checked_items f rules (words_in s) place ≡ Ok left → left ≡ []
none_left s rules place end l f left found =
    let same : Ok [] ≡ Ok left = sym (over f rules (words_in s) place (omega (arith, end, l))) ∙ found in
    let is : left ≡ [] = cc in is

-- the references of one item, and then those of the others
pub item_then : (s : Scan) (items : List Item) (i : Item) (rest : List Item)
    → first_failed (map (reference_test items) (references_in s.bytes.now s.types.now s.info s.at (i ∷ rest)))
    ≡ or_else (first_failed (map (reference_test items)
    (map (word_named s.bytes.now s.info s.at) (item_addresses s.types.now i))))
    (first_failed (map (reference_test items) (references_in s.bytes.now s.types.now s.info s.at rest)))
item_then s items i rest =
    let N = word_named s.bytes.now s.info s.at in
    let here = item_addresses s.types.now i in
    let others = flat_map (item_addresses s.types.now) rest in
    ap (λ (xs : List (ℕ × ℕ)). first_failed (map (reference_test items) xs)) (map-append N here others)
    ∙ ap first_failed (map-append (reference_test items) (map N here) (map N others))
    ∙ failed_both (map (reference_test items) (map N here)) (map (reference_test items) (map N others))

-- how large an item that is there is
pub sized_there : (s : Scan) (place : ℕ) (i : Item) → IsThere s place i
    → (24 ≤ i.size) × (i.size % 8 ≡ 0) × (place + i.size ≤ s.info.end)
sized_there s place i there =
    let k = known_there s place i there in
    let form = has_size (form_at s.types.now i.type_id.0) i.len in
    let size = k.size in
    let least = form.least in
    (omega (arith, size, least), ap (λ (n : ℕ). n % 8) size ∙ form.whole, k.inside)

-- ---- a walk over them

module _ (s : Scan) (starts : List Range) (here : List Item) (r : AreThere s here) where
  pub left_start : first_place s.info ≤ s.info.end → IsLeft s r.rules starts here (first_place s.info)
  left_start l = record {
    fuel = s.info.end - first_place s.info;
    enough = omega arith;
    left = here;
    found = r.found;
    same = λ items st. refl;
  }

  module _ (place : ℕ) (l : IsLeft s r.rules starts here place) where
    pub at_next : place < s.info.end → IsNext s r.rules place l.left
    at_next less = next_item s r.rules place r.end r.holes less l.left l.fuel l.enough l.found

    pub there_next : (less : place < s.info.end) → IsThere s place (at_next less).item
    there_next less = record { rules = r.rules; rows = r.rows; end = r.end; found = (at_next less).here }

    -- the next item has a bad reference
    pub next_fails : (less : place < s.info.end) (i : Item) → i ≡ (at_next less).item → (o : ℕ) (items : List Item)
        → AreStarts starts items
        → first_failed (map (reference_test items) (map (word_named s.bytes.now s.info s.at)
        (item_addresses s.types.now i))) ≡ Some o
        → first_failed (map (reference_test items) (references_in s.bytes.now s.types.now s.info s.at here)) ≡ Some o
    next_fails less i e o items st bad =
        let n = at_next less in
        sym (l.same items st)
        ∙ ap (λ (xs : List Item). first_failed (map (reference_test items)
        (references_in s.bytes.now s.types.now s.info s.at xs))) n.is
        ∙ item_then s items n.item n.rest
        ∙ ap (λ (f : Option ℕ). or_else f (first_failed (map (reference_test items)
        (references_in s.bytes.now s.types.now s.info s.at n.rest))))
        (ap (λ (j : Item). first_failed (map (reference_test items) (map (word_named s.bytes.now s.info s.at)
        (item_addresses s.types.now j)))) (sym e) ∙ bad)

    -- the next item has none
    pub next_passes : (less : place < s.info.end) (i : Item) → i ≡ (at_next less).item
        → ((items : List Item) → AreStarts starts items
        → first_failed (map (reference_test items) (map (word_named s.bytes.now s.info s.at)
        (item_addresses s.types.now i))) ≡ None)
        → IsLeft s r.rules starts here (place + i.size)
    next_passes less i e good =
        let n = at_next less in
        let size : i.size ≡ n.item.size = ap (λ (j : Item). j.size) e in
        let sized = sized_there s place n.item (there_next less) in
        let least = sized.0 in
        let more = n.enough in
        record {
          fuel = n.fuel;
          enough = omega (arith, size, least, more);
          left = n.rest;
          found = ap (λ (k : ℕ). checked_items n.fuel r.rules (words_in s) (place + k)) size ∙ n.behind;
          same = λ items st.
              let passed = good items st in
              sym (ap (λ (xs : List Item). first_failed (map (reference_test items)
              (references_in s.bytes.now s.types.now s.info s.at xs))) n.is
              ∙ item_then s items n.item n.rest
              ∙ ap (λ (f : Option ℕ). or_else f (first_failed (map (reference_test items)
              (references_in s.bytes.now s.types.now s.info s.at n.rest))))
              (ap (λ (j : Item). first_failed (map (reference_test items) (map (word_named s.bytes.now s.info s.at)
              (item_addresses s.types.now j)))) (sym e) ∙ passed))
              ∙ l.same items st;
        }

    pub all_passed : s.info.end ≤ place → (items : List Item) → AreStarts starts items
        → first_failed (map (reference_test items) (references_in s.bytes.now s.types.now s.info s.at here)) ≡ None
    all_passed most items st =
        sym (l.same items st)
        ∙ ap (λ (xs : List Item). first_failed (map (reference_test items)
        (references_in s.bytes.now s.types.now s.info s.at xs)))
        (none_left s r.rules place r.end most l.fuel l.left l.found) ∙ none_failed
