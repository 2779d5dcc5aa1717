-- A heap with which nothing is wrong passes the checks.
use Rattle.std.proofs.Common.{◌≡◌, ℕ, zero, suc, ◌+◌, ◌%◌, ◌<◌, ◌≤◌, not, true, List, [], ◌∷◌, length, Option, None, Ok}
use Rattle.std.proofs.Common.{refl, sym, ◌∙◌, ap, subst, arith, inl, inr}
use Rattle.std.specs.List.{list_all}
use Rattle.std.proofs.lemmas.Bool.{cases_Bool}
use Rattle.clr_types.specs.Rising.{first, IsIn, later}
use Rattle.clr_types.specs.Types.{TypeRow}
use Rattle.clr_types.specs.Segments.{reserved_end}
use Rattle.clr_types.specs.declared.item.Item.{Item}
use Rattle.clr_heap.specs.Parts.{item_at, item_part, items_in, NamesItem, Part, rest_part, Spells}
use Rattle.clr_heap.specs.View.{first_of, heap_items, HeapView, IsHeap, last_of, parts_of, segment_at, sight, word_of}
use Rattle.clr_heap.proofs.Framing.{lawful_at}
use Rattle.clr_heap.proofs.Spelling.{item_size, Spells-le}
use Rattle.clr_view.proofs.Standing.{listed_from}
use Rattle.clr_sos.specs.CheckedCells.{checked_item, checked_items, fault_of, or_else, Rules, Words}
use Rattle.clr_sos.specs.Faults.{addresses, first_fault, has_bounds, is_between, is_name, is_young, locals_fault}
use Rattle.clr_sos.specs.Faults.{lowest, references_fault, rules_of, segment_fault, segments_fault, words_in}
use Rattle.clr_sos.specs.Faultless.{IsFaultless, IsWellPlaced}
use Rattle.clr_sos.proofs.ListTests.{all_true, filter-none}
use Rattle.clr_sos.proofs.CleanItems.{clean-each, IsClean}
use Rattle.clr_sos.proofs.NamedPlaces.{stands-name}
use Rattle.clr_sos.proofs.CleanCells.{item_clean}
use Rattle.clr_sos.proofs.JudgedNames.{lowest-none}
use Rattle.clr_sos.proofs.ScanSteps.{at_end, at_hole, at_item, same_fault}

module _ (rows : List TypeRow) (large : ℕ) (h : HeapView) (k : ℕ) where
  abbrev rules : Rules
  rules = rules_of rows large h k

  abbrev words : Words
  words = words_in h

  -- parts whose items are clean and well placed have no fault
  none_along : (ps : List Part) (p f : ℕ) → p % 8 ≡ 0 → Spells (sight rows h k) p ps (last_of h k) → last_of h k ≤ p + f
      → ((i : Item) → IsIn i (items_in ps) → IsClean rows h i × IsWellPlaced rows large h k i)
      → fault_of (checked_items f rules words p) ≡ None
  none_along [] p f z s enough each = ap fault_of (at_end f rules words p (omega (arith, s)))
  none_along (rest_part low high ∷ ps) p zero z s enough each =
      let up = s.2 in let l = Spells-le (sight rows h k) ps high (last_of h k) s.4 in absurd (omega arith)
  none_along (rest_part low high ∷ ps) p (suc f) z s enough each =
      let up = s.2 in
      let l = Spells-le (sight rows h k) ps high (last_of h k) s.4 in
      ap fault_of (at_hole f rules words p high (omega arith) s.1) ∙ none_along ps high f s.3 s.4 (omega arith) each
  none_along (item_part i ∷ ps) p zero z s enough each =
      let size = item_size (sight rows h k) i p s.1 s.2 in
      let l = Spells-le (sight rows h k) ps (p + i.size) (last_of h k) s.3 in
      absurd (omega arith)
  none_along (item_part i ∷ ps) p (suc f) z s enough each =
      let size = item_size (sight rows h k) i p s.1 s.2 in
      let least = size.0 in
      let whole = size.1 in
      let at : i.place ≡ p = size.2 in
      let l = Spells-le (sight rows h k) ps (p + i.size) (last_of h k) s.3 in
      let own = each i first in
      let names : NamesItem rows (word_of h) i.place = subst (NamesItem rows (word_of h)) (sym at) s.2 in
      let is : i ≡ item_at rows (word_of h) i.place = s.1 ∙ ap (item_at rows (word_of h)) (sym at) in
      let ok : checked_item rules words i.place ≡ Ok i =
      item_clean rows large h k i own.0 own.1 names is (omega arith) (ap (λ (n : ℕ). n % 8) at ∙ z) in
      let here : checked_item rules words p ≡ Ok i = ap (checked_item rules words) (sym at) ∙ ok in
      ap fault_of (at_item f rules words p i (omega arith) s.0 here)
      ∙ same_fault i (checked_items f rules words (p + i.size))
      ∙ none_along ps (p + i.size) f (omega arith) s.3 (omega arith) (λ j m. each j (later m))

  pub segment_clean : (locals : List ℕ) → IsHeap h → k < length h.segments → IsFaultless rows large h locals
      → segment_fault rows large h k ≡ None
  segment_clean locals heap l lawful =
      let seg = lawful_at h k heap l in
      let base = seg.base in
      let low = seg.low in
      let up = seg.high in
      let z = seg.aligned in
      let walk = lawful.walkable k l in
      let none =
      none_along (parts_of rows h k) (first_of h k) (last_of h k) (omega arith) walk.spelled (omega arith)
      (λ i m. (
        clean-each rows h lawful.walkable lawful.clean lawful.unmarked lawful.free_heads i
            (listed_from rows h k i l m),
        lawful.placed k i l m,
      )) in
      let end : is_between (first_of h k) (last_of h k) (reserved_end (segment_at h k)) ≡ true =
      grind (arith, low, up, z) in
      let bounds : has_bounds h k ≡ true = elim (cases_Bool (is_young h k)) [
        | inr old ↦ rw (end, old) refl
        | inl young ↦
            let b = lawful.bounds k l young in
            let z1 = b.aligned.0 in
            let z0 = b.aligned.1 in
            let b1 = b.low in
            let b2 = b.middle in
            let b3 = b.high in
            let one : is_between (first_of h k) h.start1 (last_of h k) ≡ true = grind (arith, z1, b1, b2, b3) in
            let two : is_between h.start1 h.start0 (last_of h k) ≡ true = grind (arith, z0, b2, b3) in
            rw (end, young, one, two) refl
      ] in
      rw bounds none

segments_clean : (rows : List TypeRow) (large : ℕ) (h : HeapView) (k n : ℕ)
    → ((j : ℕ) → j < k + n → segment_fault rows large h j ≡ None) → segments_fault rows large h k n ≡ None
unfolding segments_fault
segments_clean rows large h k zero each = refl
segments_clean rows large h k (suc n) each =
    rw (each k (omega arith)) (segments_clean rows large h (k + 1) n (λ j l. each j (omega arith)))

-- nothing is wrong with a lawful view
pub lawful_is_clean : (rows : List TypeRow) (large : ℕ) (h : HeapView) (locals : List ℕ) → IsHeap h
    → IsFaultless rows large h locals → first_fault rows large h locals ≡ None
lawful_is_clean rows large h locals heap lawful =
    let items = heap_items rows h in
    let one : segments_fault rows large h 0 (length h.segments) ≡ None =
    segments_clean rows large h 0 (length h.segments)
    (λ j l. segment_clean rows large h j locals heap (omega (arith, l)) lawful) in
    let two : references_fault rows h ≡ None =
    ap (lowest None)
    (filter-none (λ a. not (is_name items (word_of h a))) (addresses rows items)
    (λ a m. ap not (stands-name rows h (word_of h a) (lawful.references a m)))) ∙ lowest-none None in
    let three : list_all (is_name items) locals ≡ true =
    all_true (is_name items) locals (λ x m. stands-name rows h x (lawful.locals_named x m)) in
    let last : locals_fault rows h locals ≡ None = rw three refl in
    ap (λ (o : Option ℕ). or_else o (or_else (references_fault rows h) (locals_fault rows h locals))) one
    ∙ ap (λ (o : Option ℕ). or_else o (locals_fault rows h locals)) two ∙ last
