-- A heap without faults in its segments can be walked.
use Rattle.std.proofs.Common.{◌≡◌, ℕ, zero, suc, ◌+◌, ◌%◌, ◌<◌, ◌≤◌, ◌==◌, Bool, true, false, List, [], ◌∷◌, length}
use Rattle.std.proofs.Common.{get_or, Option, Some, None, Result, Ok, Err, refl, sym, ◌∙◌, ap, subst, arith, inl, inr}
use Rattle.std.proofs.lemmas.Bool.{cases_lt}
use Rattle.clr_types.specs.Types.{form_at, size_of, TypeRow}
use Rattle.clr_types.specs.Segments.{empty_segment}
use Rattle.clr_types.specs.declared.item.Item.{Item}
use Rattle.clr_types.specs.declared.segment.SegInfo.{SegInfo}
use Rattle.clr_heap.specs.Parts.{hole_from, IsMakeable, item_at, item_part, NamesItem, Part, rest_part, Spells}
use Rattle.clr_heap.specs.View.{AreWalkable, first_of, HeapView, holes_of, IsHeap, IsWalkable, last_of, segment_at}
use Rattle.clr_heap.specs.View.{sight, word_of}
use Rattle.clr_heap.proofs.Framing.{held_in, lawful_at, reserved_cons, reserved_in}
use Rattle.clr_heap.proofs.Spelling.{item_at-made, NamesItem-made, WritesHead}
use Rattle.clr_heap.proofs.Walking.{CanWalk-from}
use Rattle.clr_sos.specs.CheckedCells.{checked_item, checked_items, fault_of, or_else, Rules, Words}
use Rattle.clr_sos.specs.Faults.{AreInside, has_bounds, rules_of, segment_fault, segments_fault, words_in}
use Rattle.clr_sos.proofs.PaddingBytes.{has_size}
use Rattle.clr_sos.proofs.ScanSteps.{at_fault, at_hole, at_item, same_fault}
use Rattle.clr_sos.proofs.SoundCells.{hole_inside, item_ok, roomy}

-- a segment reserves no more than all together
reserved_within : (ss : List SegInfo) (k : ℕ) → k < length ss → (get_or ss k empty_segment).reserved ≤ reserved_in ss
reserved_within [] k l = absurd (omega arith)
reserved_within (s ∷ ss) zero l = let e = reserved_cons s ss in omega arith
reserved_within (s ∷ ss) (suc k) l =
    let e = reserved_cons s ss in let ih = reserved_within ss k (omega arith) in omega arith

pub reserved_small : (h : HeapView) (k : ℕ) → IsHeap h → k < length h.segments → (segment_at h k).reserved ≤ 1073741824
reserved_small h k heap l =
    let within = reserved_within h.segments k l in
    let limit = heap.within_limit in
    let small = heap.limit_small in
    omega arith

pub none_or : (o later : Option ℕ) → or_else o later ≡ None → (o ≡ None) × (later ≡ None)
none_or None later e = (refl, e)
none_or (Some a) later e = let clash : Some a ≡ None = e in absurd cc

module _ (rows : List TypeRow) (large : ℕ) (h : HeapView) (k : ℕ) (heap : IsHeap h) (l : k < length h.segments)
    (inside : AreInside h) where
  abbrev rules : Rules
  rules = rules_of rows large h k

  abbrev words : Words
  words = words_in h

  -- an item that passes the checks is what its words spell
  pub spelled_item : (p : ℕ) (i : Item) → first_of h k ≤ p → checked_item rules words p ≡ Ok i
      → (i ≡ item_at rows (word_of h) p) × NamesItem rows (word_of h) p
  spelled_item p i low ok =
      let s = item_ok rules (word_of h) p i ok in
      let room = roomy rules (word_of h) p i s in
      let head : WritesHead rows (word_of h) p s.t s.len = record { mt = s.mt; len = s.with_length } in
      let size : i.size ≡ size_of (form_at rows s.t) s.len = ap (λ (j : Item). j.size) s.is in
      let form = has_size (form_at rows s.t) s.len in
      let below = room.below in
      let lawful = lawful_at h k heap l in
      let up = lawful.high in
      let small = reserved_small h k heap l in
      let fits = s.length in
      let makeable : IsMakeable rows s.t s.len = record {
        known = s.known;
        no_length = s.without;
        least = form.least;
        most = omega (arith, size, below, up, small, low);
        whole = form.whole;
        free =
            λ e. let test : (s.t == 0) ≡ true =
            grind (arith, e) in let whole : (s.len % 8 == 0) ≡ true =
            sym (rw test refl) ∙ fits in grind (arith, whole);
      } in (
        s.is ∙ sym (item_at-made rows (word_of h) p s.t s.len head s.without),
        NamesItem-made rows
            (word_of h) p s.t s.len head makeable,
      )

  -- from a place on the words spell parts
  spelled_from : (f p : ℕ) → first_of h k ≤ p → p ≤ last_of h k → last_of h k ≤ p + f
      → fault_of (checked_items f rules words p) ≡ None → (ps : List Part) × Spells (sight rows h k) p ps (last_of h k)
  spelled_from zero p low high enough e = let at : p ≡ last_of h k = omega arith in ([], at)
  spelled_from (suc f) p low high enough e = elim (cases_lt p (last_of h k)) [
    | inr over ↦ let at : p ≡ last_of h k = omega arith in ([], at)
    | inl under ↦ go (λ q. spelled_from f q) under (hole_from (holes_of h k) p) refl (checked_item rules words p) refl
  ]
    where
      go : ((q : ℕ) → first_of h k ≤ q → q ≤ last_of h k → last_of h k ≤ q + f
          → fault_of (checked_items f rules words q) ≡ None
          → (ps : List Part) × Spells (sight rows h k) q ps (last_of h k))
          → p < last_of h k → (o : Option ℕ) → hole_from (holes_of h k) p ≡ o → (r : Result Item ℕ)
          → checked_item rules words p ≡ r → (ps : List Part) × Spells (sight rows h k) p ps (last_of h k)
      go again under (Some to) hole r item =
          let room = hole_inside h k p to inside l hole in
          let up = room.higher in
          let more =
          again to (omega arith) room.below (omega arith)
          (sym (ap fault_of (at_hole f rules words p to under hole)) ∙ e) in
          (rest_part p to ∷ more.0, (refl, hole, up, room.aligned, more.1))
      go again under None hole (Err a) item =
          let clash : Some a ≡ None = sym (ap fault_of (at_fault f rules words p a under hole item)) ∙ e in
          absurd cc
      go again under None hole (Ok i) item =
          let is = spelled_item p i low item in
          let room = roomy rules (word_of h) p i (item_ok rules (word_of h) p i item) in
          let least = room.least in
          let more =
          again (p + i.size) (omega arith) room.below (omega arith)
          (sym (same_fault i (checked_items f rules words (p + i.size)))
          ∙ sym (ap fault_of (at_item f rules words p i under hole item)) ∙ e) in
          (item_part i ∷ more.0, (hole, is.0, is.1, more.1))

  pub walkable_from : segment_fault rows large h k ≡ None → IsWalkable rows h k
  walkable_from e =
      let lawful = lawful_at h k heap l in
      let base = lawful.base in
      let low = lawful.low in
      let up = lawful.high in
      let bounds = go (has_bounds h k) refl in
      let ps = spelled_from (last_of h k) (first_of h k) (omega arith) low (omega arith) bounds in
      CanWalk-from (sight rows h k) h.memories ps.0 (first_of h k) (last_of h k) (omega arith) ps.1
      (λ a z from to. held_in h k a heap l (omega arith) (omega arith))
    where
      go : (b : Bool) → has_bounds h k ≡ b → fault_of (checked_items (last_of h k) rules words (first_of h k)) ≡ None
      go true on = sym (rw on refl) ∙ e
      go false on = let clash : Some (segment_at h k).base ≡ None = sym (rw on refl) ∙ e in absurd cc

-- no segment has a fault
pub none_each : (rows : List TypeRow) (large : ℕ) (h : HeapView) (i m k : ℕ) → segments_fault rows large h i m ≡ None
    → i ≤ k → k < i + m → segment_fault rows large h k ≡ None
unfolding segments_fault
none_each rows large h i zero k e low high = absurd (omega arith)
none_each rows large h i (suc m) k e low high =
    let parts = none_or (segment_fault rows large h i) (segments_fault rows large h (i + 1) m) e in
    elim (cases_lt i k) [
      | inl later ↦ none_each rows large h (i + 1) m k parts.1 (omega arith) (omega arith)
      | inr here ↦ let same : i ≡ k = omega arith in subst (λ (j : ℕ). segment_fault rows large h j ≡ None) same parts.0
    ]

pub are_walkable : (rows : List TypeRow) (large : ℕ) (h : HeapView) → IsHeap h → AreInside h
    → segments_fault rows large h 0 (length h.segments) ≡ None → AreWalkable rows h
are_walkable rows large h heap inside e k l =
    walkable_from rows large h k heap l inside
    (none_each rows large h 0 (length h.segments) k e (omega arith) (omega arith))
