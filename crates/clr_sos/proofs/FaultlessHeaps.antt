-- Nothing is wrong with a heap that passes the checks.
use Rattle.std.proofs.Common.{◌≡◌, ℕ, zero, suc, ◌+◌, ◌-◌, ◌/◌, ◌%◌, ◌^◌, ◌<◌, ◌≤◌, ◌==◌, ◌&&◌, ◌||◌, not}
use Rattle.std.proofs.Common.{if◌then◌else◌, nat_lt, nat_le, min, Bool, true, false, List, [], ◌∷◌, filter, length}
use Rattle.std.proofs.Common.{Some, None, Result, Ok, Err, refl, sym, ◌∙◌, ap, subst, arith, inl, inr, pow-suc}
use Rattle.std.specs.List.{list_all}
use Rattle.std.proofs.Math.Nat.{div-div-eq-div-mul}
use Rattle.std.proofs.lemmas.Bool.{and_parts, cases_Bool, cases_lt}
use Rattle.clr_mem.specs.Words.{byte_of}
use Rattle.clr_types.specs.LawfulLayout.{DoesNotCross}
use Rattle.clr_types.specs.Rising.{IsIn}
use Rattle.clr_types.specs.Types.{form_at, mt_of, size_of, TypeRow}
use Rattle.clr_types.specs.declared.item.Item.{Item}
use Rattle.clr_types.proofs.RisingLists.{in_cons}
use Rattle.clr_types.specs.Segments.{reserved_end}
use Rattle.clr_heap.specs.Memories.{word_address}
use Rattle.clr_heap.specs.Parts.{item_part, item_piece, items_in, Part, rest_part, Spells}
use Rattle.clr_heap.specs.View.{AreWalkable, first_of, heap_items, HeapView, holes_of, IsHeap, last_of, listing}
use Rattle.clr_heap.specs.View.{parts_of, segment_at, sight, word_of}
use Rattle.clr_heap.proofs.Spelling.{item_size, Spells-le}
use Rattle.clr_view.proofs.Listed.{listed-in}
use Rattle.clr_view.specs.Clean.{AreZero, IsCleanHeader, slots_end}
use Rattle.clr_sos.specs.CheckedCells.{begins_in, checked_item, checked_items, contents_fault, crosses, fault_of}
use Rattle.clr_sos.specs.CheckedCells.{first_byte, is_inside, may_hold, or_else, padding_from, Rules, Words}
use Rattle.clr_sos.specs.Faults.{addresses, AreInside, first_fault, has_bounds, is_between, is_name, is_young}
use Rattle.clr_sos.specs.Faults.{locals_fault, lowest, references_fault, rules_of, segment_fault, segments_fault}
use Rattle.clr_sos.specs.Faults.{words_in}
use Rattle.clr_sos.specs.CellScans.{suits_object}
use Rattle.clr_sos.specs.Faultless.{HasBounds, IsFaultless, IsWellPlaced}
use Rattle.clr_sos.proofs.ListTests.{all_pass, none_pass}
use Rattle.clr_sos.proofs.CleanItems.{clean-all, heads-all, IsClean, unmarked-all}
use Rattle.clr_sos.proofs.NamedPlaces.{name-stands}
use Rattle.clr_sos.proofs.PaddingBytes.{has_size, last_padding, padding_object}
use Rattle.clr_sos.proofs.WalkedItems.{walked_is}
use Rattle.clr_sos.proofs.ScanSteps.{at_fault, at_hole, at_item, same_fault}
use Rattle.clr_sos.proofs.ScanLimits.{suits_is}
use Rattle.clr_sos.proofs.SoundCells.{IsSound, item_ok}
use Rattle.clr_sos.proofs.FaultlessWalks.{are_walkable, none_each, none_or, spelled_item}

-- ---- padding

-- where no byte is amiss, all from `from` on are zero
pub bytes_clear : (n k from base w : ℕ) → first_byte n from (base + k) (w / 256 ^ k) ≡ None → (j : ℕ) → k ≤ j
    → j < k + n → from ≤ base + j → w / 256 ^ j % 256 ≡ 0
unfolding first_byte
bytes_clear zero k from base w none j low high up = absurd (omega arith)
bytes_clear (suc n) k from base w none j low high up =
    let next : suc k ≡ k + 1 = omega arith in
    let shift : w / 256 ^ k / 256 ≡ w / 256 ^ (k + 1) =
    div-div-eq-div-mul w (256 ^ k) 256 ∙ ap (λ (d : ℕ). w / d) (sym (pow-suc 256 k) ∙ ap (λ (m : ℕ). 256 ^ m) next) in
    let at : base + k + 1 ≡ base + (k + 1) = omega arith in
    elim (cases_Bool (nat_lt (base + k) from || (w / 256 ^ k % 256 == 0))) [
      | inr bad ↦ let clash : Some (base + k) ≡ None = sym (rw bad refl) ∙ none in absurd cc
      | inl good ↦ elim (cases_lt k j) [
        | inl more ↦
            bytes_clear n (k + 1) from base w (sym (rw (good, shift, at) refl) ∙ none) j (omega arith) (omega arith) up
        | inr here ↦
            let same : k ≡ j = omega arith in
            let now : w / 256 ^ k % 256 ≡ 0 = let u : from ≤ base + k = omega arith in grind (arith, good, u) in
            subst (λ (m : ℕ). w / 256 ^ m % 256 ≡ 0) same now
      ]
    ]

-- an object without a fault behind its method table word has clear padding
padding_clear : (rows : List TypeRow) (large : ℕ) (h : HeapView) (k p t len : ℕ) → p % 8 ≡ 0 → (t == 0) ≡ false
    → contents_fault (rules_of rows large h k) (words_in h) p t len ≡ None
    → AreZero (word_of h) (p + slots_end (form_at rows t) len) (p + size_of (form_at rows t) len - 8)
padding_clear rows large h k p t len z object none a low high =
    let rules = rules_of rows large h k in
    let size = size_of (form_at rows t) len in
    let from = padding_object rules p t len object in
    let is = has_size (form_at rows t) len in
    let up = is.high in
    let least = is.least in
    let whole = is.whole in
    let base = p + size - 16 in
    let word = word_of h base in
    let j = a - base in
    let reaches : base ≤ a = omega arith in
    let start : base + 0 ≡ base = omega arith in
    let one : word / 256 ^ 0 ≡ word = omega arith in
    let fault : first_byte 8 (padding_from rules p t len) (base + 0) (word / 256 ^ 0) ≡ None =
    ap (λ (b : ℕ). first_byte 8 (padding_from rules p t len) b (word / 256 ^ 0)) start
    ∙ ap (λ (w : ℕ). first_byte 8 (padding_from rules p t len) base w) one
    ∙ sym (last_padding rules (word_of h) p t len (omega (arith, from, up))) ∙ none in
    let zero_byte =
    bytes_clear 8 0 (padding_from rules p t len) base word fault j (omega arith) (omega arith)
    (omega (arith, from, low, reaches)) in
    let at : word_address a ≡ base = omega arith in
    let place : a % 8 ≡ j = omega arith in
    ap (λ (b : ℕ). byte_of (word_of h b) (a % 8)) at ∙ ap (λ (m : ℕ). byte_of word m) place ∙ zero_byte

-- ---- one item

module _ (rows : List TypeRow) (large : ℕ) (h : HeapView) (k : ℕ) (i : Item)
    (s : IsSound (rules_of rows large h k) (word_of h) i.place i) (aligned : i.place % 8 ≡ 0) where
  abbrev rules : Rules
  rules = rules_of rows large h k

  type_is : i.type_id.0 ≡ s.t
  type_is = ap (λ (j : Item). j.type_id.0) s.is

  len_is : i.len ≡ s.len
  len_is = ap (λ (j : Item). j.len) s.is

  size_is : i.size ≡ size_of (form_at rows s.t) s.len
  size_is = ap (λ (j : Item). j.size) s.is

  pub sound_clean : IsClean rows h i
  sound_clean = record {
    header = subst (λ (n : ℕ). IsCleanHeader rows n (word_of h (i.place - 8))) (sym type_is) s.header;
    unmarked = s.mt ∙ ap mt_of (sym type_is);
    padding = λ object.
        let same = type_is in
        let other : (s.t == 0) ≡ false = grind (arith, object, same) in
        let zeros = padding_clear rows large h k i.place s.t s.len aligned other s.contents in
        λ a low high.
        let n = size_is in
        let end : slots_end (form_at rows i.type_id.0) i.len ≡ slots_end (form_at rows s.t) s.len =
        ap (λ (t : ℕ). slots_end (form_at rows t) i.len) type_is ∙ ap (slots_end (form_at rows s.t)) len_is in
        zeros a (omega (arith, low, end)) (omega (arith, high, n));
  }

  uncrossed : (boundary : ℕ)
      → crosses (if is_young h k then boundary else 0) i.place (size_of (form_at rows s.t) s.len) ≡ false
      → is_young h k ≡ true → DoesNotCross boundary (item_piece i)
  uncrossed boundary off young =
      let here : crosses boundary i.place (size_of (form_at rows s.t) s.len) ≡ false = sym (rw young refl) ∙ off in
      let n = size_is in
      elim (cases_lt i.place boundary) [
        | inr low ↦ inl low
        | inl below ↦ inr (grind (arith, here, below, n))
      ]

  pub sound_placed : IsWellPlaced rows large h k i
  sound_placed =
      let size = size_of (form_at rows s.t) s.len in
      let whole = and_parts (is_inside rules i.place size) _ s.whole in
      let inside = and_parts (nat_le (i.place + size) (last_of h k)) _ whole.0 in
      let rest = and_parts (not (crosses rules.start1 i.place size)) _ whole.1 in
      let more = and_parts (not (crosses rules.start0 i.place size)) _ rest.1 in
      let clear : begins_in (holes_of h k) i.place (i.place + size) ≡ false = grind (arith, inside) in
      let old : crosses rules.start1 i.place size ≡ false = grind (arith, rest) in
      let young : crosses rules.start0 i.place size ≡ false = grind (arith, more) in
      record {
        old = uncrossed h.start1 old;
        young = uncrossed h.start0 young;
        apart = ap (λ (n : ℕ). begins_in (holes_of h k) i.place (i.place + n)) size_is ∙ clear;
        held = ap (λ (n : ℕ). may_hold (segment_at h k).kind (form_at rows n)) type_is ∙ s.held;
        suits = λ object.
            let same = type_is in
            let other : (s.t == 0) ≡ false = grind (arith, object, same) in
            let suited = sym (suits_is large (segment_at h k).kind s.t size) ∙ more.1 in
            ap (suits_object large (segment_at h k).kind) size_is ∙ (sym (rw other refl) ∙ suited);
      }

-- ---- a segment

module _ (rows : List TypeRow) (large : ℕ) (h : HeapView) (k : ℕ) (heap : IsHeap h) (l : k < length h.segments)
    (inside : AreInside h) where
  -- each item that is spelled passes the checks
  checked_along : (ps : List Part) (p f : ℕ) → first_of h k ≤ p → Spells (sight rows h k) p ps (last_of h k)
      → last_of h k ≤ p + f → fault_of (checked_items f (rules_of rows large h k) (words_in h) p) ≡ None
      → (i : Item) → IsIn i (items_in ps) → checked_item (rules_of rows large h k) (words_in h) i.place ≡ Ok i
  checked_along [] p f low s enough none i m = elim m [ ]
  checked_along (rest_part to high ∷ ps) p zero low s enough none i m =
      let up = s.2 in let e = Spells-le (sight rows h k) ps high (last_of h k) s.4 in absurd (omega arith)
  checked_along (rest_part to high ∷ ps) p (suc f) low s enough none i m =
      let up = s.2 in
      let e = Spells-le (sight rows h k) ps high (last_of h k) s.4 in
      checked_along ps high f (omega arith) s.4 (omega arith)
      (sym (ap fault_of (at_hole f (rules_of rows large h k) (words_in h) p high (omega arith) s.1)) ∙ none) i m
  checked_along (item_part j ∷ ps) p zero low s enough none i m =
      let size = item_size (sight rows h k) j p s.1 s.2 in
      let e = Spells-le (sight rows h k) ps (p + j.size) (last_of h k) s.3 in
      absurd (omega arith)
  checked_along (item_part j ∷ ps) p (suc f) low s enough none i m =
      go (checked_item rules words p) refl (λ q r. checked_along ps q f r)
    where
      rules : Rules
      rules = rules_of rows large h k

      words : Words
      words = words_in h

      go : (r : Result Item ℕ) → checked_item (rules_of rows large h k) (words_in h) p ≡ r
          → ((q : ℕ) → first_of h k ≤ q → Spells (sight rows h k) q ps (last_of h k) → last_of h k ≤ q + f
          → fault_of (checked_items f (rules_of rows large h k) (words_in h) q) ≡ None → (i : Item)
          → IsIn i (items_in ps) → checked_item (rules_of rows large h k) (words_in h) i.place ≡ Ok i)
          → checked_item (rules_of rows large h k) (words_in h) i.place ≡ Ok i
      go (Err a) item again =
          let size = item_size (sight rows h k) j p s.1 s.2 in
          let e = Spells-le (sight rows h k) ps (p + j.size) (last_of h k) s.3 in
          let clash : Some a ≡ None = sym (ap fault_of (at_fault f rules words p a (omega arith) s.0 item)) ∙ none in
          absurd cc
      go (Ok found) item again =
          let size = item_size (sight rows h k) j p s.1 s.2 in
          let e = Spells-le (sight rows h k) ps (p + j.size) (last_of h k) s.3 in
          let same : found ≡ j = (spelled_item rows large h k heap l inside p found low item).0 ∙ sym s.1 in
          let moved : p + found.size ≡ p + j.size = ap (λ (x : Item). p + x.size) same in
          elim (in_cons m) [
            | inl here ↦
                let place : i.place ≡ p = ap (λ (x : Item). x.place) here ∙ size.2 in
                ap (checked_item rules words) place ∙ item ∙ ap Ok (same ∙ sym here)
            | inr more ↦
                again (p + j.size) (omega arith) s.3 (omega arith)
                (ap (λ (q : ℕ). fault_of (checked_items f rules words q)) (sym moved)
                ∙ sym (same_fault found (checked_items f rules words (p + found.size)))
                ∙ sym (ap fault_of (at_item f rules words p found (omega arith) s.0 item)) ∙ none) i more
          ]

  bounds_ok : segment_fault rows large h k ≡ None
      → (has_bounds h k ≡ true)
      × (fault_of (checked_items (last_of h k) (rules_of rows large h k) (words_in h) (first_of h k)) ≡ None)
  bounds_ok e = elim (cases_Bool (has_bounds h k)) [
    | inl on ↦ (on, sym (rw on refl) ∙ e)
    | inr off ↦ let clash : Some (segment_at h k).base ≡ None = sym (rw off refl) ∙ e in absurd cc
  ]

  pub bounds_have : segment_fault rows large h k ≡ None → is_young h k ≡ true → HasBounds h k
  bounds_have e young =
      let on = (bounds_ok e).0 in
      let parts = (and_parts (is_between (first_of h k) (last_of h k) (reserved_end (segment_at h k))) _ on).1 in
      let both : (is_between (first_of h k) h.start1 (last_of h k) && is_between h.start1 h.start0 (last_of h k))
      ≡ true = sym (rw young refl) ∙ parts in
      record {
        aligned = (grind (arith, both), grind (arith, both));
        low = grind (arith, both);
        middle = grind (arith, both);
        high = grind (arith, both);
      }

  pub item_sound : AreWalkable rows h → segment_fault rows large h k ≡ None → (i : Item) → IsIn i (listing rows h k)
      → IsSound (rules_of rows large h k) (word_of h) i.place i
  item_sound walkable e i m =
      let walk = walkable k l in
      item_ok (rules_of rows large h k) (word_of h) i.place i
      (checked_along (parts_of rows h k) (first_of h k) (last_of h k) (omega arith) walk.spelled (omega arith)
      (bounds_ok e).1 i m)

-- ---- references and locals

not_none : (a : ℕ) (xs : List ℕ) → lowest (Some a) xs ≡ None → ⊥
unfolding lowest
not_none a [] e = let clash : Some a ≡ None = e in cc
not_none a (x ∷ xs) e = not_none (min a x) xs e

none_low : (xs : List ℕ) → lowest None xs ≡ None → xs ≡ []
unfolding lowest
none_low [] e = refl
none_low (x ∷ xs) e = absurd (not_none x xs e)

not_false : (b : Bool) → not b ≡ false → b ≡ true
not_false true e = refl
not_false false e = sym e

-- a view without a fault is lawful
pub lawful_if : (rows : List TypeRow) (large : ℕ) (h : HeapView) (locals : List ℕ) → IsHeap h → AreInside h
    → first_fault rows large h locals ≡ None → IsFaultless rows large h locals
lawful_if rows large h locals heap inside e =
    let items = heap_items rows h in
    let one =
    none_or (segments_fault rows large h 0 (length h.segments))
    (or_else (references_fault rows h) (locals_fault rows h locals)) e in
    let two = none_or (references_fault rows h) (locals_fault rows h locals) one.1 in
    let walkable = are_walkable rows large h heap inside one.0 in
    let each : (k : ℕ) → k < length h.segments → segment_fault rows large h k ≡ None =
    λ k l. none_each rows large h 0 (length h.segments) k one.0 (omega arith) (omega (arith, l)) in
    let sound : (k : ℕ) (l : k < length h.segments) (i : Item) → IsIn i (listing rows h k)
    → IsSound (rules_of rows large h k) (word_of h) i.place i =
    λ k l i m. item_sound rows large h k heap l inside walkable (each k l) i m in
    let good : list_all (is_name items) locals ≡ true = elim (cases_Bool (list_all (is_name items) locals)) [
      | inl on ↦ on
      | inr off ↦
          let wrong : locals_fault rows h locals ≡ Some 0 = rw off refl in
          let clash : Some 0 ≡ None = sym wrong ∙ two.1 in absurd cc
    ] in
    let clean : (i : Item) → IsIn i items → IsClean rows h i =
    λ i m.
    let home = listed-in rows h i 0 (length h.segments) m in
    let l : home.0 < length h.segments = let b = home.1 in omega arith in
    sound_clean rows large h home.0 i (sound home.0 l i home.2) (walked_is rows h home.0 i walkable l home.2).aligned in
    record {
      walkable = walkable;
      bounds = λ k l young. bounds_have rows large h k heap l inside (each k l) young;
      placed = λ k i l m. sound_placed rows large h k i (sound k l i m) (walked_is rows h k i walkable l m).aligned;
      clean = clean-all rows h clean;
      unmarked = unmarked-all rows h clean;
      free_heads = heads-all rows h clean;
      references =
          λ a m. name-stands rows h (word_of h a)
          (not_false (is_name items (word_of h a))
          (none_pass (λ b. not (is_name items (word_of h b))) (addresses rows items)
          (none_low (filter (λ b. not (is_name items (word_of h b))) (addresses rows items)) two.0) a m));
      locals_named = λ x m. name-stands rows h x (all_pass (is_name items) locals good x m);
    }
