-- An item that is clean and well placed passes the checks.
use Rattle.std.proofs.Common.{◌≡◌, ℕ, zero, suc, ◌+◌, ◌-◌, ◌/◌, ◌%◌, ◌^◌, ◌<◌, ◌≤◌, ◌==◌, ◌&&◌, ◌||◌, if◌then◌else◌}
use Rattle.std.proofs.Common.{nat_lt, nat_le, Bool, true, false, List, [], ◌∷◌, length, Option, Some, None, Ok, refl}
use Rattle.std.proofs.Common.{sym, ◌∙◌, ap, subst, arith, inl, inr, pow-suc}
use Rattle.std.proofs.lemmas.Bool.{cases_Bool, cases_lt, lt-ltb, le-leb, or_right}
use Rattle.std.proofs.Math.Nat.{div-div-eq-div-mul}
use Rattle.clr_mem.specs.Words.{byte_of}
use Rattle.clr_types.specs.Types.{form_at, has_finalizer, is_array, size_of, type_row, TypeRow}
use Rattle.clr_types.specs.declared.item.Item.{Item}
use Rattle.clr_types.specs.Ranges.{Piece}
use Rattle.clr_types.specs.LawfulLayout.{DoesNotCross}
use Rattle.clr_heap.specs.Memories.{word_address}
use Rattle.clr_heap.specs.Parts.{item_at, item_piece, length_at, made_item, NamesItem, type_number}
use Rattle.clr_heap.specs.View.{HeapView, holes_of, last_of, segment_at, word_of}
use Rattle.clr_view.specs.View.{is_object}
use Rattle.clr_view.specs.Clean.{AreZero, IsCleanHeader, slots_end}
use Rattle.clr_sos.specs.CheckedCells.{begins_in, checked_item, checked_size, contents_fault, crosses, first_byte}
use Rattle.clr_sos.specs.CheckedCells.{is_header, is_inside, is_length, is_whole, may_hold, Rules, sized_item, suits}
use Rattle.clr_sos.specs.CheckedCells.{typed_item}
use Rattle.clr_sos.specs.Faults.{is_young, rules_of, words_in}
use Rattle.clr_sos.specs.CellScans.{suits_object}
use Rattle.clr_sos.specs.Faultless.{IsWellPlaced}
use Rattle.clr_sos.proofs.CleanItems.{IsClean}
use Rattle.clr_sos.proofs.ScanLimits.{item_from, suits_is, type_found}
use Rattle.clr_sos.proofs.PaddingBytes.{has_size, last_padding, no_padding, padding_free, padding_object}

-- no byte is amiss where all from `from` on are zero
bytes_none : (n k from base w : ℕ) → ((j : ℕ) → k ≤ j → j < k + n → from ≤ base + j → w / 256 ^ j % 256 ≡ 0)
    → first_byte n from (base + k) (w / 256 ^ k) ≡ None
unfolding first_byte
bytes_none zero k from base w clear = refl
bytes_none (suc n) k from base w clear =
    let test : (nat_lt (base + k) from || (w / 256 ^ k % 256 == 0)) ≡ true = elim (cases_lt (base + k) from) [
      | inl under ↦ let b : nat_lt (base + k) from ≡ true = lt-ltb (base + k) from under in rw b refl
      | inr over ↦ let z = clear k (omega arith) (omega arith) over in grind (arith, z)
    ] in
    let next : suc k ≡ k + 1 = omega arith in
    let shift : w / 256 ^ k / 256 ≡ w / 256 ^ (k + 1) =
    div-div-eq-div-mul w (256 ^ k) 256 ∙ ap (λ (d : ℕ). w / d) (sym (pow-suc 256 k) ∙ ap (λ (n : ℕ). 256 ^ n) next) in
    let at : base + k + 1 ≡ base + (k + 1) = omega arith in
    rw (test, shift, at) (bytes_none n (k + 1) from base w (λ j low high up. clear j (omega arith) (omega arith) up))

-- an object whose padding is zero has no fault behind its method table word, and a free item never has
pub contents_none : (rows : List TypeRow) (large : ℕ) (h : HeapView) (k p t len : ℕ) → p % 8 ≡ 0
    → ((t == 0) ≡ false
    → AreZero (word_of h) (p + slots_end (form_at rows t) len) (p + size_of (form_at rows t) len - 8))
    → contents_fault (rules_of rows large h k) (words_in h) p t len ≡ None
contents_none rows large h k p t len z clear = elim (cases_Bool (t == 0)) [
  | inl free ↦
      let zero_type : t ≡ 0 = grind (arith, free) in
      let from = padding_free (rules_of rows large h k) p t len refl zero_type in
      no_padding (rules_of rows large h k) (word_of h) p t len (omega (arith, from))
  | inr object ↦
      let rules = rules_of rows large h k in
      let size = size_of (form_at rows t) len in
      let from = padding_object rules p t len object in
      let is = has_size (form_at rows t) len in
      let high = is.high in
      let least = is.least in
      let whole = is.whole in
      let base = p + size - 16 in
      let word = word_of h base in
      let zeros = clear object in
      let none = bytes_none 8 0 (p + slots_end (form_at rows t) len) base word (λ j low below up.
      let inside : base + j < p + size - 8 = omega arith in
      let at : word_address (base + j) ≡ base = omega arith in
      let place : (base + j) % 8 ≡ j = omega arith in
      sym (ap (λ (a : ℕ). byte_of (word_of h a) j) at)
      ∙ sym (ap (λ (n : ℕ). byte_of (word_of h (word_address (base + j))) n) place) ∙ zeros (base + j) up inside) in
      let one : word / 256 ^ 0 ≡ word = omega arith in
      let start : base + 0 ≡ base = omega arith in
      last_padding rules (word_of h) p t len (omega (arith, from, high))
      ∙ ap (λ (f : ℕ). first_byte 8 f base word) from
      ∙ sym (ap (λ (w : ℕ). first_byte 8 (p + slots_end (form_at rows t) len) base w) one)
      ∙ sym (ap (λ (b : ℕ). first_byte 8 (p + slots_end (form_at rows t) len) b (word / 256 ^ 0)) start)
      ∙ none
]

-- no hole begins in less
begins_less : (holes : List (Option Piece)) (p e high : ℕ) → e ≤ high → begins_in holes p high ≡ false
    → begins_in holes p e ≡ false
begins_less [] p e high l h = refl
begins_less (None ∷ holes) p e high l h = begins_less holes p e high l h
begins_less (Some hole ∷ holes) p e high l h =
    let rest : begins_in holes p high ≡ false = grind (arith, h) in
    let here : (nat_le p hole.place && nat_lt hole.place e) ≡ false = grind (arith, h, l) in
    rw here (begins_less holes p e high l rest)

-- ---- one item

module _ (rows : List TypeRow) (large : ℕ) (h : HeapView) (k : ℕ) (i : Item) (clean : IsClean rows h i)
    (placed : IsWellPlaced rows large h k i) (names : NamesItem rows (word_of h) i.place)
    (is : i ≡ item_at rows (word_of h) i.place) (below : i.place + i.size ≤ last_of h k)
    (aligned : i.place % 8 ≡ 0) where
  abbrev p : ℕ
  p = i.place

  abbrev t : ℕ
  t = i.type_id.0

  abbrev len : ℕ
  len = i.len

  abbrev rules : Rules
  rules = rules_of rows large h k

  number : type_number (word_of h p) ≡ t
  unfolding item_at
  number = sym (ap (λ (j : Item). j.type_id.0) is)

  size_is : i.size ≡ size_of (form_at rows t) len
  unfolding item_at
  size_is =
      ap (λ (j : Item). j.size) is ∙ ap (λ (n : ℕ). size_of (form_at rows n) (length_at rows (word_of h) p)) number
      ∙ ap (λ (n : ℕ). size_of (form_at rows t) n) (sym (ap (λ (j : Item). j.len) is))

  len_is : len ≡ (if is_array (form_at rows t) then word_of h (p + 8) else 0)
  unfolding item_at length_at
  len_is =
      ap (λ (j : Item). j.len) is ∙ ap (λ (n : ℕ). if is_array (form_at rows n) then word_of h (p + 8) else 0) number

  made_is : made_item rows p t len ≡ i
  made_is =
      ap (λ (n : ℕ). let j : Item = record { place = p; size = n; type_id = i.type_id; len = len } in j) (sym size_is)

  known : t ≤ length rows
  known = let l = names.known in let e = number in omega (arith, l, e)

  most : size_of (form_at rows t) len ≤ 1073741824
  most = let m = names.most in let e = ap (λ (j : Item). j.size) is in let n = size_is in omega (arith, m, e, n)

  length_ok : is_length rows t len ≡ true
  length_ok = elim (cases_Bool (t == 0)) [
    | inl free ↦
        let zero_type : t ≡ 0 = grind (arith, free) in
        let word : len ≡ word_of h (p + 8) =
        len_is ∙ ap (λ (n : ℕ). if is_array (form_at rows n) then word_of h (p + 8) else 0) zero_type in
        let whole : len % 8 ≡ 0 = ap (λ (n : ℕ). n % 8) word ∙ names.free (number ∙ zero_type) in
        rw free (grind (arith, whole))
    | inr object ↦ let m = most in rw object (grind (arith, m))
  ]

  apart : begins_in (holes_of h k) p (p + size_of (form_at rows t) len) ≡ false
  apart = ap (λ (n : ℕ). begins_in (holes_of h k) p (p + n)) (sym size_is) ∙ placed.apart

  uncrossed : (boundary : ℕ) → (is_young h k ≡ true → DoesNotCross boundary (item_piece i))
      → crosses (if is_young h k then boundary else 0) p (size_of (form_at rows t) len) ≡ false
  uncrossed boundary h' = elim (cases_Bool (is_young h k)) [
    | inr old ↦ let none : nat_lt p 0 ≡ false = grind arith in rw (old, none) refl
    | inl young ↦
        let n = size_is in
        rw young (elim (h' young) [ inl low ↦ grind (arith, low) | inr high ↦ grind (arith, high, n) ])
  ]

  suited : suits (segment_at h k).kind large t (size_of (form_at rows t) len) ≡ true
  suited = suits_is large (segment_at h k).kind t (size_of (form_at rows t) len) ∙ elim (cases_Bool (t == 0)) [
    | inl free ↦ rw free refl
    | inr object ↦
        let stands : is_object i ≡ true = grind (arith, object) in
        rw object (ap (suits_object large (segment_at h k).kind) (sym size_is) ∙ placed.suits stands)
  ]

  whole_ok : is_whole rules p t (size_of (form_at rows t) len) ≡ true
  whole_ok =
      let n = size_is in
      let inside : nat_le (p + size_of (form_at rows t) len) (last_of h k) ≡ true =
      le-leb (p + size_of (form_at rows t) len) (last_of h k) (omega (arith, n, below)) in
      let a = apart in
      let b = uncrossed h.start1 placed.old in
      let c = uncrossed h.start0 placed.young in
      let d = suited in
      rw (inside, a, b, c, d) refl

  contents_ok : contents_fault rules (words_in h) p t len ≡ None
  contents_ok =
      contents_none rows large h k p t len aligned
      (λ object a low high. let stands : is_object i ≡ true = grind (arith, object) in let n = size_is in
      clean.padding stands a low (omega (arith, high, n)))

  sized_ok : sized_item rules (words_in h) p t len (checked_size rules p t len) ≡ Ok (made_item rows p t len)
  sized_ok = rw (length_ok, whole_ok, contents_ok) refl

  header_ok : IsCleanHeader rows t (word_of h (p - 8)) → is_header (word_of h (p - 8)) ≡ true
  header_ok (inl none) = grind (arith, none)
  header_ok (inr suppressed) = let e = suppressed.0 in grind (arith, e)

  final_ok : IsCleanHeader rows t (word_of h (p - 8))
      → ((word_of h (p - 8) == 0) || has_finalizer (type_row rows t)) ≡ true
  final_ok (inl none) = let e : (word_of h (p - 8) == 0) ≡ true = grind (arith, none) in rw e refl
  final_ok (inr suppressed) = let e = suppressed.1 in rw e (or_right (word_of h (p - 8) == 0) true refl)

  held : may_hold (segment_at h k).kind (form_at rows t) ≡ true
  held = placed.held

  typed : (b : Bool) → is_array (form_at rows t) ≡ b
      → ((word_of h (p - 8) == 0) || has_finalizer (type_row rows t)) ≡ true
      → typed_item rules (words_in h) p (word_of h (p - 8)) (Some t) ≡ Ok (made_item rows p t len)
  typed true array on =
      let word : word_of h (p + 8) ≡ len = sym (len_is ∙ rw array refl) in
      rw (on, held, array, word) sized_ok
  typed false array on =
      let none : 0 ≡ len = sym (len_is ∙ rw array refl) in
      rw (on, held, array)
      (subst (λ (n : ℕ). sized_item rules (words_in h) p t n (checked_size rules p t n) ≡ Ok (made_item rows p t len))
      (sym none) sized_ok)

  pub item_clean : checked_item rules (words_in h) p ≡ Ok i
  item_clean =
      let n = size_is in
      let form = has_size (form_at rows t) len in
      let least = form.least in
      let up : p + 24 ≤ last_of h k = omega (arith, n, least, below) in
      let end : nat_le (p + 24) (last_of h k) ≡ true = le-leb (p + 24) (last_of h k) up in
      let first_clear : begins_in (holes_of h k) p (p + 24) ≡ false =
      begins_less (holes_of h k) p (p + 24) (p + size_of (form_at rows t) len) (omega (arith, least)) apart in
      let inside : is_inside rules p 24 ≡ true = rw (end, first_clear) refl in
      item_from rows large h k p inside (header_ok clean.header)
      ∙ ap (typed_item rules (words_in h) p (word_of h (p - 8))) (type_found rows (word_of h p) t known clean.unmarked)
      ∙ typed (is_array (form_at rows t)) refl (final_ok clean.header)
      ∙ ap Ok made_is
