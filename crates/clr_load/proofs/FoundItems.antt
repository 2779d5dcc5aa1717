-- An item that was found in words of which some may not be there.
use Rattle.std.proofs.Common.{◌≡◌, ℕ, zero, suc, ◌+◌, ◌-◌, ◌*◌, ◌/◌, ◌<◌, ◌≤◌, ◌==◌, ◌&&◌, ◌||◌, nat_le, Bool, true}
use Rattle.std.proofs.Common.{false, List, length, Option, Some, None, is_some, Ok, Err, refl, sym}
use Rattle.std.proofs.Common.{◌∙◌, ap, arith, inl, inr}
use Rattle.std.proofs.lemmas.Bool.{and_parts, both_ways, cases_Bool}
use Rattle.clr_types.specs.Types.{Form, form_at, has_finalizer, is_array, mt_of, size_of, type_row, TypeRow}
use Rattle.clr_load.specs.FoundItems.{IsThere}
use Rattle.clr_load.specs.Scans.{words_in}
use Rattle.clr_load.specs.declared.cells.Scan.{Scan}
use Rattle.clr_types.specs.declared.item.Item.{Item}
use Rattle.clr_heap.specs.Parts.{made_item}
use Rattle.clr_sos.specs.CheckedCells.{checked_item, checked_size, contents_fault, first_byte, first_in_words}
use Rattle.clr_sos.specs.CheckedCells.{is_header, is_inside, is_length, is_whole, may_hold, number_in, or_else}
use Rattle.clr_sos.specs.CheckedCells.{padding_from, Rules, sized_item, type_of_word, typed_item, Words}
use Rattle.clr_sos.proofs.SoundCells.{sized_ok, type_known}
use Rattle.clr_load.proofs.MemoryWords.{next_word, no_word}

-- a type, a length and the words that say so
pub record IsFound (rules : Rules) (words : Words) (p : ℕ) (i : Item) : Type 0 where
  pub t : ℕ
  pub len : ℕ
  pub known : t ≤ length rules.rows
  pub mt : words p ≡ Some (mt_of t)
  pub held : may_hold rules.kind (form_at rules.rows t) ≡ true
  pub with_length : is_array (form_at rules.rows t) ≡ true → words (p + 8) ≡ Some len
  pub without : is_array (form_at rules.rows t) ≡ false → len ≡ 0
  pub length : is_length rules.rows t len ≡ true
  pub whole : is_whole rules p t (size_of (form_at rules.rows t) len) ≡ true
  pub is : i ≡ made_item rules.rows p t len
  pub contents : contents_fault rules words p t len ≡ None

module _ (rules : Rules) (words : Words) (p : ℕ) (i : Item) where
  typed_ok : (header mt : ℕ) → words p ≡ Some mt → (o : Option ℕ) → type_of_word rules.rows mt ≡ o
      → typed_item rules words p header o ≡ Ok i → IsFound rules words p i
  typed_ok header mt second None o e = elim (cases_Bool (header == 0)) [
    | inl on ↦ let clash : Err p ≡ Ok i = sym (rw on refl) ∙ e in absurd cc
    | inr off ↦ let clash : Err (p - 8) ≡ Ok i = sym (rw off refl) ∙ e in absurd cc
  ]
  typed_ok header mt second (Some t) o e =
      let known = type_known rules.rows mt t o in
      go known ((header == 0) || has_finalizer (type_row rules.rows t))
      (may_hold rules.kind (form_at rules.rows t)) (is_array (form_at rules.rows t)) (words (p + 8)) refl refl refl refl
    where
      go : (t ≤ length rules.rows) × (mt ≡ mt_of t) → (a held b : Bool) (third : Option ℕ)
          → ((header == 0) || has_finalizer (type_row rules.rows t)) ≡ a
          → may_hold rules.kind (form_at rules.rows t) ≡ held → is_array (form_at rules.rows t) ≡ b
          → words (p + 8) ≡ third → IsFound rules words p i
      go known false held b third on holds array next =
          let clash : Err (p - 8) ≡ Ok i = sym (rw on refl) ∙ e in absurd cc
      go known true false b third on holds array next =
          let clash : Err p ≡ Ok i = sym (rw (on, holds) refl) ∙ e in absurd cc
      go known true true true None on holds array next =
          let clash : Err (p + 8) ≡ Ok i = sym (rw (on, holds, array, next) refl) ∙ e in absurd cc
      go known true true true (Some len) on holds array next =
          let sized = sized_ok rules words p t len i (sym (rw (on, holds, array, next) refl) ∙ e) in
          record {
            t = t;
            len = len;
            known = known.0;
            mt = second ∙ ap Some known.1;
            held = holds;
            with_length = λ y. next;
            without = λ n. absurd (both_ways (is_array (form_at rules.rows t)) n array);
            length = sized.length;
            whole = sized.whole;
            is = sized.is;
            contents = sized.contents;
          }
      go known true true false third on holds array next =
          let sized = sized_ok rules words p t 0 i (sym (rw (on, holds, array) refl) ∙ e) in
          record {
            t = t;
            len = 0;
            known = known.0;
            mt = second ∙ ap Some known.1;
            held = holds;
            with_length = λ y. absurd (both_ways (is_array (form_at rules.rows t)) array y);
            without = λ n. refl;
            length = sized.length;
            whole = sized.whole;
            is = sized.is;
            contents = sized.contents;
          }

  -- an item that passes the checks
  pub item_found : checked_item rules words p ≡ Ok i → IsFound rules words p i
  unfolding checked_item
  item_found e = go (words (p - 8)) (words p) refl refl
    where
      inner : (header : ℕ) (second : Option ℕ) → words (p - 8) ≡ Some header → words p ≡ second
          → (is_inside rules p 24 && is_header header) ≡ true → IsFound rules words p i
      inner header None one two on = let clash : Err p ≡ Ok i = sym (rw (one, on, two) refl) ∙ e in absurd cc
      inner header (Some mt) one two on =
          typed_ok header mt two (type_of_word rules.rows mt) refl (sym (rw (one, on, two) refl) ∙ e)

      go : (first second : Option ℕ) → words (p - 8) ≡ first → words p ≡ second → IsFound rules words p i
      go None second one two = let clash : Err (p - 8) ≡ Ok i = sym (rw one refl) ∙ e in absurd cc
      go (Some header) second one two = elim (cases_Bool (is_inside rules p 24 && is_header header)) [
        | inl on ↦ inner header second one two on
        | inr off ↦ let clash : Err (p - 8) ≡ Ok i = sym (rw (one, off) refl) ∙ e in absurd cc
      ]

or_none : (o later : Option ℕ) → or_else o later ≡ None → later ≡ None
or_none None later e = e
or_none (Some a) later e = let clash : Some a ≡ None = e in absurd cc

-- words without a fault are there
pub all_words : (n from : ℕ) (words : Words) (a : ℕ) → first_in_words n from words a ≡ None → (j : ℕ) → j < n
    → is_some (words (a + 8 * j)) ≡ true
all_words zero from words a e j l = absurd (omega arith)
all_words (suc n) from words a e zero l = go (words a) refl
  where
    at : a + 8 * 0 ≡ a
    at = omega arith

    go : (w : Option ℕ) → words a ≡ w → is_some (words (a + 8 * 0)) ≡ true
    go None is = let clash : Some a ≡ None = sym (no_word n from a words is) ∙ e in absurd cc
    go (Some w) is = ap (λ (b : ℕ). is_some (words b)) at ∙ ap (λ (o : Option ℕ). is_some o) is
all_words (suc n) from words a e (suc j) l =
    go (words a) refl (λ rest. all_words n from words (a + 8) rest j (omega arith))
  where
    at : a + 8 * suc j ≡ a + 8 + 8 * j
    at = omega arith

    go : (w : Option ℕ) → words a ≡ w
        → (first_in_words n from words (a + 8) ≡ None → is_some (words (a + 8 + 8 * j)) ≡ true)
        → is_some (words (a + 8 * suc j)) ≡ true
    go None is more = let clash : Some a ≡ None = sym (no_word n from a words is) ∙ e in absurd cc
    go (Some w) is more =
        ap (λ (b : ℕ). is_some (words b)) at
        ∙ more (or_none (first_byte 8 from a w) (first_in_words n from words (a + 8))
        (sym (next_word n from a w words is) ∙ e))

-- what is known of an item that is there
pub record IsKnown (s : Scan) (place : ℕ) (i : Item) : Type 0 where
  pub known : i.type_id.0 ≤ length s.types.now
  pub mt : words_in s place ≡ Some (mt_of i.type_id.0)
  pub with_length : is_array (form_at s.types.now i.type_id.0) ≡ true → words_in s (place + 8) ≡ Some i.len
  pub without : is_array (form_at s.types.now i.type_id.0) ≡ false → i.len ≡ 0
  pub at : i.place ≡ place
  pub size : i.size ≡ size_of (form_at s.types.now i.type_id.0) i.len
  pub inside : place + i.size ≤ s.info.end
  pub words : (j : ℕ) → j < (i.size - 16) / 8 → is_some (words_in s (place + 8 + 8 * j)) ≡ true

pub known_there : (s : Scan) (place : ℕ) (i : Item) → IsThere s place i → IsKnown s place i
known_there s place i there =
    let f = item_found there.rules (words_in s) place i there.found in
    let t : i.type_id.0 ≡ f.t = ap (λ (j : Item). j.type_id.0) f.is in
    let len : i.len ≡ f.len = ap (λ (j : Item). j.len) f.is in
    let rows = there.rows in
    let form : form_at s.types.now i.type_id.0 ≡ form_at there.rules.rows f.t =
    ap (λ (ts : List TypeRow). form_at ts i.type_id.0) (sym rows) ∙ ap (form_at there.rules.rows) t in
    let size : i.size ≡ size_of (form_at there.rules.rows f.t) f.len = ap (λ (j : Item). j.size) f.is in
    let inside : is_inside there.rules place (size_of (form_at there.rules.rows f.t) f.len) ≡ true =
    (and_parts (is_inside there.rules place (size_of (form_at there.rules.rows f.t) f.len)) _ f.whole).0 in
    let within : place + size_of (form_at there.rules.rows f.t) f.len ≤ there.rules.end = grind (arith, inside) in
    let end = there.end in
    let known = f.known in
    let count = ap (λ (ts : List TypeRow). length ts) rows in
    record {
      known = omega (arith, known, count, t);
      mt = f.mt ∙ ap (λ (n : ℕ). Some (mt_of n)) (sym t);
      with_length = λ y. f.with_length (sym (ap is_array form) ∙ y) ∙ ap Some (sym len);
      without = λ n. len ∙ f.without (sym (ap is_array form) ∙ n);
      at = ap (λ (j : Item). j.place) f.is;
      size = size ∙ sym (ap (λ (g : Form). size_of g i.len) form ∙ ap (size_of (form_at there.rules.rows f.t)) len);
      inside = omega (arith, within, end, size);
      words = λ j l.
          all_words ((size_of (form_at there.rules.rows f.t) f.len - 16) / 8)
          (padding_from there.rules place f.t f.len) (words_in s) (place + 8) f.contents j (omega (arith, l, size));
    }

-- items are equal where their parts are
pub same_item : (i j : Item) → i.place ≡ j.place → i.size ≡ j.size → i.type_id.0 ≡ j.type_id.0 → i.len ≡ j.len → i ≡ j
same_item i j place size t len =
    ap (λ (x : ℕ). record { place = x; size = i.size; type_id = record { 0 = i.type_id.0 }; len = i.len }) place
    ∙ ap (λ (x : ℕ). record { place = j.place; size = x; type_id = record { 0 = i.type_id.0 }; len = i.len }) size
    ∙ ap (λ (x : ℕ). record { place = j.place; size = j.size; type_id = record { 0 = x }; len = i.len }) t
    ∙ ap (λ (x : ℕ). record { place = j.place; size = j.size; type_id = record { 0 = j.type_id.0 }; len = x }) len

-- what a method table word says of an item that is there
pub record SaysType (s : Scan) (i : Item) (word : ℕ) : Type 0 where
  pub number : (word - 0x00007ff000000000) / 64 ≡ i.type_id.0
  pub word_is : word ≡ mt_of ((word - 0x00007ff000000000) / 64)
  pub within : (word - 0x00007ff000000000) / 64 ≤ length s.types.now

pub says_type : (s : Scan) (place : ℕ) (i : Item) (word : ℕ) → IsKnown s place i → words_in s place ≡ Some word
    → SaysType s i word
says_type s place i word k is =
    let both : Some word ≡ Some (mt_of i.type_id.0) = sym is ∙ k.mt in
    let e : word ≡ mt_of i.type_id.0 = cc in
    let n : (word - 0x00007ff000000000) / 64 ≡ i.type_id.0 = omega (arith, e) in
    let known = k.known in
    record { number = n; word_is = e ∙ ap mt_of (sym n); within = omega (arith, n, known) }

pub says_length : (s : Scan) (place : ℕ) (i : Item) (len : ℕ) → IsKnown s place i
    → is_array (form_at s.types.now i.type_id.0) ≡ true → words_in s (place + 8) ≡ Some len → len ≡ i.len
says_length s place i len k array is =
    let both : Some len ≡ Some i.len = sym is ∙ k.with_length array in
    let e : len ≡ i.len = cc in e
