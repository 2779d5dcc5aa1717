-- Items that were found in an image's words are found in a heap's, where the words that are there are the same. What
-- follows the head of a free item may be anything there.
use Rattle.std.proofs.Common.{◌≡◌, ℕ, suc, zero, ◌+◌, ◌-◌, ◌*◌, ◌/◌, ◌%◌, ◌<◌, ◌≤◌, ◌==◌, ◌&&◌, ◌||◌, nat_le, nat_lt}
use Rattle.std.proofs.Common.{Bool, true, false, cond, if◌then◌else◌, List, [], ◌∷◌, refl, sym, ◌∙◌, ap, subst}
use Rattle.std.proofs.Common.{arith, Option, Some, None, Result, Ok, Err, inl, inr, ◌⊎◌}
use Rattle.std.proofs.lemmas.Bool.{and_parts, cases_lt}
use Rattle.std.proofs.lemmas.Bool.Decides.{nat_tests}
use Rattle.clr_types.specs.Ranges.{Piece}
use Rattle.clr_types.specs.Types.{form_at, has_finalizer, is_array, size_of, type_row, TypeRow}
use Rattle.clr_types.specs.declared.item.Item.{Item}
use Rattle.clr_types.specs.declared.segment.SegKind.{SegKind}
use Rattle.clr_heap.specs.Parts.{hole_from, made_item}
use Rattle.clr_view.specs.Clean.{slots_end}
use Rattle.clr_sos.specs.CheckedCells.{begins_in, checked_item, checked_items, checked_size, contents_fault}
use Rattle.clr_sos.specs.CheckedCells.{first_byte, first_in_words, is_header, is_inside, is_length, is_whole}
use Rattle.clr_sos.specs.CheckedCells.{item_of_type, may_hold, or_else}
use Rattle.clr_sos.specs.CheckedCells.{padding_from, Rules, sized_item, type_of_word, typed_item, unless, with_item}
use Rattle.clr_sos.specs.CheckedCells.{with_word, Words}
use Rattle.clr_sos.proofs.PaddingBytes.{has_size}
use Rattle.clr_sos.proofs.ScanSteps.{at_end, at_fault, at_item}

-- ---- one step back

record WithWord {A : Type 0} (o : Option ℕ) (next : ℕ → Result A ℕ) (x : A) : Type 0 where
  w : ℕ
  is : o ≡ Some w
  goes : next w ≡ Ok x

with_found : {A : Type 0} (a : ℕ) (o : Option ℕ) (next : ℕ → Result A ℕ) (x : A) → with_word a o next ≡ Ok x
    → WithWord o next x
with_found a None next x e = absurd cc
with_found a (Some w) next x e = record { w = w; is = refl; goes = e }

record Tested {A : Type 0} (t : Bool) (r : Result A ℕ) (x : A) : Type 0 where
  on : t ≡ true
  goes : r ≡ Ok x

test_found : {A : Type 0} (t : Bool) (r : Result A ℕ) (a : ℕ) (x : A) → cond t r (Err a) ≡ Ok x → Tested t r x
test_found true r a x e = record { on = refl; goes = e }
test_found false r a x e = absurd cc

both_clear : (first second : Option ℕ) → or_else first second ≡ None → (first ≡ None) × (second ≡ None)
both_clear None second e = (refl, e)
both_clear (Some a) second e = absurd cc

-- ---- words

-- the words of the cells from low to high that are there are the others
abbrev pub Carries : Words → Words → ℕ → ℕ → Type 0
Carries words others low high =
    (a w : ℕ) → a % 8 ≡ 0 → low ≤ a + 8 → a + 8 < high → words a ≡ Some w → others a ≡ Some w

-- a byte that is clear from one place on is clear from a later one on
byte_later : (n from later a w : ℕ) → from ≤ later → first_byte n from a w ≡ None → first_byte n later a w ≡ None
unfolding first_byte
byte_later zero from later a w up e = refl
byte_later (suc n) from later a w up e =
    go (nat_lt a from || (w % 256 == 0)) refl e (byte_later n from later (a + 1) (w / 256) up)
  where
    go : (t : Bool) → (nat_lt a from || (w % 256 == 0)) ≡ t
        → cond t (first_byte n from (a + 1) (w / 256)) (Some a) ≡ None
        → (first_byte n from (a + 1) (w / 256) ≡ None → first_byte n later (a + 1) (w / 256) ≡ None)
        → cond (nat_lt a later || (w % 256 == 0)) (first_byte n later (a + 1) (w / 256)) (Some a) ≡ None
    go false t e again = absurd cc
    go true t e again =
        let still : (nat_lt a later || (w % 256 == 0)) ≡ true = grind (arith, nat_tests, t, up) in
        rw still (again e)

clear_carried : (n from later : ℕ) (words others : Words) (low high a : ℕ) → Carries words others low high
    → from ≤ later
    → a % 8 ≡ 0 → low ≤ a + 8 → a + 8 * n < high → first_in_words n from words a ≡ None
    → first_in_words n later others a ≡ None
unfolding first_in_words
clear_carried zero from later words others low high a carries up z down most e = refl
clear_carried (suc n) from later words others low high a carries up z down most e =
    go (words a) refl (clear_carried n from later words others low high (a + 8) carries up (omega arith) (omega arith)
    (omega arith)) e
  where
    go : (o : Option ℕ) → words a ≡ o
        → (first_in_words n from words (a + 8) ≡ None → first_in_words n later others (a + 8) ≡ None)
        → (elim o as (λ _. Option ℕ) [
          | None ↦ Some a
          | Some word ↦ or_else (first_byte 8 from a word) (first_in_words n from words (a + 8))
        ]) ≡ None
        → (elim (others a) as (λ _. Option ℕ) [
          | None ↦ Some a
          | Some word ↦ or_else (first_byte 8 later a word) (first_in_words n later others (a + 8))
        ]) ≡ None
    go None at again e = absurd cc
    go (Some w) at again e =
        let both = both_clear (first_byte 8 from a w) (first_in_words n from words (a + 8)) e in
        let one = byte_later 8 from later a w up both.0 in
        let rest = again both.1 in
        let done : or_else (first_byte 8 later a w) (first_in_words n later others (a + 8)) ≡ None =
        rw (one, rest) refl in
        subst (λ (o : Option ℕ). (elim o as (λ _. Option ℕ) [
          | None ↦ Some a
          | Some word ↦ or_else (first_byte 8 later a word) (first_in_words n later others (a + 8))
        ]) ≡ None) (sym (carries a w z down (omega arith) at)) done

-- words without a fault are there
pub clear_there : (n from : ℕ) (words : Words) (a : ℕ) → first_in_words n from words a ≡ None → (j : ℕ) → j < n
    → (w : ℕ) × (words (a + 8 * j) ≡ Some w)
unfolding first_in_words
clear_there zero from words a e j l = absurd (omega arith)
clear_there (suc n) from words a e zero l = go (words a) refl e
  where
    go : (o : Option ℕ) → words a ≡ o
        → (elim o as (λ _. Option ℕ) [
          | None ↦ Some a
          | Some word ↦ or_else (first_byte 8 from a word) (first_in_words n from words (a + 8))
        ]) ≡ None
        → (w : ℕ) × (words (a + 8 * 0) ≡ Some w)
    go None at e = absurd cc
    go (Some w) at e = let here : a + 8 * 0 ≡ a = omega arith in (w, ap words here ∙ at)
clear_there (suc n) from words a e (suc j) l =
    go (words a) e (λ rest. clear_there n from words (a + 8) rest j (omega arith))
  where
    go : (o : Option ℕ)
        → (elim o as (λ _. Option ℕ) [
          | None ↦ Some a
          | Some word ↦ or_else (first_byte 8 from a word) (first_in_words n from words (a + 8))
        ]) ≡ None
        → (first_in_words n from words (a + 8) ≡ None → (w : ℕ) × (words (a + 8 + 8 * j) ≡ Some w))
        → (w : ℕ) × (words (a + 8 * suc j) ≡ Some w)
    go None e more = absurd cc
    go (Some w) e more =
        let found = more (both_clear (first_byte 8 from a w) (first_in_words n from words (a + 8)) e).1 in
        let at : a + 8 * suc j ≡ a + 8 + 8 * j = omega arith in
        (found.0, ap words at ∙ found.1)

-- ---- the rules of an image, and those of a heap without holes

abbrev pub strict : List TypeRow → SegKind → ℕ → ℕ → ℕ → ℕ → Rules
strict rows kind end start1 start0 large = record {
  rows = rows;
  kind = kind;
  end = end;
  start1 = start1;
  start0 = start0;
  large = large;
  holes = [];
  free_is_clear = true;
}

abbrev pub loose : List TypeRow → SegKind → ℕ → ℕ → ℕ → ℕ → List (Option Piece) → Rules
loose rows kind end start1 start0 large holes = record {
  rows = rows;
  kind = kind;
  end = end;
  start1 = start1;
  start0 = start0;
  large = large;
  holes = holes;
  free_is_clear = false;
}

-- no hole is there
pub record HasNoHoles (holes : List (Option Piece)) : Type 0 where
  pub from : (p : ℕ) → hole_from holes p ≡ None
  pub between : (low high : ℕ) → begins_in holes low high ≡ false

-- the length of an item, as its words tell it
abbrev pub HasLength : List TypeRow → Words → ℕ → ℕ → ℕ → Type 0
HasLength rows ws p t len =
    ((is_array (form_at rows t) ≡ true) × (ws (p + 8) ≡ Some len))
    ⊎ ((is_array (form_at rows t) ≡ false) × (len ≡ 0))

module _ (rows : List TypeRow) (kind : SegKind) (end start1 start0 large : ℕ) (words : Words) where
  abbrev before : Rules
  before = strict rows kind end start1 start0 large

  -- the size of an item that is found
  pub record IsSizedIn (p t len : ℕ) (i : Item) : Type 0 where
    pub size : ℕ
    pub sized : checked_size before p t len ≡ Ok size
    pub clear : contents_fault before words p t len ≡ None
    pub is : made_item rows p t len ≡ i

  sized_found : (p t len : ℕ) (i : Item) → sized_item before words p t len (checked_size before p t len) ≡ Ok i
      → IsSizedIn p t len i
  sized_found p t len i e = go (checked_size before p t len) refl e
    where
      here : (size : ℕ) (o : Option ℕ) → checked_size before p t len ≡ Ok size
          → contents_fault before words p t len ≡ o → unless o (made_item rows p t len) ≡ Ok i → IsSizedIn p t len i
      here size None s c e = record { size = size; sized = s; clear = c; is = cc }
      here size (Some a) s c e = absurd cc

      go : (r : Result ℕ ℕ) → checked_size before p t len ≡ r → sized_item before words p t len r ≡ Ok i
          → IsSizedIn p t len i
      go (Err a) s e = absurd cc
      go (Ok size) s e = here size (contents_fault before words p t len) s refl e

  -- it ends within the segment
  pub sized_ends : (p t len : ℕ) (i : Item) → IsSizedIn p t len i
      → (i.place ≡ p) × (24 ≤ i.size) × (i.size % 8 ≡ 0) × (p + i.size ≤ end) × (i.size ≡ size_of (form_at rows t) len)
  sized_ends p t len i s =
      let one = test_found (is_length rows t len)
      (if is_whole before p t (size_of (form_at rows t) len) then Ok (size_of (form_at rows t) len) else Err (p - 8))
      (p + 8) s.size s.sized in
      let two = test_found (is_whole before p t (size_of (form_at rows t) len)) (Ok (size_of (form_at rows t) len))
      (p - 8) s.size one.goes in
      let whole = and_parts (is_inside before p (size_of (form_at rows t) len)) _ two.on in
      let up = (and_parts (nat_le (p + size_of (form_at rows t) len) end) _ whole.0).0 in
      let size : i.size ≡ size_of (form_at rows t) len = sym (ap (λ (j : Item). j.size) s.is) in
      let form = has_size (form_at rows t) len in
      let least = form.least in (
        sym (ap (λ (j : Item). j.place) s.is),
        omega arith,
        ap (λ (n : ℕ). n % 8) size ∙ form.whole,
        grind (arith, nat_tests, up, size),
        size,
      )

  -- what is known of an item that is found
  pub record IsItemIn (p : ℕ) (i : Item) : Type 0 where
    pub header : ℕ
    pub mt : ℕ
    pub t : ℕ
    pub len : ℕ
    pub header_at : words (p - 8) ≡ Some header
    pub inside : is_inside before p 24 ≡ true
    pub lawful : is_header header ≡ true
    pub mt_at : words p ≡ Some mt
    pub type : type_of_word rows mt ≡ Some t
    pub final : ((header == 0) || has_finalizer (type_row rows t)) ≡ true
    pub held : may_hold kind (form_at rows t) ≡ true
    pub length : HasLength rows words p t len
    pub sized : IsSizedIn p t len i

  length_found : (p t : ℕ) (i : Item) (array : Bool) → is_array (form_at rows t) ≡ array
      → cond array
      (with_word (p + 8) (words (p + 8)) (λ n. sized_item before words p t n (checked_size before p t n)))
      (sized_item before words p t 0 (checked_size before p t 0)) ≡ Ok i
      → (len : ℕ) × HasLength rows words p t len × IsSizedIn p t len i
  length_found p t i true a e =
      let f = with_found (p + 8) (words (p + 8)) (λ n. sized_item before words p t n (checked_size before p t n)) i e in
      (f.w, inl (a, f.is), sized_found p t f.w i f.goes)
  length_found p t i false a e = (0, inr (a, refl), sized_found p t 0 i e)

  typed_found : (p header mt : ℕ) (i : Item) (o : Option ℕ) → words (p - 8) ≡ Some header
      → (is_inside before p 24 && is_header header) ≡ true → words p ≡ Some mt → type_of_word rows mt ≡ o
      → typed_item before words p header o ≡ Ok i → IsItemIn p i
  typed_found p header mt i None h s m type e = go (header == 0) e
    where
      go : (t : Bool) → cond {A = Result Item ℕ} t (Err p) (Err (p - 8)) ≡ Ok i → IsItemIn p i
      go true e = absurd cc
      go false e = absurd cc
  typed_found p header mt i (Some t) h s m type e =
      let f = test_found ((header == 0) || has_finalizer (type_row rows t)) _ (p - 8) i e in
      let g = test_found (may_hold kind (form_at rows t)) (item_of_type before words p t) p i f.goes in
      let l = length_found p t i (is_array (form_at rows t)) refl g.goes in
      let both = and_parts (is_inside before p 24) (is_header header) s in
      record {
        header = header;
        mt = mt;
        t = t;
        len = l.0;
        header_at = h;
        inside = both.0;
        lawful = both.1;
        mt_at = m;
        type = type;
        final = f.on;
        held = g.on;
        length = l.1;
        sized = l.2;
      }

  pub item_found : (p : ℕ) (i : Item) → checked_item before words p ≡ Ok i → IsItemIn p i
  unfolding checked_item
  item_found p i e =
      let one = with_found (p - 8) (words (p - 8)) (λ header.
      if is_inside before p 24 && is_header header
      then with_word p (words p) (λ mt. typed_item before words p header (type_of_word rows mt))
      else Err (p - 8)) i e in
      let two = test_found (is_inside before p 24 && is_header one.w)
      (with_word p (words p) (λ mt. typed_item before words p one.w (type_of_word rows mt)))
      (p - 8) i one.goes in
      let three = with_found p (words p) (λ mt. typed_item before words p one.w (type_of_word rows mt)) i two.goes in
      typed_found p one.w three.w i (type_of_word rows three.w) one.is two.on three.is refl three.goes

  -- ---- all items

  record IsNextIn (fuel p : ℕ) (items : List Item) : Type 0 where
    item : Item
    rest : List Item
    is : items ≡ item ∷ rest
    here : checked_item before words p ≡ Ok item
    behind : checked_items fuel before words (p + item.size) ≡ Ok rest

  next_in : (fuel p : ℕ) (items : List Item) → p < end → checked_items (suc fuel) before words p ≡ Ok items
      → IsNextIn fuel p items
  next_in fuel p items l e = go (checked_item before words p) refl
    where
      rest : (i : Item) → checked_item before words p ≡ Ok i → (r : Result (List Item) ℕ)
          → checked_items fuel before words (p + i.size) ≡ r → with_item i r ≡ Ok items → IsNextIn fuel p items
      rest i is (Err a) more e = absurd cc
      rest i is (Ok js) more e = record { item = i; rest = js; is = cc; here = is; behind = more }

      go : (r : Result Item ℕ) → checked_item before words p ≡ r → IsNextIn fuel p items
      go (Err a) is =
          let clash : Err a ≡ Ok items = sym (at_fault fuel before words p a l refl is) ∙ e in absurd cc
      go (Ok i) is =
          rest i is (checked_items fuel before words (p + i.size)) refl
          (sym (at_item fuel before words p i l refl is) ∙ e)

  -- each item of those that are found
  abbrev pub AreItemsFrom : ℕ → ℕ → List Item → Type 0
  AreItemsFrom low p [] = end ≤ p
  AreItemsFrom low p (i ∷ items) =
      (p < end) × (p % 8 ≡ 0) × (low ≤ p) × IsItemIn p i × AreItemsFrom low (p + i.size) items

  pub items_found : (low fuel p : ℕ) (items : List Item) → end ≤ p + fuel → p % 8 ≡ 0 → low ≤ p
      → checked_items fuel before words p ≡ Ok items → AreItemsFrom low p items
  items_found low zero p items enough z down e =
      let same : Ok [] ≡ Ok items = sym (at_end 0 before words p (omega arith)) ∙ e in
      let is : [] ≡ items = cc in
      let over : end ≤ p = omega arith in
      subst (AreItemsFrom low p) is over
  items_found low (suc fuel) p items enough z down e = elim (cases_lt p end) [
    | inr over ↦
        let same : Ok [] ≡ Ok items = sym (at_end (suc fuel) before words p over) ∙ e in
        let is : [] ≡ items = cc in
        subst (AreItemsFrom low p) is over
    | inl under ↦
        let n = next_in fuel p items under e in
        let f = item_found p n.item n.here in
        let ends = sized_ends p f.t f.len n.item f.sized in
        let least = ends.1 in
        let whole = ends.2 in
        subst (AreItemsFrom low p) (sym n.is) (
          under,
          z,
          down,
          f,
          items_found low fuel (p + n.item.size) n.rest (omega arith) (omega arith) (omega arith) n.behind,
        )
  ]

-- ---- in the words of a heap

module _ (rows : List TypeRow) (kind : SegKind) (end start1 start0 large : ℕ) (words : Words)
    (holes : List (Option Piece)) (no_holes : HasNoHoles holes) (others : Words) (low : ℕ)
    (carries : Carries words others low end) where
  abbrev first_rules : Rules
  first_rules = strict rows kind end start1 start0 large

  abbrev after : Rules
  after = loose rows kind end start1 start0 large holes

  inside_same : (p size : ℕ) → is_inside first_rules p size ≡ true → is_inside after p size ≡ true
  inside_same p size on =
      let up = (and_parts (nat_le (p + size) end) _ on).0 in
      let clear = no_holes.between p (p + size) in
      rw (up, clear) refl

  size_same : (p t len size : ℕ) → checked_size first_rules p t len ≡ Ok size → checked_size after p t len ≡ Ok size
  size_same p t len size e =
      let one = test_found (is_length rows t len)
      (if is_whole first_rules p t (size_of (form_at rows t) len) then Ok (size_of (form_at rows t) len)
      else Err (p - 8))
      (p + 8) size e in
      let two = test_found (is_whole first_rules p t (size_of (form_at rows t) len)) (Ok (size_of (form_at rows t) len))
      (p - 8) size one.goes in
      let whole = and_parts (is_inside first_rules p (size_of (form_at rows t) len)) _ two.on in
      let inside = inside_same p (size_of (form_at rows t) len) whole.0 in
      let rest = whole.1 in
      let length_on = one.on in
      let done = two.goes in
      rw (length_on, inside, rest) done

  padding_up : (p t len : ℕ) → padding_from first_rules p t len ≤ padding_from after p t len
  padding_up p t len = go (t == 0)
    where
      go : (b : Bool) → (if b then p + 16 else p + slots_end (form_at rows t) len)
          ≤ (if b then p + size_of (form_at rows t) len else p + slots_end (form_at rows t) len)
      go true = let least = (has_size (form_at rows t) len).least in omega arith
      go false = omega arith

  sized_carried : (p t len : ℕ) (i : Item) → p % 8 ≡ 0 → low ≤ p
      → IsSizedIn rows kind end start1 start0 large words p t len i
      → sized_item after others p t len (checked_size after p t len) ≡ Ok i
  sized_carried p t len i z down s =
      let ends = sized_ends rows kind end start1 start0 large words p t len i s in
      let form = has_size (form_at rows t) len in
      let whole = form.whole in
      let least = form.least in
      let size = ends.4 in
      let up = ends.3 in
      let clear : contents_fault after others p t len ≡ None =
      clear_carried ((size_of (form_at rows t) len - 16) / 8) (padding_from first_rules p t len)
      (padding_from after p t len)
      words others low end (p + 8) carries (padding_up p t len) (omega arith) (omega arith) (omega arith) s.clear in
      let is = s.is in
      ap (sized_item after others p t len) (size_same p t len s.size s.sized)
      ∙ ap (λ (o : Option ℕ). unless o (made_item rows p t len)) clear
      ∙ ap (λ (j : Item). Ok j) is

  length_carried : (p t len : ℕ) (i : Item) → HasLength rows others p t len
      → sized_item after others p t len (checked_size after p t len) ≡ Ok i
      → cond (is_array (form_at rows t))
      (with_word (p + 8) (others (p + 8)) (λ n. sized_item after others p t n (checked_size after p t n)))
      (sized_item after others p t 0 (checked_size after p t 0)) ≡ Ok i
  length_carried p t len i (inl h) done =
      let array = h.0 in
      rw array
      (ap (λ (o : Option ℕ). with_word (p + 8) o (λ n. sized_item after others p t n (checked_size after p t n))) h.1
      ∙ done)
  length_carried p t len i (inr h) done =
      let array = h.0 in
      rw array
      (subst (λ (n : ℕ). sized_item after others p t n (checked_size after p t n) ≡ Ok i) h.1 done)

  carried_length : (p t len : ℕ) → p % 8 ≡ 0 → low ≤ p → p + 24 ≤ end → HasLength rows words p t len
      → HasLength rows others p t len
  carried_length p t len z down up (inl h) =
      inl (h.0, carries (p + 8) len (omega arith) (omega arith) (omega arith) h.1)
  carried_length p t len z down up (inr h) = inr h

  -- ONE ITEM
  pub item_carried : (p : ℕ) (i : Item) → 8 ≤ p → p % 8 ≡ 0 → low ≤ p
      → IsItemIn rows kind end start1 start0 large words p i
      → checked_item after others p ≡ Ok i
  unfolding checked_item
  item_carried p i big z down f =
      let test = (and_parts (nat_le (p + 24) end) _ f.inside).0 in
      let up : p + 24 ≤ end = grind (arith, nat_tests, test) in
      let header = carries (p - 8) f.header (omega arith) (omega arith) (omega arith) f.header_at in
      let mt = carries p f.mt z (omega arith) (omega arith) f.mt_at in
      let inside = inside_same p 24 f.inside in
      let lawful = f.lawful in
      let type = f.type in
      let final = f.final in
      let holds = f.held in
      let done = length_carried p f.t f.len i (carried_length p f.t f.len z down up f.length)
      (sized_carried p f.t f.len i z down f.sized) in
      rw (header, inside, lawful, mt, type, final, holds) done

  -- ALL ITEMS
  pub items_carried : (fuel p : ℕ) (items : List Item) → 8 ≤ low → end ≤ p + fuel
      → AreItemsFrom rows kind end start1 start0 large words low p items
      → checked_items fuel after others p ≡ Ok items
  items_carried fuel p [] big enough over = at_end fuel after others p over
  items_carried zero p (i ∷ items) big enough (under, z, down, f, rest) = absurd (omega arith)
  items_carried (suc fuel) p (i ∷ items) big enough (under, z, down, f, rest) =
      let ends = sized_ends rows kind end start1 start0 large words p f.t f.len i f.sized in
      let least = ends.1 in
      let ih = items_carried fuel (p + i.size) items big (omega arith) rest in
      at_item fuel after others p i under (no_holes.from p) (item_carried p i (omega arith) z down f)
      ∙ rw ih refl
