-- Items that were found in words are found again where the same words are there, and maybe more.
use Rattle.std.proofs.Common.{◌≡◌, ℕ, suc, zero, ◌+◌, ◌-◌, ◌/◌, ◌==◌, ◌⊎◌, inl, inr, Bool, true, false}
use Rattle.std.proofs.Common.{◌&&◌, ◌||◌, List, [], ◌∷◌, refl, ap, sym, ◌∙◌, subst, Option, Some, None}
use Rattle.std.proofs.Common.{nat_le, cond, if◌then◌else◌, Result, Ok, Err}
use Rattle.clr_types.specs.Types.{form_at, has_finalizer, is_array, size_of, type_row}
use Rattle.clr_types.specs.declared.item.Item.{Item}
use Rattle.clr_heap.specs.Parts.{hole_from, made_item}
use Rattle.clr_sos.specs.CheckedCells.{checked_item, checked_items, checked_size, contents_fault, first_byte}
use Rattle.clr_sos.specs.CheckedCells.{first_in_words, is_header, is_inside, item_of_type, may_hold, or_else, Rules}
use Rattle.clr_sos.specs.CheckedCells.{padding_from, sized_item, type_of_word, typed_item, unless, with_item, with_word}
use Rattle.clr_sos.specs.CheckedCells.{Words}
use Rattle.clr_save.proofs.WrittenCells.{after_hole, no_hole}

-- all words that are there are there again
abbrev pub Extends : Words → Words → Type 0
Extends words wider = (a w : ℕ) → words a ≡ Some w → wider a ≡ Some w

-- ---- one step back

record WithWord {A : Type 0} (o : Option ℕ) (next : ℕ → Result A ℕ) (x : A) : Type 0 where
  w : ℕ
  is : o ≡ Some w
  goes : next w ≡ Ok x

with_found : {A : Type 0} (a : ℕ) (o : Option ℕ) (next : ℕ → Result A ℕ) (x : A) → with_word a o next ≡ Ok x
    → WithWord o next x
with_found a None next x e = absurd cc
with_found a (Some w) next x e = record { w = w; is = refl; goes = e }

record Tested {A : Type 0} (t : Bool) (r : Result A ℕ) (x : A) : Type 0 where
  on : t ≡ true
  goes : r ≡ Ok x

test_found : {A : Type 0} (t : Bool) (r : Result A ℕ) (a : ℕ) (x : A) → cond t r (Err a) ≡ Ok x → Tested t r x
test_found true r a x e = record { on = refl; goes = e }
test_found false r a x e = absurd cc

record BothClear (first second : Option ℕ) : Type 0 where
  one : first ≡ None
  two : second ≡ None

both_clear : (first second : Option ℕ) → or_else first second ≡ None → BothClear first second
both_clear None second e = record { one = refl; two = e }
both_clear (Some a) second e = absurd cc

-- words that are clear
clear_again : (n from : ℕ) (words wider : Words) (a : ℕ) → Extends words wider → first_in_words n from words a ≡ None
    → first_in_words n from wider a ≡ None
unfolding first_in_words
clear_again zero from words wider a more e = refl
clear_again (suc n) from words wider a more e = go (words a) (clear_again n from words wider (a + 8) more) refl e
  where
    go : (o : Option ℕ)
        → (first_in_words n from words (a + 8) ≡ None → first_in_words n from wider (a + 8) ≡ None) → words a ≡ o
        → (elim o as (λ _. Option ℕ) [
          | None ↦ Some a
          | Some word ↦ or_else (first_byte 8 from a word) (first_in_words n from words (a + 8))
        ]) ≡ None
        → (elim (wider a) as (λ _. Option ℕ) [
          | None ↦ Some a
          | Some word ↦ or_else (first_byte 8 from a word) (first_in_words n from wider (a + 8))
        ]) ≡ None
    go None again at e = absurd cc
    go (Some w) again at e =
        let both = both_clear (first_byte 8 from a w) (first_in_words n from words (a + 8)) e in
        let one = both.one in
        let rest = again both.two in
        let done : or_else (first_byte 8 from a w) (first_in_words n from wider (a + 8)) ≡ None = rw (one, rest) refl in
        subst (λ (o : Option ℕ). (elim o as (λ _. Option ℕ) [
          | None ↦ Some a
          | Some word ↦ or_else (first_byte 8 from a word) (first_in_words n from wider (a + 8))
        ]) ≡ None) (sym (more a w at)) done

-- ---- one item

pub record SizedItem (rules : Rules) (words : Words) (place t len : ℕ) (i : Item) : Type 0 where
  pub size : ℕ
  pub sized : checked_size rules place t len ≡ Ok size
  pub clear : contents_fault rules words place t len ≡ None
  pub is : made_item rules.rows place t len ≡ i

sized_found : (rules : Rules) (words : Words) (place t len : ℕ) (i : Item)
    → sized_item rules words place t len (checked_size rules place t len) ≡ Ok i → SizedItem rules words place t len i
sized_found rules words place t len i e = go (checked_size rules place t len) refl e
  where
    here : (size : ℕ) (o : Option ℕ) → checked_size rules place t len ≡ Ok size
        → contents_fault rules words place t len ≡ o
        → unless o (made_item rules.rows place t len) ≡ Ok i → SizedItem rules words place t len i
    here size None s c e = record { size = size; sized = s; clear = c; is = cc }
    here size (Some a) s c e = absurd cc

    go : (r : Result ℕ ℕ) → checked_size rules place t len ≡ r → sized_item rules words place t len r ≡ Ok i
        → SizedItem rules words place t len i
    go (Err a) s e = absurd cc
    go (Ok size) s e = here size (contents_fault rules words place t len) s refl e

sized_again : (rules : Rules) (words wider : Words) (place t len : ℕ) (i : Item) → Extends words wider
    → SizedItem rules words place t len i
    → sized_item rules wider place t len (checked_size rules place t len) ≡ Ok i
sized_again rules words wider place t len i more f =
    let sized = f.sized in
    let clear : contents_fault rules wider place t len ≡ None =
    clear_again ((size_of (form_at rules.rows t) len - 16) / 8) (padding_from rules place t len) words wider (place + 8)
    more f.clear in
    let is = f.is in
    ap (sized_item rules wider place t len) sized ∙ ap (λ o. unless o (made_item rules.rows place t len)) clear
    ∙ ap (λ (j : Item). Ok j) is

-- the length of an item, as its words tell it
abbrev pub HasLength : Rules → Words → ℕ → ℕ → ℕ → Type 0
HasLength rules words place t len =
    ((is_array (form_at rules.rows t) ≡ true) × (words (place + 8) ≡ Some len))
    ⊎ ((is_array (form_at rules.rows t) ≡ false) × (len ≡ 0))

pub record FoundItem (rules : Rules) (words : Words) (place : ℕ) (i : Item) : Type 0 where
  header : ℕ
  mt : ℕ
  pub t : ℕ
  pub len : ℕ
  header_at : words (place - 8) ≡ Some header
  start : (is_inside rules place 24 && is_header header) ≡ true
  mt_at : words place ≡ Some mt
  type : type_of_word rules.rows mt ≡ Some t
  final : ((header == 0) || has_finalizer (type_row rules.rows t)) ≡ true
  held : may_hold rules.kind (form_at rules.rows t) ≡ true
  length : HasLength rules words place t len
  pub item : SizedItem rules words place t len i

length_found : (rules : Rules) (words : Words) (place t : ℕ) (i : Item) (array : Bool)
    → is_array (form_at rules.rows t) ≡ array
    → cond array
    (with_word (place + 8) (words (place + 8)) (λ n. sized_item rules words place t n (checked_size rules place t n)))
    (sized_item rules words place t 0 (checked_size rules place t 0)) ≡ Ok i
    → (len : ℕ) × HasLength rules words place t len × SizedItem rules words place t len i
length_found rules words place t i true a e =
    let f = with_found (place + 8) (words (place + 8))
    (λ n. sized_item rules words place t n (checked_size rules place t n))
    i e in
    (f.w, inl (a, f.is), sized_found rules words place t f.w i f.goes)
length_found rules words place t i false a e = (0, inr (a, refl), sized_found rules words place t 0 i e)

typed_found : (rules : Rules) (words : Words) (place header mt : ℕ) (i : Item) (o : Option ℕ)
    → words (place - 8) ≡ Some header → (is_inside rules place 24 && is_header header) ≡ true → words place ≡ Some mt
    → type_of_word rules.rows mt ≡ o → typed_item rules words place header o ≡ Ok i → FoundItem rules words place i
typed_found rules words place header mt i None h s m type e = go (header == 0) e
  where
    go : (t : Bool) → cond {A = Result Item ℕ} t (Err place) (Err (place - 8)) ≡ Ok i → FoundItem rules words place i
    go true e = absurd cc
    go false e = absurd cc
typed_found rules words place header mt i (Some t) h s m type e =
    let f = test_found ((header == 0) || has_finalizer (type_row rules.rows t)) _ (place - 8) i e in
    let k = test_found (may_hold rules.kind (form_at rules.rows t)) (item_of_type rules words place t) place i f.goes in
    let l = length_found rules words place t i (is_array (form_at rules.rows t)) refl k.goes in
    record {
      header = header;
      mt = mt;
      t = t;
      len = l.0;
      header_at = h;
      start = s;
      mt_at = m;
      type = type;
      final = f.on;
      held = k.on;
      length = l.1;
      item = l.2;
    }

pub item_found : (rules : Rules) (words : Words) (place : ℕ) (i : Item) → checked_item rules words place ≡ Ok i
    → FoundItem rules words place i
unfolding checked_item
item_found rules words place i e =
    let one = with_found (place - 8) (words (place - 8)) (λ header.
    if is_inside rules place 24 && is_header header
    then with_word place (words place) (λ mt. typed_item rules words place header (type_of_word rules.rows mt))
    else Err (place - 8)) i e in
    let two = test_found (is_inside rules place 24 && is_header one.w)
    (with_word place (words place) (λ mt. typed_item rules words place one.w (type_of_word rules.rows mt)))
    (place - 8) i one.goes in
    let three = with_found place (words place) (λ mt. typed_item rules words place one.w (type_of_word rules.rows mt)) i
    two.goes in
    typed_found rules words place one.w three.w i (type_of_word rules.rows three.w) one.is two.on three.is refl
    three.goes

length_again : (rules : Rules) (wider : Words) (place t len : ℕ) (i : Item) → HasLength rules wider place t len
    → sized_item rules wider place t len (checked_size rules place t len) ≡ Ok i
    → cond (is_array (form_at rules.rows t))
    (with_word (place + 8) (wider (place + 8)) (λ n. sized_item rules wider place t n (checked_size rules place t n)))
    (sized_item rules wider place t 0 (checked_size rules place t 0)) ≡ Ok i
length_again rules wider place t len i (inl h) done =
    let array = h.0 in let there = h.1 in rw array
    (ap (λ o. with_word (place + 8) o (λ n. sized_item rules wider place t n (checked_size rules place t n))) there
    ∙ done)
length_again rules wider place t len i (inr h) done =
    let array = h.0 in
    rw array (subst (λ (n : ℕ). sized_item rules wider place t n (checked_size rules place t n) ≡ Ok i) h.1 done)

wider_length : (rules : Rules) (words wider : Words) (place t len : ℕ) → Extends words wider
    → HasLength rules words place t len → HasLength rules wider place t len
wider_length rules words wider place t len more (inl h) = inl (h.0, more (place + 8) len h.1)
wider_length rules words wider place t len more (inr h) = inr h

pub item_again : (rules : Rules) (words wider : Words) (place : ℕ) (i : Item) → Extends words wider
    → FoundItem rules words place i → checked_item rules wider place ≡ Ok i
unfolding checked_item
item_again rules words wider place i more f =
    let header = more (place - 8) f.header f.header_at in
    let mt = more place f.mt f.mt_at in
    let start = f.start in
    let type = f.type in
    let final = f.final in
    let held = f.held in
    let done = length_again rules wider place f.t f.len i (wider_length rules words wider place f.t f.len more f.length)
    (sized_again rules words wider place f.t f.len i more f.item) in
    rw (header, start, mt, type, final, held) done

-- ---- all items

-- an item, and the others behind it
pub record WithItem (rules : Rules) (words : Words) (fuel place : ℕ) (items : List Item) : Type 0 where
  pub item : Item
  pub rest : List Item
  pub is : items ≡ item ∷ rest
  pub here : checked_item rules words place ≡ Ok item
  pub behind : checked_items fuel rules words (place + item.size) ≡ Ok rest

pub item_and_rest : (rules : Rules) (words : Words) (fuel place : ℕ) (items : List Item) (hole : Option ℕ) → hole ≡ None
    → (elim hole as (λ _. Result (List Item) ℕ) [
      | Some high ↦ checked_items fuel rules words high
      | None ↦ elim (checked_item rules words place) as (λ _. Result (List Item) ℕ) [
        | Err a ↦ Err a
        | Ok item ↦ with_item item (checked_items fuel rules words (place + item.size))
      ]
    ]) ≡ Ok items → WithItem rules words fuel place items
item_and_rest rules words fuel place items (Some high) h e = absurd cc
item_and_rest rules words fuel place items None h e = go (checked_item rules words place) refl e
  where
    rest : (item : Item) (r : Result (List Item) ℕ) → checked_item rules words place ≡ Ok item
        → checked_items fuel rules words (place + item.size) ≡ r → with_item item r ≡ Ok items
        → WithItem rules words fuel place items
    rest item (Err a) c b e = absurd cc
    rest item (Ok js) c b e = record { item = item; rest = js; is = cc; here = c; behind = b }

    go : (r : Result Item ℕ) → checked_item rules words place ≡ r
        → (elim r as (λ _. Result (List Item) ℕ) [
          | Err a ↦ Err a
          | Ok item ↦ with_item item (checked_items fuel rules words (place + item.size))
        ]) ≡ Ok items → WithItem rules words fuel place items
    go (Err a) c e = absurd cc
    go (Ok item) c e = rest item (checked_items fuel rules words (place + item.size)) c refl e

pub items_again : (fuel : ℕ) (rules : Rules) (words wider : Words) (place : ℕ) (items : List Item) → rules.holes ≡ []
    → Extends words wider → checked_items fuel rules words place ≡ Ok items
    → checked_items fuel rules wider place ≡ Ok items
unfolding checked_items
items_again zero rules words wider place items none more e = e
items_again (suc fuel) rules words wider place items none more e =
    go (nat_le rules.end place) (λ p js. items_again fuel rules words wider p js none more) refl e
  where
    go : (t : Bool)
        → ((p : ℕ) (js : List Item) → checked_items fuel rules words p ≡ Ok js → checked_items fuel rules wider p
        ≡ Ok js)
        → nat_le rules.end place ≡ t → cond t (Ok [])
        (elim (hole_from rules.holes place) as (λ _. Result (List Item) ℕ) [
          | Some high ↦ checked_items fuel rules words high
          | None ↦ elim (checked_item rules words place) as (λ _. Result (List Item) ℕ) [
            | Err a ↦ Err a
            | Ok item ↦ with_item item (checked_items fuel rules words (place + item.size))
          ]
        ]) ≡ Ok items
        → checked_items (suc fuel) rules wider place ≡ Ok items
    go true again t e = rw t e
    go false again t e =
        let hole = no_hole rules.holes place none in
        let f = item_and_rest rules words fuel place items (hole_from rules.holes place) hole e in
        let found = item_again rules words wider place f.item more (item_found rules words place f.item f.here) in
        let ih = again (place + f.item.size) f.rest f.behind in
        let rest : with_item f.item (checked_items fuel rules wider (place + f.item.size)) ≡ Ok (f.item ∷ f.rest) =
        rw ih refl in
        rw t (after_hole fuel rules wider place f.item (hole_from rules.holes place) hole
        (checked_item rules wider place)
        found (f.item ∷ f.rest) rest ∙ ap (λ (js : List Item). Ok js) (sym f.is))
