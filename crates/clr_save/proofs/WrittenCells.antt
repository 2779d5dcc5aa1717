-- Items whose words are there are read back.
use Rattle.std.proofs.Common.{◌≡◌, ℕ, suc, zero, ◌≤◌, ◌<◌, ◌+◌, ◌-◌, ◌*◌, ◌/◌, ◌%◌, ◌==◌, Bool, true, false}
use Rattle.std.proofs.Common.{◌||◌, List, [], ◌∷◌, length, refl, arith, ap, sym, ◌∙◌, subst, Option, Some, None}
use Rattle.std.proofs.Common.{nat_le, nat_lt, le-leb, cond, Result, Ok, Err}
use Rattle.std.proofs.lemmas.Grind.{common_steps}
use Rattle.std.proofs.lemmas.Bool.Decides.{nat_tests}
use Rattle.clr_mem.specs.Words.{byte_of}
use Rattle.clr_mem.proofs.Digits.{byte_of-suc, byte_of-zero}
use Rattle.clr_types.specs.Ranges.{Piece}
use Rattle.clr_types.specs.Types.{bytes_form, class_form, Form, form_at, is_array, mt_of, references_form}
use Rattle.clr_types.specs.Types.{size_of, structs_form, TypeRow}
use Rattle.clr_types.specs.declared.item.Item.{Item}
use Rattle.clr_heap.specs.Memories.{word_address}
use Rattle.clr_heap.specs.Parts.{hole_from, made_item}
use Rattle.clr_sos.specs.CheckedCells.{checked_item, checked_items, checked_size, contents_fault, first_byte}
use Rattle.clr_sos.specs.CheckedCells.{first_in_words, is_inside, is_whole, number_in, or_else}
use Rattle.clr_sos.specs.CheckedCells.{padding_from, Rules, sized_item, type_of_word, with_item, with_word, Words}
use Rattle.clr_save.specs.WrittenCells.{AreCells, HasCell, IsCell}

-- ---- the words of one item

type_found : (rows : List TypeRow) (mt t : ℕ) → t ≤ length rows → mt ≡ mt_of t → type_of_word rows mt ≡ Some t
type_found rows mt t l is =
    let number : number_in mt ≡ t = omega (arith, is) in
    let known : nat_le t (length rows) ≡ true = grind (arith, l) in
    let same : (mt_of t == mt) ≡ true = grind (arith, is) in
    rw (number, known, same) refl

-- no byte at `from` or above is other than zero
clear_word : (n from a w : ℕ) → ((k : ℕ) → k < n → from ≤ a + k → byte_of w k ≡ 0) → first_byte n from a w ≡ None
unfolding first_byte
clear_word zero from a w clear = refl
clear_word (suc n) from a w clear =
    let rest = clear_word n from (a + 1) (w / 256)
    (λ k l above. sym (byte_of-suc w k) ∙ clear (suc k) (omega arith) (omega arith)) in
    go (nat_lt a from || (w % 256 == 0)) refl rest
  where
    go : (t : Bool) → (nat_lt a from || (w % 256 == 0)) ≡ t → first_byte n from (a + 1) (w / 256) ≡ None
        → cond t (first_byte n from (a + 1) (w / 256)) (Some a) ≡ None
    go true e rest = rest
    go false e rest =
        let zero_byte = clear 0 (omega arith) in
        let lowest = byte_of-zero w in
        let low : from ≤ a = grind (arith, nat_tests, common_steps) in
        let is = zero_byte (omega arith) in
        absurd (grind (arith, nat_tests, common_steps))

-- the words from an address on are clear at `from` and above
clear_words : (n from : ℕ) (words : Words) (word : ℕ → ℕ) (a : ℕ)
    → ((j : ℕ) → j < n → words (a + 8 * j) ≡ Some (word (a + 8 * j)))
    → ((j k : ℕ) → j < n → k < 8 → from ≤ a + 8 * j + k → byte_of (word (a + 8 * j)) k ≡ 0)
    → first_in_words n from words a ≡ None
unfolding first_in_words
clear_words zero from words word a there clear = refl
clear_words (suc n) from words word a there clear =
    let at : a + 8 * 0 ≡ a = omega arith in
    let here : words a ≡ Some (word a) = subst (λ (b : ℕ). words b ≡ Some (word b)) at (there 0 (omega arith)) in
    let next : (j : ℕ) → a + 8 + 8 * j ≡ a + 8 * suc j = λ j. omega arith in
    let first = clear_word 8 from a (word a)
    (λ k l above. subst (λ (b : ℕ). byte_of (word b) k ≡ 0) at (clear 0 k (omega arith) l (omega arith))) in
    let rest = clear_words n from words word (a + 8)
    (λ j l. subst (λ (b : ℕ). words b ≡ Some (word b)) (sym (next j)) (there (suc j) (omega arith)))
    (λ j k l m above. subst (λ (b : ℕ). byte_of (word b) k ≡ 0) (sym (next j))
    (clear (suc j) k (omega arith) m (omega arith))) in
    let done : or_else (first_byte 8 from a (word a)) (first_in_words n from words (a + 8)) ≡ None =
    rw (first, rest) refl in
    subst (λ (w : Option ℕ). elim w as (λ _. Option ℕ) [
      | None ↦ Some a
      | Some found ↦ or_else (first_byte 8 from a found) (first_in_words n from words (a + 8))
    ] ≡ None) (sym here) done

pub least_size : (form : Form) (len : ℕ) → 24 ≤ size_of form len
least_size (class_form pattern) len = let n = length pattern in omega arith
least_size references_form len = omega arith
least_size bytes_form len = omega arith
least_size (structs_form pattern) len = let n = length pattern * len in omega arith

pub whole_size : (form : Form) (len : ℕ) → size_of form len % 8 ≡ 0
whole_size (class_form pattern) len = let n = length pattern in omega arith
whole_size references_form len = omega arith
whole_size bytes_form len = omega arith
whole_size (structs_form pattern) len = let n = length pattern * len in omega arith

no_fault : (rules : Rules) (words : Words) (word : ℕ → ℕ) (place t len : ℕ) → IsCell rules word place t len
    → HasCell words word place (size_of (form_at rules.rows t) len) → contents_fault rules words place t len ≡ None
no_fault rules words word place t len is has =
    let aligned = is.aligned in
    let least = least_size (form_at rules.rows t) len in
    let whole = whole_size (form_at rules.rows t) len in
    clear_words ((size_of (form_at rules.rows t) len - 16) / 8) (padding_from rules place t len) words word (place + 8)
    (λ j l. has (place + 8 + 8 * j) (omega arith) (omega arith) (omega arith))
    (λ j k l m above.
    let at : word_address (place + 8 + 8 * j + k) ≡ place + 8 + 8 * j = omega arith in
    let digit : (place + 8 + 8 * j + k) % 8 ≡ k = omega arith in
    let clear = is.padding (place + 8 + 8 * j + k) above (omega arith) (omega arith) in
    rw (at, digit) at clear)

inside_first : (rules : Rules) (place t size : ℕ) → 24 ≤ size → rules.holes ≡ [] → is_whole rules place t size ≡ true
    → is_inside rules place 24 ≡ true
inside_first rules place t size least none whole = rw none (grind (arith, nat_tests, common_steps))

sized : (rules : Rules) (words : Words) (word : ℕ → ℕ) (place t len : ℕ) → IsCell rules word place t len
    → HasCell words word place (size_of (form_at rules.rows t) len)
    → sized_item rules words place t len (checked_size rules place t len) ≡ Ok (made_item rules.rows place t len)
sized rules words word place t len is has =
    let fits = is.length_fits in
    let whole = is.whole in
    let none = no_fault rules words word place t len is has in
    rw (fits, whole, none) refl

-- the item whose words are there
pub item_back : (rules : Rules) (words : Words) (word : ℕ → ℕ) (place t len : ℕ) → rules.holes ≡ []
    → IsCell rules word place t len → HasCell words word place (size_of (form_at rules.rows t) len)
    → checked_item rules words place ≡ Ok (made_item rules.rows place t len)
unfolding checked_item
item_back rules words word place t len none is has =
    let aligned = is.aligned in
    let above = is.above in
    let least = least_size (form_at rules.rows t) len in
    let header : words (place - 8) ≡ Some (word (place - 8)) =
    has (place - 8) (omega arith) (omega arith) (omega arith) in
    let mt : words place ≡ Some (word place) = has place (omega arith) (omega arith) (omega arith) in
    let inside = inside_first rules place t (size_of (form_at rules.rows t) len) least none is.whole in
    let lawful = is.header in
    let found = type_found rules.rows (word place) t is.known is.mt in
    let final = is.final in
    let held = is.held in
    rw (header, inside, lawful, mt, found, final, held)
    (go (is_array (form_at rules.rows t)) refl (sized rules words word place t len is has)
    (has (place + 8) (omega arith) (omega arith) (omega arith)))
  where
    go : (array : Bool) → is_array (form_at rules.rows t) ≡ array
        → sized_item rules words place t len (checked_size rules place t len) ≡ Ok (made_item rules.rows place t len)
        → words (place + 8) ≡ Some (word (place + 8))
        → cond array
        (with_word (place + 8) (words (place + 8)) (λ n. sized_item rules words place t n
        (checked_size rules place t n)))
        (sized_item rules words place t 0 (checked_size rules place t 0)) ≡ Ok (made_item rules.rows place t len)
    go true e done there = let same = is.length_word e in rw (there, same) done
    go false e done there =
        let nothing = is.no_length e in
        subst (λ (n : ℕ). sized_item rules words place t n (checked_size rules place t n)
        ≡ Ok (made_item rules.rows place t len)) nothing done

-- ---- all items of a segment

pub no_hole : (holes : List (Option Piece)) (place : ℕ) → holes ≡ [] → hole_from holes place ≡ None
no_hole [] place e = refl
no_hole (hole ∷ holes) place e = absurd cc

-- what the checks make of a place where no hole begins and an item stands
pub after_hole : (fuel : ℕ) (rules : Rules) (words : Words) (place : ℕ) (i : Item) (hole : Option ℕ) → hole ≡ None
    → (found : Result Item ℕ) → found ≡ Ok i → (answer : List Item)
    → with_item i (checked_items fuel rules words (place + i.size)) ≡ Ok answer
    → (elim hole as (λ _. Result (List Item) ℕ) [
      | Some high ↦ checked_items fuel rules words high
      | None ↦ elim found as (λ _. Result (List Item) ℕ) [
        | Err a ↦ Err a
        | Ok item ↦ with_item item (checked_items fuel rules words (place + item.size))
      ]
    ]) ≡ Ok answer
after_hole fuel rules words place i None e (Ok j) f answer rest =
    let same : j ≡ i = cc in rw same rest
after_hole fuel rules words place i None e (Err a) f answer rest = absurd cc
after_hole fuel rules words place i (Some high) e found f answer rest = absurd cc

-- the words of all cells from a place to the end are there
abbrev pub HasWords : Words → (ℕ → ℕ) → ℕ → ℕ → Type 0
HasWords words word place end = (a : ℕ) → a % 8 ≡ 0 → place ≤ a + 8 → a + 8 < end → words a ≡ Some (word a)

pub inside_end : (rules : Rules) (place t size : ℕ) → is_whole rules place t size ≡ true → place + size ≤ rules.end
inside_end rules place t size whole = grind (arith, nat_tests, common_steps)

pub items_back : (fuel : ℕ) (rules : Rules) (words : Words) (word : ℕ → ℕ) (place : ℕ) (items : List Item)
    → rules.holes ≡ [] → rules.end ≤ place + fuel → HasWords words word place rules.end
    → AreCells rules word place items
    → checked_items fuel rules words place ≡ Ok items
unfolding checked_items
items_back zero rules words word place [] none most has are = refl
items_back zero rules words word place (i ∷ items) none most has are = absurd (let low = are.0 in omega arith)
items_back (suc fuel) rules words word place [] none most has are =
    let done : nat_le rules.end place ≡ true = le-leb rules.end place (omega arith) in rw done refl
items_back (suc fuel) rules words word place (i ∷ items) none most has are =
    let low = are.0 in
    let cell = are.2 in
    let more : nat_le rules.end place ≡ false = grind (arith, nat_tests) in
    let hole = no_hole rules.holes place none in
    let least = least_size (form_at rules.rows i.type_id.0) i.len in
    let same = are.1 in
    let size : i.size ≡ size_of (form_at rules.rows i.type_id.0) i.len = ap (λ (j : Item). j.size) same in
    let below = inside_end rules place i.type_id.0 (size_of (form_at rules.rows i.type_id.0) i.len) cell.whole in
    let here : HasCell words word place (size_of (form_at rules.rows i.type_id.0) i.len) =
    λ a aligned near far. has a aligned near (omega arith) in
    let found = item_back rules words word place i.type_id.0 i.len none cell here
    ∙ ap (λ (j : Item). Ok j) (sym same) in
    let ih = items_back fuel rules words word (place + i.size) items none (omega arith)
    (λ a aligned near far. has a aligned (omega arith) far) are.3 in
    let rest : with_item i (checked_items fuel rules words (place + i.size)) ≡ Ok (i ∷ items) = rw ih refl in
    rw more (after_hole fuel rules words place i (hole_from rules.holes place) hole
    (checked_item rules words place) found
    (i ∷ items) rest)
