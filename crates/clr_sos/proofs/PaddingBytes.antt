-- The bytes of an item behind its slots.
use Rattle.std.proofs.Common.{◌≡◌, ℕ, zero, suc, ◌+◌, ◌-◌, ◌*◌, ◌/◌, ◌%◌, ◌<◌, ◌≤◌, ◌==◌, ◌||◌, nat_lt, true, false}
use Rattle.std.proofs.Common.{Option, Some, None, refl, ◌∙◌, ap, arith, length}
use Rattle.std.proofs.lemmas.Bool.{lt-ltb}
use Rattle.clr_types.specs.Types.{bytes_form, class_form, Form, form_at, references_form, size_of, structs_form}
use Rattle.clr_view.specs.Clean.{slots_end}
use Rattle.clr_sos.specs.CheckedCells.{contents_fault, first_byte, first_in_words, or_else, padding_from, Rules}

pub byte_skipped : (n from a w : ℕ) → 0 < n → (nat_lt a from || (w % 256 == 0)) ≡ true
    → first_byte n from a w ≡ first_byte (n - 1) from (a + 1) (w / 256)
unfolding first_byte
byte_skipped zero from a w some h = absurd (omega arith)
byte_skipped (suc n) from a w some h = let less : suc n - 1 ≡ n = omega arith in rw (h, less) refl

pub byte_found : (n from a w : ℕ) → 0 < n → (nat_lt a from || (w % 256 == 0)) ≡ false → first_byte n from a w ≡ Some a
unfolding first_byte
byte_found zero from a w some h = absurd (omega arith)
byte_found (suc n) from a w some h = rw h refl

-- no byte stands at `from` or above
below : (n from a w : ℕ) → a + n ≤ from → first_byte n from a w ≡ None
unfolding first_byte
below zero from a w h = refl
below (suc n) from a w h =
    let low : nat_lt a from ≡ true = lt-ltb a from (omega arith) in
    rw low (below n from (a + 1) (w / 256) (omega arith))

or_none : (o : Option ℕ) → or_else o None ≡ o
or_none None = refl
or_none (Some a) = refl

pub byte_ends : (from a w : ℕ) → first_byte 0 from a w ≡ None
unfolding first_byte
byte_ends from a w = refl

-- words below `from`
pub words_below : (n from a : ℕ) (word : ℕ → ℕ) → a + 8 * n ≤ from → first_in_words n from (λ b. Some (word b)) a ≡ None
unfolding first_in_words
words_below zero from a word h = refl
words_below (suc n) from a word h =
    let here : first_byte 8 from a (word a) ≡ None = below 8 from a (word a) (omega arith) in
    rw here (words_below n from (a + 8) word (omega arith))

-- only the last word reaches up to `from`
pub words_last : (n from a : ℕ) (word : ℕ → ℕ) → a + 8 * n ≤ from
    → first_in_words (n + 1) from (λ b. Some (word b)) a ≡ first_byte 8 from (a + 8 * n) (word (a + 8 * n))
unfolding first_in_words
words_last zero from a word h =
    let at : a + 8 * 0 ≡ a = omega arith in
    rw at (or_none (first_byte 8 from a (word a)))
words_last (suc n) from a word h =
    let here : first_byte 8 from a (word a) ≡ None = below 8 from a (word a) (omega arith) in
    let at : a + 8 * suc n ≡ a + 8 + 8 * n = omega arith in
    let count : suc n + 1 ≡ suc (n + 1) = omega arith in
    rw (count, here, at) (words_last n from (a + 8) word (omega arith))

-- how the size of an item and the end of its slots lie
pub record HasSize (size end : ℕ) : Type 0 where
  pub whole : size % 8 ≡ 0
  pub least : 24 ≤ size
  pub low : end + 8 ≤ size
  pub high : size ≤ end + 16

pub has_size : (form : Form) (len : ℕ) → HasSize (size_of form len) (slots_end form len)
has_size (class_form pattern) len =
    let n = length pattern in
    record { whole = omega arith; least = omega arith; low = omega arith; high = omega arith }
has_size references_form len =
    record { whole = omega arith; least = omega arith; low = omega arith; high = omega arith }
has_size bytes_form len = record { whole = omega arith; least = omega arith; low = omega arith; high = omega arith }
has_size (structs_form pattern) len =
    let n = length pattern * len in
    record { whole = omega arith; least = omega arith; low = omega arith; high = omega arith }

-- all words of an item are slots
pub no_padding : (rules : Rules) (word : ℕ → ℕ) (place t len : ℕ)
    → place + size_of (form_at rules.rows t) len ≤ padding_from rules place t len + 8
    → contents_fault rules (λ b. Some (word b)) place t len ≡ None
no_padding rules word place t len h =
    let size = has_size (form_at rules.rows t) len in
    let least = size.least in
    words_below ((size_of (form_at rules.rows t) len - 16) / 8) (padding_from rules place t len) (place + 8) word
    (omega arith)

-- padding stands in the last word
pub last_padding : (rules : Rules) (word : ℕ → ℕ) (place t len : ℕ)
    → place + size_of (form_at rules.rows t) len ≤ padding_from rules place t len + 16
    → contents_fault rules (λ b. Some (word b)) place t len
    ≡ first_byte 8 (padding_from rules place t len) (place + size_of (form_at rules.rows t) len - 16)
    (word (place + size_of (form_at rules.rows t) len - 16))
last_padding rules word place t len h =
    let size = size_of (form_at rules.rows t) len in
    let from = padding_from rules place t len in
    let is = has_size (form_at rules.rows t) len in
    let least = is.least in
    let whole = is.whole in
    let n : (size - 16) / 8 ≡ (size - 24) / 8 + 1 = omega arith in
    let at : place + 8 + 8 * ((size - 24) / 8) ≡ place + size - 16 = omega arith in
    ap (λ (m : ℕ). first_in_words m from (λ b. Some (word b)) (place + 8)) n
    ∙ words_last ((size - 24) / 8) from (place + 8) word (omega arith)
    ∙ ap (λ (a : ℕ). first_byte 8 from a (word a)) at

-- where padding begins
pub padding_free : (rules : Rules) (place t len : ℕ) → rules.free_is_clear ≡ false → t ≡ 0
    → padding_from rules place t len ≡ place + size_of (form_at rules.rows t) len
padding_free rules place t len kept free =
    let test : (t == 0) ≡ true = grind (arith, free) in
    rw (test, kept) refl

pub padding_object : (rules : Rules) (place t len : ℕ) → (t == 0) ≡ false
    → padding_from rules place t len ≡ place + slots_end (form_at rules.rows t) len
padding_object rules place t len object = rw object refl
