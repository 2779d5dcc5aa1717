-- What callers of `Mem` cite: the size, the words and the bytes of a memory after each write.
use Rattle.std.proofs.Common.{replicate, ◌≡◌, ◌≢◌, ◌⊎◌, inl, inr, ℕ, ◌+◌, ◌-◌, ◌/◌, ◌%◌, ◌<◌, ◌≤◌, List, ◌++◌, length}
use Rattle.std.proofs.Common.{get_or, take, drop, refl, ap, sym, ◌∙◌, arith, length-append, length-take-le, length-drop}
use Rattle.std.proofs.Common.{length-set, get_or-drop, get_or-take}
use Rattle.std.proofs.lemmas.Bool.{cases_eq, cases_lt}
use Rattle.std.proofs.lemmas.List.{get_or_past, get_or-replicate, length-replicate, get_or_append_left}
use Rattle.std.proofs.lemmas.List.{get_or-append_right, get_or-set_same, get_or-set_other}
use Rattle.clr_mem.specs.Words.{byte_at, byte_of, cleared, end_of, Memory, moved, overwrite, part, place_of, with_byte}
use Rattle.clr_mem.specs.Words.{with_byte_at, with_word, word_at, zeroed, zeros}
use Rattle.clr_mem.proofs.Digits.{byte_of-with_byte_same, byte_of-with_byte_other, byte_of-zero_word}

-- ---- lists of words

pub length-overwrite : (xs : List ℕ) (i : ℕ) (ys : List ℕ) → i + length ys ≤ length xs
    → length (overwrite xs i ys) ≡ length xs
length-overwrite xs i ys h =
    let front = length-take-le i xs (omega arith) in
    let joined = length-append (take i xs) (ys ++ drop (i + length ys) xs) in
    let rest = length-append ys (drop (i + length ys) xs) in
    let left = length-drop (i + length ys) xs in
    joined ∙ omega arith

-- words below, inside and above what is written over
pub get_or-overwrite_inside : (xs : List ℕ) (i : ℕ) (ys : List ℕ) (k : ℕ) → i + length ys ≤ length xs → i ≤ k
    → k < i + length ys → get_or (overwrite xs i ys) k 0 ≡ get_or ys (k - i) 0
get_or-overwrite_inside xs i ys k h lo hi =
    let n = length-take-le i xs (omega arith) in
    get_or-append_right (take i xs) (ys ++ drop (i + length ys) xs) i k 0 n lo
    ∙ get_or_append_left ys (drop (i + length ys) xs) 0 (k - i) (omega arith)

pub get_or-overwrite_below : (xs : List ℕ) (i : ℕ) (ys : List ℕ) (k : ℕ) → i + length ys ≤ length xs → k < i
    → get_or (overwrite xs i ys) k 0 ≡ get_or xs k 0
get_or-overwrite_below xs i ys k h lo =
    let n = length-take-le i xs (omega arith) in
    get_or_append_left (take i xs) (ys ++ drop (i + length ys) xs) 0 k (omega arith) ∙ get_or-take i xs k 0 lo

pub get_or-overwrite_above : (xs : List ℕ) (i : ℕ) (ys : List ℕ) (k : ℕ) → i + length ys ≤ length xs → i + length ys ≤ k
    → get_or (overwrite xs i ys) k 0 ≡ get_or xs k 0
get_or-overwrite_above xs i ys k h hi =
    let n = length-take-le i xs (omega arith) in
    let at : i + length ys + (k - i - length ys) ≡ k = omega arith in
    get_or-append_right (take i xs) (ys ++ drop (i + length ys) xs) i k 0 n (omega arith)
    ∙ get_or-append_right ys (drop (i + length ys) xs) (length ys) (k - i) 0 refl (omega arith)
    ∙ get_or-drop (i + length ys) xs (k - i - length ys) 0
    ∙ ap (λ (j : ℕ). get_or xs j 0) at

pub length-part : (xs : List ℕ) (j n : ℕ) → j + n ≤ length xs → length (part xs j n) ≡ n
length-part xs j n h = length-take-le n (drop j xs) (omega (arith, length-drop j xs))

pub get_or-part : (xs : List ℕ) (j n k : ℕ) → k < n → get_or (part xs j n) k 0 ≡ get_or xs (j + k) 0
get_or-part xs j n k h = get_or-take n (drop j xs) k 0 h ∙ get_or-drop j xs k 0

pub length-zeros : (n : ℕ) → length (zeros n) ≡ n
unfolding zeros
length-zeros n = length-replicate {A = ℕ} n 0

pub get_or-zeros : (n k : ℕ) → get_or (zeros n) k 0 ≡ 0
unfolding zeros
get_or-zeros n k = elim (cases_lt k n) [
  | inl below ↦ get_or-replicate {A = ℕ} n k 0 0 below
  | inr past ↦ get_or_past (replicate n 0) k 0 (let l = length-replicate {A = ℕ} n 0 in omega arith)
]

-- ---- after `new`

pub word_at-zeroed : (base n a : ℕ) → word_at (zeroed base n) a ≡ 0
word_at-zeroed base n a = get_or-zeros (n / 8) (place_of (zeroed base n) a)

pub byte_at-zeroed : (base n a : ℕ) → byte_at (zeroed base n) a ≡ 0
byte_at-zeroed base n a = ap (λ (w : ℕ). byte_of w (a % 8)) (word_at-zeroed base n a) ∙ byte_of-zero_word (a % 8)

pub end_of-zeroed : (base n : ℕ) → n % 8 ≡ 0 → end_of (zeroed base n) ≡ base + n
end_of-zeroed base n whole = let size = length-zeros (n / 8) in omega arith

-- ---- after `set_word` and `set_byte`

pub length-with_word : (m : Memory) (a v : ℕ) → length (with_word m a v).words ≡ length m.words
length-with_word m a v = length-set m.words (place_of m a) v

-- any address of the word that is written reads the new word
pub word_at-with_word_same : (m : Memory) (a v : ℕ) → m.base ≤ a → a < end_of m → word_at (with_word m a v) a ≡ v
word_at-with_word_same m a v above below = get_or-set_same m.words (place_of m a) v 0 (omega arith)

pub word_at-with_word_other : (m : Memory) (a b v : ℕ) → m.base ≤ a → m.base ≤ b → a % 8 ≡ 0 → b % 8 ≡ 0 → b ≢ a
    → word_at (with_word m a v) b ≡ word_at m b
word_at-with_word_other m a b v above b_above start b_start apart =
    get_or-set_other m.words (place_of m a) (place_of m b) v 0 (λ e. apart (omega arith))

-- the bytes of a word that is written are those of the new word
pub byte_at-with_word_same : (m : Memory) (a b v : ℕ) → m.base % 8 ≡ 0 → m.base ≤ a → a % 8 ≡ 0 → a < end_of m → a ≤ b
    → b < a + 8 → byte_at (with_word m a v) b ≡ byte_of v (b - a)
byte_at-with_word_same m a b v aligned above start below lo hi =
    let at : place_of m b ≡ place_of m a = omega arith in
    let k : b % 8 ≡ b - a = omega arith in
    let here : word_at (with_word m a v) b ≡ v =
    ap (λ (i : ℕ). get_or (with_word m a v).words i 0) at ∙ word_at-with_word_same m a v above below in
    rw (here, k) refl

pub byte_at-with_word_other : (m : Memory) (a b v : ℕ) → m.base % 8 ≡ 0 → m.base ≤ a → m.base ≤ b → a % 8 ≡ 0
    → (b < a) ⊎ (a + 8 ≤ b) → byte_at (with_word m a v) b ≡ byte_at m b
byte_at-with_word_other m a b v aligned above b_above start out =
    let apart : place_of m b ≢ place_of m a = λ e. elim out [ inl l ↦ omega arith | inr l ↦ omega arith ] in
    ap (λ (w : ℕ). byte_of w (b % 8)) (get_or-set_other m.words (place_of m a) (place_of m b) v 0 apart)

-- a byte that is written leaves the other words
pub word_at-with_byte_at_other : (m : Memory) (a b v : ℕ) → m.base % 8 ≡ 0 → m.base ≤ a → m.base ≤ b → b / 8 ≢ a / 8
    → word_at (with_byte_at m a v) b ≡ word_at m b
word_at-with_byte_at_other m a b v aligned above b_above apart =
    get_or-set_other m.words (place_of m a) (place_of m b) (with_byte (word_at m a) (a % 8) v) 0
    (λ e. apart (omega arith))

pub byte_at-with_byte_at_same : (m : Memory) (a v : ℕ) → m.base ≤ a → a < end_of m → v < 256
    → byte_at (with_byte_at m a v) a ≡ v
byte_at-with_byte_at_same m a v above below small =
    ap (λ (w : ℕ). byte_of w (a % 8)) (word_at-with_word_same m a (with_byte (word_at m a) (a % 8) v) above below)
    ∙ byte_of-with_byte_same (word_at m a) (a % 8) v small

pub byte_at-with_byte_at_other : (m : Memory) (a b v : ℕ) → m.base % 8 ≡ 0 → m.base ≤ a → a < end_of m → m.base ≤ b
    → v < 256 → b ≢ a → byte_at (with_byte_at m a v) b ≡ byte_at m b
byte_at-with_byte_at_other m a b v aligned above below b_above small apart =
    let new = with_byte (word_at m a) (a % 8) v in
    elim (cases_eq (place_of m b) (place_of m a)) [
      | inl same ↦ let digit : b % 8 ≢ a % 8 = λ e. apart (omega arith) in
          ap (λ (i : ℕ). byte_of (get_or (with_word m a new).words i 0) (b % 8)) same
          ∙ ap (λ (w : ℕ). byte_of w (b % 8)) (word_at-with_word_same m a new above below)
          ∙ byte_of-with_byte_other (word_at m a) (a % 8) (b % 8) v small digit
          ∙ ap (λ (i : ℕ). byte_of (get_or m.words i 0) (b % 8)) (sym same)
      | inr elsewhere ↦ ap (λ (w : ℕ). byte_of w (b % 8))
          (get_or-set_other m.words (place_of m a) (place_of m b) new 0 elsewhere)
    ]

-- ---- after `slide` and `carry`

module _ (m o : Memory) (to from n : ℕ) (to_low : m.base ≤ to) (to_high : to + n ≤ end_of m) (from_low : o.base ≤ from)
    (from_high : from + n ≤ end_of o) (base8 : m.base % 8 ≡ 0) (obase8 : o.base % 8 ≡ 0) (to8 : to % 8 ≡ 0)
    (from8 : from % 8 ≡ 0) (n8 : n % 8 ≡ 0) where
  pub length-moved : length (moved m o to from n).words ≡ length m.words
  length-moved =
      let c = length-part o.words (place_of o from) (n / 8) (omega arith) in
      length-overwrite m.words (place_of m to) (part o.words (place_of o from) (n / 8)) (omega arith)

  pub word_at-moved_inside : (b : ℕ) → to ≤ b → b < to + n
      → word_at (moved m o to from n) b ≡ word_at o (from + (b - to))
  word_at-moved_inside b lo hi =
      let c = length-part o.words (place_of o from) (n / 8) (omega arith) in
      let at : place_of o from + (place_of m b - place_of m to) ≡ place_of o (from + (b - to)) = omega arith in
      get_or-overwrite_inside m.words (place_of m to) (part o.words (place_of o from) (n / 8)) (place_of m b)
      (omega arith) (omega arith) (omega arith)
      ∙ get_or-part o.words (place_of o from) (n / 8) (place_of m b - place_of m to) (omega arith)
      ∙ ap (λ (k : ℕ). get_or o.words k 0) at

  pub word_at-moved_outside : (b : ℕ) → m.base ≤ b → (b < to) ⊎ (to + n ≤ b)
      → word_at (moved m o to from n) b ≡ word_at m b
  word_at-moved_outside b low out =
      let c = length-part o.words (place_of o from) (n / 8) (omega arith) in
      elim out [
        | inl l ↦ get_or-overwrite_below m.words (place_of m to) (part o.words (place_of o from) (n / 8))
            (place_of m b) (omega arith) (omega arith)
        | inr l ↦ get_or-overwrite_above m.words (place_of m to) (part o.words (place_of o from) (n / 8))
            (place_of m b) (omega arith) (omega arith)
      ]

  pub byte_at-moved_inside : (b : ℕ) → to ≤ b → b < to + n
      → byte_at (moved m o to from n) b ≡ byte_at o (from + (b - to))
  byte_at-moved_inside b lo hi =
      let k : b % 8 ≡ (from + (b - to)) % 8 = omega arith in
      ap (λ (w : ℕ). byte_of w (b % 8)) (word_at-moved_inside b lo hi)
      ∙ ap (byte_of (word_at o (from + (b - to)))) k

  pub byte_at-moved_outside : (b : ℕ) → m.base ≤ b → (b < to) ⊎ (to + n ≤ b)
      → byte_at (moved m o to from n) b ≡ byte_at m b
  byte_at-moved_outside b low out = ap (λ (w : ℕ). byte_of w (b % 8)) (word_at-moved_outside b low out)

-- ---- after `zero`

module _ (m : Memory) (a n : ℕ) (low : m.base ≤ a) (high : a + n ≤ end_of m) (base8 : m.base % 8 ≡ 0) (a8 : a % 8 ≡ 0)
    (n8 : n % 8 ≡ 0) where
  pub length-cleared : length (cleared m a n).words ≡ length m.words
  length-cleared = let c = length-zeros (n / 8) in length-overwrite m.words (place_of m a) (zeros (n / 8)) (omega arith)

  pub word_at-cleared_inside : (b : ℕ) → a ≤ b → b < a + n → word_at (cleared m a n) b ≡ 0
  word_at-cleared_inside b lo hi =
      let c = length-zeros (n / 8) in
      get_or-overwrite_inside m.words (place_of m a) (zeros (n / 8)) (place_of m b) (omega arith) (omega arith)
      (omega arith)
      ∙ get_or-zeros (n / 8) (place_of m b - place_of m a)

  pub word_at-cleared_outside : (b : ℕ) → m.base ≤ b → (b < a) ⊎ (a + n ≤ b) → word_at (cleared m a n) b ≡ word_at m b
  word_at-cleared_outside b b_low out =
      let c = length-zeros (n / 8) in
      elim out [
        | inl l ↦ get_or-overwrite_below m.words (place_of m a) (zeros (n / 8)) (place_of m b) (omega arith)
            (omega arith)
        | inr l ↦ get_or-overwrite_above m.words (place_of m a) (zeros (n / 8)) (place_of m b) (omega arith)
            (omega arith)
      ]
