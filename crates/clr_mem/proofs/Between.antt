-- Words that are looked through for one of a range of numbers.
use Rattle.std.proofs.Common.{◌≡◌, ℕ, ◌+◌, ◌-◌, ◌*◌, ◌%◌, ◌<◌, ◌≤◌, ◌^◌, inl, inr, true, false, List, length}
use Rattle.std.proofs.Common.{get_or, take, drop, ap, ◌∙◌, sym, subst, arith, ltb, leb, mul-suc, length-drop}
use Rattle.std.proofs.lemmas.Bool.{leb-true, ltb-true, and_parts, and_from, le-leb, le-ltb, lt-ltb, cases_Bool}
use Rattle.std.proofs.lemmas.Bool.{cases_lt}
use Rattle.std.proofs.lemmas.List.{drop-drop, drop-take, drop_all, take_all, get_or-drop, get_or-take}
use Rattle.clr_mem.specs.Stored.{with_zeros}
use Rattle.clr_mem.specs.Words.{is_between, spelled}
use Rattle.clr_mem.proofs.Padding.{seen-word}
use Rattle.clr_mem.proofs.Spelling.{spelled-take}

module _ (low high word size : ℕ) (low_fits : low < 2 ^ 64) (high_fits : high < 2 ^ 64) (fits : word < 2 ^ 64)
    (size_is : size ≡ high - low) where
  -- the distance from `low` wraps to less than the range's size
  pub between-near : (word + (2 ^ 64 - low)) % 2 ^ 64 < size → is_between low high word ≡ true
  between-near near =
      and_from (leb low word) (ltb word high)
      (le-leb low word (omega (arith, near, size_is, low_fits, high_fits, fits)))
      (lt-ltb word high (omega (arith, near, size_is, low_fits, high_fits, fits)))

  pub between-far : size ≤ (word + (2 ^ 64 - low)) % 2 ^ 64 → is_between low high word ≡ false
  between-far far =
      elim (cases_Bool (is_between low high word)) [
        | inl in_it ↦
            let p = and_parts (leb low word) (ltb word high) in_it in
            let above = leb-true low word p.0 in
            let below = ltb-true word high p.1 in
            absurd (omega (arith, far, size_is, low_fits, high_fits, fits, above, below))
        | inr out ↦ out
      ]

  -- so one comparison tells whether it is in the range
  pub between-wraps : ltb ((word + (2 ^ 64 - low)) % 2 ^ 64) size ≡ is_between low high word
  between-wraps = elim (cases_lt ((word + (2 ^ 64 - low)) % 2 ^ 64) size) [
    | inl near ↦ lt-ltb ((word + (2 ^ 64 - low)) % 2 ^ 64) size near ∙ sym (between-near near)
    | inr far ↦ le-ltb ((word + (2 ^ 64 - low)) % 2 ^ 64) size far ∙ sym (between-far far)
  ]

-- 0 is in no range of numbers above it
pub between-zero : (low high word : ℕ) → 0 < low → word ≡ 0 → is_between low high word ≡ false
between-zero low high word above is =
    elim (cases_Bool (is_between low high word)) [
      | inl in_it ↦
          let p = and_parts (leb low word) (ltb word high) in_it in
          let least = leb-true low word p.0 in
          absurd (omega (arith, above, is, least))
      | inr out ↦ out
    ]

-- what holds of the first n words and of the next one holds of one more
pub before-more : (low high : ℕ) (word : ℕ → ℕ) (n : ℕ)
    → ((j : ℕ) → j < n → is_between low high (word j) ≡ false)
    → is_between low high (word n) ≡ false
    → (j : ℕ) → j < n + 1 → is_between low high (word j) ≡ false
before-more low high word n before next j l =
    elim (cases_lt j n) [
      | inl earlier ↦ before j earlier
      | inr here ↦
          let is : n ≡ j = omega (arith, l, here) in
          subst (λ k. is_between low high (word k) ≡ false) is next
    ]

-- what holds of the first k words and of the n words behind them holds of all these
pub before-both : (low high : ℕ) (word behind : ℕ → ℕ) (k n : ℕ)
    → ((j : ℕ) → j < n → behind j ≡ word (k + j))
    → ((j : ℕ) → j < k → is_between low high (word j) ≡ false)
    → ((j : ℕ) → j < n → is_between low high (behind j) ≡ false)
    → (j : ℕ) → j < k + n → is_between low high (word j) ≡ false
before-both low high word behind k n same first second j l =
    elim (cases_lt j k) [
      | inl earlier ↦ first j earlier
      | inr later ↦
          let i = j - k in
          let within : i < n = omega (arith, l, later) in
          let place : k + i ≡ j = omega (arith, later) in
          ap (is_between low high) (sym (same i within ∙ ap word place)) ∙ second i within
    ]

grow : (step n : ℕ) → step * n + step ≡ step * (n + 1)
grow step n = sym (mul-suc step n) ∙ ap (λ k. step * k) (omega arith)

-- the bytes behind the next `step` ones
pub rest-next : (step : ℕ) (bytes rest more : List ℕ) (n : ℕ) → rest ≡ drop (step * n) bytes → more ≡ drop step rest
    → more ≡ drop (step * (n + 1)) bytes
rest-next step bytes rest more n is next =
    next ∙ ap (drop step) is ∙ drop-drop step (step * n) bytes
    ∙ ap (λ (k : ℕ). drop k bytes) (grow step n)

-- a word of n bytes from `at` on
pub word-inside : (bytes : List ℕ) (at n j : ℕ) → 8 * j + 8 ≤ n
    → spelled (drop (8 * j) (take n (drop at bytes))) ≡ spelled (drop (at + 8 * j) bytes)
word-inside bytes at n j within =
    let left = n - 8 * j in
    let sum : n ≡ 8 * j + left = omega (arith, within) in
    ap (λ (k : ℕ). spelled (drop (8 * j) (take k (drop at bytes)))) sum
    ∙ ap spelled (drop-take (8 * j) left (drop at bytes))
    ∙ spelled-take left (drop (8 * j) (drop at bytes)) (omega (arith, within))
    ∙ ap spelled (drop-drop (8 * j) at bytes)

-- a word of the eight behind n eights
pub word-of_eight : (bytes eight : List ℕ) (n j : ℕ) → eight ≡ take 64 (drop (64 * n) bytes) → j < 8
    → spelled (drop (8 * j) eight) ≡ spelled (drop (8 * (8 * n + j)) bytes)
word-of_eight bytes eight n j is l =
    ap (λ (ys : List ℕ). spelled (drop (8 * j) ys)) is
    ∙ word-inside bytes (64 * n) 64 j (omega (arith, l))
    ∙ ap (λ (i : ℕ). spelled (drop i bytes)) (omega arith)

-- a word of the first eight
pub word-front : (bytes eight : List ℕ) (j : ℕ) → eight ≡ take 64 bytes → j < 8
    → spelled (drop (8 * j) eight) ≡ spelled (drop (8 * j) bytes)
word-front bytes eight j is l =
    word-of_eight bytes eight 0 j is l ∙ ap (λ (i : ℕ). spelled (drop i bytes)) (omega arith)

-- word j behind the first k words
pub word-behind : (bytes rest : List ℕ) (k j : ℕ) → rest ≡ drop (8 * k) bytes
    → spelled (drop (8 * j) rest) ≡ spelled (drop (8 * (k + j)) bytes)
word-behind bytes rest k j is =
    ap (λ (ys : List ℕ). spelled (drop (8 * j) ys)) is
    ∙ ap spelled (drop-drop (8 * j) (8 * k) bytes ∙ ap (λ (i : ℕ). drop i bytes) (omega arith))

-- all that stands from i on
pub rest-whole : (xs : List ℕ) (i : ℕ) → take (length xs - i) (drop i xs) ≡ drop i xs
rest-whole xs i = take_all (length xs - i) (drop i xs) (omega (arith, length-drop i xs))

-- a number of the first eight
pub number-front : (numbers eight : List ℕ) (j : ℕ) → eight ≡ take 8 numbers → j < 8
    → get_or eight j 0 ≡ get_or numbers j 0
number-front numbers eight j is l = ap (λ (ys : List ℕ). get_or ys j 0) is ∙ get_or-take 8 numbers j 0 l

-- number j behind the first k numbers
pub number-behind : (numbers rest : List ℕ) (k j : ℕ) → rest ≡ drop k numbers
    → get_or rest j 0 ≡ get_or numbers (k + j) 0
number-behind numbers rest k j is = ap (λ (ys : List ℕ). get_or ys j 0) is ∙ get_or-drop k numbers j 0

-- whole words are stored, of which `count` bytes are among the n words from `at` on
pub whole-count : (n at len count : ℕ) → at % 8 ≡ 0 → len % 8 ≡ 0 → count ≤ 8 * n → (0 < count → at + count ≤ len)
    → (count < 8 * n → len ≤ at + count) → count % 8 ≡ 0
whole-count n at len count start words most below rest =
    elim (cases_lt count (8 * n)) [
      | inl fewer ↦
          elim (cases_lt 0 count) [
            | inl some ↦
                let end = below some in
                let past = rest fewer in
                omega (arith, start, words, end, past)
            | inr none ↦ omega (arith, none)
          ]
      | inr all ↦ omega (arith, all, most)
    ]

-- ---- bytes that are seen as v, of which xs are stored

module _ (size : ℕ) (xs v : List ℕ) (view : with_zeros size xs ≡ v) (inside : length xs ≤ size) where
  -- a word of the n bytes from `at` on
  pub seen-part : (bytes : List ℕ) → bytes ≡ xs → (at n j : ℕ) → 8 * j + 8 ≤ n
      → spelled (drop (8 * j) (take n (drop at bytes))) ≡ spelled (drop (at + 8 * j) v)
  seen-part bytes is at n j within =
      ap (λ (ys : List ℕ). spelled (drop (8 * j) (take n (drop at ys)))) is
      ∙ word-inside xs at n j within
      ∙ seen-word size xs v view inside (at + 8 * j)

  -- a word behind the stored bytes
  pub seen-behind : (i : ℕ) → length xs ≤ i → spelled (drop i v) ≡ 0
  unfolding spelled
  seen-behind i behind = sym (seen-word size xs v view inside i) ∙ ap spelled (drop_all i xs behind)

-- what holds of m words from place i on, and of n words behind them
pub both_before : (low high : ℕ) (words : List ℕ) (i m n : ℕ)
    → ((j : ℕ) → j < m → is_between low high (get_or words (i + j) 0) ≡ false)
    → ((j : ℕ) → j < n → is_between low high (get_or words (i + m + j) 0) ≡ false)
    → (j : ℕ) → j < m + n → is_between low high (get_or words (i + j) 0) ≡ false
both_before low high words i m n first second j l =
    elim (cases_lt j m) [
      | inl earlier ↦ first j earlier
      | inr later ↦
          let place : i + j ≡ i + m + (j - m) = omega (arith, later) in
          ap (λ (k : ℕ). is_between low high (get_or words k 0)) place ∙ second (j - m) (omega (arith, l, later))
    ]
