-- What the bytes of a `Mem` say about its words: one lemma for each method, over plain lists.
use Rattle.std.proofs.Common.{◌≡◌, ℕ, ◌+◌, ◌-◌, ◌*◌, ◌/◌, ◌%◌, ◌<◌, ◌≤◌, ◌^◌, List, ◌++◌, length, get_or, take, drop}
use Rattle.std.proofs.Common.{replicate, set, ap, ap₂, sym, refl, ◌∙◌, arith, length-append, length-drop, length-set}
use Rattle.std.proofs.Common.{length-take-le, get_or-drop, Option, None, Some, inl, inr, subst, false}
use Rattle.std.proofs.lemmas.Bool.{both_ways, cases_lt}
use Rattle.std.proofs.lemmas.List.{drop_all, get_or_past, length-replicate}
use Rattle.std.specs.Int.{bytes_low_first}
use Rattle.std.specs.Global.{Box}
use Rattle.std.specs.Option.{is_some}
use Rattle.clr_mem.specs.Sparse.{IsMemory, IsStoredAt, words_in}
use Rattle.clr_mem.specs.Words.{Memory, end_of, spelled, words_of, overwrite, part, byte_of, with_byte, word_at}
use Rattle.clr_mem.specs.Words.{zeros}
use Rattle.clr_mem.proofs.Spelling.{length-words_of, get_or-words_of, length-bytes, overwrite-one, words_of-bytes}
use Rattle.clr_mem.proofs.Spelling.{words_of-overwrite, words_of-part, words_of-set, words_of-zeros, byte_of-spelled}

-- the words of all the bytes
abbrev pub all_words : List ℕ → List ℕ
all_words bytes = words_of (length bytes / 8) bytes

abbrev pub memory : ℕ → List ℕ → Memory
memory base words = record { base = base; words = words }

-- ---- a memory that is seen as v

pub record Bounds (base : ℕ) (bytes : List ℕ) (v : Memory) : Type 0 where
  pub first : v.base ≡ base
  pub aligned : base % 8 ≡ 0
  pub fits : end_of v < 2 ^ 64
  pub stored : length bytes ≤ 8 * length v.words

pub bounds : (base : ℕ) (bytes : List ℕ) (far : Option (Box (List ℕ))) (v : Memory)
    → memory base (words_in bytes far) ≡ v → IsStoredAt base bytes far → Bounds base bytes v
bounds base bytes None v e placed =
    let aligned = placed.aligned in
    let whole = placed.whole in
    let fits = placed.fits in
    let first = sym (ap (λ (m : Memory). m.base) e) in
    let last = sym (ap end_of e) in
    let count = length-words_of (length bytes / 8) bytes in
    record { first = first; aligned = aligned; fits = omega arith; stored = omega arith }
bounds base bytes (Some pages) v e placed =
    let aligned = placed.0.aligned in
    let fits = placed.0.fits in
    let none = placed.1 in
    let first = sym (ap (λ (m : Memory). m.base) e) in
    let last = sym (ap end_of e) in
    record { first = first; aligned = aligned; fits = omega arith; stored = omega arith }

-- its bytes, as they are counted beside
pub counts : (base len : ℕ) (bytes : List ℕ) (far : Option (Box (List ℕ))) (v : Memory)
    → memory base (words_in bytes far) ≡ v → IsMemory base len bytes far → len ≡ 8 * length v.words
counts base len bytes None v e m =
    let whole = m.stored.whole in
    let counted = m.counted in
    let count = length-words_of (length bytes / 8) bytes in
    let same = ap (λ (w : Memory). length w.words) e in
    omega arith
counts base len bytes (Some pages) v e m =
    m.counted ∙ ap (λ (w : Memory). 8 * length w.words) e

-- whether no pages are there
HasNone : Option (Box (List ℕ)) → Type 0
HasNone None = Unit {0}
HasNone (Some pages) = ⊥

not_none : (pages : Box (List ℕ)) → Some pages ≡ None → ⊥
unfolding HasNone
not_none pages is = subst HasNone (sym is) tt

pub not_some : (far : Option (Box (List ℕ))) → is_some far ≡ false → far ≡ None
not_some None lacks = refl
not_some (Some pages) lacks = absurd (both_ways (is_some (Some pages)) lacks refl)

-- its words are those that its bytes spell
pub record Plain (bytes words : List ℕ) : Type 0 where
  pub words_are : all_words bytes ≡ words
  pub whole : length bytes % 8 ≡ 0
  pub size : 8 * length words ≡ length bytes

pub plain : (base : ℕ) (bytes : List ℕ) (far : Option (Box (List ℕ))) (v : Memory) → far ≡ None
    → memory base (words_in bytes far) ≡ v → IsStoredAt base bytes far → Plain bytes v.words
plain base bytes None v is e placed =
    let whole = placed.whole in
    let words_are = ap (λ (m : Memory). m.words) e in
    let count = length-words_of (length bytes / 8) bytes in
    let same = ap length words_are in
    record { words_are = words_are; whole = whole; size = omega arith }
plain base bytes (Some pages) v is e placed = absurd (not_none pages is)

-- they are, where a byte is stored
pub has_bytes : (base i : ℕ) (bytes : List ℕ) (far : Option (Box (List ℕ))) → i < length bytes
    → IsStoredAt base bytes far → far ≡ None
has_bytes base i bytes None within placed = refl
has_bytes base i bytes (Some pages) within placed = let none = placed.1 in absurd (omega arith)

-- what is seen after a write over the bytes
pub plain-after : (base : ℕ) (bytes : List ℕ) (far : Option (Box (List ℕ))) (v : Memory) → far ≡ None
    → memory base (words_in bytes far) ≡ v → (new words : List ℕ) → all_words new ≡ words
    → memory base (words_in new far) ≡ record v { words = words }
plain-after base bytes None v is e new words after =
    ap₂ memory (ap (λ (m : Memory). m.base) e) after
plain-after base bytes (Some pages) v is e new words after = absurd (not_none pages is)

-- they are those of the pages of a sparse one
pub paged : (base : ℕ) (bytes : List ℕ) (far : Option (Box (List ℕ))) (v : Memory) (pages : Box (List ℕ))
    → far ≡ Some pages → memory base (words_in bytes far) ≡ v → pages.value ≡ v.words
paged base bytes far v pages is e =
    ap (λ (f : Option (Box (List ℕ))). words_in bytes f) (sym is) ∙ ap (λ (m : Memory). m.words) e

-- zero bytes spell zero words
pub all_words-zero_bytes : (n : ℕ) → n % 8 ≡ 0 → all_words (zeros n) ≡ zeros (n / 8)
unfolding zeros
all_words-zero_bytes n whole =
    let at : n ≡ 8 * (n / 8) = omega arith in
    let size : length (replicate n 0) / 8 ≡ n / 8 = ap (λ (k : ℕ). k / 8) (length-replicate {A = ℕ} n 0) in
    ap₂ (λ (k j : ℕ). words_of k (replicate j 0)) size at ∙ words_of-zeros (n / 8)

-- ---- the words after a write from byte i on

module _ (i : ℕ) (bytes words : List ℕ) (p : Plain bytes words) where
  -- the word that is read, which is 0 behind the last one
  pub read_word : i % 8 ≡ 0 → spelled (drop i bytes) ≡ get_or words (i / 8) 0
  unfolding spelled
  read_word start =
      let at : i ≡ 8 * (i / 8) = omega arith in
      let whole = p.whole in
      let size = p.size in
      elim (cases_lt (i / 8) (length bytes / 8)) [
        | inl l ↦ ap (λ (j : ℕ). spelled (drop j bytes)) at
            ∙ sym (get_or-words_of (length bytes / 8) (i / 8) bytes l)
            ∙ ap (λ (ws : List ℕ). get_or ws (i / 8) 0) p.words_are
        | inr past ↦ ap spelled (drop_all i bytes (omega arith)) ∙ sym (get_or_past words (i / 8) 0 (omega arith))
      ]

  -- words written over others, from the bytes that are written
  write_words : (n : ℕ) (ys : List ℕ) → i % 8 ≡ 0 → n % 8 ≡ 0 → length ys ≡ n → i + n ≤ length bytes
      → (new : List ℕ) → new ≡ take i bytes ++ (ys ++ drop (i + n) bytes)
      → all_words new ≡ overwrite words (i / 8) (words_of (n / 8) ys)
  write_words n ys start multiple size below new is =
      let whole = p.whole in
      let at : i ≡ 8 * (i / 8) = omega arith in
      let past : i + n ≡ 8 * (i / 8) + 8 * (n / 8) = omega arith in
      let front = length-take-le i bytes (omega arith) in
      let joined = length-append (take i bytes) (ys ++ drop (i + n) bytes) in
      let rest = length-append ys (drop (i + n) bytes) in
      let left = length-drop (i + n) bytes in
      let same : length new ≡ length bytes = ap length is ∙ joined ∙ omega arith in
      let e =
      words_of-overwrite (length bytes / 8) (i / 8) (n / 8) bytes ys (omega arith) (omega arith) (omega arith) in
      ap₂ (λ (m : ℕ) (xs : List ℕ). words_of (m / 8) xs) same
      (is ∙ ap₂ (λ (j k : ℕ). take j bytes ++ (ys ++ drop k bytes)) at past)
      ∙ e
      ∙ ap (λ (ws : List ℕ). overwrite ws (i / 8) (words_of (n / 8) ys)) p.words_are

  -- one word, from its eight bytes
  pub write_word : (v : ℕ) → v < 2 ^ 64 → i % 8 ≡ 0 → i + 8 ≤ length bytes → (new : List ℕ)
      → new ≡ take i bytes ++ (bytes_low_first 0 8 v ++ drop (i + 8) bytes) → all_words new ≡ set words (i / 8) v
  write_word v fits start below new is =
      let size = p.size in
      write_words 8 (bytes_low_first 0 8 v) start refl (length-bytes v) below new is
      ∙ ap (overwrite words (i / 8)) (words_of-bytes v (bytes_low_first 0 8 v) fits refl)
      ∙ overwrite-one words (i / 8) v (omega arith)

  -- zeros
  pub write_zeros : (n : ℕ) → i % 8 ≡ 0 → n % 8 ≡ 0 → i + n ≤ length bytes → (new : List ℕ)
      → new ≡ take i bytes ++ (zeros n ++ drop (i + n) bytes) → all_words new ≡ overwrite words (i / 8) (zeros (n / 8))
  unfolding zeros
  write_zeros n start multiple below new is =
      let size = length-replicate {A = ℕ} n 0 in
      let same : words_of (n / 8) (replicate n 0) ≡ all_words (replicate n 0) =
      ap (λ (k : ℕ). words_of (k / 8) (replicate n 0)) (sym size) in
      write_words n (replicate n 0) start multiple size below new is
      ∙ ap (overwrite words (i / 8)) (same ∙ all_words-zero_bytes n multiple)

  -- bytes that were copied from byte j of others
  pub write_copy : (j n : ℕ) (source others : List ℕ) → Plain source others → j % 8 ≡ 0 → j + n ≤ length source
      → i % 8 ≡ 0 → n % 8 ≡ 0 → i + n ≤ length bytes → (new : List ℕ)
      → new ≡ take i bytes ++ (take n (drop j source) ++ drop (i + n) bytes)
      → all_words new ≡ overwrite words (i / 8) (part others (j / 8) (n / 8))
  write_copy j n source others from j8 high start multiple below new is =
      let there = from.whole in
      let at : j ≡ 8 * (j / 8) = omega arith in
      let count : n ≡ 8 * (n / 8) = omega arith in
      let taken = take n (drop j source) in
      let size : length taken ≡ n = length-take-le n (drop j source) (omega (arith, length-drop j source)) in
      write_words n taken start multiple size below new is
      ∙ ap (overwrite words (i / 8))
      (ap₂ (λ (k q : ℕ). words_of (n / 8) (take k (drop q source))) count at
      ∙ words_of-part (n / 8) (j / 8) (length source / 8) source (omega arith) (omega arith)
      ∙ ap (λ (ws : List ℕ). part ws (j / 8) (n / 8)) from.words_are)

  pub read_byte : ((j : ℕ) → get_or bytes j 0 < 256) → i < length bytes
      → get_or bytes i 0 ≡ byte_of (get_or words (i / 8) 0) (i % 8)
  read_byte fits below =
      let whole = p.whole in
      let first = 8 * (i / 8) in
      let at : first + i % 8 ≡ i = omega arith in
      let fits_rest : (j : ℕ) → get_or (drop first bytes) j 0 < 256 =
      λ j. rw (get_or-drop first bytes j 0) (fits (first + j)) in
      sym (ap (λ (ws : List ℕ). byte_of (get_or ws (i / 8) 0) (i % 8)) (sym p.words_are)
      ∙ ap (λ (w : ℕ). byte_of w (i % 8)) (get_or-words_of (length bytes / 8) (i / 8) bytes (omega arith))
      ∙ byte_of-spelled (i % 8) (drop first bytes) fits_rest (omega arith)
      ∙ get_or-drop first bytes (i % 8) 0
      ∙ ap (λ (j : ℕ). get_or bytes j 0) at)

  pub write_byte : (v : ℕ) → ((j : ℕ) → get_or bytes j 0 < 256) → i < length bytes → (new : List ℕ)
      → new ≡ set bytes i v → all_words new ≡ set words (i / 8) (with_byte (get_or words (i / 8) 0) (i % 8) v)
  write_byte v fits below new is =
      let whole = p.whole in
      let at : i ≡ 8 * (i / 8) + i % 8 = omega arith in
      let same = ap length is ∙ length-set bytes i v in
      ap₂ (λ (m : ℕ) (xs : List ℕ). words_of (m / 8) xs) same (is ∙ ap (λ (j : ℕ). set bytes j v) at)
      ∙ words_of-set (length bytes / 8) (i / 8) (i % 8) v bytes fits (omega arith) (omega arith) (omega arith)
      ∙ ap (λ (ws : List ℕ). set ws (i / 8) (with_byte (get_or ws (i / 8) 0) (i % 8) v)) p.words_are

-- the word at an address, read from its byte on
pub read_word_at : (base a : ℕ) (bytes : List ℕ) (v : Memory) → Plain bytes v.words → v.base ≡ base → base % 8 ≡ 0
    → v.base ≤ a → a % 8 ≡ 0 → (i : ℕ) → i ≡ a - base → spelled (drop i bytes) ≡ word_at v a
read_word_at base a bytes v p first aligned above start i is =
    let place : i / 8 ≡ (a - v.base) / 8 = omega (arith, first, is) in
    read_word i bytes v.words p (omega (arith, first, above, start, aligned, is))
    ∙ ap (λ (k : ℕ). get_or v.words k 0) place
