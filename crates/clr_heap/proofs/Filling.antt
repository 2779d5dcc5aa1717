-- One word more of a segment's memory.
use Rattle.std.proofs.Common.{◌≡◌, ℕ, zero, suc, ◌+◌, ◌-◌, ◌*◌, ◌/◌, ◌<◌, ◌≤◌, List, [], ◌∷◌, ◌++◌, length, drop, set}
use Rattle.std.proofs.Common.{refl, sym, ◌∙◌, ap, arith, append_assoc, replicate}
use Rattle.std.proofs.lemmas.List.{set-append_right, length-append, drop-drop}
use Rattle.std.proofs.Math.Seq.{set-append_seam}
use Rattle.clr_mem.specs.Words.{Holds, Memory, spelled, with_word, words_of, zeroed, zeros}
use Rattle.clr_mem.proofs.Callers.{length-zeros}
use Rattle.clr_mem.proofs.Spelling.{length-words_of}
use Rattle.clr_types.specs.Segments.{first_place, reserved_end}
use Rattle.clr_types.specs.declared.segment.SegInfo.{SegInfo}
use Rattle.clr_heap.specs.Filled.{filled, IsFillable, memory_from}
use Rattle.clr_heap.specs.Memories.{shape_of}

pub words_more : (i : ℕ) (bytes : List ℕ) → words_of (i + 1) bytes ≡ words_of i bytes ++ spelled (drop (8 * i) bytes)
    ∷ []
unfolding words_of
words_more zero bytes = refl
words_more (suc i) bytes =
    let e : suc i + 1 ≡ suc (i + 1) = omega arith in
    ap (λ (n : ℕ). words_of n bytes) e ∙ ap (λ (ws : List ℕ). spelled bytes ∷ ws) (words_more i (drop 8 bytes))
    ∙ ap (λ (rest : List ℕ). spelled bytes ∷ (words_of i (drop 8 bytes) ++ spelled rest ∷ []))
    (drop_both i bytes)
  where
    drop_both : (i : ℕ) (bytes : List ℕ) → drop (8 * i) (drop 8 bytes) ≡ drop (8 * suc i) bytes
    drop_both i bytes = drop-drop (8 * i) 8 bytes ∙ ap (λ (j : ℕ). drop j bytes) (omega arith)

zeros_first : (n k : ℕ) → n ≡ suc k → zeros n ≡ 0 ∷ zeros k
unfolding zeros
zeros_first n k e = ap (λ (m : ℕ). replicate m 0) e

none_first : (b : ℕ) → zeros 0 ++ zeros b ≡ zeros b
unfolding zeros
none_first b = refl

zeros_joined : (a b : ℕ) → zeros a ++ zeros b ≡ zeros (a + b)
zeros_joined zero b = let e : b ≡ 0 + b = omega arith in none_first b ∙ ap zeros e
zeros_joined (suc a) b =
    let e : suc a + b ≡ suc (a + b) = omega arith in
    ap (λ (xs : List ℕ). xs ++ zeros b) (zeros_first (suc a) a refl)
    ∙ ap (λ (xs : List ℕ). 0 ∷ xs) (zeros_joined a b) ∙ sym (zeros_first (suc a + b) (a + b) e)

one_word : (xs ws zs : List ℕ) (n i v : ℕ) → length xs ≡ n → length ws ≡ i
    → set (xs ++ (ws ++ 0 ∷ zs)) (n + i) v ≡ xs ++ ((ws ++ v ∷ []) ++ zs)
one_word xs ws zs n i v lx lw =
    let less : n + i - n ≡ i = omega arith in
    set-append_right xs (ws ++ 0 ∷ zs) n (n + i) v lx (omega arith)
    ∙ ap (λ (j : ℕ). xs ++ set (ws ++ 0 ∷ zs) j v) (less ∙ sym lw)
    ∙ ap (λ (ys : List ℕ). xs ++ ys) (set-append_seam ws 0 zs v ∙ sym (append_assoc ws (v ∷ []) zs))

module _ (s : SegInfo) (is : IsFillable s) (bytes : List ℕ) (o : ℕ) where
  pub filled_length : (i : ℕ) → i + 512 ≤ s.reserved / 8 → length (filled s bytes o i).words ≡ s.reserved / 8
  filled_length i l =
      let a = length-zeros 511 in
      let b = length-words_of i (drop o bytes) in
      let c = length-zeros (s.reserved / 8 - 511 - i) in
      length-append (zeros 511) (words_of i (drop o bytes) ++ zeros (s.reserved / 8 - 511 - i))
      ∙ ap (λ (n : ℕ). length (zeros 511) + n)
      (length-append (words_of i (drop o bytes)) (zeros (s.reserved / 8 - 511 - i)))
      ∙ (omega (arith, a, b, c))

  no_words : words_of 0 (drop o bytes) ≡ []
  unfolding words_of
  no_words = refl

  pub filled_start : 512 ≤ s.reserved / 8 → zeroed s.base s.reserved ≡ filled s bytes o 0
  filled_start l =
      let count : s.reserved / 8 ≡ 511 + (s.reserved / 8 - 511 - 0) = omega arith in
      ap (λ (ws : List ℕ). record { base = s.base; words = ws })
      (ap zeros count ∙ sym (zeros_joined 511 (s.reserved / 8 - 511 - 0))
      ∙ ap (λ (ws : List ℕ). zeros 511 ++ (ws ++ zeros (s.reserved / 8 - 511 - 0))) (sym no_words))

  pub filled_step : (i : ℕ) → i + 512 ≤ s.reserved / 8
      → with_word (filled s bytes o i) (s.base + 4088 + 8 * i) (spelled (drop (8 * i) (drop o bytes)))
      ≡ filled s bytes o (i + 1)
  filled_step i l =
      let left : s.reserved / 8 - 511 - i ≡ suc (s.reserved / 8 - 511 - (i + 1)) = omega arith in
      let at : (s.base + 4088 + 8 * i - s.base) / 8 ≡ 511 + i = omega arith in
      let ws = words_of i (drop o bytes) in
      let v : ℕ = spelled (drop (8 * i) (drop o bytes)) in
      let zs = zeros (s.reserved / 8 - 511 - (i + 1)) in
      ap (λ (words : List ℕ). record { base = s.base; words = words })
      (ap (λ (j : ℕ). set (zeros 511 ++ (ws ++ zeros (s.reserved / 8 - 511 - i))) j v) at
      ∙ ap (λ (rest : List ℕ). set (zeros 511 ++ (ws ++ rest)) (511 + i) v)
      (zeros_first (s.reserved / 8 - 511 - i) (s.reserved / 8 - 511 - (i + 1)) left)
      ∙ one_word (zeros 511) ws zs 511 i v (length-zeros 511) (length-words_of i (drop o bytes))
      ∙ ap (λ (front : List ℕ). zeros 511 ++ (front ++ zs)) (sym (words_more i (drop o bytes))))

  pub filled_end : filled s bytes o ((s.end - first_place s) / 8) ≡ memory_from bytes s o
  filled_end =
      let base = is.base in
      let reserved = is.reserved in
      let low = is.low in
      let high = is.high in
      let aligned = is.aligned in
      let left : s.reserved / 8 - 511 - (s.end - first_place s) / 8 ≡ (reserved_end s - s.end) / 8 + 1 = omega arith in
      ap (λ (n : ℕ). record {
        base = s.base;
        words = zeros 511 ++ (words_of ((s.end - first_place s) / 8) (drop o bytes) ++ zeros n);
      }) left

  -- it has the words of the whole reservation
  pub filled_shape : shape_of (memory_from bytes s o) ≡ (s.base, s.reserved)
  filled_shape =
      let base = is.base in
      let reserved = is.reserved in
      let low = is.low in
      let high = is.high in
      let aligned = is.aligned in
      let count : length (memory_from bytes s o).words ≡ s.reserved / 8 =
      ap (λ (m : Memory). length m.words) (sym filled_end)
      ∙ filled_length ((s.end - first_place s) / 8) (omega arith) in
      let size : 8 * length (memory_from bytes s o).words ≡ s.reserved = omega arith in
      ap (λ (n : ℕ). (s.base, n)) size

  -- a word of the memory that is filled lies in it
  pub filled_holds : (i : ℕ) → i < (s.end - first_place s) / 8
      → Holds (filled s bytes o i) (s.base + 4088 + 8 * i) 8 × (i + 512 ≤ s.reserved / 8)
  filled_holds i l =
      let base = is.base in
      let reserved = is.reserved in
      let low = is.low in
      let high = is.high in
      let aligned = is.aligned in
      let few : i + 512 ≤ s.reserved / 8 = omega arith in
      let len = filled_length i few in (
        record { above = omega arith; below = omega (arith, len); start = omega arith; whole = refl },
        few,
      )
