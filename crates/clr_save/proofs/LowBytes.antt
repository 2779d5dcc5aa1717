-- The eight bytes of a word that are put, as a number. A heap's words are known by their bytes alone.
use Rattle.std.proofs.Common.{◌≡◌, ℕ, zero, suc, ◌+◌, ◌*◌, ◌/◌, ◌%◌, ◌^◌, ◌<◌, List, ◌∷◌, ◌++◌, refl, ap, ap₂}
use Rattle.std.proofs.Common.{sym, ◌∙◌, arith, pow-suc}
use Rattle.std.specs.Int.{bytes_low_first}
use Rattle.clr_mem.specs.Words.{byte_of}
use Rattle.clr_mem.proofs.Digits.{byte_of-suc, byte_of-zero}
use Rattle.clr_format.specs.Saved.{word_bytes, words_bytes}
use Rattle.clr_save.specs.SavedWords.{words_at}
use Rattle.clr_save.proofs.ObjectBytes.{same_byte}

-- the number of the n lowest bytes
low_bytes : ℕ → ℕ → ℕ
low_bytes zero w = 0
low_bytes (suc n) w = w % 256 + 256 * low_bytes n (w / 256)

low-fits : (n w : ℕ) → low_bytes n w < 256 ^ n
unfolding low_bytes
low-fits zero w = omega arith
low-fits (suc n) w =
    let ih = low-fits n (w / 256) in
    let power = pow-suc 256 n in
    omega (arith, ih, power)

low-same : (n w : ℕ) → w < 256 ^ n → low_bytes n w ≡ w
unfolding low_bytes
low-same zero w fits = omega arith
low-same (suc n) w fits =
    let power = pow-suc 256 n in
    let ih = low-same n (w / 256) (omega (arith, power, fits)) in
    omega (arith, ih)

low-byte : (n w k : ℕ) → k < n → byte_of (low_bytes n w) k ≡ byte_of w k
unfolding low_bytes
low-byte zero w k l = absurd (omega arith)
low-byte (suc n) w zero l =
    byte_of-zero (low_bytes (suc n) w)
    ∙ (let e : (w % 256 + 256 * low_bytes n (w / 256)) % 256 ≡ w % 256 = omega arith in e) ∙ sym (byte_of-zero w)
low-byte (suc n) w (suc k) l =
    let rest : (w % 256 + 256 * low_bytes n (w / 256)) / 256 ≡ low_bytes n (w / 256) = omega arith in
    byte_of-suc (low_bytes (suc n) w) k ∙ ap (λ x. byte_of x k) rest ∙ low-byte n (w / 256) k (omega arith)
    ∙ sym (byte_of-suc w k)

-- ---- words

-- a word as it is put
pub put_as : ℕ → ℕ
put_as w = low_bytes 8 w

pub put_as-fits : (w : ℕ) → put_as w < 2 ^ 64
unfolding put_as
put_as-fits w = low-fits 8 w

pub put_as-same : (w : ℕ) → w < 2 ^ 64 → put_as w ≡ w
unfolding put_as
put_as-same w fits = low-same 8 w fits

pub put_as-byte : (w k : ℕ) → k < 8 → byte_of (put_as w) k ≡ byte_of w k
unfolding put_as
put_as-byte w k l = low-byte 8 w k l

same-bytes : (v w j n : ℕ) → ((k : ℕ) → k < j + n → byte_of v k ≡ byte_of w k)
    → bytes_low_first j n v ≡ bytes_low_first j n w
same-bytes v w j zero same = refl
same-bytes v w j (suc n) same =
    ap₂ (λ (b : ℕ) (bs : List ℕ). b ∷ bs)
    (same_byte j v ∙ same j (omega arith) ∙ sym (same_byte j w))
    (same-bytes v w (suc j) n (λ k l. same k (omega arith)))

-- it has the same bytes
put_as-bytes : (w : ℕ) → word_bytes (put_as w) ≡ word_bytes w
unfolding word_bytes
put_as-bytes w = same-bytes (put_as w) w 0 8 (λ k l. put_as-byte w k (omega arith))

pub words_at-put : (word : ℕ → ℕ) (a n : ℕ)
    → words_bytes (words_at (λ b. put_as (word b)) a n) ≡ words_bytes (words_at word a n)
unfolding words_at
words_at-put word a zero = refl
words_at-put word a (suc n) =
    ap₂ (λ (bs cs : List ℕ). bs ++ cs) (put_as-bytes (word a)) (words_at-put word (a + 8) n)
