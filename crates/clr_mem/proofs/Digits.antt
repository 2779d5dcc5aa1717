-- The bytes of a number, before and after one of them is replaced.
use Rattle.std.proofs.Common.{◌≡◌, ◌≢◌, ℕ, zero, suc, ◌+◌, ◌-◌, ◌*◌, ◌/◌, ◌%◌, ◌^◌, ◌<◌, ◌≤◌, ap, ap₂, sym, ◌∙◌}
use Rattle.std.proofs.Common.{arith, div-one, mul_assoc, pow-suc, refl}
use Rattle.std.proofs.Math.Nat.{div-div-eq-div-mul, mul_comm}
use Rattle.std.proofs.lemmas.Nat.{pow-add}
use Rattle.clr_mem.specs.Words.{byte_of, with_byte}

-- byte k + 1 is byte k of what is left without the lowest byte
pub byte_of-suc : (w k : ℕ) → byte_of w (suc k) ≡ byte_of (w / 256) k
byte_of-suc w k =
    ap (λ (q : ℕ). q % 256)
    (ap (λ (p : ℕ). w / p) (pow-suc 256 k ∙ mul_comm (256 ^ k) 256) ∙ sym (div-div-eq-div-mul w 256 (256 ^ k)))

pub byte_of-zero : (w : ℕ) → byte_of w 0 ≡ w % 256
byte_of-zero w = ap (λ (q : ℕ). q % 256) (div-one w)

pub byte_of-lt : (w k : ℕ) → byte_of w k < 256
byte_of-lt w k = omega arith

pub byte_of-zero_word : (k : ℕ) → byte_of 0 k ≡ 0
byte_of-zero_word zero = byte_of-zero 0
byte_of-zero_word (suc k) = byte_of-suc 0 k ∙ byte_of-zero_word k

-- a byte is worth no more than its number
byte_of-le : (w k : ℕ) → byte_of w k * 256 ^ k ≤ w
byte_of-le w zero = let e = byte_of-zero w in rw e (omega arith)
byte_of-le w (suc k) =
    let ih = byte_of-le (w / 256) k in
    let power = pow-suc 256 k in
    rw (byte_of-suc w k, power) (omega (arith, mul_assoc (byte_of (w / 256) k) (256 ^ k) 256))

-- replacing byte k + 1 leaves the lowest byte, and replaces byte k of the rest
pub with_byte-suc : (w k v : ℕ) → with_byte w (suc k) v ≡ w % 256 + 256 * with_byte (w / 256) k v
with_byte-suc w k v =
    let worth = byte_of-le (w / 256) k in
    let power = pow-suc 256 k in
    rw (byte_of-suc w k, power)
    (omega (arith, mul_assoc (byte_of (w / 256) k) (256 ^ k) 256, mul_assoc v (256 ^ k) 256))

pub with_byte-zero : (w v : ℕ) → with_byte w 0 v ≡ w + v - w % 256
with_byte-zero w v = let e = byte_of-zero w in rw e (omega arith)

pub byte_of-with_byte_same : (w k v : ℕ) → v < 256 → byte_of (with_byte w k v) k ≡ v
byte_of-with_byte_same w zero v h =
    ap (λ (x : ℕ). byte_of x 0) (with_byte-zero w v) ∙ byte_of-zero (w + v - w % 256) ∙ omega arith
byte_of-with_byte_same w (suc k) v h =
    let step = with_byte-suc w k v in
    let rest : with_byte w (suc k) v / 256 ≡ with_byte (w / 256) k v = omega arith in
    byte_of-suc (with_byte w (suc k) v) k
    ∙ ap (λ (x : ℕ). byte_of x k) rest
    ∙ byte_of-with_byte_same (w / 256) k v h

pub byte_of-with_byte_other : (w k j v : ℕ) → v < 256 → j ≢ k → byte_of (with_byte w k v) j ≡ byte_of w j
byte_of-with_byte_other w zero zero v h apart = absurd (omega arith)
byte_of-with_byte_other w zero (suc j) v h apart =
    let low = with_byte-zero w v in
    let rest : with_byte w 0 v / 256 ≡ w / 256 = omega arith in
    byte_of-suc (with_byte w 0 v) j ∙ ap (λ (x : ℕ). byte_of x j) rest ∙ sym (byte_of-suc w j)
byte_of-with_byte_other w (suc k) zero v h apart =
    let step = with_byte-suc w k v in
    byte_of-zero (with_byte w (suc k) v) ∙ omega arith ∙ sym (byte_of-zero w)
byte_of-with_byte_other w (suc k) (suc j) v h apart =
    let step = with_byte-suc w k v in
    let rest : with_byte w (suc k) v / 256 ≡ with_byte (w / 256) k v = omega arith in
    let further : j ≢ k = λ e. apart (ap suc e) in
    byte_of-suc (with_byte w (suc k) v) j
    ∙ ap (λ (x : ℕ). byte_of x j) rest
    ∙ byte_of-with_byte_other (w / 256) k j v h further
    ∙ sym (byte_of-suc w j)

-- ---- shifts by whole bytes

pub shift-power : (k : ℕ) → 2 ^ (8 * k) ≡ 256 ^ k
shift-power zero = refl
shift-power (suc k) =
    let at : 8 * suc k ≡ 8 * k + 8 = omega arith in
    ap (λ (j : ℕ). 2 ^ j) at
    ∙ pow-add 2 (8 * k) 8
    ∙ ap (λ (p : ℕ). p * 256) (shift-power k)
    ∙ sym (pow-suc 256 k)

-- a number of n bytes stays one
with_byte-lt : (n w k v : ℕ) → w < 256 ^ n → v < 256 → k < n → with_byte w k v < 256 ^ n
with_byte-lt zero w k v fits small h = absurd (omega arith)
with_byte-lt (suc n) w zero v fits small h =
    let power = pow-suc 256 n in let e = with_byte-zero w v in omega (arith, power, fits, small, e)
with_byte-lt (suc n) w (suc k) v fits small h =
    let power = pow-suc 256 n in
    let step = with_byte-suc w k v in
    let rest = with_byte-lt n (w / 256) k v (omega (arith, power, fits)) small (omega arith) in
    omega (arith, power, step, rest)

module _ (w k v b : ℕ) (fits : w < 2 ^ 64) (small : v < 256) (h : k < 8) (is : b ≡ byte_of w k) where
  -- what the old byte and the new one are worth
  old_worth : b * 2 ^ (8 * k) % 2 ^ 64 ≡ byte_of w k * 256 ^ k
  old_worth =
      let most = byte_of-le w k in
      ap₂ (λ (x p : ℕ). x * p % 2 ^ 64) is (shift-power k) ∙ omega (arith, most, fits)

  new_worth : v * 2 ^ (8 * k) % 2 ^ 64 ≡ v * 256 ^ k
  new_worth =
      let none = ap (λ (x : ℕ). x * 256 ^ k) (byte_of-zero_word k) in
      let most : with_byte 0 k v < 256 ^ 8 = with_byte-lt 8 0 k v (omega arith) small h in
      ap (λ (p : ℕ). v * p % 2 ^ 64) (shift-power k) ∙ omega (arith, none, most)

  pub byte-below : b * 2 ^ (8 * k) % 2 ^ 64 ≤ w
  byte-below = let old = old_worth in let most = byte_of-le w k in omega (arith, old, most)

  pub byte-replaced : w - b * 2 ^ (8 * k) % 2 ^ 64 + v * 2 ^ (8 * k) % 2 ^ 64 ≡ with_byte w k v
  byte-replaced =
      let old = old_worth in
      let new = new_worth in
      let most = byte_of-le w k in
      omega (arith, old, new, most)

  pub byte-fits : w - b * 2 ^ (8 * k) % 2 ^ 64 + v * 2 ^ (8 * k) % 2 ^ 64 < 2 ^ 64
  byte-fits =
      let all = byte-replaced in
      let most : with_byte w k v < 256 ^ 8 = with_byte-lt 8 w k v fits small h in
      omega (arith, all, most)
