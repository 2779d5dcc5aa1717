-- A list of offsets with one that a word tells, where it tells one, put behind the first ones.
use Rattle.std.proofs.Common.{◌≡◌, ℕ, zero, suc, ◌+◌, ◌%◌, ◌<◌, ◌≤◌, List, [], ◌∷◌, ◌++◌, length, min, take, set}
use Rattle.std.proofs.Common.{refl, ap, sym, ◌∙◌, arith}
use Rattle.std.proofs.Math.Seq.{take-suc-set}
use Rattle.std.proofs.lemmas.List.{append-nil}
use Rattle.clr_plugs.specs.Forests.{told_offsets}

-- the offset that is written, which counts only where one is told
abbrev pub written : ℕ → ℕ → ℕ
written low told = (low + told + 18446744073709551615) % 18446744073709551616 % 65536

front_kept : (xs : List ℕ) (n v : ℕ) → take n (set xs n v) ≡ take n xs
front_kept [] zero v = refl
front_kept [] (suc n) v = refl
front_kept (x ∷ xs) zero v = refl
front_kept (x ∷ xs) (suc n) v = ap (λ (ys : List ℕ). x ∷ ys) (front_kept xs n v)

pub put_told : (into : List ℕ) (count low told more : ℕ) → count < length into → low + told ≤ 65536
    → more ≡ min told 1
    → take (count + more) (set into count (written low told)) ≡ take count into ++ told_offsets low told
put_told into count low zero more inside fits is =
    let none : count + more ≡ count = omega (arith, is) in
    ap (λ (m : ℕ). take m (set into count (written low zero))) none
    ∙ front_kept into count (written low zero)
    ∙ sym (append-nil (take count into))
put_told into count low (suc n) more inside fits is =
    let one : count + more ≡ suc count = omega (arith, is) in
    let same : written low (suc n) ≡ low + n = omega (arith, fits) in
    ap (λ (m : ℕ). take m (set into count (written low (suc n)))) one
    ∙ take-suc-set into count (written low (suc n)) inside
    ∙ ap (λ (o : ℕ). take count into ++ o ∷ []) same

pub count_told : (count low told more : ℕ) → more ≡ min told 1
    → count + more ≡ count + length (told_offsets low told)
count_told count low zero more is =
    let none : length (told_offsets low zero) ≡ 0 = refl in omega (arith, is, none)
count_told count low (suc n) more is =
    let one : length (told_offsets low (suc n)) ≡ 1 = refl in omega (arith, is, one)
