-- Words that are written over others, piece by piece.
use Rattle.std.proofs.Common.{◌≡◌, ℕ, ◌+◌, ◌-◌, ◌<◌, ◌≤◌, List, [], ◌∷◌, ◌++◌, length, get_or, take, drop, set}
use Rattle.std.proofs.Common.{refl, ap, ap₂, sym, ◌∙◌, arith, append_assoc, length-append, length-take-le}
use Rattle.std.proofs.Common.{length-drop, take-append-drop}
use Rattle.std.proofs.lemmas.List.{drop-drop, replicate-append-replicate, take_more, get_or-drop}
use Rattle.std.proofs.Math.Seq.{drop-append-add, take-add}
use Rattle.clr_mem.specs.Words.{overwrite, part, zeros}
use Rattle.clr_mem.proofs.Callers.{length-overwrite, length-part, length-zeros}
use Rattle.clr_mem.proofs.Padding.{overwrite_twice}
use Rattle.clr_mem.proofs.Spelling.{overwrite-one}

-- nothing is written at first
pub overwrite-none : (xs : List ℕ) (i : ℕ) (ys : List ℕ) → ys ≡ [] → xs ≡ overwrite xs i ys
overwrite-none xs i ys none =
    let at : i + 0 ≡ i = omega arith in
    sym (take-append-drop i xs)
    ∙ ap (λ (j : ℕ). take i xs ++ drop j xs) (sym at)
    ∙ ap (λ (zs : List ℕ). overwrite xs i zs) (sym none)

-- what is written right behind ys is written with it at once
pub overwrite-behind : (xs : List ℕ) (i : ℕ) (ys zs : List ℕ) → i + length ys + length zs ≤ length xs
    → overwrite (overwrite xs i ys) (i + length ys) zs ≡ overwrite xs i (ys ++ zs)
overwrite-behind xs i ys zs h =
    let k = length ys in
    let n = k + length zs in
    let qs : List ℕ = overwrite xs i ys in
    let last : n - k ≡ length zs = omega arith in
    ap (λ (j : ℕ). take (i + k) qs ++ (zs ++ drop (i + k + j) qs)) (sym last)
    ∙ overwrite_twice i k n xs ys zs qs refl (omega arith) (omega arith) refl
    ∙ ap (λ (j : ℕ). take i xs ++ ((ys ++ zs) ++ drop (i + j) xs)) (sym (length-append ys zs))

-- the words behind what is written
drop-overwrite : (xs : List ℕ) (i : ℕ) (ys : List ℕ) (j : ℕ) → i + length ys ≤ length xs → i + length ys ≤ j
    → drop j (overwrite xs i ys) ≡ drop j xs
drop-overwrite xs i ys j inside behind =
    let k = length ys in
    let d = j - (i + k) in
    let front : List ℕ = take i xs ++ ys in
    let low = length-take-le i xs (omega arith) in
    let long : length front ≡ i + k = length-append (take i xs) ys ∙ omega arith in
    let at : j ≡ length front + d = omega arith in
    let rest : i + k + d ≡ j = omega arith in
    ap₂ (λ (q : ℕ) (zs : List ℕ). drop q zs) at (sym (append_assoc (take i xs) ys (drop (i + k) xs)))
    ∙ drop-append-add front (drop (i + k) xs) d
    ∙ drop-drop d (i + k) xs
    ∙ ap (λ (q : ℕ). drop q xs) rest

pub part-overwrite : (xs : List ℕ) (i : ℕ) (ys : List ℕ) (j n : ℕ) → i + length ys ≤ length xs → i + length ys ≤ j
    → part (overwrite xs i ys) j n ≡ part xs j n
part-overwrite xs i ys j n inside behind = ap (take n) (drop-overwrite xs i ys j inside behind)

-- two stretches, one behind the other
pub part-add : (xs : List ℕ) (j m n : ℕ) → part xs j m ++ part xs (j + m) n ≡ part xs j (m + n)
part-add xs j m n = sym (take-add m n (drop j xs) ∙ ap (λ (ys : List ℕ). part xs j m ++ take n ys) (drop-drop m j xs))

pub part-next : (xs : List ℕ) (j m : ℕ) → j + m < length xs
    → part xs j m ++ get_or xs (j + m) 0 ∷ [] ≡ part xs j (m + 1)
part-next xs j m h =
    sym (take_more (drop j xs) m 0 (omega (arith, length-drop j xs))
    ∙ ap (λ (v : ℕ). part xs j m ++ v ∷ []) (get_or-drop j xs m 0))

pub zeros-add : (m n : ℕ) → zeros m ++ zeros n ≡ zeros (m + n)
unfolding zeros
zeros-add m n = replicate-append-replicate m n 0

-- ---- one step of a loop that writes over xs from place i on, of which the first words are written

-- words of xs itself, which lie further on
pub overwrite-part : (xs : List ℕ) (i j m n : ℕ) → i ≤ j → j + m + n ≤ length xs → (ys zs : List ℕ)
    → ys ≡ overwrite xs i (part xs j m) → zs ≡ overwrite ys (i + m) (part ys (j + m) n)
    → zs ≡ overwrite xs i (part xs j (m + n))
overwrite-part xs i j m n down inside ys zs before after =
    let size = length-part xs j m (omega arith) in
    let next = length-part xs (j + m) n (omega arith) in
    let same : part ys (j + m) n ≡ part xs (j + m) n =
    ap (λ (ws : List ℕ). part ws (j + m) n) before
    ∙ part-overwrite xs i (part xs j m) (j + m) n (omega arith) (omega arith) in
    after
    ∙ ap₂ (λ (us vs : List ℕ). overwrite us (i + m) vs) before same
    ∙ ap (λ (q : ℕ). overwrite (overwrite xs i (part xs j m)) (i + q) (part xs (j + m) n)) (sym size)
    ∙ overwrite-behind xs i (part xs j m) (part xs (j + m) n) (omega arith)
    ∙ ap (overwrite xs i) (part-add xs j m n)

pub overwrite-zeros : (xs : List ℕ) (i m n : ℕ) → i + m + n ≤ length xs → (ys zs : List ℕ)
    → ys ≡ overwrite xs i (zeros m) → zs ≡ overwrite ys (i + m) (zeros n) → zs ≡ overwrite xs i (zeros (m + n))
overwrite-zeros xs i m n inside ys zs before after =
    let size = length-zeros m in
    let next = length-zeros n in
    after
    ∙ ap (λ (us : List ℕ). overwrite us (i + m) (zeros n)) before
    ∙ ap (λ (q : ℕ). overwrite (overwrite xs i (zeros m)) (i + q) (zeros n)) (sym size)
    ∙ overwrite-behind xs i (zeros m) (zeros n) (omega arith)
    ∙ ap (overwrite xs i) (zeros-add m n)

-- one word of others
pub overwrite-word : (xs os : List ℕ) (i j m : ℕ) → i + m < length xs → j + m < length os
    → set (overwrite xs i (part os j m)) (i + m) (get_or os (j + m) 0) ≡ overwrite xs i (part os j (m + 1))
overwrite-word xs os i j m inside there =
    let size = length-part os j m (omega arith) in
    let before : List ℕ = overwrite xs i (part os j m) in
    let word = get_or os (j + m) 0 in
    let long = length-overwrite xs i (part os j m) (omega arith) in
    sym (overwrite-one before (i + m) word (omega arith))
    ∙ ap (λ (q : ℕ). overwrite before (i + q) (word ∷ [])) (sym size)
    ∙ overwrite-behind xs i (part os j m) (word ∷ []) (omega arith)
    ∙ ap (overwrite xs i) (part-next os j m there)
