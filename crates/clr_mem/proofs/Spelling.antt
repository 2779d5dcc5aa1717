-- The words of joined, cut and overwritten bytes.
use Rattle.std.proofs.Common.{◌≡◌, ℕ, zero, suc, ◌+◌, ◌-◌, ◌*◌, ◌/◌, ◌^◌, ◌<◌, ◌≤◌, List, [], ◌∷◌, ◌++◌, length, get_or}
use Rattle.std.proofs.Common.{take, drop, set, replicate, refl, ◌≢◌, ◌⊎◌, inl, inr, mul_assoc, ap, ap₂, sym, ◌∙◌, arith}
use Rattle.std.proofs.Common.{length-drop, append-nil, zero-add, suc-add, add-zero, pow-suc, drop-set-lt}
use Rattle.std.proofs.Common.{length-take-le, take-append-drop, get_or-drop}
use Rattle.std.proofs.lemmas.List.{drop-append-le, drop-drop, nil_from_length, set_split, drop-set-add, get_or-set_same}
use Rattle.std.proofs.lemmas.List.{get_or-set_other, drop-replicate, get_or-replicate}
use Rattle.byteorder.specs.Endian.{little_from}
use Rattle.byteorder.specs.Numbers.{little_from-append, little_from-take, little_number-reads_back}
use Rattle.byteorder.specs.Numbers.{length-bytes_low_first}
use Rattle.std.specs.Int.{bytes_low_first}
use Rattle.clr_mem.proofs.Digits.{byte_of-suc, byte_of-zero}
use Rattle.clr_mem.specs.Words.{spelled, words_of, overwrite, part, byte_of, with_byte}

pub length-words_of : (n : ℕ) (xs : List ℕ) → length (words_of n xs) ≡ n
unfolding words_of
length-words_of zero xs = refl
length-words_of (suc n) xs = let e = length-words_of n (drop 8 xs) in omega (arith, e)

-- a word reads its own eight bytes
pub spelled-append : (xs ys : List ℕ) → 8 ≤ length xs → spelled (xs ++ ys) ≡ spelled xs
unfolding spelled
spelled-append xs ys h = little_from-append 8 xs ys h

pub spelled-take : (n : ℕ) (xs : List ℕ) → 8 ≤ n → spelled (take n xs) ≡ spelled xs
unfolding spelled
spelled-take n xs h = little_from-take 0 8 n xs h

-- word i of the words
pub get_or-words_of : (n i : ℕ) (xs : List ℕ) → i < n → get_or (words_of n xs) i 0 ≡ spelled (drop (8 * i) xs)
unfolding words_of
get_or-words_of zero i xs h = absurd (omega arith)
get_or-words_of (suc n) zero xs h = refl
get_or-words_of (suc n) (suc i) xs h =
    let ih = get_or-words_of n i (drop 8 xs) (omega arith) in
    ih ∙ ap spelled (drop-drop (8 * i) 8 xs ∙ ap (λ (j : ℕ). drop j xs) (omega arith))

-- bytes that are joined spell words that are joined
pub words_of-append : (m k : ℕ) (xs ys : List ℕ) → length xs ≡ 8 * m
    → words_of (m + k) (xs ++ ys) ≡ words_of m xs ++ words_of k ys
unfolding words_of
words_of-append zero k xs ys e = let nil : xs ≡ [] = nil_from_length xs (omega arith) in rw (nil, zero-add k) refl
words_of-append (suc m) k xs ys e =
    let first = spelled-append xs ys (omega arith) in
    let cut = drop-append-le 8 xs ys (omega arith) in
    let rest = words_of-append m k (drop 8 xs) ys (omega (arith, length-drop 8 xs)) in
    rw (suc-add m k, first, cut, rest) refl

pub take-words_of : (k n : ℕ) (xs : List ℕ) → k ≤ n → take k (words_of n xs) ≡ words_of k xs
unfolding words_of
take-words_of zero n xs h = refl
take-words_of (suc k) zero xs h = absurd (omega arith)
take-words_of (suc k) (suc n) xs h = ap (λ (ws : List ℕ). spelled xs ∷ ws) (take-words_of k n (drop 8 xs) (omega arith))

pub drop-words_of : (j n : ℕ) (xs : List ℕ) → j ≤ n → drop j (words_of n xs) ≡ words_of (n - j) (drop (8 * j) xs)
unfolding words_of
drop-words_of zero n xs h = let e : n ≡ n - 0 = omega arith in ap (λ (m : ℕ). words_of m xs) e
drop-words_of (suc j) zero xs h = absurd (omega arith)
drop-words_of (suc j) (suc n) xs h =
    drop-words_of j n (drop 8 xs) (omega arith)
    ∙ ap₂ (λ (m : ℕ) (ys : List ℕ). words_of m ys) (omega arith)
    (drop-drop (8 * j) 8 xs ∙ ap (λ (i : ℕ). drop i xs) (omega arith))

-- the words of the first bytes
pub words_of-take : (k : ℕ) (xs : List ℕ) → 8 * k ≤ length xs → words_of k (take (8 * k) xs) ≡ words_of k xs
unfolding words_of
words_of-take k xs h =
    let joined = words_of-append k 0 (take (8 * k) xs) (drop (8 * k) xs) (length-take-le (8 * k) xs h) in
    sym (append-nil (words_of k (take (8 * k) xs))) ∙ sym joined
    ∙ ap₂ (λ (m : ℕ) (ys : List ℕ). words_of m ys) (add-zero k) (take-append-drop (8 * k) xs)

-- the words of a part of the bytes
pub words_of-part : (k j n : ℕ) (xs : List ℕ) → j + k ≤ n → length xs ≡ 8 * n
    → words_of k (take (8 * k) (drop (8 * j) xs)) ≡ part (words_of n xs) j k
words_of-part k j n xs h e =
    words_of-take k (drop (8 * j) xs) (omega (arith, length-drop (8 * j) xs))
    ∙ sym (take-words_of k (n - j) (drop (8 * j) xs) (omega arith))
    ∙ ap (take k) (sym (drop-words_of j n xs (omega arith)))

-- words written over others
pub words_of-overwrite : (n i k : ℕ) (xs ys : List ℕ) → length xs ≡ 8 * n → length ys ≡ 8 * k → i + k ≤ n
    → words_of n (take (8 * i) xs ++ (ys ++ drop (8 * i + 8 * k) xs)) ≡ overwrite (words_of n xs) i (words_of k ys)
words_of-overwrite n i k xs ys ex ey h =
    let front = length-take-le (8 * i) xs (omega arith) in
    let outer = words_of-append i (n - i) (take (8 * i) xs) (ys ++ drop (8 * i + 8 * k) xs) front in
    let inner = words_of-append k (n - i - k) ys (drop (8 * i + 8 * k) xs) ey in
    let size : i + (n - i) ≡ n = omega arith in
    let inner_size : k + (n - i - k) ≡ n - i = omega arith in
    let at : 8 * (i + k) ≡ 8 * i + 8 * k = omega arith in
    let left : n - (i + k) ≡ n - i - k = omega arith in
    let tail : drop (i + k) (words_of n xs) ≡ words_of (n - i - k) (drop (8 * i + 8 * k) xs) =
    drop-words_of (i + k) n xs (omega arith) ∙ ap₂ (λ (m j : ℕ). words_of m (drop j xs)) left at in
    ap (λ (m : ℕ). words_of m (take (8 * i) xs ++ (ys ++ drop (8 * i + 8 * k) xs))) (sym size)
    ∙ outer
    ∙ ap₂ (λ (us vs : List ℕ). us ++ vs)
    (words_of-take i xs (omega arith) ∙ sym (take-words_of i n xs (omega arith)))
    (ap (λ (m : ℕ). words_of m (ys ++ drop (8 * i + 8 * k) xs)) (sym inner_size) ∙ inner
    ∙ ap (λ (vs : List ℕ). words_of k ys ++ vs)
    (sym tail ∙ ap (λ (m : ℕ). drop (i + m) (words_of n xs)) (sym (length-words_of k ys))))

-- one word written
pub overwrite-one : (ws : List ℕ) (i v : ℕ) → i < length ws → overwrite ws i (v ∷ []) ≡ set ws i v
overwrite-one ws i v h =
    let at : i + 1 ≡ suc i = omega arith in ap (λ (j : ℕ). take i ws ++ v ∷ drop j ws) at ∙ sym (set_split ws i v h)

-- a word is told by what stands at each place
pub spelled-same : (xs ys : List ℕ) → ((i : ℕ) → get_or xs i 0 ≡ get_or ys i 0) → spelled xs ≡ spelled ys
unfolding spelled
spelled-same xs ys e = rw (e 0, e 1, e 2, e 3, e 4, e 5, e 6, e 7) refl

-- zeros spell zeros
spelled-zeros : (n : ℕ) → 8 ≤ n → spelled (replicate n 0) ≡ 0
unfolding spelled
spelled-zeros n h =
    let z : (i : ℕ) → i < 8 → get_or (replicate n 0) i 0 ≡ 0 =
    λ i l. get_or-replicate {A = ℕ} n i 0 0 (omega arith) in
    rw (z 0 (omega arith), z 1 (omega arith), z 2 (omega arith), z 3 (omega arith))
    (rw (z 4 (omega arith), z 5 (omega arith), z 6 (omega arith), z 7 (omega arith)) refl)

pub words_of-zeros : (n : ℕ) → words_of n (replicate (8 * n) 0) ≡ replicate n 0
unfolding words_of
words_of-zeros zero = refl
words_of-zeros (suc n) =
    let first = spelled-zeros (8 * suc n) (omega arith) in
    let rest = drop-replicate {X = ℕ} 8 (8 * suc n) 0 in
    let count : 8 * suc n - 8 ≡ 8 * n = omega arith in
    let ih = words_of-zeros n in
    rw (first, rest, count, ih) refl

-- the eight bytes of a number spell it
pub spelled-bytes : (v : ℕ) (rest : List ℕ) → v < 2 ^ 64 → spelled (bytes_low_first 0 8 v ++ rest) ≡ v
unfolding spelled
spelled-bytes v rest h = little_number-reads_back 8 v rest h

pub words_of-bytes : (v : ℕ) (bytes : List ℕ) → v < 2 ^ 64 → bytes ≡ bytes_low_first 0 8 v → words_of 1 bytes ≡ v ∷ []
unfolding words_of
words_of-bytes v bytes h e =
    ap (λ (w : ℕ). w ∷ []) (ap spelled (e ∙ sym (append-nil (bytes_low_first 0 8 v))) ∙ spelled-bytes v [] h)

-- ---- single bytes

-- byte k of what m bytes spell
digit : (k m j : ℕ) (xs : List ℕ) → ((i : ℕ) → get_or xs i 0 < 256) → k < m
    → byte_of (little_from j m xs) k ≡ get_or xs (j + k) 0
digit k zero j xs fits h = absurd (omega arith)
digit zero (suc m) j xs fits h =
    let small = fits j in
    byte_of-zero (get_or xs j 0 + 256 * little_from (suc j) m xs) ∙ rw (add-zero j) (omega arith)
digit (suc k) (suc m) j xs fits h =
    let small = fits j in
    let whole = get_or xs j 0 + 256 * little_from (suc j) m xs in
    let rest : whole / 256 ≡ little_from (suc j) m xs = omega arith in
    byte_of-suc whole k
    ∙ ap (λ (w : ℕ). byte_of w k) rest
    ∙ digit k m (suc j) xs fits (omega arith)
    ∙ ap (λ (i : ℕ). get_or xs i 0) (omega arith)

pub byte_of-spelled : (k : ℕ) (xs : List ℕ) → ((i : ℕ) → get_or xs i 0 < 256) → k < 8
    → byte_of (spelled xs) k ≡ get_or xs k 0
unfolding spelled
byte_of-spelled k xs fits h = digit k 8 0 xs fits h ∙ ap (λ (i : ℕ). get_or xs i 0) (zero-add k)

-- a byte below or above the ones that are read doesn't matter
little_from-set_outside : (m j i v : ℕ) (xs : List ℕ) → (i < j) ⊎ (j + m ≤ i)
    → little_from j m (set xs i v) ≡ little_from j m xs
little_from-set_outside zero j i v xs h = refl
little_from-set_outside (suc m) j i v xs h =
    let apart : j ≢ i = λ e. elim h [ inl l ↦ omega arith | inr l ↦ omega arith ] in
    let further : (i < suc j) ⊎ (suc j + m ≤ i) = elim h [ inl l ↦ inl (omega arith) | inr l ↦ inr (omega arith) ] in
    let ih = little_from-set_outside m (suc j) i v xs further in
    rw (get_or-set_other xs i j v 0 apart, ih) refl

little_from-set : (k m j v : ℕ) (xs : List ℕ) → k < m → j + k < length xs
    → little_from j m (set xs (j + k) v) + get_or xs (j + k) 0 * 256 ^ k ≡ little_from j m xs + v * 256 ^ k
little_from-set zero zero j v xs h l = absurd (omega arith)
little_from-set (suc k) zero j v xs h l = absurd (omega arith)
little_from-set zero (suc m) j v xs h l =
    let rest = little_from-set_outside m (suc j) j v xs (inl (omega arith)) in
    let here = get_or-set_same xs j v 0 (omega arith) in
    rw (add-zero j, here, rest) (omega arith)
little_from-set (suc k) (suc m) j v xs h l =
    let at : j + suc k ≡ suc j + k = omega arith in
    let ih = little_from-set k m (suc j) v xs (omega arith) (omega arith) in
    let apart : j ≢ suc j + k = λ e. omega arith in
    let here = get_or-set_other xs (suc j + k) j v 0 apart in
    let power = pow-suc 256 k in
    rw (at, here, power)
    (omega (arith, ih, mul_assoc (get_or xs (suc j + k) 0) (256 ^ k) 256, mul_assoc v (256 ^ k) 256))

spelled-set_sum : (k v : ℕ) (xs : List ℕ) → k < 8 → 8 ≤ length xs
    → spelled (set xs k v) + get_or xs k 0 * 256 ^ k ≡ spelled xs + v * 256 ^ k
unfolding spelled
spelled-set_sum k v xs h l =
    let e = little_from-set k 8 0 v xs h (omega arith) in
    let z = zero-add k in
    rw z at e

-- a byte past the first eight
spelled-set_past : (i v : ℕ) (xs : List ℕ) → spelled (set xs (8 + i) v) ≡ spelled xs
unfolding spelled
spelled-set_past i v xs = little_from-set_outside 8 0 (8 + i) v xs (inr (omega arith))

moved_over : (a b c d : ℕ) → a + b ≡ c + d → a ≡ c + d - b
moved_over a b c d e = omega arith

-- a byte written into a word
pub spelled-set : (k v : ℕ) (xs : List ℕ) → ((i : ℕ) → get_or xs i 0 < 256) → k < 8 → 8 ≤ length xs
    → spelled (set xs k v) ≡ with_byte (spelled xs) k v
spelled-set k v xs fits h l =
    let e = spelled-set_sum k v xs h l in
    let d = byte_of-spelled k xs fits h in
    moved_over _ _ _ _ e ∙ ap (λ (b : ℕ). spelled xs + v * 256 ^ k - b * 256 ^ k) (sym d)

-- a byte written into one of the words
pub words_of-set : (n i k v : ℕ) (xs : List ℕ) → ((j : ℕ) → get_or xs j 0 < 256) → k < 8 → i < n → length xs ≡ 8 * n
    → words_of n (set xs (8 * i + k) v) ≡ set (words_of n xs) i (with_byte (get_or (words_of n xs) i 0) k v)
unfolding words_of
words_of-set zero i k v xs fits h l e = absurd (omega arith)
words_of-set (suc n) zero k v xs fits h l e =
    let at : 8 * zero + k ≡ k = omega arith in
    let first = spelled-set k v xs fits h (omega arith) in
    let rest = drop-set-lt 8 xs k v h in
    rw (at, first, rest) refl
words_of-set (suc n) (suc i) k v xs fits h l e =
    let at : 8 * suc i + k ≡ 8 + (8 * i + k) = omega arith in
    let first = spelled-set_past (8 * i + k) v xs in
    let rest = drop-set-add 8 xs (8 * i + k) v in
    let fits_rest : (j : ℕ) → get_or (drop 8 xs) j 0 < 256 = λ j. rw (get_or-drop 8 xs j 0) (fits (8 + j)) in
    let ih = words_of-set n i k v (drop 8 xs) fits_rest h (omega arith) (omega (arith, length-drop 8 xs)) in
    rw (at, first, rest, ih) refl

pub length-bytes : (v : ℕ) → length (bytes_low_first 0 8 v) ≡ 8
length-bytes v = length-bytes_low_first 0 8 v
