-- Bytes that are stored, and the zeros behind them.
use Rattle.std.proofs.Common.{◌≡◌, ℕ, zero, suc, ◌+◌, ◌-◌, ◌<◌, ◌≤◌, List, [], ◌++◌, length, get_or}
use Rattle.std.proofs.Common.{take, drop, set, replicate, refl, ap, ap₂, sym, ◌∙◌, arith, append_assoc}
use Rattle.std.proofs.Common.{length-append, length-drop, length-set, length-take-le, get_or-drop}
use Rattle.std.proofs.Common.{take-append-drop, inl, inr}
use Rattle.std.proofs.lemmas.Bool.{cases_lt}
use Rattle.std.proofs.lemmas.List.{drop-append-le, drop-drop, drop-replicate, get_or-append_right}
use Rattle.std.proofs.lemmas.List.{get_or-replicate, get_or_append_left, get_or_past, length-replicate}
use Rattle.std.proofs.lemmas.List.{replicate-append-replicate, set-append_left, take-append-le, take-replicate}
use Rattle.std.proofs.Math.Seq.{drop-append-add, take-add, take-append_seam}
use Rattle.clr_mem.specs.Stored.{with_zeros}
use Rattle.clr_mem.specs.Words.{spelled, zeros}
use Rattle.clr_mem.proofs.Spelling.{spelled-same}

-- what is written right behind xs is written with it at once
pub overwrite_twice : (i k n : ℕ) (ps xs ys qs : List ℕ) → length xs ≡ k → k ≤ n → i + n ≤ length ps
    → qs ≡ take i ps ++ (xs ++ drop (i + k) ps)
    → take (i + k) qs ++ (ys ++ drop (i + k + (n - k)) qs) ≡ take i ps ++ ((xs ++ ys) ++ drop (i + n) ps)
overwrite_twice i k n ps xs ys qs size more inside is =
    let low = length-take-le i ps (omega arith) in
    let front : List ℕ = take i ps ++ xs in
    let split : qs ≡ front ++ drop (i + k) ps = is ∙ sym (append_assoc (take i ps) xs (drop (i + k) ps)) in
    let long : length front ≡ i + k = length-append (take i ps) xs ∙ omega arith in
    let kept : take (i + k) qs ≡ front =
    ap₂ (λ (j : ℕ) (zs : List ℕ). take j zs) (sym long) split ∙ take-append_seam front (drop (i + k) ps) in
    let place : i + k + (n - k) ≡ length front + (n - k) = omega arith in
    let rest : drop (i + k + (n - k)) qs ≡ drop (i + n) ps =
    ap₂ (λ (j : ℕ) (zs : List ℕ). drop j zs) place split
    ∙ drop-append-add front (drop (i + k) ps) (n - k)
    ∙ drop-drop (n - k) (i + k) ps
    ∙ ap (λ (j : ℕ). drop j ps) (omega arith) in
    ap₂ (λ (us vs : List ℕ). us ++ (ys ++ vs)) kept rest
    ∙ append_assoc (take i ps) xs (ys ++ drop (i + n) ps)
    ∙ ap (λ (zs : List ℕ). take i ps ++ zs) (sym (append_assoc xs ys (drop (i + n) ps)))

get_or-zeros : (n i d : ℕ) → get_or (replicate n d) i d ≡ d
get_or-zeros n i d =
    elim (cases_lt i n) [
      | inl l ↦ get_or-replicate n i d d l
      | inr r ↦ get_or_past (replicate n d) i d (omega (arith, length-replicate n d))
    ]

more_zeros : (k m n : ℕ) (xs ys : List ℕ) → ys ≡ xs ++ replicate k 0 → k + m ≡ n
    → ys ++ replicate m 0 ≡ xs ++ replicate n 0
more_zeros k m n xs ys e sum =
    ap (λ (zs : List ℕ). zs ++ replicate m 0) e
    ∙ append_assoc xs (replicate k 0) (replicate m 0)
    ∙ ap (λ (zs : List ℕ). xs ++ zs) (replicate-append-replicate k m 0 ∙ ap (λ (j : ℕ). replicate j 0) sum)

more_cleared : (i k m n : ℕ) (ps : List ℕ) → k + m ≡ n → drop (i + k) ps ≡ replicate m 0 ++ drop (i + n) ps
    → take i ps ++ (replicate k 0 ++ drop (i + k) ps) ≡ take i ps ++ (replicate n 0 ++ drop (i + n) ps)
more_cleared i k m n ps sum e =
    let all : replicate k 0 ++ replicate m 0 ≡ replicate n 0 =
    replicate-append-replicate k m 0 ∙ ap (λ (j : ℕ). replicate j 0) sum in
    ap (λ (zs : List ℕ). take i ps ++ zs)
    (ap (λ (zs : List ℕ). replicate k 0 ++ zs) e
    ∙ sym (append_assoc (replicate k 0) (replicate m 0) (drop (i + n) ps))
    ∙ ap (λ (zs : List ℕ). zs ++ drop (i + n) ps) all)

-- ---- `size` bytes, of which xs are stored

module _ (size : ℕ) (xs : List ℕ) where
  with_zeros-is : with_zeros size xs ≡ xs ++ replicate (size - length xs) 0
  unfolding with_zeros zeros
  with_zeros-is = refl

  -- reading goes on as if there were no end
  get_or-with_zeros : (i : ℕ) → get_or (with_zeros size xs) i 0 ≡ get_or xs i 0
  get_or-with_zeros i =
      let k = size - length xs in
      ap (λ (zs : List ℕ). get_or zs i 0) with_zeros-is
      ∙ elim (cases_lt i (length xs)) [
        | inl l ↦ get_or_append_left xs (replicate k 0) 0 i l
        | inr r ↦ get_or-append_right xs (replicate k 0) (length xs) i 0 refl r ∙ get_or-zeros k (i - length xs) 0
            ∙ sym (get_or_past xs i 0 r)
      ]

  pub read-byte : (i : ℕ) → get_or xs i 0 ≡ get_or (with_zeros size xs) i 0
  read-byte i = sym (get_or-with_zeros i)

  pub read-word : (i : ℕ) → spelled (drop i xs) ≡ spelled (drop i (with_zeros size xs))
  read-word i =
      spelled-same (drop i xs) (drop i (with_zeros size xs))
      (λ j. get_or-drop i xs j 0 ∙ read-byte (i + j) ∙ sym (get_or-drop i (with_zeros size xs) j 0))

  -- storing more of the zeros changes nothing
  pub stored-more : (ys : List ℕ) → ys ≡ xs ++ replicate (length ys - length xs) 0 → length xs ≤ length ys
      → length ys ≤ size → with_zeros size ys ≡ with_zeros size xs
  unfolding with_zeros zeros
  stored-more ys e more fits =
      more_zeros (length ys - length xs) (size - length ys) (size - length xs) xs ys e (omega arith)

  module _ (inside : length xs ≤ size) where
    pub length-with_zeros : length (with_zeros size xs) ≡ size
    length-with_zeros =
        let k = size - length xs in
        ap length with_zeros-is ∙ length-append xs (replicate k 0) ∙ omega (arith, length-replicate {A = ℕ} k 0)

    -- writing over stored bytes
    pub write-stored : (i n : ℕ) (ys : List ℕ) → length ys ≡ n → i + n ≤ length xs
        → with_zeros size (take i xs ++ (ys ++ drop (i + n) xs))
        ≡ take i (with_zeros size xs) ++ (ys ++ drop (i + n) (with_zeros size xs))
    unfolding with_zeros zeros
    write-stored i n ys long fits =
        let back : List ℕ = replicate (size - length xs) 0 in
        let rest : List ℕ = drop (i + n) xs in
        let same : length (take i xs ++ (ys ++ rest)) ≡ length xs =
        length-append (take i xs) (ys ++ rest)
        ∙ omega (arith, length-take-le i xs (omega arith), length-append ys rest, length-drop (i + n) xs) in
        ap (λ (j : ℕ). (take i xs ++ (ys ++ rest)) ++ replicate (size - j) 0) same
        ∙ append_assoc (take i xs) (ys ++ rest) back
        ∙ ap (λ (zs : List ℕ). take i xs ++ zs) (append_assoc ys rest back)
        ∙ ap₂ (λ (us vs : List ℕ). us ++ (ys ++ vs))
        (sym (take-append-le i xs back (omega arith))) (sym (drop-append-le (i + n) xs back fits))

    pub write-byte : (i v : ℕ) → i < length xs → with_zeros size (set xs i v) ≡ set (with_zeros size xs) i v
    unfolding with_zeros zeros
    write-byte i v h =
        let back : List ℕ = replicate (size - length xs) 0 in
        ap (λ (j : ℕ). set xs i v ++ replicate (size - j) 0) (length-set xs i v) ∙ sym (set-append_left xs back i v h)

    -- behind the stored bytes there are zeros
    drop-behind : (i : ℕ) → length xs ≤ i → drop i (with_zeros size xs) ≡ replicate (size - i) 0
    drop-behind i h =
        let k = size - length xs in
        let at : i ≡ length xs + (i - length xs) = omega arith in
        ap₂ (λ (j : ℕ) (zs : List ℕ). drop j zs) at with_zeros-is
        ∙ drop-append-add xs (replicate k 0) (i - length xs)
        ∙ drop-replicate (i - length xs) k 0
        ∙ ap (λ (n : ℕ). replicate n 0) (omega arith)

    take-behind : (i n : ℕ) → (0 < n → length xs ≤ i) → i + n ≤ size
        → take n (drop i (with_zeros size xs)) ≡ replicate n 0
    take-behind i zero behind h = refl
    take-behind i (suc n) behind h =
        ap (take (suc n)) (drop-behind i (behind (omega arith))) ∙ take-replicate (suc n) (size - i) 0 (omega arith)

    -- n bytes of which the first k are stored
    pub part-stored : (i k n : ℕ) → i + k ≤ length xs → k ≤ n → (k < n → length xs ≤ i + k) → i + n ≤ size
        → take n (drop i (with_zeros size xs)) ≡ take k (drop i xs) ++ replicate (n - k) 0
    part-stored i k n stored more behind h =
        let all : List ℕ = with_zeros size xs in
        let back : List ℕ = replicate (size - length xs) 0 in
        let at : n ≡ k + (n - k) = omega arith in
        let front : take k (drop i all) ≡ take k (drop i xs) =
        ap (λ (zs : List ℕ). take k (drop i zs)) with_zeros-is
        ∙ ap (take k) (drop-append-le i xs back (omega arith))
        ∙ take-append-le k (drop i xs) back (omega (arith, length-drop i xs)) in
        let further : 0 < n - k → length xs ≤ i + k = λ l. behind (omega arith) in
        ap (λ (j : ℕ). take j (drop i all)) at
        ∙ take-add k (n - k) (drop i all)
        ∙ ap₂ (λ (us vs : List ℕ). us ++ vs) front
        (ap (take (n - k)) (drop-drop k i all) ∙ take-behind (i + k) (n - k) further (omega arith))

    -- zeros over n bytes are zeros over the first k, where the others aren't stored
    pub clear-more : (i k n : ℕ) → k ≤ n → (k < n → length xs ≤ i + k) → i + n ≤ size
        → take i (with_zeros size xs) ++ (replicate k 0 ++ drop (i + k) (with_zeros size xs))
        ≡ take i (with_zeros size xs) ++ (zeros n ++ drop (i + n) (with_zeros size xs))
    unfolding zeros
    clear-more i k n more behind h =
        let all : List ℕ = with_zeros size xs in
        let further : 0 < n - k → length xs ≤ i + k = λ l. behind (omega arith) in
        let split : drop (i + k) all ≡ replicate (n - k) 0 ++ drop (i + n) all =
        sym (take-append-drop (n - k) (drop (i + k) all))
        ∙ ap₂ (λ (us vs : List ℕ). us ++ vs) (take-behind (i + k) (n - k) further (omega arith))
        (drop-drop (n - k) (i + k) all ∙ ap (λ (j : ℕ). drop j all) (omega arith)) in
        more_cleared i k (n - k) n all (omega arith) split

    -- where none of the n bytes is stored, nothing is cleared
    pub clear-none : (i n : ℕ) → (0 < n → length xs ≤ i) → i + n ≤ size
        → with_zeros size xs ≡ take i (with_zeros size xs) ++ (zeros n ++ drop (i + n) (with_zeros size xs))
    clear-none i n behind h =
        let all : List ℕ = with_zeros size xs in
        let none : i + 0 ≡ i = omega arith in
        let further : 0 < n → length xs ≤ i + 0 = λ l. let low = behind l in omega arith in
        sym (take-append-drop i all)
        ∙ ap (λ (j : ℕ). take i all ++ drop j all) (sym none)
        ∙ clear-more i 0 n (omega arith) further h

-- ---- what callers see as v

-- nothing is stored at first
pub none-stored : (size : ℕ) (xs : List ℕ) → xs ≡ [] → with_zeros size xs ≡ zeros size
unfolding with_zeros
none-stored size xs e = ap (λ (ys : List ℕ). ys ++ zeros (size - length ys)) e ∙ ap zeros (omega arith)

module _ (size : ℕ) (xs v : List ℕ) (view : with_zeros size xs ≡ v) (inside : length xs ≤ size) where
  pub length-seen : length v ≡ size
  length-seen = ap length (sym view) ∙ length-with_zeros size xs inside

  -- it is the same where more of the zeros are stored
  pub seen-more : (ys : List ℕ) → ys ≡ xs ++ replicate (length ys - length xs) 0 → length xs ≤ length ys
      → length ys ≤ size → with_zeros size ys ≡ v
  seen-more ys grown more fits = stored-more size xs ys grown more fits ∙ view

  pub seen-read : (i : ℕ) → get_or xs i 0 ≡ get_or v i 0
  seen-read i = read-byte size xs i ∙ ap (λ (zs : List ℕ). get_or zs i 0) view

  pub seen-word : (i : ℕ) → spelled (drop i xs) ≡ spelled (drop i v)
  seen-word i = read-word size xs i ∙ ap (λ (zs : List ℕ). spelled (drop i zs)) view

  -- what is written over stored bytes
  pub seen-written : (i n : ℕ) (ys : List ℕ) → length ys ≡ n → i + n ≤ length xs
      → (new : List ℕ) → new ≡ take i xs ++ (ys ++ drop (i + n) xs)
      → with_zeros size new ≡ take i v ++ (ys ++ drop (i + n) v)
  seen-written i n ys long within new is =
      ap (with_zeros size) is
      ∙ write-stored size xs inside i n ys long within
      ∙ ap (λ (zs : List ℕ). take i zs ++ (ys ++ drop (i + n) zs)) view

  pub seen-byte : (i w : ℕ) → i < length xs → (new : List ℕ) → new ≡ set xs i w → with_zeros size new ≡ set v i w
  seen-byte i w within new is =
      ap (with_zeros size) is ∙ write-byte size xs inside i w within ∙ ap (λ (zs : List ℕ). set zs i w) view

  -- n bytes of v are copied to q: the k that are stored, and zeros behind them
  pub seen-copied : (i k n at : ℕ) → i + k ≤ length xs → k ≤ n → (k < n → length xs ≤ i + k) → i + n ≤ length v
      → (old mid new : List ℕ) → at + n ≤ length old → mid ≡ take at old ++ (take k (drop i xs) ++ drop (at + k) old)
      → new ≡ take (at + k) mid ++ (zeros (n - k) ++ drop (at + k + (n - k)) mid)
      → new ≡ take at old ++ (take n (drop i v) ++ drop (at + n) old)
  unfolding zeros
  seen-copied i k n at stored more behind from_in old mid new to_in first then_ =
      let all = length-seen in
      let taken : length (take k (drop i xs)) ≡ k =
      length-take-le k (drop i xs) (omega (arith, length-drop i xs)) in
      let part = part-stored size xs inside i k n stored more behind (omega arith) in
      then_
      ∙ overwrite_twice at k n old (take k (drop i xs)) (replicate (n - k) 0) mid taken more to_in first
      ∙ ap (λ (zs : List ℕ). take at old ++ (zs ++ drop (at + n) old))
      (sym part ∙ ap (λ (zs : List ℕ). take n (drop i zs)) view)

  -- none of the n bytes is stored
  pub seen-cleared : (i n at : ℕ) → (0 < n → length xs ≤ i) → i + n ≤ length v → (old new : List ℕ)
      → new ≡ take at old ++ (zeros n ++ drop (at + n) old)
      → new ≡ take at old ++ (take n (drop i v) ++ drop (at + n) old)
  unfolding zeros
  seen-cleared i n at behind from_in old new is =
      let all = length-seen in
      let part = take-behind size xs inside i n behind (omega arith) in
      is
      ∙ ap (λ (zs : List ℕ). take at old ++ (zs ++ drop (at + n) old))
      (sym part ∙ ap (λ (zs : List ℕ). take n (drop i zs)) view)

  -- zeros over n bytes, of which the first k are stored
  pub clear-stored : (i k n : ℕ) → i + k ≤ length xs → k ≤ n → (k < n → length xs ≤ i + k) → i + n ≤ length v
      → (new : List ℕ) → new ≡ take i xs ++ (replicate k 0 ++ drop (i + k) xs)
      → with_zeros size new ≡ take i v ++ (zeros n ++ drop (i + n) v)
  clear-stored i k n stored more behind fits new is =
      let all = length-seen in
      ap (with_zeros size) is
      ∙ write-stored size xs inside i k (replicate k 0) (length-replicate {A = ℕ} k 0) stored
      ∙ clear-more size xs inside i k n more behind (omega arith)
      ∙ ap (λ (zs : List ℕ). take i zs ++ (zeros n ++ drop (i + n) zs)) view

  pub clear-unstored : (i n : ℕ) → (0 < n → length xs ≤ i) → i + n ≤ length v
      → v ≡ take i v ++ (zeros n ++ drop (i + n) v)
  clear-unstored i n behind fits =
      let all = length-seen in
      sym view
      ∙ clear-none size xs inside i n behind (omega arith)
      ∙ ap (λ (zs : List ℕ). take i zs ++ (zeros n ++ drop (i + n) zs)) view
