-- Words in pages of which some are stored.
use Rattle.std.proofs.Common.{◌≡◌, ℕ, zero, suc, ◌+◌, ◌-◌, ◌*◌, ◌/◌, ◌%◌, ◌<◌, ◌≤◌, List, [], ◌∷◌, ◌++◌, length, get_or}
use Rattle.std.proofs.Common.{take, drop, set, replicate, refl, ◌≢◌, ◌⊎◌, inl, inr, ap, ap₂, sym, ◌∙◌, arith}
use Rattle.std.proofs.Common.{length-append, length-drop, length-set, length-take, length-take-le, get_or-drop}
use Rattle.std.proofs.Common.{take-append-drop}
use Rattle.std.proofs.lemmas.Bool.{cases_eq, cases_lt, cond-false}
use Rattle.std.proofs.Math.Dec.{eqb, eqb-suc-zero}
use Rattle.std.proofs.lemmas.List.{ext_get_or, get_or-append_right, get_or-replicate, get_or-set_other}
use Rattle.std.proofs.lemmas.List.{drop-drop, get_or-set_same, get_or-take, get_or_append_left, get_or_past}
use Rattle.std.proofs.lemmas.List.{length-replicate}
use Rattle.std.specs.Prelude.{Option, None, Some, if◌then◌else◌, ◌==◌}
use Rattle.clr_mem.specs.Paged.{IsPaged, count_stored, page_begin, paged_from, paged_word, paged_words}
use Rattle.clr_mem.specs.Words.{overwrite, part, zeros}
use Rattle.clr_mem.proofs.Spelling.{overwrite-one}

-- ---- lists

overwrite-in : (xs ys : List ℕ) (at i : ℕ) → at ≤ length xs → at ≤ i → i < at + length ys
    → get_or (overwrite xs at ys) i 0 ≡ get_or ys (i - at) 0
overwrite-in xs ys at i inside low high =
    let rest : List ℕ = drop (at + length ys) xs in
    get_or-append_right (take at xs) (ys ++ rest) at i 0 (length-take-le at xs inside) low
    ∙ get_or_append_left ys rest 0 (i - at) (omega arith)

overwrite-out : (xs ys : List ℕ) (at i : ℕ) → at + length ys ≤ length xs → (i < at) ⊎ (at + length ys ≤ i)
    → get_or (overwrite xs at ys) i 0 ≡ get_or xs i 0
overwrite-out xs ys at i inside out =
    let rest : List ℕ = drop (at + length ys) xs in
    let low : length (take at xs) ≡ at = length-take-le at xs (omega arith) in
    elim out [
      | inl l ↦
          get_or_append_left (take at xs) (ys ++ rest) 0 i (omega arith) ∙ get_or-take at xs i 0 l
      | inr r ↦
          get_or-append_right (take at xs) (ys ++ rest) at i 0 low (omega arith)
          ∙ get_or-append_right ys rest (length ys) (i - at) 0 refl (omega arith)
          ∙ get_or-drop (at + length ys) xs (i - at - length ys) 0
          ∙ ap (λ (j : ℕ). get_or xs j 0) (omega arith)
    ]

pub length-overwrite : (xs ys : List ℕ) (at : ℕ) → at + length ys ≤ length xs → length (overwrite xs at ys) ≡ length xs
length-overwrite xs ys at inside =
    let rest : List ℕ = drop (at + length ys) xs in
    length-append (take at xs) (ys ++ rest)
    ∙ omega (arith, length-take-le at xs (omega arith), length-append ys rest, length-drop (at + length ys) xs)

overwrite-same : (xs : List ℕ) (at n : ℕ) → at + n ≤ length xs → overwrite xs at (part xs at n) ≡ xs
overwrite-same xs at n inside =
    let long : length (part xs at n) ≡ n = length-take-le n (drop at xs) (omega (arith, length-drop at xs)) in
    ap (λ (k : ℕ). take at xs ++ (part xs at n ++ drop (at + k) xs)) long
    ∙ ap (λ (ys : List ℕ). take at xs ++ (part xs at n ++ ys)) (sym (drop-drop n at xs))
    ∙ ap (λ (ys : List ℕ). take at xs ++ ys) (take-append-drop n (drop at xs))
    ∙ take-append-drop at xs

overwrite-long : (xs ys : List ℕ) (at n : ℕ) → length ys ≡ n
    → take at xs ++ (ys ++ drop (at + n) xs) ≡ overwrite xs at ys
overwrite-long xs ys at n long = ap (λ (k : ℕ). take at xs ++ (ys ++ drop (at + k) xs)) (sym long)

pub part-most : (xs : List ℕ) (at k n j : ℕ) → j ≤ length (take k (drop at xs)) → k ≡ n → j ≤ n
part-most xs at k n j most size = omega (arith, most, size, length-take k (drop at xs))

pub part-inside : (xs : List ℕ) (at k n j : ℕ) → j < n → k ≡ n → at + n ≤ length xs → j < length (take k (drop at xs))
part-inside xs at k n j within size inside =
    omega (arith, within, size, inside, length-take k (drop at xs), length-drop at xs)

get_or-part : (xs : List ℕ) (at n j : ℕ) → j < n → get_or (part xs at n) j 0 ≡ get_or xs (at + j) 0
get_or-part xs at n j l = get_or-take n (drop at xs) j 0 l ∙ get_or-drop at xs j 0

-- the same words stand in two lists
part-same : (xs ys : List ℕ) (at to n : ℕ) → at + n ≤ length xs → to + n ≤ length ys
    → ((j : ℕ) → j < n → get_or xs (at + j) 0 ≡ get_or ys (to + j) 0) → part xs at n ≡ part ys to n
part-same xs ys at to n in_xs in_ys same =
    let long : length (part xs at n) ≡ n = length-take-le n (drop at xs) (omega (arith, length-drop at xs)) in
    let also : length (part ys to n) ≡ n = length-take-le n (drop to ys) (omega (arith, length-drop to ys)) in
    ext_get_or 0 (part xs at n) (part ys to n) (omega arith)
    (λ j l. get_or-part xs at n j (omega arith) ∙ same j (omega arith) ∙ sym (get_or-part ys to n j (omega arith)))

get_or-zeros : (n i : ℕ) → get_or (replicate {A = ℕ} n 0) i 0 ≡ 0
get_or-zeros n i =
    elim (cases_lt i n) [
      | inl l ↦ get_or-replicate {A = ℕ} n i 0 0 l
      | inr r ↦ get_or_past (replicate {A = ℕ} n 0) i 0 (omega (arith, length-replicate {A = ℕ} n 0))
    ]

-- reading goes on behind the end as if zeros stood there
get_or-more_zeros : (xs : List ℕ) (n i : ℕ) → get_or (xs ++ replicate n 0) i 0 ≡ get_or xs i 0
get_or-more_zeros xs n i =
    elim (cases_lt i (length xs)) [
      | inl l ↦ get_or_append_left xs (replicate n 0) 0 i l
      | inr r ↦ get_or-append_right xs (replicate n 0) (length xs) i 0 refl r ∙ get_or-zeros n (i - length xs)
          ∙ sym (get_or_past xs i 0 r)
    ]

-- ---- a page's number

-- where the words of the page of this number begin
abbrev begin_by : ℕ → Option ℕ
begin_by n = if n == 0 then None else Some (512 * (n - 1))

abbrev word_by : ℕ → ℕ → List ℕ → ℕ
word_by n r stored = if n == 0 then 0 else get_or stored (512 * (n - 1) + r) 0

begin_by-suc : (n : ℕ) → begin_by (suc n) ≡ Some (512 * n)
begin_by-suc n =
    cond-false (eqb (suc n) 0) None (Some (512 * (suc n - 1))) (eqb-suc-zero n)
    ∙ ap (λ (k : ℕ). Some (512 * k)) (omega arith)

word_by-suc : (n r : ℕ) (stored : List ℕ) → word_by (suc n) r stored ≡ get_or stored (512 * n + r) 0
word_by-suc n r stored =
    cond-false (eqb (suc n) 0) 0 (get_or stored (512 * (suc n - 1) + r) 0) (eqb-suc-zero n)
    ∙ ap (λ (k : ℕ). get_or stored (512 * k + r) 0) (omega arith)

by-some : (n begin : ℕ) → begin_by n ≡ Some begin → 512 * n ≡ begin + 512
by-some zero begin e = absurd (cc)
by-some (suc n) begin e =
    let made : Some (512 * n) ≡ Some begin = sym (begin_by-suc n) ∙ e in
    let b : 512 * n ≡ begin = cc in
    omega arith

by-none : (n : ℕ) → begin_by n ≡ None → n ≡ 0
by-none zero e = refl
by-none (suc n) e = let made : Some (512 * n) ≡ None = sym (begin_by-suc n) ∙ e in absurd (cc)

word-none : (n r : ℕ) (stored : List ℕ) → n ≡ 0 → word_by n r stored ≡ 0
word-none zero r stored e = refl
word-none (suc n) r stored e = absurd (omega arith)

word-some : (n begin r : ℕ) (stored : List ℕ) → 512 * n ≡ begin + 512
    → word_by n r stored ≡ get_or stored (begin + r) 0
word-some zero begin r stored e = absurd (omega arith)
word-some (suc n) begin r stored e = word_by-suc n r stored ∙ ap (λ (k : ℕ). get_or stored k 0) (omega arith)

-- more zeros are stored
word-more : (n r : ℕ) (stored words : List ℕ) → ((j : ℕ) → get_or words j 0 ≡ get_or stored j 0)
    → word_by n r words ≡ word_by n r stored
word-more zero r stored words same = refl
word-more (suc n) r stored words same =
    word_by-suc n r words ∙ same (512 * n + r) ∙ sym (word_by-suc n r stored)

pub page-number : (numbers : List ℕ) (p begin : ℕ) → page_begin numbers p ≡ Some begin
    → 512 * get_or numbers p 0 ≡ begin + 512
page-number numbers p begin e = by-some (get_or numbers p 0) begin e

pub page-lacks : (numbers : List ℕ) (p : ℕ) → page_begin numbers p ≡ None → get_or numbers p 0 ≡ 0
page-lacks numbers p e = by-none (get_or numbers p 0) e

word-stored : (numbers stored : List ℕ) (i begin : ℕ) → 512 * get_or numbers (i / 512) 0 ≡ begin + 512
    → paged_word numbers stored i ≡ get_or stored (begin + i % 512) 0
word-stored numbers stored i begin e = word-some (get_or numbers (i / 512) 0) begin (i % 512) stored e

word-lacks : (numbers stored : List ℕ) (i : ℕ) → get_or numbers (i / 512) 0 ≡ 0 → paged_word numbers stored i ≡ 0
word-lacks numbers stored i e = word-none (get_or numbers (i / 512) 0) (i % 512) stored e

-- ---- the list of all words

length-paged_from : (i n : ℕ) (numbers stored : List ℕ) → length (paged_from i n numbers stored) ≡ n
unfolding paged_from
length-paged_from i zero numbers stored = refl
length-paged_from i (suc n) numbers stored = let e = length-paged_from (suc i) n numbers stored in omega (arith, e)

get_or-paged_from : (i n j : ℕ) (numbers stored : List ℕ) → j < n
    → get_or (paged_from i n numbers stored) j 0 ≡ paged_word numbers stored (i + j)
unfolding paged_from
get_or-paged_from i zero j numbers stored h = absurd (omega arith)
get_or-paged_from i (suc n) zero numbers stored h = ap (paged_word numbers stored) (omega arith)
get_or-paged_from i (suc n) (suc j) numbers stored h =
    get_or-paged_from (suc i) n j numbers stored (omega arith) ∙ ap (paged_word numbers stored) (omega arith)

pub length-paged : (n : ℕ) (numbers stored : List ℕ) → length (paged_words n numbers stored) ≡ n
unfolding paged_words
length-paged n numbers stored = length-paged_from 0 n numbers stored

pub get_or-paged : (n i : ℕ) (numbers stored : List ℕ) → i < n
    → get_or (paged_words n numbers stored) i 0 ≡ paged_word numbers stored i
unfolding paged_words
get_or-paged n i numbers stored h =
    get_or-paged_from 0 n i numbers stored h ∙ ap (paged_word numbers stored) (omega arith)

-- words are told by what stands at each place
paged-is : (n : ℕ) (numbers stored v : List ℕ) → length v ≡ n
    → ((i : ℕ) → i < n → paged_word numbers stored i ≡ get_or v i 0) → paged_words n numbers stored ≡ v
paged-is n numbers stored v size same =
    let long = length-paged n numbers stored in
    ext_get_or 0 (paged_words n numbers stored) v (omega (arith, long, size))
    (λ i l. get_or-paged n i numbers stored (omega (arith, l, long)) ∙ same i (omega (arith, l, long)))

-- ---- pages that are stored

-- what stands in a list outside n of its words
abbrev IsKept : List ℕ → List ℕ → ℕ → ℕ → Type 0
IsKept old new at n = (j : ℕ) → (j < at) ⊎ (at + n ≤ j) → get_or new j 0 ≡ get_or old j 0

module _ (len : ℕ) (numbers stored : List ℕ) (number_room word_room : ℕ)
    (is : IsPaged len numbers (length stored) number_room word_room) where
  pub page-inside : (p begin : ℕ) → page_begin numbers p ≡ Some begin → begin + 512 ≤ length stored
  page-inside p begin b =
      let number = page-number numbers p begin b in
      let inside = is.inside p in
      omega arith

  -- a word of another page stands behind or before the words of this one
  other-page : (p begin i : ℕ) → page_begin numbers p ≡ Some begin → i / 512 ≢ p → (new : List ℕ)
      → IsKept stored new begin 512 → paged_word numbers new i ≡ paged_word numbers stored i
  other-page p begin i b other new kept =
      let n = get_or numbers p 0 in
      let m = get_or numbers (i / 512) 0 in
      let number : 512 * n ≡ begin + 512 = page-number numbers p begin b in
      elim (cases_lt 0 m) [
        | inr none ↦
            let lacks : get_or numbers (i / 512) 0 ≡ 0 = omega (arith, none) in
            word-lacks numbers new i lacks ∙ sym (word-lacks numbers stored i lacks)
        | inl there ↦
            let at = 512 * (m - 1) in
            let its : 512 * get_or numbers (i / 512) 0 ≡ at + 512 = omega (arith, there) in
            let apart : m ≢ n = λ e. other (is.apart (i / 512) p there e) in
            let place = at + i % 512 in
            let out : (place < begin) ⊎ (begin + 512 ≤ place) = elim (cases_lt m n) [
              | inl below ↦ inl (omega (arith, its, number, below))
              | inr above ↦
                  elim (cases_eq m n) [
                    | inl same ↦ absurd (apart same)
                    | inr further ↦ inr (omega (arith, its, number, above, further))
                  ]
            ] in
            word-stored numbers new i at its ∙ kept place out ∙ sym (word-stored numbers stored i at its)
      ]

  -- ys is written into one page
  pub paged-written : (i begin : ℕ) (ys new : List ℕ) → page_begin numbers (i / 512) ≡ Some begin
      → i % 512 + length ys ≤ 512 → i + length ys ≤ len → new ≡ overwrite stored (begin + i % 512) ys
      → paged_words len numbers new ≡ overwrite (paged_words len numbers stored) i ys
  paged-written i begin ys new b page inside written =
      let words = paged_words len numbers stored in
      let long : length words ≡ len = length-paged len numbers stored in
      let room = page-inside (i / 512) begin b in
      let at = begin + i % 512 in
      let get : (j : ℕ) → get_or new j 0 ≡ get_or (overwrite stored at ys) j 0 =
      λ j. ap (λ (zs : List ℕ). get_or zs j 0) written in
      let kept : (j : ℕ) → (j < at) ⊎ (at + length ys ≤ j) → get_or new j 0 ≡ get_or stored j 0 =
      λ j out. get j ∙ overwrite-out stored ys at j (omega arith) out in
      let others : (j : ℕ) → (j < begin) ⊎ (begin + 512 ≤ j) → get_or new j 0 ≡ get_or stored j 0 =
      λ j out. kept j (elim out [ inl l ↦ inl (omega arith) | inr r ↦ inr (omega arith) ]) in
      let outside : (j : ℕ) → j < len → (j < i) ⊎ (i + length ys ≤ j)
      → get_or (overwrite words i ys) j 0 ≡ paged_word numbers stored j =
      λ j l out. overwrite-out words ys i j (omega (arith, long)) out ∙ get_or-paged len j numbers stored l in
      paged-is len numbers new (overwrite words i ys) (length-overwrite words ys i (omega (arith, long)) ∙ long)
      (λ j l. elim (cases_eq (j / 512) (i / 512)) [
        | inl same ↦
            let number : 512 * get_or numbers (j / 512) 0 ≡ begin + 512 =
            ap (λ (p : ℕ). 512 * get_or numbers p 0) same ∙ page-number numbers (i / 512) begin b in
            word-stored numbers new j begin number
            ∙ elim (cases_lt j i) [
              | inl below ↦
                  kept (begin + j % 512) (inl (omega (arith, below, same)))
                  ∙ sym (word-stored numbers stored j begin number) ∙ sym (outside j l (inl below))
              | inr above ↦
                  elim (cases_lt j (i + length ys)) [
                    | inl within ↦
                        get (begin + j % 512)
                        ∙ overwrite-in stored ys at (begin + j % 512) (omega arith) (omega (arith, same, above))
                        (omega (arith, same, within))
                        ∙ ap (λ (k : ℕ). get_or ys k 0) (omega (arith, same, above))
                        ∙ sym (overwrite-in words ys i j (omega (arith, long)) above within)
                    | inr behind ↦
                        kept (begin + j % 512) (inr (omega (arith, behind, same)))
                        ∙ sym (word-stored numbers stored j begin number) ∙ sym (outside j l (inr behind))
                  ]
            ]
        | inr other ↦
            let out : (j < i) ⊎ (i + length ys ≤ j) = elim (cases_lt (j / 512) (i / 512)) [
              | inl below ↦ inl (omega (arith, below))
              | inr above ↦ inr (omega (arith, above, other, page))
            ] in
            other-page (i / 512) begin j b other new others ∙ sym (outside j l out)
      ])

  -- words of one page that is stored
  pub paged-part : (i begin n : ℕ) → page_begin numbers (i / 512) ≡ Some begin → i % 512 + n ≤ 512 → i + n ≤ len
      → part stored (begin + i % 512) n ≡ part (paged_words len numbers stored) i n
  paged-part i begin n b page inside =
      let long : length (paged_words len numbers stored) ≡ len = length-paged len numbers stored in
      let room = page-inside (i / 512) begin b in
      part-same stored (paged_words len numbers stored) (begin + i % 512) i n (omega arith) (omega arith)
      (λ j l.
      let same : (i + j) / 512 ≡ i / 512 = omega arith in
      let number : 512 * get_or numbers ((i + j) / 512) 0 ≡ begin + 512 =
      ap (λ (p : ℕ). 512 * get_or numbers p 0) same ∙ page-number numbers (i / 512) begin b in
      ap (λ (k : ℕ). get_or stored k 0) (omega arith)
      ∙ sym (word-stored numbers stored (i + j) begin number)
      ∙ sym (get_or-paged len (i + j) numbers stored (omega arith)))

  -- and of one that isn't
  pub lacks-part : (i n : ℕ) → page_begin numbers (i / 512) ≡ None → i % 512 + n ≤ 512 → i + n ≤ len
      → part (paged_words len numbers stored) i n ≡ zeros n
  unfolding zeros
  lacks-part i n none page inside =
      let words = paged_words len numbers stored in
      let long : length words ≡ len = length-paged len numbers stored in
      let size : length (replicate {A = ℕ} n 0) ≡ n = length-replicate {A = ℕ} n 0 in
      let cut : length (part words i n) ≡ n = length-take-le n (drop i words) (omega (arith, length-drop i words)) in
      ext_get_or 0 (part words i n) (replicate n 0) (omega arith)
      (λ j l.
      let same : (i + j) / 512 ≡ i / 512 = omega (arith, l, cut) in
      let lacks : get_or numbers ((i + j) / 512) 0 ≡ 0 =
      ap (λ (p : ℕ). get_or numbers p 0) same ∙ page-lacks numbers (i / 512) none in
      get_or-part words i n j (omega (arith, l, cut))
      ∙ get_or-paged len (i + j) numbers stored (omega (arith, l, cut))
      ∙ word-lacks numbers stored (i + j) lacks
      ∙ sym (get_or-zeros n j))

  -- zeros over it change nothing
  pub lacks-cleared : (i n : ℕ) → page_begin numbers (i / 512) ≡ None → i % 512 + n ≤ 512 → i + n ≤ len
      → paged_words len numbers stored ≡ overwrite (paged_words len numbers stored) i (zeros n)
  lacks-cleared i n none page inside =
      let words = paged_words len numbers stored in
      let long : length words ≡ len = length-paged len numbers stored in
      sym (overwrite-same words i n (omega arith))
      ∙ ap (λ (ys : List ℕ). overwrite words i ys) (lacks-part i n none page inside)

-- ---- how many pages are stored

count-zero : (numbers : List ℕ) → count_stored (0 ∷ numbers) ≡ count_stored numbers
unfolding count_stored
count-zero numbers = refl

count-suc : (n : ℕ) (numbers : List ℕ) → count_stored (suc n ∷ numbers) ≡ suc (count_stored numbers)
unfolding count_stored
count-suc n numbers =
    cond-false (eqb (suc n) 0) (count_stored numbers) (suc (count_stored numbers)) (eqb-suc-zero n)

count-most : (numbers : List ℕ) → count_stored numbers ≤ length numbers
unfolding count_stored
count-most [] = omega arith
count-most (zero ∷ numbers) = let ih = count-most numbers in omega (arith, ih)
count-most (suc n ∷ numbers) = let ih = count-most numbers in omega (arith, ih, count-suc n numbers)

count-room : (numbers : List ℕ) (p : ℕ) → p < length numbers → get_or numbers p 0 ≡ 0
    → count_stored numbers + 1 ≤ length numbers
count-room [] p l e = absurd (omega arith)
count-room (zero ∷ numbers) p l e = omega (arith, count-most numbers, count-zero numbers)
count-room (suc n ∷ numbers) zero l e = absurd (omega arith)
count-room (suc n ∷ numbers) (suc p) l e =
    let ih = count-room numbers p (omega arith) e in omega (arith, ih, count-suc n numbers)

count-more_zeros : (numbers : List ℕ) (k : ℕ) → count_stored (numbers ++ replicate k 0) ≡ count_stored numbers
count-more_zeros [] zero = refl
count-more_zeros [] (suc k) = count-zero (replicate k 0) ∙ count-more_zeros [] k
count-more_zeros (zero ∷ numbers) k =
    count-zero (numbers ++ replicate k 0) ∙ count-more_zeros numbers k ∙ sym (count-zero numbers)
count-more_zeros (suc n ∷ numbers) k =
    count-suc n (numbers ++ replicate k 0) ∙ ap (λ (m : ℕ). suc m) (count-more_zeros numbers k)
    ∙ sym (count-suc n numbers)

count-set : (numbers : List ℕ) (p n : ℕ) → p < length numbers → get_or numbers p 0 ≡ 0
    → count_stored (set numbers p (suc n)) ≡ suc (count_stored numbers)
count-set [] p n l e = absurd (omega arith)
count-set (zero ∷ numbers) zero n l e =
    count-suc n numbers ∙ ap (λ (m : ℕ). suc m) (sym (count-zero numbers))
count-set (suc m ∷ numbers) zero n l e = absurd (omega arith)
count-set (zero ∷ numbers) (suc p) n l e =
    count-zero (set numbers p (suc n)) ∙ count-set numbers p n (omega arith) e
    ∙ ap (λ (m : ℕ). suc m) (sym (count-zero numbers))
count-set (suc m ∷ numbers) (suc p) n l e =
    count-suc m (set numbers p (suc n)) ∙ ap (λ (k : ℕ). suc k) (count-set numbers p n (omega arith) e)
    ∙ ap (λ (k : ℕ). suc k) (sym (count-suc m numbers))

-- ---- one page more

module _ (len : ℕ) (numbers stored : List ℕ) (number_room word_room : ℕ)
    (is : IsPaged len numbers (length stored) number_room word_room) (page : ℕ) (there : 512 * page < len)
    (lacks : get_or numbers page 0 ≡ 0) where
  pub room-left : length stored + 512 ≤ len
  room-left =
      let counted = is.counted in
      let few = is.few in
      let whole = is.whole in
      elim (cases_lt page (length numbers)) [
        | inl within ↦ let fewer = count-room numbers page within lacks in omega (arith, counted, few, fewer)
        | inr behind ↦
            let most = count-most numbers in omega (arith, counted, few, whole, most, behind, there)
      ]

  module _ (grown made words : List ℕ) (grew : grown ≡ numbers ++ replicate (length grown - length numbers) 0)
      (has : page < length grown) (made_is : made ≡ set grown page (length stored / 512 + 1))
      (words_is : words ≡ stored ++ replicate 512 0) where
    grown-reads : (p : ℕ) → get_or grown p 0 ≡ get_or numbers p 0
    grown-reads p =
        ap (λ (xs : List ℕ). get_or xs p 0) grew ∙ get_or-more_zeros numbers (length grown - length numbers) p

    its-number : 512 * get_or made page 0 ≡ length stored + 512
    its-number =
        let number = ap (λ (xs : List ℕ). get_or xs page 0) made_is
        ∙ get_or-set_same grown page (length stored / 512 + 1) 0 has in
        let counted = is.counted in
        omega (arith, number, counted)

    other-number : (p : ℕ) → p ≢ page → get_or made p 0 ≡ get_or numbers p 0
    other-number p other =
        ap (λ (xs : List ℕ). get_or xs p 0) made_is
        ∙ get_or-set_other grown page p (length stored / 512 + 1) 0 other ∙ grown-reads p

    length-words : length words ≡ length stored + 512
    length-words =
        ap length words_is ∙ length-append stored (replicate 512 0)
        ∙ ap (λ (n : ℕ). length stored + n) (length-replicate {A = ℕ} 512 0)

    pub added-words : (n : ℕ) → paged_words n made words ≡ paged_words n numbers stored
    added-words n =
        let reads : (j : ℕ) → get_or words j 0 ≡ get_or stored j 0 =
        λ j. ap (λ (xs : List ℕ). get_or xs j 0) words_is ∙ get_or-more_zeros stored 512 j in
        paged-is n made words (paged_words n numbers stored) (length-paged n numbers stored)
        (λ i l. elim (cases_eq (i / 512) page) [
          | inl same ↦
              let number : 512 * get_or made (i / 512) 0 ≡ length stored + 512 =
              ap (λ (p : ℕ). 512 * get_or made p 0) same ∙ its-number in
              let none : get_or numbers (i / 512) 0 ≡ 0 = ap (λ (p : ℕ). get_or numbers p 0) same ∙ lacks in
              word-stored made words i (length stored) number ∙ reads (length stored + i % 512)
              ∙ get_or_past stored (length stored + i % 512) 0 (omega arith)
              ∙ sym (word-lacks numbers stored i none) ∙ sym (get_or-paged n i numbers stored l)
          | inr other ↦
              ap (λ (m : ℕ). word_by m (i % 512) words) (other-number (i / 512) other)
              ∙ word-more (get_or numbers (i / 512) 0) (i % 512) stored words reads
              ∙ sym (get_or-paged n i numbers stored l)
        ])

    pub added-paged : (grown_room more_room : ℕ) → length grown * 512 ≤ len → number_room ≤ grown_room
        → word_room ≤ more_room → IsPaged len made (length words) grown_room more_room
    added-paged grown_room more_room few numbers_fit words_fit =
        let count : count_stored made ≡ suc (count_stored numbers) =
        ap count_stored made_is
        ∙ ap (λ (n : ℕ). count_stored (set grown page n)) (omega arith)
        ∙ count-set grown page (length stored / 512) has (grown-reads page ∙ lacks)
        ∙ ap (λ (n : ℕ). suc n)
        (ap count_stored grew ∙ count-more_zeros numbers (length grown - length numbers)) in
        let counted = is.counted in
        let long : length made ≡ length grown = ap length made_is ∙ length-set grown page (length stored / 512 + 1) in
        record {
          whole = is.whole;
          few = omega (arith, few, long);
          counted = omega (arith, counted, count, length-words);
          inside = λ p. elim (cases_eq p page) [
            | inl same ↦
                let number : 512 * get_or made p 0 ≡ length stored + 512 =
                ap (λ (q : ℕ). 512 * get_or made q 0) same ∙ its-number in
                omega (arith, number, length-words)
            | inr other ↦
                let number = other-number p other in
                let inside = is.inside p in
                omega (arith, number, inside, length-words)
          ];
          apart = λ p q some equal. elim (cases_eq p page) [
            | inl p_is ↦ elim (cases_eq q page) [
              | inl q_is ↦ p_is ∙ sym q_is
              | inr q_other ↦
                  let number : 512 * get_or made p 0 ≡ length stored + 512 =
                  ap (λ (r : ℕ). 512 * get_or made r 0) p_is ∙ its-number in
                  let old = other-number q q_other in
                  let inside = is.inside q in
                  absurd (omega (arith, number, old, inside, equal))
            ]
            | inr p_other ↦ elim (cases_eq q page) [
              | inl q_is ↦
                  let number : 512 * get_or made q 0 ≡ length stored + 512 =
                  ap (λ (r : ℕ). 512 * get_or made r 0) q_is ∙ its-number in
                  let old = other-number p p_other in
                  let inside = is.inside p in
                  absurd (omega (arith, number, old, inside, equal))
              | inr q_other ↦
                  let p_old = other-number p p_other in
                  let q_old = other-number q q_other in
                  is.apart p q (omega (arith, some, p_old)) (sym p_old ∙ equal ∙ q_old)
            ]
          ];
          numbers_fit = let fit = is.numbers_fit in omega (arith, fit, numbers_fit);
          words_fit = let fit = is.words_fit in omega (arith, fit, words_fit);
        }

-- ---- what callers see as v

module _ (len : ℕ) (numbers stored v : List ℕ) (view : paged_words len numbers stored ≡ v) where
  pub length-pages : length v ≡ len
  length-pages = ap length (sym view) ∙ length-paged len numbers stored

  pub read-stored : (i begin : ℕ) → i < len → page_begin numbers (i / 512) ≡ Some begin
      → get_or stored (begin + i % 512) 0 ≡ get_or v i 0
  read-stored i begin inside b =
      sym (word-stored numbers stored i begin (page-number numbers (i / 512) begin b))
      ∙ sym (get_or-paged len i numbers stored inside)
      ∙ ap (λ (ws : List ℕ). get_or ws i 0) view

  -- word j of n words of one page that is stored
  pub read-part : (i begin n j : ℕ) → page_begin numbers (i / 512) ≡ Some begin → i % 512 + n ≤ 512 → i + n ≤ len
      → j < n → (xs : List ℕ) → xs ≡ stored → (k : ℕ) → k ≡ n
      → get_or (take k (drop (begin + i % 512) xs)) j 0 ≡ get_or v (i + j) 0
  read-part i begin n j b page inside within xs is k size =
      let same : i / 512 ≡ (i + j) / 512 = omega arith in
      ap₂ (λ (ys : List ℕ) (m : ℕ). get_or (take m (drop (begin + i % 512) ys)) j 0) is size
      ∙ get_or-part stored (begin + i % 512) n j within
      ∙ ap (λ (at : ℕ). get_or stored at 0) (omega arith)
      ∙ read-stored (i + j) begin (omega arith) (ap (page_begin numbers) (sym same) ∙ b)

  pub read-lacking : (i : ℕ) → i < len → page_begin numbers (i / 512) ≡ None → get_or v i 0 ≡ 0
  read-lacking i inside none =
      ap (λ (ws : List ℕ). get_or ws i 0) (sym view)
      ∙ get_or-paged len i numbers stored inside
      ∙ word-lacks numbers stored i (page-lacks numbers (i / 512) none)

  pub part-lacking : (i n j : ℕ) → page_begin numbers (i / 512) ≡ None → i % 512 + n ≤ 512 → i + n ≤ len → j < n
      → get_or v (i + j) 0 ≡ 0
  part-lacking i n j none page inside within =
      let same : i / 512 ≡ (i + j) / 512 = omega arith in
      read-lacking (i + j) (omega arith) (ap (page_begin numbers) (sym same) ∙ none)

  module _ (number_room word_room : ℕ) (is : IsPaged len numbers (length stored) number_room word_room) where
    pub seen-written : (i begin : ℕ) (ys new : List ℕ) → page_begin numbers (i / 512) ≡ Some begin
        → i % 512 + length ys ≤ 512 → i + length ys ≤ len → new ≡ overwrite stored (begin + i % 512) ys
        → paged_words len numbers new ≡ overwrite v i ys
    seen-written i begin ys new b page inside written =
        paged-written len numbers stored number_room word_room is i begin ys new b page inside written
        ∙ ap (λ (ws : List ℕ). overwrite ws i ys) view

    pub seen-set : (i begin w : ℕ) (new : List ℕ) → page_begin numbers (i / 512) ≡ Some begin → i < len
        → new ≡ set stored (begin + i % 512) w → paged_words len numbers new ≡ set v i w
    seen-set i begin w new b inside written =
        let room = page-inside len numbers stored number_room word_room is (i / 512) begin b in
        let long = length-pages in
        seen-written i begin (w ∷ []) new b (omega arith) (omega arith)
        (written ∙ sym (overwrite-one stored (begin + i % 512) w (omega arith)))
        ∙ overwrite-one v i w (omega arith)

    pub seen-part : (i begin n : ℕ) → page_begin numbers (i / 512) ≡ Some begin → i % 512 + n ≤ 512 → i + n ≤ len
        → part stored (begin + i % 512) n ≡ part v i n
    seen-part i begin n b page inside =
        paged-part len numbers stored number_room word_room is i begin n b page inside
        ∙ ap (λ (ws : List ℕ). part ws i n) view

    pub lacking-part : (i n : ℕ) → page_begin numbers (i / 512) ≡ None → i % 512 + n ≤ 512 → i + n ≤ len
        → part v i n ≡ zeros n
    lacking-part i n none page inside =
        ap (λ (ws : List ℕ). part ws i n) (sym view)
        ∙ lacks-part len numbers stored number_room word_room is i n none page inside

    pub lacking-cleared : (i n : ℕ) → page_begin numbers (i / 512) ≡ None → i % 512 + n ≤ 512 → i + n ≤ len
        → v ≡ overwrite v i (zeros n)
    lacking-cleared i n none page inside =
        sym view
        ∙ lacks-cleared len numbers stored number_room word_room is i n none page inside
        ∙ ap (λ (ws : List ℕ). overwrite ws i (zeros n)) view

    pub seen-cleared : (i begin n : ℕ) (new : List ℕ) → page_begin numbers (i / 512) ≡ Some begin → i % 512 + n ≤ 512
        → i + n ≤ len
        → new ≡ take (begin + i % 512) stored ++ (replicate n 0 ++ drop (begin + i % 512 + n) stored)
        → paged_words len numbers new ≡ overwrite v i (zeros n)
    unfolding zeros
    seen-cleared i begin n new b page inside written =
        let long : length (replicate {A = ℕ} n 0) ≡ n = length-replicate {A = ℕ} n 0 in
        seen-written i begin (replicate n 0) new b (omega arith) (omega arith)
        (written ∙ overwrite-long stored (replicate n 0) (begin + i % 512) n long)

    pub seen-moved : (start from_begin at begin n : ℕ) (new : List ℕ)
        → page_begin numbers (start / 512) ≡ Some from_begin
        → page_begin numbers (at / 512) ≡ Some begin → start % 512 + n ≤ 512 → at % 512 + n ≤ 512 → start + n ≤ len
        → at + n ≤ len
        → new ≡ take (begin + at % 512) stored
        ++ (take n (drop (from_begin + start % 512) stored) ++ drop (begin + at % 512 + n) stored)
        → paged_words len numbers new ≡ overwrite v at (part v start n)
    seen-moved start from_begin at begin n new from_b b from_page page from_in to_in written =
        let from = from_begin + start % 512 in
        let ys : List ℕ = part stored from n in
        let room = page-inside len numbers stored number_room word_room is (start / 512) from_begin from_b in
        let long : length ys ≡ n = length-take-le n (drop from stored) (omega (arith, length-drop from stored)) in
        seen-written at begin ys new b (omega arith) (omega arith)
        (written ∙ overwrite-long stored ys (begin + at % 512) n long)
        ∙ ap (λ (zs : List ℕ). overwrite v at zs) (seen-part start from_begin n from_b from_page from_in)

-- nothing is stored at first
pub none-stored : (len : ℕ) (numbers stored : List ℕ) → numbers ≡ [] → paged_words len numbers stored ≡ zeros len
unfolding zeros
none-stored len numbers stored none =
    paged-is len numbers stored (replicate len 0) (length-replicate {A = ℕ} len 0)
    (λ i l. word-lacks numbers stored i (ap (λ (ns : List ℕ). get_or ns (i / 512) 0) none)
    ∙ sym (get_or-zeros len i))

pub none-paged : (len : ℕ) (numbers stored : List ℕ) (number_room word_room : ℕ) → numbers ≡ [] → stored ≡ []
    → len % 512 ≡ 0 → len ≤ 512 * number_room → len ≤ word_room
    → IsPaged len numbers (length stored) number_room word_room
unfolding count_stored
none-paged len numbers stored number_room word_room none empty whole numbers_fit words_fit =
    let no_numbers : length numbers ≡ 0 = ap length none in
    let no_words : length stored ≡ 0 = ap length empty in
    let count : count_stored numbers ≡ 0 = ap count_stored none in
    let zero_at : (p : ℕ) → get_or numbers p 0 ≡ 0 = λ p. ap (λ (ns : List ℕ). get_or ns p 0) none in
    record {
      whole = whole;
      few = omega arith;
      counted = omega arith;
      inside = λ p. let z = zero_at p in omega (arith, z);
      apart = λ p q some same. let z = zero_at p in absurd (omega (arith, z, some));
      numbers_fit = numbers_fit;
      words_fit = words_fit;
    }

-- writes change no number of words and give no room back
pub still-paged : (len : ℕ) (numbers : List ℕ) (stored now number_room word_room room_now : ℕ)
    → IsPaged len numbers stored number_room word_room → now ≡ stored → word_room ≤ room_now
    → IsPaged len numbers now number_room room_now
still-paged len numbers stored now number_room word_room room_now is same more =
    let counted = is.counted in
    let fit = is.words_fit in
    record {
      whole = is.whole;
      few = is.few;
      counted = omega arith;
      inside = λ p. let inside = is.inside p in omega arith;
      apart = is.apart;
      numbers_fit = is.numbers_fit;
      words_fit = omega arith;
    }
