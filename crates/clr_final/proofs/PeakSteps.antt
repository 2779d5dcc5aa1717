-- Peaks of chunks, and lists that are moved down.
use Rattle.std.proofs.Common.{◌≡◌, ◌⊎◌, ℕ, ◌+◌, ◌-◌, ◌*◌, ◌<◌, ◌≤◌, ◌++◌, List, [], ◌∷◌, length, take, drop, get_or}
use Rattle.std.proofs.Common.{inl, inr, sym, ap, ◌∙◌, arith}
use Rattle.std.proofs.lemmas.Bool.{cases_lt}
use Rattle.std.proofs.lemmas.List.{get_or-take, get_or-drop, get_or_append_left, get_or_push, length-take, length-drop}
use Rattle.std.proofs.lemmas.List.{length-append}
use Rattle.std.proofs.lemmas.Grind.{same_number_lists}
use Rattle.clr_final.specs.Places.{ArePeaks}

-- a chunk more, whose peak is above the last one and above each of its places
pub peaks-more : (items peaks : List ℕ) (below peak n : ℕ) → ArePeaks items peaks → n ≡ length peaks
    → 64 * length peaks + 64 ≤ length items → below ≡ get_or peaks (length peaks - 1) 0 → below ≤ peak
    → ((i : ℕ) → i < length (take (64 * n + 64 - 64 * n) (drop (64 * n) items))
    → get_or (take (64 * n + 64 - 64 * n) (drop (64 * n) items)) i 0 ≤ peak)
    → ArePeaks items (peaks ++ peak ∷ [])
peaks-more items peaks below peak n known count inside last higher each =
    record {
      whole = let more = length-append peaks (peak ∷ []) in omega (arith, more, inside);
      high = λ c i within low. high c i within low (cases_lt c (length peaks));
    }
  where
    -- a place of the new chunk
    here : (i : ℕ) → 64 * length peaks ≤ i → i < 64 * length peaks + 64 → get_or items i 0 ≤ peak
    here i from to =
        let k = i - 64 * n in
        let at : 64 * n + k ≡ i = omega (arith, count, from) in
        let cut : k < 64 * n + 64 - 64 * n = omega (arith, count, to, from) in
        let read : get_or (take (64 * n + 64 - 64 * n) (drop (64 * n) items)) k 0 ≡ get_or items i 0 =
        get_or-take (64 * n + 64 - 64 * n) (drop (64 * n) items) k 0 cut ∙ get_or-drop (64 * n) items k 0
        ∙ ap (λ j. get_or items j 0) at in
        let taken = length-take (64 * n + 64 - 64 * n) (drop (64 * n) items) in
        let dropped = length-drop (64 * n) items in
        let bound = each k (omega (arith, taken, dropped, count, inside, cut)) in
        omega (arith, read, bound)

    -- a place below it
    earlier : (i : ℕ) → i < 64 * length peaks → get_or items i 0 ≤ peak
    earlier i low =
        let old = known.high (length peaks - 1) i (omega (arith, low)) (omega (arith, low)) in
        omega (arith, old, last, higher)

    all : (i : ℕ) → i < 64 * length peaks + 64 → get_or items i 0 ≤ peak
    all i low = go (cases_lt i (64 * length peaks))
      where
        go : (i < 64 * length peaks) ⊎ (64 * length peaks ≤ i) → get_or items i 0 ≤ peak
        go (inl under) = earlier i under
        go (inr over) = here i over low

    high : (c i : ℕ) → c < length (peaks ++ peak ∷ []) → i < 64 * c + 64 → (c < length peaks) ⊎ (length peaks ≤ c)
        → get_or items i 0 ≤ get_or (peaks ++ peak ∷ []) c 0
    high c i within low (inl old) =
        let bound = known.high c i old low in
        let read = get_or_append_left peaks (peak ∷ []) 0 c old in
        omega (arith, bound, read)
    high c i within low (inr new) =
        let count' = length-append peaks (peak ∷ []) in
        let at : length peaks ≡ c = omega (arith, count', within, new) in
        let read = get_or_push peaks peak 0 c at in
        let bound = all i (omega (arith, at, low)) in
        omega (arith, read, bound)

-- a list whose items are moved down over the first n, and cut there
pub moved-down : (old now : List ℕ) (n left i : ℕ) → n ≤ length old → left ≡ length old - n → left ≤ i
    → length now ≡ length old → ((k : ℕ) → k < i → get_or now k 0 ≡ get_or old (n + k) 0)
    → take left now ≡ drop n old
moved-down old now n left i fits count reached same moved =
    let taken = length-take left now in
    let dropped = length-drop n old in
    same_number_lists (take left now) (drop n old) (omega (arith, taken, dropped, count, same, fits))
    (λ k inside.
    let less : k < left = omega (arith, inside, taken) in
    get_or-take left now k 0 less ∙ moved k (omega (arith, less, reached)) ∙ sym (get_or-drop n old k 0))
