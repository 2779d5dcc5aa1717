-- The pieces of one tiling, the cuts through it, and pieces that tile once they are sorted.
use Rattle.std.proofs.Common.{◌≡◌, ℕ, ◌%◌, ◌<◌, ◌≤◌, ◌⊎◌, inl, inr, List, [], ◌∷◌, ◌++◌, sym, ap, subst, ◌∙◌, arith}
use Rattle.std.proofs.lemmas.Bool.{cases_lt}
use Rattle.std.specs.List.{AllByRecursion}
use Rattle.clr_types.specs.Rising.{IsIn, first, later, IsRisingBy}
use Rattle.clr_types.specs.Ranges.{Piece, piece_end, IsLawfulSize, Tiles, range_piece, gaps, by_place}
use Rattle.clr_types.specs.LawfulLayout.{DoesNotCross}
use Rattle.clr_types.proofs.RisingLists.{in_cons}
use Rattle.clr_types.proofs.Tilings.{filled, tiles-rise}
use Rattle.clr_types.proofs.ChangedLists.{sorted_by-done, rising-sorted, rising-distinct}
use Rattle.clr_types.proofs.Shuffles.{IsShuffled, under, followed, shuffled-same, shuffled-sym, shuffled-sorts}
use Rattle.clr_types.proofs.Shuffles.{shuffled-right, shuffled-behind, shuffled-turn}
use Rattle.clr_types.proofs.PieceGaps.{IsGapped}

-- a piece of a tiling: lawful, between its ends
pub record IsTile (low high : ℕ) (p : Piece) : Type 0 where
  pub size : IsLawfulSize p.size
  pub low_gap : IsGapped low p.place
  pub high_end : piece_end p ≤ high
  pub aligned : p.place % 8 ≡ low % 8

pub tile : (low high : ℕ) (ps : List Piece) (p : Piece) → Tiles low high ps → IsIn p ps → IsTile low high p
tile low high [] p t i = elim i [ ]
tile low high (q ∷ ps) p t i = go (in_cons i) (tile (piece_end q) high ps p t.2)
  where
    above : (x : ℕ) (qs : List Piece) → Tiles x high qs → x ≤ high
    above x [] t = let e : x ≡ high = t in omega arith
    above x (r ∷ qs) t = let a : r.place ≡ x = t.0 in let l : piece_end r ≤ high = above (piece_end r) qs t.2 in
        omega arith

    go : (p ≡ q) ⊎ IsIn p ps → (IsIn p ps → IsTile (piece_end q) high p) → IsTile low high p
    go (inl e) more =
        let at : q.place ≡ low = t.0 in
        let l : piece_end q ≤ high = above (piece_end q) ps t.2 in
        subst (IsTile low high) (sym e)
        (record { size = t.1; low_gap = inl (sym at); high_end = l; aligned = omega arith })
    go (inr j) more =
        let is : IsTile (piece_end q) high p = more j in
        let at : q.place ≡ low = t.0 in
        let s : IsLawfulSize q.size = t.1 in
        let g : IsGapped (piece_end q) p.place = is.low_gap in
        let a : p.place % 8 ≡ piece_end q % 8 = is.aligned in
        record { size = is.size; low_gap = inr (omega arith); high_end = is.high_end; aligned = omega arith }

-- between two pieces of a tiling is nothing or room for a free item
pub tiles-apart : (low high : ℕ) (ps : List Piece) (p q : Piece) → Tiles low high ps → IsIn p ps → IsIn q ps
    → p.place < q.place → IsGapped (piece_end p) q.place
tiles-apart low high ps p q t first first l = absurd (omega arith)
tiles-apart low high (r ∷ ps) p q t first (later j) l = (tile (piece_end p) high ps q t.2 j).low_gap
tiles-apart low high (r ∷ ps) p q t (later i) first l = let g : IsGapped (piece_end q) p.place =
    (tile (piece_end q) high ps p t.2 i).low_gap in absurd (omega arith)
tiles-apart low high (r ∷ ps) p q t (later i) (later j) l = tiles-apart (piece_end r) high ps p q t.2 i j l

-- up from a place that no piece crosses, too
pub tiles-cut : (low high : ℕ) (ps : List Piece) (x : ℕ) (p : Piece) → Tiles low high ps
    → AllByRecursion (DoesNotCross x) ps → low ≤ x → IsIn p ps → x ≤ p.place → IsGapped x p.place
tiles-cut low high [] x p t whole l i m = elim i [ ]
tiles-cut low high (q ∷ ps) x p t whole l i m =
    go (cases_lt low x) whole.0 (in_cons i) (λ n j. tiles-cut (piece_end q) high ps x p t.2 whole.1 n j m)
  where
    go : (low < x) ⊎ (x ≤ low) → (x ≤ q.place) ⊎ (piece_end q ≤ x) → (p ≡ q) ⊎ IsIn p ps
        → (piece_end q ≤ x → IsIn p ps → IsGapped x p.place) → IsGapped x p.place
    go (inr k) w j more = let e : low ≡ x = omega arith in
        subst (λ n. IsGapped n p.place) e (tile low high (q ∷ ps) p t i).low_gap
    go (inl k) (inl w) j more = let at : q.place ≡ low = t.0 in absurd (omega arith)
    go (inl k) (inr w) (inl e) more = let at : p.place ≡ q.place = ap (λ (r : Piece). r.place) e in
        let s : IsLawfulSize q.size = t.1 in absurd (omega arith)
    go (inl k) (inr w) (inr j) more = more w j

-- a tiled range is empty or has room for a free item
pub tiles-whole : (low high : ℕ) (ps : List Piece) → Tiles low high ps → IsGapped low high
tiles-whole low high [] t = inl t
tiles-whole low high (p ∷ ps) t = let at : p.place ≡ low = t.0 in let s : IsLawfulSize p.size = t.1 in
    let g : IsGapped (piece_end p) high = tiles-whole (piece_end p) high ps t.2 in inr (omega arith)

-- from a piece up to a place above it that no piece crosses
pub cut-above : (low high : ℕ) (ps : List Piece) (x : ℕ) (p : Piece) → Tiles low high ps
    → AllByRecursion (DoesNotCross x) ps → x ≤ high → IsIn p ps → piece_end p ≤ x → IsGapped (piece_end p) x
cut-above low high [] x p t whole l i m = elim i [ ]
cut-above low high (q ∷ ps) x p t whole l first m = from_end (piece_end q) ps t.2 whole.1 m
  where
    from_end : (y : ℕ) (rs : List Piece) → Tiles y high rs → AllByRecursion (DoesNotCross x) rs → y ≤ x → IsGapped y x
    from_end y [] t w k = let e : y ≡ high = t in inl (omega arith)
    from_end y (r ∷ rs) t w k = go w.0 (λ n. from_end (piece_end r) rs t.2 w.1 n)
      where
        go : (x ≤ r.place) ⊎ (piece_end r ≤ x) → (piece_end r ≤ x → IsGapped (piece_end r) x) → IsGapped y x
        go (inl n) more = let at : r.place ≡ y = t.0 in inl (omega arith)
        go (inr n) more = let at : r.place ≡ y = t.0 in let s : IsLawfulSize r.size = t.1 in
            let g : IsGapped (piece_end r) x = more n in inr (omega arith)
cut-above low high (q ∷ ps) x p t whole l (later i) m = cut-above (piece_end q) high ps x p t.2 whole.1 l i m

-- between two such places
pub cut-cut : (low high : ℕ) (ps : List Piece) (x y : ℕ) → Tiles low high ps → AllByRecursion (DoesNotCross x) ps
    → AllByRecursion (DoesNotCross y) ps → low ≤ x → x ≤ y → y ≤ high → IsGapped x y
cut-cut low high [] x y t v w a b c = let e : low ≡ high = t in inl (omega arith)
cut-cut low high (p ∷ ps) x y t v w a b c =
    go v.0 w.0 (cases_lt low x) (λ k. cut-cut (piece_end p) high ps x y t.2 v.1 w.1 k b c)
    (λ k. cut-above low high (p ∷ ps) y p t w c first k)
  where
    go : (x ≤ p.place) ⊎ (piece_end p ≤ x) → (y ≤ p.place) ⊎ (piece_end p ≤ y) → (low < x) ⊎ (x ≤ low)
        → (piece_end p ≤ x → IsGapped x y) → (piece_end p ≤ y → IsGapped (piece_end p) y) → IsGapped x y
    go (inr k) v2 o more up = more k
    go (inl k) (inl n) o more up = let at : p.place ≡ low = t.0 in inl (omega arith)
    go (inl k) (inr n) o more up = let at : p.place ≡ low = t.0 in let s : IsLawfulSize p.size = t.1 in
        let g : IsGapped (piece_end p) y = up n in inr (omega arith)

pub shuffled-filled : (low high : ℕ) (ps : List Piece) → IsShuffled (ps ++ gaps low high ps) (filled low high ps)
shuffled-filled low high [] = shuffled-same (range_piece low high)
shuffled-filled low high (p ∷ ps) =
    followed (under (followed (shuffled-turn ps (range_piece low p.place) (gaps (piece_end p) high ps))
    (shuffled-right (range_piece low p.place) (shuffled-filled (piece_end p) high ps))))
    (shuffled-behind p (range_piece low p.place) (filled (piece_end p) high ps))

-- what shuffles to a tiling tiles when sorted
pub shuffled-tiles : (low high : ℕ) (xs ys : List Piece) → IsShuffled xs ys → Tiles low high ys
    → Tiles low high (by_place xs)
shuffled-tiles low high xs ys s t =
    let rise : IsRisingBy (λ (p : Piece). p.place) ys = tiles-rise low high ys t in
    subst (Tiles low high) (sym (sym
    (shuffled-sorts (λ (p : Piece). p.place) (shuffled-sym s) (rising-distinct (λ (p : Piece). p.place) ys rise))
    ∙ sorted_by-done (λ (p : Piece). p.place) ys (rising-sorted (λ (p : Piece). p.place) ys rise))) t

-- the high end of a tiling is a multiple of 8 where the low end is
pub tiles-aligned : (low high : ℕ) (ps : List Piece) → Tiles low high ps → high % 8 ≡ low % 8
tiles-aligned low high [] t = let e : low ≡ high = t in omega arith
tiles-aligned low high (p ∷ ps) t = let at : p.place ≡ low = t.0 in let s : IsLawfulSize p.size = t.1 in
    let r : high % 8 ≡ piece_end p % 8 = tiles-aligned (piece_end p) high ps t.2 in omega arith
