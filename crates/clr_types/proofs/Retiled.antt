-- Tilings that are cut, shifted, refined and put together again.
use Rattle.std.proofs.Common.{◌≡◌, ℕ, ◌+◌, ◌-◌, ◌<◌, ◌≤◌, ◌⊎◌, inl, inr, List, [], ◌∷◌, ◌++◌, map, refl, sym, ap, subst}
use Rattle.std.proofs.Common.{◌∙◌, arith, if◌then◌else◌, filter, nat_lt}
use Rattle.std.proofs.lemmas.Bool.{ltb-true, lt-ltb, le-ltb, cases_lt}
use Rattle.std.specs.List.{AllByRecursion}
use Rattle.clr_types.specs.Rising.{IsIn, first, later, IsRisingBy}
use Rattle.clr_types.specs.Ranges.{Piece, piece_end, Tiles}
use Rattle.clr_types.specs.LawfulLayout.{DoesNotCross}
use Rattle.clr_types.proofs.SortedLists.{rising_agree_by}
use Rattle.clr_types.proofs.ChangedLists.{all_imply, append_left, into_filter, out_of_filter}
use Rattle.clr_types.proofs.ListMembers.{in_append, append_right}
use Rattle.clr_types.proofs.Tilings.{tiles-above, tiles-append, tiles-rise}

-- ---- cut

abbrev below : ℕ → List Piece → List Piece
below x = filter (λ p. nat_lt p.place x)

none-below : (x : ℕ) (ps : List Piece) → AllByRecursion (λ (p : Piece). x ≤ p.place) ps → below x ps ≡ []
none-below x [] h = refl
none-below x (p ∷ ps) h = ap (λ b. if b then p ∷ below x ps else below x ps) (le-ltb p.place x h.0)
    ∙ none-below x ps h.1

-- the pieces below a place that none crosses tile up to it
pub tiles-front : (low high : ℕ) (ps : List Piece) (x : ℕ) → Tiles low high ps → AllByRecursion (DoesNotCross x) ps
    → low ≤ x → x ≤ high → Tiles low x (filter (λ p. nat_lt p.place x) ps)
tiles-front low high [] x t whole l u = let e : low ≡ high = t in omega arith
tiles-front low high (p ∷ ps) x t whole l u =
    go (cases_lt p.place x) whole.0 (λ k. tiles-front (piece_end p) high ps x t.2 whole.1 k u)
  where
    go : (p.place < x) ⊎ (x ≤ p.place) → (x ≤ p.place) ⊎ (piece_end p ≤ x)
        → (piece_end p ≤ x → Tiles (piece_end p) x (below x ps))
        → Tiles low x (if nat_lt p.place x then p ∷ below x ps else below x ps)
    go (inl k) (inl n) more = absurd (omega arith)
    go (inl k) (inr n) more = subst (λ b. Tiles low x (if b then p ∷ below x ps else below x ps))
        (sym (lt-ltb p.place x k)) (t.0, t.1, more n)
    go (inr k) w more =
        let at : p.place ≡ low = t.0 in
        let same : low ≡ x = omega arith in
        let none : below x ps ≡ [] = none-below x ps
        (all_imply (λ (q : Piece). piece_end p ≤ q.place) (λ (q : Piece). x ≤ q.place) ps (λ q a. omega arith)
        (tiles-above (piece_end p) high ps t.2)) in
        subst (λ b. Tiles low x (if b then p ∷ below x ps else below x ps)) (sym (le-ltb p.place x k))
        (subst (λ qs. Tiles low x qs) (sym none) same)

-- each place of a tiling is in a piece of it
pub tiles-cover : (low high : ℕ) (ps : List Piece) → Tiles low high ps → (x : ℕ) → low ≤ x → x < high
    → (p : Piece) × IsIn p ps × (p.place ≤ x) × (x < piece_end p)
tiles-cover low high [] t x l u = let e : low ≡ high = t in absurd (omega arith)
tiles-cover low high (p ∷ ps) t x l u = go (cases_lt x (piece_end p)) (λ k. tiles-cover (piece_end p) high ps t.2 x k u)
  where
    go : (x < piece_end p) ⊎ (piece_end p ≤ x)
        → (piece_end p ≤ x → (q : Piece) × IsIn q ps × (q.place ≤ x) × (x < piece_end q))
        → (q : Piece) × IsIn q (p ∷ ps) × (q.place ≤ x) × (x < piece_end q)
    go (inl k) more = let at : p.place ≡ low = t.0 in (p, first, omega arith, k)
    go (inr k) more = let (q, i, a, b) = more k in (q, later i, a, b)

-- ---- shifted

-- a piece that moves with what stands from one place on to another place
abbrev pub shifted : ℕ → ℕ → Piece → Piece
shifted from to p = record { place = to + (p.place - from); size = p.size }

pub tiles-shifted : (from to low high : ℕ) (ps : List Piece) → from ≤ low → Tiles low high ps
    → Tiles (to + (low - from)) (to + (high - from)) (map (shifted from to) ps)
tiles-shifted from to low high [] l t = ap (λ n. to + (n - from)) t
tiles-shifted from to low high (p ∷ ps) l t =
    let at : p.place ≡ low = t.0 in
    let end : to + (piece_end p - from) ≡ piece_end (shifted from to p) = omega arith in (
      ap (λ n. to + (n - from)) t.0,
      t.1,
      subst (λ n. Tiles n (to + (high - from)) (map (shifted from to) ps)) end
          (tiles-shifted from to (piece_end p) high ps (omega arith) t.2),
    )

-- ---- refined

-- pieces in place of each piece
abbrev pub refined : (bs : List Piece) → ((b : Piece) → IsIn b bs → List Piece) → List Piece
refined [] parts = []
refined (b ∷ bs) parts = parts b first ++ refined bs (λ c i. parts c (later i))

-- where each piece is tiled, all is
pub tiles-refined : (low high : ℕ) (bs : List Piece) (parts : (b : Piece) → IsIn b bs → List Piece) → Tiles low high bs
    → ((b : Piece) (i : IsIn b bs) → Tiles b.place (piece_end b) (parts b i)) → Tiles low high (refined bs parts)
tiles-refined low high [] parts t each = t
tiles-refined low high (b ∷ bs) parts t each =
    tiles-append low (piece_end b) high (parts b first) (refined bs (λ c i. parts c (later i)))
    (subst (λ n. Tiles n (piece_end b) (parts b first)) t.0 (each b first))
    (tiles-refined (piece_end b) high bs (λ c i. parts c (later i)) t.2 (λ c i. each c (later i)))

pub out_of_refined : (bs : List Piece) (parts : (b : Piece) → IsIn b bs → List Piece) (x : Piece)
    → IsIn x (refined bs parts) → (b : Piece) × (i : IsIn b bs) × IsIn x (parts b i)
out_of_refined [] parts x i = elim i [ ]
out_of_refined (b ∷ bs) parts x i = go (in_append (parts b first) i) (out_of_refined bs (λ c i. parts c (later i)) x)
  where
    go : IsIn x (parts b first) ⊎ IsIn x (refined bs (λ c i. parts c (later i)))
        → (IsIn x (refined bs (λ c i. parts c (later i))) → (c : Piece) × (j : IsIn c bs) × IsIn x (parts c (later j)))
        → (c : Piece) × (j : IsIn c (b ∷ bs)) × IsIn x (parts c j)
    go (inl j) more = (b, first, j)
    go (inr j) more = let (c, k, n) = more j in (c, later k, n)

pub into_refined : (bs : List Piece) (parts : (b : Piece) → IsIn b bs
    → List Piece) (b : Piece) (i : IsIn b bs) (x : Piece) → IsIn x (parts b i) → IsIn x (refined bs parts)
into_refined [] parts b i x j = elim i [ ]
into_refined (c ∷ bs) parts b first x j = append_left (refined bs (λ c i. parts c (later i))) j
into_refined (c ∷ bs) parts b (later i) x j =
    append_right (parts c first) (into_refined bs (λ c i. parts c (later i)) b i x j)

-- ---- put together

-- Pieces that are the old ones below a cut, and those of another tiling from there on, tile the whole.
pub retiled : (low high cut end : ℕ) (old more all : List Piece) → Tiles low high old
    → AllByRecursion (DoesNotCross cut) old → low ≤ cut → cut ≤ high → Tiles cut end more
    → IsRisingBy (λ (p : Piece). p.place) all
    → ((x : Piece) → IsIn x old → x.place < cut → IsIn x all) → ((x : Piece) → IsIn x more → IsIn x all)
    → ((x : Piece) → IsIn x all → (IsIn x old × (x.place < cut)) ⊎ IsIn x more) → Tiles low end all
retiled low high cut end old more all t whole l u n rise old_in more_in out =
    subst (Tiles low end) (sym same) tiles
  where
    kept : List Piece
    kept = below cut old

    tiles : Tiles low end (below cut old ++ more)
    tiles = tiles-append low cut end (below cut old) more (tiles-front low high old cut t whole l u) n

    into : (x : Piece) → (IsIn x old × (x.place < cut)) ⊎ IsIn x more → IsIn x (below cut old ++ more)
    into x (inl (i, k)) = append_left more
        (into_filter (λ (p : Piece). nat_lt p.place cut) old (lt-ltb x.place cut k) i)
    into x (inr i) = append_right (below cut old) i

    back : (x : Piece) → IsIn x (below cut old) ⊎ IsIn x more → IsIn x all
    back x (inl i) = let (e, j) = out_of_filter (λ (p : Piece). nat_lt p.place cut) x old i in
        old_in x j (ltb-true x.place cut e)
    back x (inr i) = more_in x i

    same : all ≡ below cut old ++ more
    same =
        rising_agree_by (λ (p : Piece). p.place) all (below cut old ++ more) rise
        (tiles-rise low end (below cut old ++ more) tiles)
        (λ x. (λ i. into x (out x i), λ i. back x (in_append (below cut old) i)))
