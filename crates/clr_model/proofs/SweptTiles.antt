-- What a sweep leaves of a condemned part tiles it up to its new end.
use Rattle.std.proofs.Common.{◌≡◌, ℕ, ◌+◌, ◌-◌, ◌%◌, ◌<◌, ◌≤◌, ◌⊎◌, inl, inr, List, [], ◌∷◌, ◌++◌, refl, sym, ap, subst}
use Rattle.std.proofs.Common.{◌∙◌, arith, Bool, true, false, if◌then◌else◌, ◌&&◌, nat_le, nat_lt, min, append_assoc}
use Rattle.std.proofs.lemmas.Bool.{and_parts, and_from, leb-true, ltb-true, le-leb, lt-ltb, le-ltb, lt-leb, cases_lt}
use Rattle.std.proofs.lemmas.Bool.{cases_order, and_left, and_right}
use Rattle.std.specs.List.{AllByRecursion, flat_map}
use Rattle.clr_types.specs.Rising.{IsIn, first, later, IsRisingBy}
use Rattle.clr_types.specs.Ranges.{Piece, piece_end, IsLawfulSize, Tiles, gaps, end_of_last, by_place}
use Rattle.clr_types.proofs.RisingLists.{in_cons, all_at}
use Rattle.clr_types.proofs.Tilings.{IsGap, IsSpaced, filled, tiles-filled, tiles-append}
use Rattle.clr_model.specs.Sweep.{Section, pieces_between}
use Rattle.clr_types.specs.LawfulLayout.{DoesNotCross}
use Rattle.clr_types.proofs.PieceGaps.{IsGapped}
use Rattle.clr_types.proofs.ListMembers.{rising_same, append_right, filter-rises}
use Rattle.clr_types.proofs.ChangedLists.{into_filter, out_of_filter}
use Rattle.clr_types.proofs.TilePieces.{IsTile, tile, tiles-apart, tiles-cut, cut-above, cut-cut, shuffled-filled}
use Rattle.clr_types.proofs.TilePieces.{shuffled-tiles}
use Rattle.clr_types.proofs.Shuffles.{IsShuffled, nothing, under, followed, shuffled-in, shuffled-left, shuffled-right}
use Rattle.clr_types.proofs.Shuffles.{shuffled-behind, shuffled-turn}

-- ---- the sections of a part

-- sections in a row, each from where the one before ends
abbrev pub chain : ℕ → List ℕ → List Section
chain lo [] = []
chain lo (hi ∷ his) = record { low = lo; high = hi } ∷ chain hi his

abbrev pub last_of : ℕ → List ℕ → ℕ
last_of lo [] = lo
last_of lo (hi ∷ his) = last_of hi his

-- r goes into the lists whose tests it passes
abbrev IsSplit : Piece → List Piece → List Piece → List Piece → Bool → Bool → Bool → Type 0
IsSplit r all low high t t1 t2 =
    IsShuffled (if t then r ∷ all else all) ((if t1 then r ∷ low else low) ++ (if t2 then r ∷ high else high))

split-between : (lo hi top : ℕ) (rs : List Piece) → lo ≤ hi → hi ≤ top
    → IsShuffled (pieces_between lo top rs) (pieces_between lo hi rs ++ pieces_between hi top rs)
split-between lo hi top [] l m = nothing
split-between lo hi top (r ∷ rs) l m =
    go (cases_lt r.place lo) (cases_lt r.place hi) (cases_lt r.place top) (split-between lo hi top rs l m)
  where
    by : (t t1 t2 : Bool) → (nat_le lo r.place && nat_lt r.place top) ≡ t
        → (nat_le lo r.place && nat_lt r.place hi) ≡ t1 → (nat_le hi r.place && nat_lt r.place top) ≡ t2
        → IsSplit r (pieces_between lo top rs) (pieces_between lo hi rs) (pieces_between hi top rs) t t1 t2
        → IsSplit r (pieces_between lo top rs) (pieces_between lo hi rs) (pieces_between hi top rs)
        (nat_le lo r.place && nat_lt r.place top) (nat_le lo r.place && nat_lt r.place hi)
        (nat_le hi r.place && nat_lt r.place top)
    by t t1 t2 e e1 e2 k =
        subst (λ b. IsSplit r (pieces_between lo top rs) (pieces_between lo hi rs) (pieces_between hi top rs) b
        (nat_le lo r.place && nat_lt r.place hi) (nat_le hi r.place && nat_lt r.place top)) (sym e)
        (subst (λ b. IsSplit r (pieces_between lo top rs) (pieces_between lo hi rs) (pieces_between hi top rs) t b
        (nat_le hi r.place && nat_lt r.place top)) (sym e1)
        (subst (λ b. IsSplit r (pieces_between lo top rs) (pieces_between lo hi rs) (pieces_between hi top rs) t t1 b)
        (sym e2) k))

    go : (r.place < lo) ⊎ (lo ≤ r.place) → (r.place < hi) ⊎ (hi ≤ r.place) → (r.place < top) ⊎ (top ≤ r.place)
        → IsShuffled (pieces_between lo top rs) (pieces_between lo hi rs ++ pieces_between hi top rs)
        → IsSplit r (pieces_between lo top rs) (pieces_between lo hi rs) (pieces_between hi top rs)
        (nat_le lo r.place && nat_lt r.place top) (nat_le lo r.place && nat_lt r.place hi)
        (nat_le hi r.place && nat_lt r.place top)
    go (inl a) b c s =
        by false false false (and_left (nat_le lo r.place) (nat_lt r.place top) (lt-leb lo r.place a))
        (and_left (nat_le lo r.place) (nat_lt r.place hi) (lt-leb lo r.place a))
        (and_left (nat_le hi r.place) (nat_lt r.place top) (lt-leb hi r.place (omega arith))) s
    go (inr a) (inl b) c s =
        by true true false (and_from (nat_le lo r.place) (nat_lt r.place top) (le-leb lo r.place a)
        (lt-ltb r.place top (omega arith)))
        (and_from (nat_le lo r.place) (nat_lt r.place hi) (le-leb lo r.place a) (lt-ltb r.place hi b))
        (and_left (nat_le hi r.place) (nat_lt r.place top) (lt-leb hi r.place b)) (under s)
    go (inr a) (inr b) (inl c) s =
        by true false true (and_from (nat_le lo r.place) (nat_lt r.place top) (le-leb lo r.place a)
        (lt-ltb r.place top c)) (and_right (nat_le lo r.place) (nat_lt r.place hi) (le-ltb r.place hi b))
        (and_from (nat_le hi r.place) (nat_lt r.place top) (le-leb hi r.place b) (lt-ltb r.place top c))
        (followed (under s) (shuffled-behind r (pieces_between lo hi rs) (pieces_between hi top rs)))
    go (inr a) (inr b) (inr c) s =
        by false false false (and_right (nat_le lo r.place) (nat_lt r.place top) (le-ltb r.place top c))
        (and_right (nat_le lo r.place) (nat_lt r.place hi) (le-ltb r.place hi b))
        (and_right (nat_le hi r.place) (nat_lt r.place top) (le-ltb r.place top c)) s

-- pieces of a tiled segment that stay, the places that cut it, and where its last such piece ends
pub record AreKept (low high start : ℕ) (ps qs : List Piece) : Type 0 where
  pub tiled : Tiles low high ps
  pub aligned : low % 8 ≡ 0
  pub rise : IsRisingBy (λ (p : Piece). p.place) qs
  pub sub : (q : Piece) → IsIn q qs → IsIn q ps
  pub above : (q : Piece) → IsIn q qs → start ≤ q.place

pub record IsCut (low high : ℕ) (ps : List Piece) (x : ℕ) : Type 0 where
  pub whole : AllByRecursion (DoesNotCross x) ps
  pub low_end : low ≤ x
  pub high_end : x ≤ high
  pub aligned : x % 8 ≡ 0

module _ (low high start : ℕ) (ps qs : List Piece) (h : AreKept low high start ps qs)
    (startcut : IsCut low high ps start) where
  abbrev end : ℕ
  end = end_of_last start qs

  is_tile : (q : Piece) → IsIn q qs → IsTile low high q
  is_tile q i = tile low high ps q h.tiled (h.sub q i)

  q-aligned : (q : Piece) → IsIn q qs → q.place % 8 ≡ 0
  q-aligned q i = let t : IsTile low high q = is_tile q i in let a : q.place % 8 ≡ low % 8 = t.aligned in
      let b = h.aligned in omega arith

  -- all end at the end or below, which is where the last one ends
  last-one : (x : ℕ) (rs : List Piece)
      → (end_of_last x rs ≡ x) ⊎ ((q : Piece) × IsIn q rs × (end_of_last x rs ≡ piece_end q))
  last-one x [] = inl refl
  last-one x (r ∷ rs) = go (last-one (piece_end r) rs)
    where
      go : (end_of_last (piece_end r) rs ≡ piece_end r)
          ⊎ ((q : Piece) × IsIn q rs × (end_of_last (piece_end r) rs ≡ piece_end q))
          → (end_of_last (piece_end r) rs ≡ x)
          ⊎ ((q : Piece) × IsIn q (r ∷ rs) × (end_of_last (piece_end r) rs ≡ piece_end q))
      go (inl e) = inr (r, first, e)
      go (inr (q, i, e)) = inr (q, later i, e)

  last-up : (x : ℕ) (rs : List Piece) → ((r : Piece) → IsIn r rs → IsIn r qs) → IsRisingBy (λ (p : Piece). p.place) rs
      → ((r : Piece) → IsIn r rs → x ≤ r.place)
      → (x ≤ end_of_last x rs) × ((q : Piece) → IsIn q rs → piece_end q ≤ end_of_last x rs)
  last-up x [] sub rise above = (omega arith, λ q i. elim i [ ])
  last-up x (r ∷ rs) sub rise above =
      let next : (q : Piece) → IsIn q rs
      → piece_end r ≤ q.place = λ q i. let b : r.place < q.place =
      all_at (λ (p : Piece). r.place < p.place) i rise.0 in
      let g : IsGapped (piece_end r) q.place =
      tiles-apart low high ps r q h.tiled (h.sub r (sub r first)) (h.sub q (sub q (later i))) b in omega arith in
      let (up, all) = last-up (piece_end r) rs (λ q i. sub q (later i)) rise.1 next in
      let l : x ≤ r.place = above r first in
      (omega arith, λ q i. go q (in_cons i) up all)
    where
      go : (q : Piece) → (q ≡ r) ⊎ IsIn q rs → piece_end r ≤ end_of_last (piece_end r) rs
          → ((q : Piece) → IsIn q rs → piece_end q ≤ end_of_last (piece_end r) rs)
          → piece_end q ≤ end_of_last (piece_end r) rs
      go q (inl e) up all = let same : piece_end q ≡ piece_end r = ap (λ (p : Piece). p.place + p.size) e in omega arith
      go q (inr i) up all = all q i

  pub end-up : start ≤ end
  end-up = (last-up start qs (λ r i. i) h.rise h.above).0

  pub end-all : (q : Piece) → IsIn q qs → piece_end q ≤ end
  end-all = (last-up start qs (λ r i. i) h.rise h.above).1

  pub end-under : end ≤ high
  end-under = go (last-one start qs)
    where
      go : (end ≡ start) ⊎ ((q : Piece) × IsIn q qs × (end ≡ piece_end q)) → end ≤ high
      go (inl e) = let l = startcut.high_end in omega arith
      go (inr (q, i, e)) = let t : piece_end q ≤ high = (is_tile q i).high_end in omega arith

  end-aligned : end % 8 ≡ 0
  end-aligned = go (last-one start qs)
    where
      go : (end ≡ start) ⊎ ((q : Piece) × IsIn q qs × (end ≡ piece_end q)) → end % 8 ≡ 0
      go (inl e) = let l = startcut.aligned in omega arith
      go (inr (q, i, e)) = let a = q-aligned q i in let s : IsLawfulSize q.size = (is_tile q i).size in omega arith

  -- pieces of which any two, and the ends, lie apart
  spaced-in : (x y : ℕ) (rs : List Piece) → ((r : Piece) → IsIn r rs → IsIn r qs)
      → IsRisingBy (λ (p : Piece). p.place) rs → x % 8 ≡ 0 → y % 8 ≡ 0 → IsGapped x y
      → ((r : Piece) → IsIn r rs → IsGapped x r.place × IsGapped (piece_end r) y) → IsSpaced x y rs
  spaced-in x y [] sub rise a b g all = gap x y a b g
    where
      gap : (x y : ℕ) → x % 8 ≡ 0 → y % 8 ≡ 0 → IsGapped x y → IsGap x y
      gap x y a b (inl e) = inl e
      gap x y a b (inr l) = inr (omega arith, (omega arith, omega arith))
  spaced-in x y (r ∷ rs) sub rise a b g all =
      let at = q-aligned r (sub r first) in
      let size : IsLawfulSize r.size = (is_tile r (sub r first)).size in (
        gap x r.place a at (all r first).0,
        size,
        spaced-in (piece_end r) y rs (λ q i. sub q (later i)) rise.1 (omega arith) b (all r first).1
            (λ q i. (
              tiles-apart low high ps r q h.tiled (h.sub r (sub r first)) (h.sub q (sub q (later i)))
                  (all_at (λ (p : Piece). r.place < p.place) i rise.0),
              (all q (later i)).1,
            )),
      )
    where
      gap : (x y : ℕ) → x % 8 ≡ 0 → y % 8 ≡ 0 → IsGapped x y → IsGap x y
      gap x y a b (inl e) = inl e
      gap x y a b (inr l) = inr (omega arith, (omega arith, omega arith))

  abbrev between : ℕ → ℕ → List Piece
  between lo hi = pieces_between lo hi qs

  in-between : (lo hi : ℕ) (q : Piece) → IsIn q (between lo hi) → (lo ≤ q.place) × (q.place < hi) × IsIn q qs
  in-between lo hi q i =
      let (t, j) = out_of_filter (λ (p : Piece). nat_le lo p.place && nat_lt p.place hi) q qs i in
      let (a, b) = and_parts (nat_le lo q.place) (nat_lt q.place hi) t in
      (leb-true lo q.place a, ltb-true q.place hi b, j)

  into-between : (lo hi : ℕ) (q : Piece) → lo ≤ q.place → q.place < hi → IsIn q qs → IsIn q (between lo hi)
  into-between lo hi q a b i = into_filter (λ (p : Piece). nat_le lo p.place && nat_lt p.place hi) qs
      (and_from (nat_le lo q.place) (nat_lt q.place hi) (le-leb lo q.place a) (lt-ltb q.place hi b)) i

  not-crossed : (x : ℕ) → IsCut low high ps x → (q : Piece) → IsIn q qs → (x ≤ q.place) ⊎ (piece_end q ≤ x)
  not-crossed x cut q i = all_at (DoesNotCross x) (h.sub q i) cut.whole

  section-tiles : (lo hi : ℕ) → IsCut low high ps lo → IsCut low high ps hi → start ≤ lo → lo ≤ hi
      → Tiles (min lo end) (min hi end) (filled lo (min hi end) (between lo hi))
  section-tiles lo hi cl ch s l = go (cases_lt lo end) (cases_lt hi end)
    where
      rises : IsRisingBy (λ (p : Piece). p.place) (between lo hi)
      rises = filter-rises (λ (p : Piece). nat_le lo p.place && nat_lt p.place hi) (λ (p : Piece). p.place) qs h.rise

      sub : (r : Piece) → IsIn r (between lo hi) → IsIn r qs
      sub r i = (in-between lo hi r i).2

      low_gap : (r : Piece) → IsIn r (between lo hi) → IsGapped lo r.place
      low_gap r i = tiles-cut low high ps lo r h.tiled cl.whole cl.low_end (h.sub r (sub r i)) (in-between lo hi r i).0

      high_gap : (r : Piece) → IsIn r (between lo hi) → IsGapped (piece_end r) hi
      high_gap r i = split (not-crossed hi ch r (sub r i))
        where
          split : (hi ≤ r.place) ⊎ (piece_end r ≤ hi) → IsGapped (piece_end r) hi
          split (inl k) = let b : r.place < hi = (in-between lo hi r i).1 in absurd (omega arith)
          split (inr k) = cut-above low high ps hi r h.tiled ch.whole ch.high_end (h.sub r (sub r i)) k

      -- the last piece of all, above the low place
      last : lo < end → (q : Piece) × IsIn q qs × (end ≡ piece_end q)
      last k = pick (last-one start qs)
        where
          pick : (end ≡ start) ⊎ ((q : Piece) × IsIn q qs × (end ≡ piece_end q))
              → (q : Piece) × IsIn q qs × (end ≡ piece_end q)
          pick (inl e) = absurd (omega arith)
          pick (inr q) = q

      to_end : (k : lo < end) → (r : Piece) → IsIn r qs → IsGapped (piece_end r) end
      to_end k r i = let (q, j, e) = last k in by q j e (cases_order r.place q.place)
        where
          by : (q : Piece) → IsIn q qs → end ≡ piece_end q
              → (r.place ≡ q.place) ⊎ ((r.place < q.place) ⊎ (q.place < r.place)) → IsGapped (piece_end r) end
          by q j e (inl same) = inl (ap (λ (p : Piece). p.place + p.size)
              (rising_same (λ (p : Piece). p.place) qs r q h.rise i j same) ∙ sym e)
          by q j e (inr (inl b)) = let g : IsGapped (piece_end r) q.place =
              tiles-apart low high ps r q h.tiled (h.sub r i) (h.sub q j) b in
              let z : IsLawfulSize q.size = (is_tile q j).size in inr (omega arith)
          by q j e (inr (inr b)) =
              let g : IsGapped (piece_end q) r.place = tiles-apart low high ps q r h.tiled (h.sub q j) (h.sub r i) b in
              let z : IsLawfulSize r.size = (is_tile r i).size in
              let u : piece_end r ≤ end = end-all r i in
              absurd (omega arith)

      lo_to_end : lo < end → IsGapped lo end
      lo_to_end k = from (last k)
        where
          from : (q : Piece) × IsIn q qs × (end ≡ piece_end q) → IsGapped lo end
          from (q, j, e) = split (not-crossed lo cl q j)
            where
              split : (lo ≤ q.place) ⊎ (piece_end q ≤ lo) → IsGapped lo end
              split (inl n) = let g : IsGapped lo q.place =
                  tiles-cut low high ps lo q h.tiled cl.whole cl.low_end (h.sub q j) n in
                  let z : IsLawfulSize q.size = (is_tile q j).size in inr (omega arith)
              split (inr n) = absurd (omega arith)

      empty : end ≤ lo → between lo hi ≡ []
      empty k = none (between lo hi) (λ r i. let a : piece_end r ≤ end = end-all r (sub r i) in
          let b : lo ≤ r.place = (in-between lo hi r i).0 in let z : IsLawfulSize r.size = (is_tile r (sub r i)).size in
          omega arith)
        where
          none : (rs : List Piece) → ((r : Piece) → IsIn r rs → ⊥) → rs ≡ []
          none [] f = refl
          none (r ∷ rs) f = absurd (f r first)

      retile : (a b : ℕ) → min lo end ≡ a → min hi end ≡ b → Tiles a b (filled lo b (between lo hi))
          → Tiles (min lo end) (min hi end) (filled lo (min hi end) (between lo hi))
      retile a b e f t = subst (λ n. Tiles n (min hi end) (filled lo (min hi end) (between lo hi))) (sym e)
          (subst (λ n. Tiles a n (filled lo n (between lo hi))) (sym f) t)

      go : (lo < end) ⊎ (end ≤ lo) → (hi < end) ⊎ (end ≤ hi)
          → Tiles (min lo end) (min hi end) (filled lo (min hi end) (between lo hi))
      go (inl a) (inl b) = retile lo hi (omega arith) (omega arith)
          (tiles-filled lo hi (between lo hi)
          (spaced-in lo hi (between lo hi) sub rises cl.aligned ch.aligned
          (cut-cut low high ps lo hi h.tiled cl.whole ch.whole cl.low_end l ch.high_end)
          (λ r i. (low_gap r i, high_gap r i))))
      go (inl a) (inr b) = retile lo end (omega arith) (omega arith)
          (tiles-filled lo end (between lo hi)
          (spaced-in lo end (between lo hi) sub rises cl.aligned end-aligned (lo_to_end a)
          (λ r i. (low_gap r i, to_end a r (sub r i)))))
      go (inr a) b = retile end end (omega arith) (omega arith)
          (subst (λ rs. Tiles end end (filled lo end rs)) (sym (empty a))
          (subst (λ b. Tiles end end (if b then record { place = lo; size = end - lo } ∷ [] else []))
          (sym (le-ltb lo end a)) refl))

  -- ---- sections in a row

  abbrev section_filled : Section → List Piece
  section_filled s = filled s.low (min s.high end) (between s.low s.high)

  abbrev section_gaps : Section → List Piece
  section_gaps s = gaps s.low (min s.high end) (between s.low s.high)

  -- each a cut, none below the one before
  abbrev pub AreCuts : ℕ → List ℕ → Type 0
  AreCuts lo [] = IsCut low high ps lo
  AreCuts lo (hi ∷ his) = IsCut low high ps lo × (lo ≤ hi) × AreCuts hi his

  first-cut : (lo : ℕ) (his : List ℕ) → AreCuts lo his → IsCut low high ps lo
  first-cut lo [] c = c
  first-cut lo (hi ∷ his) c = c.0

  chain-tiles : (lo : ℕ) (his : List ℕ) → AreCuts lo his → start ≤ lo
      → Tiles (min lo end) (min (last_of lo his) end) (flat_map section_filled (chain lo his))
  chain-tiles lo [] c s = refl
  chain-tiles lo (hi ∷ his) c s =
      let l : lo ≤ hi = c.1 in
      tiles-append (min lo end) (min hi end) (min (last_of hi his) end)
      (section_filled (record { low = lo; high = hi })) (flat_map section_filled (chain hi his))
      (section-tiles lo hi c.0 (first-cut hi his c.2) s c.1) (chain-tiles hi his c.2 (omega arith))

  chain-up : (lo : ℕ) (his : List ℕ) → AreCuts lo his → lo ≤ last_of lo his
  chain-up lo [] c = omega arith
  chain-up lo (hi ∷ his) c = let l : lo ≤ hi = c.1 in let m : hi ≤ last_of hi his = chain-up hi his c.2 in omega arith

  chain-shuffled : (lo : ℕ) (his : List ℕ) → AreCuts lo his
      → IsShuffled (between lo (last_of lo his) ++ flat_map section_gaps (chain lo his))
      (flat_map section_filled (chain lo his))
  chain-shuffled lo [] c = subst (λ rs. IsShuffled (rs ++ []) [])
      (sym (no_between (between lo lo) (λ r i. in-between lo lo r i))) nothing
    where
      no_between : (rs : List Piece) → ((r : Piece) → IsIn r rs → (lo ≤ r.place) × (r.place < lo) × IsIn r qs) → rs ≡ []
      no_between [] f = refl
      no_between (r ∷ rs) f = let (a, b, i) = f r first in absurd (omega arith)
  chain-shuffled lo (hi ∷ his) c =
      let b1 : List Piece = between lo hi in
      let b2 : List Piece = between hi (last_of hi his) in
      let g1 : List Piece = section_gaps (record { low = lo; high = hi }) in
      let g2 : List Piece = flat_map section_gaps (chain hi his) in
      let f1 : List Piece = section_filled (record { low = lo; high = hi }) in
      let f2 : List Piece = flat_map section_filled (chain hi his) in
      followed (shuffled-left (g1 ++ g2) (split-between lo hi (last_of hi his) qs c.1 (chain-up hi his c.2)))
      (subst (λ ws. IsShuffled ws (f1 ++ f2)) (sym (append_assoc b1 b2 (g1 ++ g2)))
      (followed (shuffled-right b1 (shuffled-turn b2 g1 g2))
      (subst (λ ws. IsShuffled ws (f1 ++ f2)) (append_assoc b1 g1 (b2 ++ g2))
      (followed (shuffled-left (b2 ++ g2) (shuffled-filled lo (min hi end) (between lo hi)))
      (shuffled-right f1 (chain-shuffled hi his c.2))))))

  all-between : (lo hi : ℕ) (rs : List Piece) → ((r : Piece) → IsIn r rs → (lo ≤ r.place) × (r.place < hi))
      → pieces_between lo hi rs ≡ rs
  all-between lo hi [] f = refl
  all-between lo hi (r ∷ rs) f =
      let (a, b) = f r first in
      ap (λ t. if t then r ∷ pieces_between lo hi rs else pieces_between lo hi rs)
      (and_from (nat_le lo r.place) (nat_lt r.place hi) (le-leb lo r.place a) (lt-ltb r.place hi b))
      ∙ ap (λ ws. r ∷ ws) (all-between lo hi rs (λ q i. f q (later i)))

  -- The pieces that stay and the gaps in the sections tile the part up to the end of the last piece.
  pub sections-tile : (his : List ℕ) → AreCuts start his → last_of start his ≡ high
      → Tiles start end (by_place (qs ++ flat_map section_gaps (chain start his)))
  sections-tile his c e =
      shuffled-tiles start end (qs ++ flat_map section_gaps (chain start his))
      (flat_map section_filled (chain start his))
      (subst (λ rs. IsShuffled (rs ++ flat_map section_gaps (chain start his))
      (flat_map section_filled (chain start his))) whole (chain-shuffled start his c))
      (subst (λ n. Tiles start n (flat_map section_filled (chain start his))) top
      (subst (λ n. Tiles n (min (last_of start his) end) (flat_map section_filled (chain start his))) bottom
      (chain-tiles start his c (omega arith))))
    where
      bottom : min start end ≡ start
      bottom = let l = end-up in omega arith

      top : min (last_of start his) end ≡ end
      top = let l = end-under in omega arith

      whole : between start (last_of start his) ≡ qs
      whole = all-between start (last_of start his) qs (λ r i. let a : start ≤ r.place = h.above r i in
          let b : piece_end r ≤ high = (is_tile r i).high_end in let z : IsLawfulSize r.size = (is_tile r i).size in
          (a, omega arith))

  -- a gap of one section is a lawful free item inside it
  pub section-gap : (lo hi : ℕ) → IsCut low high ps lo → IsCut low high ps hi → start ≤ lo → lo ≤ hi → (g : Piece)
      → IsIn g (section_gaps (record { low = lo; high = hi })) → IsTile (min lo end) (min hi end) g
  section-gap lo hi cl ch s l g i =
      tile (min lo end) (min hi end) (section_filled (record { low = lo; high = hi })) g (section-tiles lo hi cl ch s l)
      (shuffled-in g (shuffled-filled lo (min hi end) (between lo hi)) (append_right (between lo hi) i))
