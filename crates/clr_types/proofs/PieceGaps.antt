-- Pieces that rise, apart, with lawful gaps: with those gaps they tile.
use Rattle.std.proofs.Common.{◌≡◌, ℕ, ◌+◌, ◌-◌, ◌%◌, ◌<◌, ◌≤◌, ◌⊎◌, inl, inr, List, [], ◌∷◌, ◌++◌, refl, sym, ap, subst}
use Rattle.std.proofs.Common.{◌∙◌, arith, Bool, true, false, if◌then◌else◌, nat_lt}
use Rattle.std.proofs.lemmas.Bool.{ltb-true, le-ltb}
use Rattle.clr_types.specs.Rising.{IsIn, first, later, IsRisingBy}
use Rattle.clr_types.specs.Ranges.{Piece, piece_end, IsLawfulSize, Tiles, range_piece, gaps, end_of_last, by_place}
use Rattle.clr_types.proofs.RisingLists.{in_cons, all_at}
use Rattle.clr_types.proofs.Tilings.{IsGap, IsSpaced, filled, tiles-filled, tiles-rise}
use Rattle.clr_types.proofs.SortedLists.{IsDistinctBy, sorted_by-unique}
use Rattle.clr_types.proofs.ChangedLists.{rising-distinct, append_left}
use Rattle.clr_types.proofs.ListMembers.{in_append, append_right, distinct_append, rising_append}

-- nothing, or room for a free item, between two places
abbrev pub IsGapped : ℕ → ℕ → Type 0
IsGapped low high = (low ≡ high) ⊎ (low + 24 ≤ high)

-- the place is the low end, or a piece ends there
abbrev pub IsEnd : ℕ → List Piece → ℕ → Type 0
IsEnd low ps place = (place ≡ low) ⊎ ((a : Piece) × IsIn a ps × (piece_end a ≡ place))

-- what lies before a piece of the list: the low end or another piece, at once, or a lawful gap up to any of them
abbrev pub IsJoined : ℕ → List Piece → Piece → Type 0
IsJoined low ps b = IsEnd low ps b.place
    ⊎ (IsGapped low b.place × ((a : Piece) → IsIn a ps → piece_end a ≤ b.place → IsGapped (piece_end a) b.place))

pub record AreBlocks (low : ℕ) (ps : List Piece) : Type 0 where
  pub rise : IsRisingBy (λ (p : Piece). p.place) ps
  pub apart : (a b : Piece) → IsIn a ps → IsIn b ps → a.place < b.place → piece_end a ≤ b.place
  pub lawful : (a : Piece) → IsIn a ps → IsLawfulSize a.size
  pub aligned : (a : Piece) → IsIn a ps → a.place % 8 ≡ 0
  pub above : (a : Piece) → IsIn a ps → low ≤ a.place
  pub start : low % 8 ≡ 0
  pub joined : (b : Piece) → IsIn b ps → IsJoined low ps b

-- a gap between pieces: right before a piece that begins at no end, apart from all
pub record IsGapPiece (low : ℕ) (ps : List Piece) (g : Piece) : Type 0 where
  pub lawful : IsLawfulSize g.size
  pub before : Piece
  pub among : IsIn before ps
  pub ends : piece_end g ≡ before.place
  pub free : (c : Piece) → IsIn c ps → (piece_end c ≤ g.place) ⊎ (piece_end g ≤ c.place)
  pub not_end : IsEnd low ps before.place → ⊥
  pub start : low ≤ g.place
  pub aligned : g.place % 8 ≡ 0

gap_of : (low high : ℕ) → low % 8 ≡ 0 → high % 8 ≡ 0 → IsGapped low high → IsGap low high
gap_of low high e f (inl same) = inl same
gap_of low high e f (inr far) = inr (omega arith, (omega arith, omega arith))

module _ (low : ℕ) (ps : List Piece) (h : AreBlocks low ps) where
  -- all pieces end at x or below it, or are among qs
  abbrev IsPast : ℕ → List Piece → Type 0
  IsPast x qs = (c : Piece) → IsIn c ps → (piece_end c ≤ x) ⊎ IsIn c qs

  end_aligned : (x : ℕ) → IsEnd low ps x → x % 8 ≡ 0
  end_aligned x (inl e) = let s : low % 8 ≡ 0 = h.start in omega arith
  end_aligned x (inr (a, i, e)) = let at : a.place % 8 ≡ 0 = h.aligned a i in
      let size : IsLawfulSize a.size = h.lawful a i in omega arith

  -- where a piece begins at an end, that is the end right before it
  end_before : (x : ℕ) (b : Piece) (qs : List Piece) → IsRisingBy (λ (p : Piece). p.place) (b ∷ qs) → low ≤ x
      → x ≤ b.place → IsPast x (b ∷ qs) → IsEnd low ps b.place → x ≡ b.place
  end_before x b qs rise up under past (inl e) = omega arith
  end_before x b qs rise up under past (inr (a, j, e)) = behind (past a j)
    where
      among : (a ≡ b) ⊎ IsIn a qs → x ≡ b.place
      among (inl same) = let size : IsLawfulSize a.size = h.lawful a j in
          let at : a.place ≡ b.place = ap (λ (p : Piece). p.place) same in absurd (omega arith)
      among (inr k) = let higher : b.place < a.place = all_at (λ (p : Piece). b.place < p.place) k rise.0 in
          absurd (omega arith)

      behind : (piece_end a ≤ x) ⊎ IsIn a (b ∷ qs) → x ≡ b.place
      behind (inl l) = omega arith
      behind (inr k) = among (in_cons k)

  gap_before : (x : ℕ) (b : Piece) (qs : List Piece) → IsIn b ps → IsRisingBy (λ (p : Piece). p.place) (b ∷ qs)
      → IsEnd low ps x → low ≤ x → x ≤ b.place → IsPast x (b ∷ qs) → IsGap x b.place
  gap_before x b qs i rise end up under past = go (h.joined b i)
    where
      gapped : IsEnd low ps x → IsGapped low b.place
          × ((a : Piece) → IsIn a ps → piece_end a ≤ b.place → IsGapped (piece_end a) b.place) → IsGapped x b.place
      gapped (inl e) (g, all) = subst (λ n. IsGapped n b.place) (sym e) g
      gapped (inr (a, j, e)) (g, all) = subst (λ n. IsGapped n b.place) e (all a j (omega arith))

      go : IsJoined low ps b → IsGap x b.place
      go (inl e) = inl (end_before x b qs rise up under past e)
      go (inr g) = gap_of x b.place (end_aligned x end) (h.aligned b i) (gapped end g)

  past_tail : (x : ℕ) (b : Piece) (qs : List Piece) → x ≤ b.place → IsPast x (b ∷ qs) → IsPast (piece_end b) qs
  past_tail x b qs at past c i = further (past c i)
    where
      tail : (c ≡ b) ⊎ IsIn c qs → (piece_end c ≤ piece_end b) ⊎ IsIn c qs
      tail (inl e) = let same : piece_end c ≡ piece_end b = ap (λ (p : Piece). p.place + p.size) e in inl (omega arith)
      tail (inr k) = inr k

      further : (piece_end c ≤ x) ⊎ IsIn c (b ∷ qs) → (piece_end c ≤ piece_end b) ⊎ IsIn c qs
      further (inl l) = inl (omega arith)
      further (inr k) = tail (in_cons k)

  -- how far a walk over the pieces has come: x is the last end, and qs are ahead
  record IsAhead (x : ℕ) (qs : List Piece) : Type 0 where
    sub : (c : Piece) → IsIn c qs → IsIn c ps
    rise : IsRisingBy (λ (p : Piece). p.place) qs
    end : IsEnd low ps x
    up : low ≤ x
    under : (c : Piece) → IsIn c qs → x ≤ c.place
    past : IsPast x qs

  ahead_starts : IsAhead low ps
  ahead_starts = record {
    sub = λ c i. i;
    rise = h.rise;
    end = inl refl;
    up = omega arith;
    under = h.above;
    past = λ c i. inr i;
  }

  ahead_next : (x : ℕ) (b : Piece) (qs : List Piece) → IsAhead x (b ∷ qs) → IsAhead (piece_end b) qs
  ahead_next x b qs a =
      let at : x ≤ b.place = a.under b first in
      let up : low ≤ x = a.up in
      record {
        sub = λ c j. a.sub c (later j);
        rise = a.rise.1;
        end = inr (b, a.sub b first, refl);
        up = omega arith;
        under = λ c j. h.apart b c (a.sub b first) (a.sub c (later j))
            (all_at (λ (p : Piece). b.place < p.place) j a.rise.0);
        past = past_tail x b qs at a.past;
      }

  gap_ahead : (x : ℕ) (b : Piece) (qs : List Piece) → IsAhead x (b ∷ qs) → IsGap x b.place
  gap_ahead x b qs a = gap_before x b qs (a.sub b first) a.rise a.end a.up (a.under b first) a.past

  -- the rest of the pieces, from the end of one
  spaced_from : (x : ℕ) (qs : List Piece) → IsAhead x qs → IsSpaced x (end_of_last x qs) qs
  spaced_from x [] a = inl refl
  spaced_from x (b ∷ qs) a = (
    gap_ahead x b qs a,
    h.lawful b (a.sub b first),
    spaced_from (piece_end b) qs
        (ahead_next x b qs a),
  )

  pub blocks-spaced : IsSpaced low (end_of_last low ps) ps
  blocks-spaced = spaced_from low ps ahead_starts

  -- the pieces with the gaps between them tile the range up to the end of the last
  pub blocks-tile : Tiles low (end_of_last low ps) (filled low (end_of_last low ps) ps)
  blocks-tile = tiles-filled low (end_of_last low ps) ps blocks-spaced

  -- ---- the gaps

  gap_piece_facts : (x : ℕ) (b : Piece) (qs : List Piece) → IsAhead x (b ∷ qs) → (g : Piece)
      → IsIn g (range_piece x b.place) → IsGapPiece low ps g × (g.place ≡ x)
  gap_piece_facts x b qs a g i = go (nat_lt x b.place) refl i
    where
      from : x < b.place → g ≡ record { place = x; size = b.place - x } → IsGapPiece low ps g × (g.place ≡ x)
      from l e =
          let place : g.place ≡ x = ap (λ (p : Piece). p.place) e in
          let size : g.size ≡ b.place - x = ap (λ (p : Piece). p.size) e in
          let up : low ≤ x = a.up in (
            record {
              lawful = subst IsLawfulSize (sym size) (sized (gap_ahead x b qs a));
              before = b;
              among = a.sub b first;
              ends = omega arith;
              free = λ c j. apart place size c (a.past c j);
              not_end = λ f. let same : x ≡ b.place = end_before x b qs a.rise a.up (a.under b first) a.past f in
                  omega arith;
              start = omega arith;
              aligned = subst (λ n. n % 8 ≡ 0) (sym place) (end_aligned x a.end);
            },
            place,
          )
        where
          sized : IsGap x b.place → IsLawfulSize (b.place - x)
          sized (inl same) = absurd (omega arith)
          sized (inr k) = k.1

          behind : (c : Piece) → (c ≡ b) ⊎ IsIn c qs → b.place ≤ c.place
          behind c (inl same) = let at : c.place ≡ b.place = ap (λ (p : Piece). p.place) same in omega arith
          behind c (inr k) = let at : b.place < c.place = all_at (λ (p : Piece). b.place < p.place) k a.rise.0 in
              omega arith

          apart : g.place ≡ x → g.size ≡ b.place - x → (c : Piece) → (piece_end c ≤ x) ⊎ IsIn c (b ∷ qs)
              → (piece_end c ≤ g.place) ⊎ (piece_end g ≤ c.place)
          apart place size c (inl k) = inl (omega arith)
          apart place size c (inr k) = let at : b.place ≤ c.place = behind c (in_cons k) in inr (omega arith)

      only : (p : Piece) → IsIn g (p ∷ []) → g ≡ p
      only p i = one (in_cons i)
        where
          one : (g ≡ p) ⊎ IsIn g [] → g ≡ p
          one (inl e) = e
          one (inr j) = elim j [ ]

      go : (t : Bool) → nat_lt x b.place ≡ t → IsIn g (if t then record { place = x; size = b.place - x } ∷ [] else [])
          → IsGapPiece low ps g × (g.place ≡ x)
      go true e i = from (ltb-true x b.place e) (only (record { place = x; size = b.place - x }) i)
      go false e i = elim i [ ]

  gaps_from : (x : ℕ) (qs : List Piece) → IsAhead x qs → (g : Piece) → IsIn g (gaps x (end_of_last x qs) qs)
      → IsGapPiece low ps g × (x ≤ g.place)
  gaps_from x [] a g i = absurd (none g
      (subst (λ b. IsIn g (if b then record { place = x; size = x - x } ∷ [] else [])) (le-ltb x x (omega arith)) i))
    where
      none : (g : Piece) → IsIn g [] → ⊥
      none g i = elim i [ ]
  gaps_from x (b ∷ qs) a g i = go (in_append (range_piece x b.place) i)
      (gaps_from (piece_end b) qs (ahead_next x b qs a) g)
    where
      go : IsIn g (range_piece x b.place) ⊎ IsIn g (gaps (piece_end b) (end_of_last (piece_end b) qs) qs)
          → (IsIn g (gaps (piece_end b) (end_of_last (piece_end b) qs) qs)
          → IsGapPiece low ps g × (piece_end b ≤ g.place)) → IsGapPiece low ps g × (x ≤ g.place)
      go (inl j) more = let (is, at) = gap_piece_facts x b qs a g j in (is, omega arith)
      go (inr j) more = let (is, at) = more j in let l : x ≤ b.place = a.under b first in (is, omega arith)

  -- each gap is a lawful free item right before a piece that begins at no end
  pub gaps-are : (g : Piece) → IsIn g (gaps low (end_of_last low ps) ps) → IsGapPiece low ps g
  gaps-are g i = (gaps_from low ps ahead_starts g i).0

-- a place that is the low end or a piece's end, and below which all pieces end, is where the last one ends
end_of_last-is : (low : ℕ) (ps : List Piece) (x : ℕ)
    → ((a b : Piece) → IsIn a ps → IsIn b ps → a.place < b.place → piece_end a ≤ b.place)
    → IsRisingBy (λ (p : Piece). p.place) ps → ((a : Piece) → IsIn a ps → 0 < a.size)
    → ((a : Piece) → IsIn a ps → low ≤ a.place) → IsEnd low ps x → ((a : Piece) → IsIn a ps → piece_end a ≤ x)
    → x ≡ end_of_last low ps
end_of_last-is low [] x apart rise size above (inl e) under = e
end_of_last-is low [] x apart rise size above (inr (a, i, e)) under = elim i [ ]
end_of_last-is low (b ∷ ps) x apart rise size above end under =
    end_of_last-is (piece_end b) ps x (λ a c i j. apart a c (later i) (later j)) rise.1 (λ a i. size a (later i))
    (λ a i. apart b a first (later i) (all_at (λ (p : Piece). b.place < p.place) i rise.0))
    (go end) (λ a i. under a (later i))
  where
    at : (a : Piece) → piece_end a ≡ x → (a ≡ b) ⊎ IsIn a ps → IsEnd (piece_end b) ps x
    at a e (inl same) = inl (sym e ∙ ap (λ (p : Piece). p.place + p.size) same)
    at a e (inr j) = inr (a, j, e)

    go : IsEnd low (b ∷ ps) x → IsEnd (piece_end b) ps x
    go (inl e) = let l : low ≤ b.place = above b first in let s : 0 < b.size = size b first in
        let u : piece_end b ≤ x = under b first in absurd (omega arith)
    go (inr (a, i, e)) = at a e (in_cons i)

pub last-is : (low : ℕ) (ps : List Piece) (x : ℕ) → AreBlocks low ps → IsEnd low ps x
    → ((a : Piece) → IsIn a ps → piece_end a ≤ x) → x ≡ end_of_last low ps
last-is low ps x h end under = end_of_last-is low ps x h.apart h.rise
    (λ a i. let s : IsLawfulSize a.size = h.lawful a i in omega arith) h.above end under

-- ---- sorted

-- what stands in the filled range is a piece or a gap
into_filled : (low high : ℕ) (ps : List Piece) (g : Piece) → IsIn g (ps ++ gaps low high ps)
    → IsIn g (filled low high ps)
into_filled low high [] g i = i
into_filled low high (p ∷ ps) g first = append_right (range_piece low p.place) first
into_filled low high (p ∷ ps) g (later i) = go (in_append ps i) (into_filled (piece_end p) high ps g)
  where
    inner : IsIn g (range_piece low p.place) ⊎ IsIn g (gaps (piece_end p) high ps)
        → (IsIn g (ps ++ gaps (piece_end p) high ps) → IsIn g (filled (piece_end p) high ps))
        → IsIn g (filled low high (p ∷ ps))
    inner (inl j) more = append_left (p ∷ filled (piece_end p) high ps) j
    inner (inr j) more = append_right (range_piece low p.place) (later (more (append_right ps j)))

    go : IsIn g ps ⊎ IsIn g (gaps low high (p ∷ ps))
        → (IsIn g (ps ++ gaps (piece_end p) high ps) → IsIn g (filled (piece_end p) high ps))
        → IsIn g (filled low high (p ∷ ps))
    go (inl j) more = append_right (range_piece low p.place) (later (more (append_left (gaps (piece_end p) high ps) j)))
    go (inr j) more = inner (in_append (range_piece low p.place) j) more

out_of_filled : (low high : ℕ) (ps : List Piece) (g : Piece) → IsIn g (filled low high ps)
    → IsIn g (ps ++ gaps low high ps)
out_of_filled low high [] g i = i
out_of_filled low high (p ∷ ps) g i = go (in_append (range_piece low p.place) i) (out_of_filled (piece_end p) high ps g)
  where
    deeper : IsIn g ps ⊎ IsIn g (gaps (piece_end p) high ps) → IsIn g ((p ∷ ps) ++ gaps low high (p ∷ ps))
    deeper (inl j) = later (append_left (gaps low high (p ∷ ps)) j)
    deeper (inr j) = later (append_right ps (append_right (range_piece low p.place) j))

    inner : (g ≡ p) ⊎ IsIn g (filled (piece_end p) high ps)
        → (IsIn g (filled (piece_end p) high ps) → IsIn g (ps ++ gaps (piece_end p) high ps))
        → IsIn g ((p ∷ ps) ++ gaps low high (p ∷ ps))
    inner (inl e) more = subst (λ q. IsIn q ((p ∷ ps) ++ gaps low high (p ∷ ps))) (sym e) first
    inner (inr j) more = deeper (in_append ps (more j))

    go : IsIn g (range_piece low p.place) ⊎ IsIn g (p ∷ filled (piece_end p) high ps)
        → (IsIn g (filled (piece_end p) high ps) → IsIn g (ps ++ gaps (piece_end p) high ps))
        → IsIn g ((p ∷ ps) ++ gaps low high (p ∷ ps))
    go (inl j) more = later (append_right ps (append_left (gaps (piece_end p) high ps) j))
    go (inr j) more = inner (in_cons j) more

module _ (low : ℕ) (ps : List Piece) (h : AreBlocks low ps) where
  range-rises : (x y : ℕ) → IsRisingBy (λ (p : Piece). p.place) (range_piece x y)
  range-rises x y = go (nat_lt x y)
    where
      go : (b : Bool) → IsRisingBy (λ (p : Piece). p.place) (if b then record { place = x; size = y - x } ∷ [] else [])
      go true = (tt, tt)
      go false = tt

  gaps_from-rise : (x : ℕ) (qs : List Piece) → IsAhead low ps h x qs
      → IsRisingBy (λ (p : Piece). p.place) (gaps x (end_of_last x qs) qs)
  gaps_from-rise x [] a = range-rises x x
  gaps_from-rise x (b ∷ qs) a =
      rising_append (λ (p : Piece). p.place) (range_piece x b.place)
      (gaps (piece_end b) (end_of_last (piece_end b) qs) qs) (range-rises x b.place)
      (gaps_from-rise (piece_end b) qs (ahead_next low ps h x b qs a))
      (λ g k i j.
      let (is, at) = gap_piece_facts low ps h x b qs a g i in
      let (is', at') = gaps_from low ps h (piece_end b) qs (ahead_next low ps h x b qs a) k j in
      let l : x ≤ b.place = a.under b first in
      let s : IsLawfulSize b.size = h.lawful b (a.sub b first) in
      omega arith)

  pieces-and-gaps-distinct : IsDistinctBy (λ (p : Piece). p.place) (ps ++ gaps low (end_of_last low ps) ps)
  pieces-and-gaps-distinct =
      distinct_append (λ (p : Piece). p.place) ps (gaps low (end_of_last low ps) ps)
      (rising-distinct (λ (p : Piece). p.place) ps h.rise)
      (rising-distinct (λ (p : Piece). p.place) (gaps low (end_of_last low ps) ps)
      (gaps_from-rise low ps (ahead_starts low ps h)))
      (λ p g i j e. differ p g (h.lawful p i) (gaps-are low ps h g j).lawful ((gaps-are low ps h g j).free p i) e)
    where
      differ : (p g : Piece) → IsLawfulSize p.size → IsLawfulSize g.size
          → (piece_end p ≤ g.place) ⊎ (piece_end g ≤ p.place) → p.place ≡ g.place → ⊥
      differ p g s t (inl l) e = absurd (omega arith)
      differ p g s t (inr l) e = absurd (omega arith)

  -- pieces and their gaps, sorted, tile the range up to the end of the last piece
  pub blocks-and-gaps-tile : Tiles low (end_of_last low ps) (by_place (ps ++ gaps low (end_of_last low ps) ps))
  blocks-and-gaps-tile =
      subst (Tiles low (end_of_last low ps))
      (sorted_by-unique (λ (p : Piece). p.place) (filled low (end_of_last low ps) ps)
      (ps ++ gaps low (end_of_last low ps) ps) pieces-and-gaps-distinct
      (tiles-rise low (end_of_last low ps) (filled low (end_of_last low ps) ps) (blocks-tile low ps h))
      (λ g. (out_of_filled low (end_of_last low ps) ps g, into_filled low (end_of_last low ps) ps g)))
      (blocks-tile low ps h)

-- the end of the last piece lies between the low end and what all pieces lie below
last-in-by : (low : ℕ) (ps : List Piece) (high : ℕ)
    → ((a b : Piece) → IsIn a ps → IsIn b ps → a.place < b.place → piece_end a ≤ b.place)
    → IsRisingBy (λ (p : Piece). p.place) ps → ((a : Piece) → IsIn a ps → low ≤ a.place) → low ≤ high
    → ((a : Piece) → IsIn a ps → piece_end a ≤ high) → (low ≤ end_of_last low ps) × (end_of_last low ps ≤ high)
last-in-by low [] high apart rise above l under = (omega arith, l)
last-in-by low (b ∷ ps) high apart rise above l under =
    let (m, n) = last-in-by (piece_end b) ps high (λ a c i j. apart a c (later i) (later j)) rise.1
    (λ a i. apart b a first (later i) (all_at (λ (p : Piece). b.place < p.place) i rise.0)) (under b first)
    (λ a i. under a (later i)) in
    let k : low ≤ b.place = above b first in
    (omega arith, n)

pub last-in : (low : ℕ) (ps : List Piece) → AreBlocks low ps → (high : ℕ) → low ≤ high
    → ((a : Piece) → IsIn a ps → piece_end a ≤ high) → (low ≤ end_of_last low ps) × (end_of_last low ps ≤ high)
last-in low ps h high l under = last-in-by low ps high h.apart h.rise h.above l under
