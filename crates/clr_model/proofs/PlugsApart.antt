-- The plugs of a compaction keep apart where they land, and where a place is raised past pins.
use Rattle.std.proofs.Common.{◌≡◌, ◌≢◌, ℕ, ◌+◌, ◌<◌, ◌≤◌, ◌⊎◌, inl, inr, List, [], ◌∷◌, map, refl}
use Rattle.std.proofs.Common.{arith, Bool, true, false, ◌&&◌, if◌then◌else◌, ◌==◌}
use Rattle.std.proofs.lemmas.Bool.{and_parts, eqb-true}
use Rattle.std.specs.List.{AllByRecursion}
use Rattle.clr_types.specs.Rising.{IsIn, first, later}
use Rattle.clr_types.specs.Ranges.{Piece, piece_end}
use Rattle.clr_types.proofs.RisingLists.{all_at}
use Rattle.clr_types.proofs.SortedLists.{IsDistinctBy}
use Rattle.clr_model.specs.Compaction.{Plug, plug_end, Move}
use Rattle.clr_model.specs.Compaction.{raised_past_pins}
use Rattle.clr_types.specs.declared.segment.SegInfo.{SegInfo}
use Rattle.clr_types.proofs.ChangedLists.{all_members}
use Rattle.clr_types.proofs.PieceGaps.{IsGapped}
use Rattle.clr_model.proofs.PlugRoom.{ArePlugs, fit-between}
use Rattle.clr_model.proofs.PlugWalk.{Each, AreInLine, AreOrdered, IsLanded}

-- ---- pieces that don't overlap

-- of any two pieces one ends before the other begins
abbrev pub AreScattered : List Piece → Type 0
AreScattered [] = Unit {0}
AreScattered (p ∷ ps) = AllByRecursion (λ (q : Piece). (piece_end p ≤ q.place) ⊎ (piece_end q ≤ p.place)) ps
    × AreScattered ps

pub scattered-apart : (ps : List Piece) (a b : Piece) → AreScattered ps → IsIn a ps → IsIn b ps
    → (a ≡ b) ⊎ ((piece_end a ≤ b.place) ⊎ (piece_end b ≤ a.place))
scattered-apart ps a b h first first = inl refl
scattered-apart (p ∷ ps) a b h first (later j) =
    inr (all_at (λ (q : Piece). (piece_end a ≤ q.place) ⊎ (piece_end q ≤ a.place)) j h.0)
scattered-apart (p ∷ ps) a b h (later i) first =
    inr (elim (all_at (λ (q : Piece). (piece_end b ≤ q.place) ⊎ (piece_end q ≤ b.place)) i h.0) [
      | inl l ↦ inr l
      | inr l
          ↦ inl l
    ])
scattered-apart (p ∷ ps) a b h (later i) (later j) = scattered-apart ps a b h.1 i j

pub scattered-distinct : (ps : List Piece) → AreScattered ps → ((a : Piece) → IsIn a ps → 0 < a.size)
    → IsDistinctBy (λ (p : Piece). p.place) ps
scattered-distinct [] h size = tt
scattered-distinct (p ∷ ps) h size = (
  all_members (λ (q : Piece). p.place ≢ q.place) ps
      (λ q i e. differ q (size p first) (size q (later i))
      (all_at (λ (q : Piece). (piece_end p ≤ q.place) ⊎ (piece_end q ≤ p.place)) i h.0) e),
  scattered-distinct ps h.1
      (λ a i. size a (later i)),
)
  where
    differ : (q : Piece) → 0 < p.size → 0 < q.size → (piece_end p ≤ q.place) ⊎ (piece_end q ≤ p.place)
        → p.place ≡ q.place → ⊥
    differ q s t (inl l) e = absurd (omega arith)
    differ q s t (inr l) e = absurd (omega arith)

abbrev pub piece_of_move : Move → Piece
piece_of_move v = record { place = v.to; size = v.size }

module _ (segments : List SegInfo) (all : List Plug) (h : ArePlugs segments all) (source : ℕ → Type 0) where
  abbrev DoNotOverlap : Move → Move → Type 0
  DoNotOverlap v w = (v.to + v.size ≤ w.to) ⊎ (w.to + w.size ≤ v.to)

  two_apart : (p q : Plug) (v w : Move) → IsIn p all → IsIn q all → IsGapped (plug_end p) q.start
      → IsLanded segments all source p v → IsLanded segments all source q w
      → (p.pinned ≡ false → q.pinned ≡ false → v.to + v.size ≤ w.to)
      → (b c : Bool) → p.pinned ≡ b → q.pinned ≡ c → DoNotOverlap v w
  two_apart p q v w i j gap lp lq order true true e f = let at : v.to ≡ p.start = lp.pinned e in
      let to : w.to ≡ q.start = lq.pinned f in let size : v.size ≡ p.size = lp.size in inl (omega arith)
  two_apart p q v w i j gap lp lq order false false e f = inl (order e f)
  two_apart p q v w i j gap lp lq order true false e f =
      go (fit-between segments all h q.size w.to (lq.outside f) (lq.fits f) p i e)
    where
      go : (plug_end p ≤ w.to) ⊎ IsGapped (w.to + q.size) p.start → DoNotOverlap v w
      go (inl l) = let at : v.to ≡ p.start = lp.pinned e in let size : v.size ≡ p.size = lp.size in inl (omega arith)
      go (inr l) = let at : v.to ≡ p.start = lp.pinned e in let size : w.size ≡ q.size = lq.size in inr (omega arith)
  two_apart p q v w i j gap lp lq order false true e f =
      go (fit-between segments all h p.size v.to (lp.outside e) (lp.fits e) q j f)
    where
      go : (plug_end q ≤ v.to) ⊎ IsGapped (v.to + p.size) q.start → DoNotOverlap v w
      go (inl l) = let at : w.to ≡ q.start = lq.pinned f in let size : w.size ≡ q.size = lq.size in inr (omega arith)
      go (inr l) = let at : w.to ≡ q.start = lq.pinned f in let size : v.size ≡ p.size = lp.size in inl (omega arith)

  one_apart : (p : Plug) (v : Move) → IsIn p all → IsLanded segments all source p v → (ps : List Plug) (vs : List Move)
      → AreInLine all ps → AllByRecursion (λ (q : Plug). IsGapped (plug_end p) q.start) ps
      → Each (IsLanded segments all source) ps vs
      → (p.pinned ≡ false → Each (λ q w. q.pinned ≡ false → v.to + v.size ≤ w.to) ps vs)
      → AllByRecursion (λ (q : Piece). (v.to + v.size ≤ q.place) ⊎ (piece_end q ≤ v.to)) (map piece_of_move vs)
  one_apart p v i lp [] [] line gap landed order = tt
  one_apart p v i lp [] (w ∷ vs) line gap landed order = absurd landed
  one_apart p v i lp (q ∷ ps) [] line gap landed order = absurd landed
  one_apart p v i lp (q ∷ ps) (w ∷ vs) line gap landed order = (
    two_apart p q v w i line.0 gap.0 lp landed.0
        (λ e. (order e).0) p.pinned q.pinned refl refl,
    one_apart p v i lp ps vs line.2 gap.1 landed.1
        (λ e. (order e).1),
  )

  pub landed-scattered : (ps : List Plug) (vs : List Move) → AreInLine all ps
      → Each (IsLanded segments all source) ps vs → AreOrdered ps vs → AreScattered (map piece_of_move vs)
  landed-scattered [] [] line landed order = tt
  landed-scattered [] (w ∷ vs) line landed order = absurd landed
  landed-scattered (q ∷ ps) [] line landed order = absurd landed
  landed-scattered (p ∷ ps) (v ∷ vs) line landed order = (
    one_apart p v line.0 landed.0 ps vs line.2 line.1 landed.1 order.0,
    landed-scattered ps vs line.2 landed.1
        order.1,
  )

-- a place raised past pins is that place or the end of a pin
pub raised_is : (qs : List Plug) (place : ℕ)
    → (raised_past_pins qs place ≡ place)
    ⊎ ((p : Plug) × IsIn p qs × (p.pinned ≡ true) × (raised_past_pins qs place ≡ plug_end p))
raised_is [] place = inl refl
raised_is (q ∷ qs) place = go (q.pinned && (q.start == place)) refl (raised_is qs)
  where
    deeper : (n : ℕ) → (raised_past_pins qs n ≡ n)
        ⊎ ((p : Plug) × IsIn p qs × (p.pinned ≡ true) × (raised_past_pins qs n ≡ plug_end p))
        → (raised_past_pins qs n ≡ n) ⊎
        ((p : Plug) × IsIn p (q ∷ qs) × (p.pinned ≡ true) × (raised_past_pins qs n ≡ plug_end p))
    deeper n (inl e) = inl e
    deeper n (inr (p, i, pinned, e)) = inr (p, later i, pinned, e)

    past : q.pinned ≡ true → (raised_past_pins qs (plug_end q) ≡ plug_end q)
        ⊎ ((p : Plug) × IsIn p (q ∷ qs) × (p.pinned ≡ true) × (raised_past_pins qs (plug_end q) ≡ plug_end p))
        → (raised_past_pins qs (plug_end q) ≡ place)
        ⊎ ((p : Plug) × IsIn p (q ∷ qs) × (p.pinned ≡ true) × (raised_past_pins qs (plug_end q) ≡ plug_end p))
    past pinned (inl e) = inr (q, first, pinned, e)
    past pinned (inr k) = inr k

    go : (b : Bool) → (q.pinned && (q.start == place)) ≡ b
        → ((n : ℕ) → (raised_past_pins qs n ≡ n)
        ⊎ ((p : Plug) × IsIn p qs × (p.pinned ≡ true) × (raised_past_pins qs n ≡ plug_end p)))
        → (raised_past_pins qs (if b then plug_end q else place) ≡ place)
        ⊎ ((p : Plug) × IsIn p (q ∷ qs) × (p.pinned ≡ true)
        × (raised_past_pins qs (if b then plug_end q else place) ≡ plug_end p))
    go true e more = past (and_parts q.pinned (q.start == place) e).0 (deeper (plug_end q) (more (plug_end q)))
    go false e more = deeper place (more place)

pub raised_up : (qs : List Plug) (place : ℕ) → place ≤ raised_past_pins qs place
raised_up [] place = omega arith
raised_up (q ∷ qs) place = go (q.pinned && (q.start == place)) refl (raised_up qs)
  where
    go : (b : Bool) → (q.pinned && (q.start == place)) ≡ b → ((n : ℕ) → n ≤ raised_past_pins qs n)
        → place ≤ raised_past_pins qs (if b then plug_end q else place)
    go true e more = let at : q.start ≡ place = eqb-true q.start place (and_parts q.pinned (q.start == place) e).1 in
        let l : plug_end q ≤ raised_past_pins qs (plug_end q) = more (plug_end q) in omega arith
    go false e more = more place
