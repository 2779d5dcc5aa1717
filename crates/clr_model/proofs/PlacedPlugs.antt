-- Plugs placed one after the other: where the pointer is, and where they land.
use Rattle.std.proofs.Common.{◌≡◌, ℕ, ◌+◌, ◌<◌, ◌≤◌, List, [], ◌∷◌, ◌++◌, refl, subst, arith, Bool, true, false}
use Rattle.std.proofs.Common.{MatchBool}
use Rattle.std.proofs.lemmas.Bool.{both_ways}
use Rattle.std.specs.List.{AllByRecursion}
use Rattle.clr_types.specs.Rising.{IsIn, first, later, IsRisingBy}
use Rattle.clr_types.proofs.RisingLists.{all_at}
use Rattle.clr_model.specs.Compaction.{Plug, plug_end, Move, Placed, IsDestination}
use Rattle.clr_types.specs.declared.segment.SegInfo.{SegInfo}
use Rattle.clr_types.proofs.PieceGaps.{IsGapped}
use Rattle.clr_model.proofs.PlugRoom.{ArePlugs}
use Rattle.clr_model.proofs.PlugWalk.{Walk, stays, goes, Each, AreInLine, each_from}
use Rattle.clr_types.proofs.ChangedLists.{all_members}

-- from a walk by `Placed`, more of it
pub placed_on : (segments : List SegInfo) (all : List Plug) (pointer : ℕ) (ps : List Plug) (vs : List Move) (mid : ℕ)
    (qs : List Plug) (ws : List Move) (after : ℕ)
    → Placed segments all pointer ps vs mid → Walk segments all mid qs ws after
    → Walk segments all pointer (ps ++ qs) (vs ++ ws) after
placed_on segments all pointer [] [] mid qs ws after h w = subst (λ n. Walk segments all n qs ws after) h w
placed_on segments all pointer [] (v ∷ vs) mid qs ws after h w = absurd h
placed_on segments all pointer (p ∷ ps) [] mid qs ws after h w = absurd h
placed_on segments all pointer (p ∷ ps) (v ∷ vs) mid qs ws after h w =
    step (λ pointer' g. placed_on segments all pointer' ps vs mid qs ws after g w) p.pinned refl h.2
  where
    step : ((pointer' : ℕ) → Placed segments all pointer' ps vs mid
        → Walk segments all pointer' (ps ++ qs) (vs ++ ws) after) → (b : Bool) → p.pinned ≡ b
        → MatchBool b ((v.to ≡ p.start) × Placed segments all pointer ps vs mid)
        (IsDestination segments all pointer p.size v.to × Placed segments all (v.to + v.size) ps vs mid)
        → Walk segments all pointer (p ∷ (ps ++ qs)) (v ∷ (vs ++ ws)) after
    step more true e g = stays e h.0 h.1 g.0 (more pointer g.1)
    step more false e g = goes e h.0 h.1 g.0 (more (v.to + v.size) g.1)

-- the pointer never goes down
pub placed_up : (segments : List SegInfo) (all : List Plug) (pointer : ℕ) (ps : List Plug) (vs : List Move) (after : ℕ)
    → Placed segments all pointer ps vs after → pointer ≤ after
placed_up segments all pointer [] [] after h = omega arith
placed_up segments all pointer [] (v ∷ vs) after h = absurd h
placed_up segments all pointer (p ∷ ps) [] after h = absurd h
placed_up segments all pointer (p ∷ ps) (v ∷ vs) after h =
    step (λ pointer' g. placed_up segments all pointer' ps vs after g) p.pinned h.2
  where
    step : ((pointer' : ℕ) → Placed segments all pointer' ps vs after → pointer' ≤ after) → (b : Bool)
        → MatchBool b ((v.to ≡ p.start) × Placed segments all pointer ps vs after)
        (IsDestination segments all pointer p.size v.to × Placed segments all (v.to + v.size) ps vs after)
        → pointer ≤ after
    step more true g = more pointer g.1
    step more false g = let d : pointer ≤ v.to = g.0.not_below in
        let l : v.to + v.size ≤ after = more (v.to + v.size) g.1 in omega arith

-- nor above the plugs that it has passed, where they land at their own places or lower
pub placed_under : (segments : List SegInfo) (all : List Plug) (pointer : ℕ) (ps : List Plug) (vs : List Move)
    (after : ℕ) (high : ℕ) → Placed segments all pointer ps vs after → Each (λ p v. v.to ≤ p.start) ps vs
    → pointer ≤ high → AllByRecursion (λ (p : Plug). plug_end p ≤ high) ps → after ≤ high
placed_under segments all pointer [] [] after high h lower l above = omega arith
placed_under segments all pointer [] (v ∷ vs) after high h lower l above = absurd h
placed_under segments all pointer (p ∷ ps) [] after high h lower l above = absurd h
placed_under segments all pointer (p ∷ ps) (v ∷ vs) after high h lower l above =
    step (λ pointer' g k. placed_under segments all pointer' ps vs after high g lower.1 k above.1) p.pinned h.2
  where
    step : ((pointer' : ℕ) → Placed segments all pointer' ps vs after → pointer' ≤ high → after ≤ high) → (b : Bool)
        → MatchBool b ((v.to ≡ p.start) × Placed segments all pointer ps vs after)
        (IsDestination segments all pointer p.size v.to × Placed segments all (v.to + v.size) ps vs after)
        → after ≤ high
    step more true g = more pointer g.1 l
    step more false g = let d : v.to ≤ p.start = lower.0 in let z : v.size ≡ p.size = h.1 in
        let e : plug_end p ≤ high = above.0 in more (v.to + v.size) g.1 (omega arith)

abbrev pub LandsBetween : ℕ → ℕ → Plug → Move → Type 0
LandsBetween low high p v = (v.start ≡ p.start) × (p.pinned ≡ false → (low ≤ v.to) × (v.to + v.size ≤ high))

-- plugs that aren't pinned land between where the pointer began and where it ends
pub placed_between : (segments : List SegInfo) (all : List Plug) (pointer : ℕ) (ps : List Plug) (vs : List Move)
    (after : ℕ) → Placed segments all pointer ps vs after
    → Each (LandsBetween pointer after) ps vs
placed_between segments all pointer [] [] after h = tt
placed_between segments all pointer [] (v ∷ vs) after h = absurd h
placed_between segments all pointer (p ∷ ps) [] after h = absurd h
placed_between segments all pointer (p ∷ ps) (v ∷ vs) after h =
    step (λ pointer' g. placed_between segments all pointer' ps vs after g)
    (λ pointer' g. placed_up segments all pointer' ps vs after g) p.pinned refl h.2
  where
    step : ((pointer' : ℕ) → Placed segments all pointer' ps vs after → Each (LandsBetween pointer' after) ps vs)
        → ((pointer' : ℕ) → Placed segments all pointer' ps vs after → pointer' ≤ after) → (b : Bool) → p.pinned ≡ b
        → MatchBool b ((v.to ≡ p.start) × Placed segments all pointer ps vs after)
        (IsDestination segments all pointer p.size v.to × Placed segments all (v.to + v.size) ps vs after)
        → Each (LandsBetween pointer after) (p ∷ ps) (v ∷ vs)
    step more up true e g = ((h.0, λ f. absurd (both_ways p.pinned f e)), more pointer g.1)
    step more up false e g = (
      (h.0, λ f. (g.0.not_below, up (v.to + v.size) g.1)),
      each_from (LandsBetween (v.to + v.size) after) (LandsBetween pointer after)
          (λ q w k. (
            k.0,
            λ f. let d : pointer ≤ v.to = g.0.not_below in let l : v.to + v.size ≤ w.to = (k.1 f).0 in
                (omega arith, (k.1 f).1),
          )) ps vs (more (v.to + v.size) g.1),
    )

-- moves begin where their plugs do
pub placed_starts : (segments : List SegInfo) (all : List Plug) (pointer : ℕ) (ps : List Plug) (vs : List Move)
    (after : ℕ) → Placed segments all pointer ps vs after → Each (λ p v. v.start ≡ p.start) ps vs
placed_starts segments all pointer ps vs after h =
    each_from (LandsBetween pointer after) (λ p v. v.start ≡ p.start) (λ p v k. k.0) ps vs
    (placed_between segments all pointer ps vs after h)

-- plugs that rise, all of them known, are in line
pub in_line : (segments : List SegInfo) (all : List Plug) → ArePlugs segments all → (ps : List Plug)
    → IsRisingBy (λ (p : Plug). p.start) ps → ((p : Plug) → IsIn p ps → IsIn p all) → AreInLine all ps
in_line segments all h [] rise sub = tt
in_line segments all h (p ∷ ps) rise sub = (
  sub p first,
  all_members (λ (q : Plug). IsGapped (plug_end p) q.start) ps
      (λ q i. h.apart p q (sub p first) (sub q (later i)) (all_at (λ (w : Plug). p.start < w.start) i rise.0)),
  in_line segments all h ps rise.1 (λ q i. sub q (later i)),
)
