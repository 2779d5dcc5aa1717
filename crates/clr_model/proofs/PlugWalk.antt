-- The walk of a compaction over its plugs, and where the plugs land.
use Rattle.std.proofs.Common.{◌≡◌, ℕ, ◌+◌, ◌≤◌, inl, inr, List, [], ◌∷◌, refl, sym, subst, arith, Bool, true, false}
use Rattle.std.proofs.Common.{MatchBool}
use Rattle.std.proofs.lemmas.Bool.{both_ways}
use Rattle.std.specs.List.{AllByRecursion}
use Rattle.clr_types.specs.Rising.{IsIn, first, later}
use Rattle.clr_model.specs.Compaction.{Plug, plug_end, Move, FitsAt, IsCandidate, IsDestination, Placed}
use Rattle.clr_types.specs.declared.segment.SegInfo.{SegInfo}
use Rattle.clr_types.proofs.PieceGaps.{IsGapped}
use Rattle.clr_model.proofs.PlugRoom.{ArePlugs, IsOutside}
use Rattle.clr_model.proofs.PlugPointer.{IsNear, IsEdge, edge-outside, edge-gapped, candidate-outside, candidate-near}
use Rattle.clr_model.proofs.PlugPointer.{above-outside, near-placed, fits-below}

-- `Placed`, and between two plugs the pointer may rise to the end of a pinned plug or to the first place of a segment
pub data Walk (segments : List SegInfo) (all : List Plug) : ℕ → List Plug → List Move → ℕ → Type 0 where
  ends : {pointer : ℕ} → Walk segments all pointer [] [] pointer
  stays : {pointer after : ℕ} {p : Plug} {ps : List Plug} {v : Move} {vs : List Move} → p.pinned ≡ true
      → v.start ≡ p.start → v.size ≡ p.size → v.to ≡ p.start
      → Walk segments all pointer ps vs after → Walk segments all pointer (p ∷ ps) (v ∷ vs) after
  goes : {pointer after : ℕ} {p : Plug} {ps : List Plug} {v : Move} {vs : List Move} → p.pinned ≡ false
      → v.start ≡ p.start → v.size ≡ p.size → IsDestination segments all pointer p.size v.to
      → Walk segments all (v.to + v.size) ps vs after → Walk segments all pointer (p ∷ ps) (v ∷ vs) after
  rises : {pointer higher after : ℕ} {ps : List Plug} {vs : List Move} → pointer ≤ higher → IsEdge segments all higher
      → AllByRecursion (λ (p : Plug). higher ≤ p.start) ps
      → Walk segments all higher ps vs after → Walk segments all pointer ps vs after

pub walk_of : (segments : List SegInfo) (all : List Plug) (pointer : ℕ) (ps : List Plug) (vs : List Move) (after : ℕ)
    → Placed segments all pointer ps vs after → Walk segments all pointer ps vs after
walk_of segments all pointer [] [] after h = subst (λ n. Walk segments all pointer [] [] n) (sym h) ends
walk_of segments all pointer [] (v ∷ vs) after h = absurd h
walk_of segments all pointer (p ∷ ps) [] after h = absurd h
walk_of segments all pointer (p ∷ ps) (v ∷ vs) after h =
    step (λ pointer' g. walk_of segments all pointer' ps vs after g) p.pinned refl h.2
  where
    step : ((pointer' : ℕ) → Placed segments all pointer' ps vs after → Walk segments all pointer' ps vs after)
        → (b : Bool) → p.pinned ≡ b
        → MatchBool b ((v.to ≡ p.start) × Placed segments all pointer ps vs after)
        (IsDestination segments all pointer p.size v.to × Placed segments all (v.to + v.size) ps vs after)
        → Walk segments all pointer (p ∷ ps) (v ∷ vs) after
    step more true e g = stays e h.0 h.1 g.0 (more pointer g.1)
    step more false e g = goes e h.0 h.1 g.0 (more (v.to + v.size) g.1)

abbrev pub AreInLine : List Plug → List Plug → Type 0
AreInLine all [] = Unit {0}
AreInLine all (p ∷ ps) = IsIn p all × AllByRecursion (λ (q : Plug). IsGapped (plug_end p) q.start) ps × AreInLine all ps

abbrev pub IsNearFirst : List SegInfo → List Plug → ℕ → List Plug → Type 0
IsNearFirst segments all pointer [] = Unit {0}
IsNearFirst segments all pointer (p ∷ ps) = IsNear segments all pointer p.start

-- R holds of each plug and its move
abbrev pub Each : (Plug → Move → Type 0) → List Plug → List Move → Type 0
Each R [] [] = Unit {0}
Each R [] (v ∷ vs) = ⊥
Each R (p ∷ ps) [] = ⊥
Each R (p ∷ ps) (v ∷ vs) = R p v × Each R ps vs

-- plugs that aren't pinned land one behind the other
abbrev pub AreOrdered : List Plug → List Move → Type 0
AreOrdered [] [] = Unit {0}
AreOrdered [] (v ∷ vs) = ⊥
AreOrdered (p ∷ ps) [] = ⊥
AreOrdered (p ∷ ps) (v ∷ vs) = (p.pinned ≡ false → Each (λ q w. q.pinned ≡ false → v.to + v.size ≤ w.to) ps vs)
    × AreOrdered ps vs

-- where a plug lands
pub record IsLanded (segments : List SegInfo) (all : List Plug) (source : ℕ
    → Type 0) (p : Plug) (v : Move) : Type 0 where
  pub start : v.start ≡ p.start
  pub size : v.size ≡ p.size
  pub lower : v.to ≤ p.start
  pub pinned : p.pinned ≡ true → v.to ≡ p.start
  pub outside : p.pinned ≡ false → IsOutside all v.to
  pub fits : p.pinned ≡ false → FitsAt segments all p.size v.to
  pub from : p.pinned ≡ false → source v.to

module _ (R S : Plug → Move → Type 0) where
  pub each_from : ((p : Plug) (v : Move) → R p v → S p v) → (ps : List Plug) (vs : List Move) → Each R ps vs
      → Each S ps vs
  each_from f [] [] h = tt
  each_from f [] (v ∷ vs) h = absurd h
  each_from f (p ∷ ps) [] h = absurd h
  each_from f (p ∷ ps) (v ∷ vs) h = (f p v h.0, each_from f ps vs h.1)

-- what a walk does, from a pointer that is near its first plug and outside of pins
pub record IsWalked (segments : List SegInfo) (all : List Plug) (source : ℕ
    → Type 0) (pointer : ℕ) (ps : List Plug) (vs : List Move) (after : ℕ) : Type 0 where
  pub landed : Each (IsLanded segments all source) ps vs
  pub ordered : AreOrdered ps vs
  pub above : Each (λ p v. p.pinned ≡ false → pointer ≤ v.to) ps vs
  pub below : Each (λ p v. p.pinned ≡ false → v.to + v.size ≤ after) ps vs
  pub rises : pointer ≤ after
  pub outside : IsOutside all after
  pub from : source after

-- places from which the next plug may start: where the walk began, edges, and the ends of plugs that were placed
pub record IsSource (segments : List SegInfo) (all : List Plug) (whole : List Move) (source : ℕ → Type 0) : Type 0 where
  pub edge : (place : ℕ) → IsEdge segments all place → source place
  pub placed : (p : Plug) (v : Move) → IsIn p all → p.pinned ≡ false → v.size ≡ p.size → FitsAt segments all p.size v.to
      → IsIn v whole → source v.to → source (v.to + v.size)

module _ (segments : List SegInfo) (all : List Plug) (h : ArePlugs segments all) (whole : List Move) (source : ℕ
    → Type 0) (sources : IsSource segments all whole source) where
  near-next : (pointer : ℕ) (ps : List Plug) (low : ℕ)
      → ((high : ℕ) → IsGapped low high → IsNear segments all pointer high)
      → AllByRecursion (λ (q : Plug). IsGapped low q.start) ps → IsNearFirst segments all pointer ps
  near-next pointer [] low near gaps = tt
  near-next pointer (q ∷ qs) low near gaps = near q.start gaps.0

  from_candidate : (pointer place : ℕ) → source pointer → IsCandidate segments all pointer place → source place
  from_candidate pointer place s (inl e) = subst source (sym e) s
  from_candidate pointer place s (inr e) = sources.edge place e

  raised-near : (higher : ℕ) (ps : List Plug) → IsEdge segments all higher → AreInLine all ps
      → AllByRecursion (λ (p : Plug). higher ≤ p.start) ps → IsNearFirst segments all higher ps
  raised-near higher [] edge line above = tt
  raised-near higher (p ∷ ps) edge line above = (above.0, inl (edge-gapped segments all h higher edge p line.0 above.0))

  pub walked : (pointer : ℕ) (ps : List Plug) (vs : List Move) (after : ℕ) → Walk segments all pointer ps vs after
      → AreInLine all ps → IsNearFirst segments all pointer ps → IsOutside all pointer → source pointer
      → ((v : Move) → IsIn v vs → IsIn v whole)
      → IsWalked segments all source pointer ps vs after
  walked pointer [] [] after ends line near out from sub =
      record { landed = tt; ordered = tt; above = tt; below = tt; rises = omega arith; outside = out; from = from }
  walked pointer (p ∷ ps) (v ∷ vs) after (stays pinned start size to w) line near out from sub =
      let near' : (high : ℕ) → IsGapped (plug_end p) high → IsNear segments all pointer high =
      λ high gap. let at : pointer ≤ p.start = near.0 in
      (omega arith, inr (inl (p, line.0, pinned, near.0, omega arith))) in
      let rest : IsWalked segments all source pointer ps vs after =
      walked pointer ps vs after w line.2 (near-next pointer ps (plug_end p) near' line.1) out from
      (λ v i. sub v (later i)) in
      record {
        landed = (
          record {
            start = start;
            size = size;
            lower = omega arith;
            pinned = λ e. to;
            outside = λ e. absurd (both_ways p.pinned e pinned);
            fits = λ e. absurd (both_ways p.pinned e pinned);
            from = λ e. absurd (both_ways p.pinned e pinned);
          },
          rest.landed,
        );
        ordered = (λ e. absurd (both_ways p.pinned e pinned), rest.ordered);
        above = (λ e. absurd (both_ways p.pinned e pinned), rest.above);
        below = (λ e. absurd (both_ways p.pinned e pinned), rest.below);
        rises = rest.rises;
        outside = rest.outside;
        from = rest.from;
      }
  walked pointer (p ∷ ps) (v ∷ vs) after (goes unpinned start size d w) line near out from sub =
      let (c, candidate, above, below, fit) = fits-below segments all h pointer p line.0 unpinned near in
      let lower : v.to ≤ p.start = let l : v.to ≤ c = d.lowest c candidate above fit in omega arith in
      let out' : IsOutside all v.to = candidate-outside segments all h pointer v.to out d.candidate in
      let near' : IsNear segments all v.to p.start =
      candidate-near segments all h pointer v.to d.candidate p line.0 near lower in
      let next : (high : ℕ) → IsGapped (plug_end p) high
      → IsNear segments all (v.to + v.size) high =
      λ high gap. subst (λ n. IsNear segments all (v.to + n) high) (sym size)
      (near-placed segments all h v.to p high line.0 out' d.fits near' gap) in
      let rest : IsWalked segments all source (v.to + v.size) ps vs after =
      walked (v.to + v.size) ps vs after w line.2 (near-next (v.to + v.size) ps (plug_end p) next line.1)
      (subst (λ n. IsOutside all (v.to + n)) (sym size) (above-outside segments all h v.to p.size out' d.fits))
      (sources.placed p v line.0 unpinned size d.fits (sub v first) (from_candidate pointer v.to from d.candidate))
      (λ v i. sub v (later i))
      in
      let up : v.to + v.size ≤ after = rest.rises in
      let not_below : pointer ≤ v.to = d.not_below in
      record {
        landed = (
          record {
            start = start;
            size = size;
            lower = lower;
            pinned = λ e. absurd (both_ways p.pinned unpinned e);
            outside = λ e. out';
            fits = λ e. d.fits;
            from = λ e. from_candidate pointer v.to from d.candidate;
          },
          rest.landed,
        );
        ordered = (λ e. rest.above, rest.ordered);
        above = (
          λ e. d.not_below,
          each_from (λ q w. q.pinned ≡ false → v.to + v.size ≤ w.to) (λ q w. q.pinned ≡ false
              → pointer ≤ w.to) (λ q w f e. let l : v.to + v.size ≤ w.to = f e in omega arith) ps vs rest.above,
        );
        below = (λ e. rest.rises, rest.below);
        rises = omega arith;
        outside = rest.outside;
        from = rest.from;
      }
  walked pointer ps vs after (rises {higher = higher} up edge above w) line near out from sub =
      let rest : IsWalked segments all source higher ps vs after =
      walked higher ps vs after w line (raised-near higher ps edge line above)
      (edge-outside segments all h higher edge) (sources.edge higher edge) sub in
      let further : higher ≤ after = rest.rises in
      record {
        landed = rest.landed;
        ordered = rest.ordered;
        above = each_from (λ q w. q.pinned ≡ false → higher ≤ w.to) (λ q w. q.pinned ≡ false
            → pointer ≤ w.to) (λ q w f e. let l : higher ≤ w.to = f e in omega arith) ps vs rest.above;
        below = rest.below;
        rises = omega arith;
        outside = rest.outside;
        from = rest.from;
      }

-- ---- plugs and their moves

module _ (R : Plug → Move → Type 0) where
  pub plug_of_move : (ps : List Plug) (vs : List Move) (v : Move) → Each R ps vs → IsIn v vs
      → (p : Plug) × IsIn p ps × R p v
  plug_of_move [] [] v h i = elim i [ ]
  plug_of_move [] (w ∷ vs) v h i = absurd h
  plug_of_move (p ∷ ps) [] v h i = absurd h
  plug_of_move (p ∷ ps) (w ∷ vs) v h first = (p, first, h.0)
  plug_of_move (p ∷ ps) (w ∷ vs) v h (later i) = let (q, j, r) = plug_of_move ps vs v h.1 i in (q, later j, r)

  pub move_of_plug : (ps : List Plug) (vs : List Move) (p : Plug) → Each R ps vs → IsIn p ps
      → (v : Move) × IsIn v vs × R p v
  move_of_plug [] vs p h i = elim i [ ]
  move_of_plug (q ∷ ps) [] p h i = absurd h
  move_of_plug (q ∷ ps) (w ∷ vs) p h first = (w, first, h.0)
  move_of_plug (q ∷ ps) (w ∷ vs) p h (later i) = let (v, j, r) = move_of_plug ps vs p h.1 i in (v, later j, r)

pub each_both : (R S : Plug → Move → Type 0) (ps : List Plug) (vs : List Move) → Each R ps vs → Each S ps vs
    → Each (λ p v. R p v × S p v) ps vs
each_both R S [] [] h k = tt
each_both R S [] (v ∷ vs) h k = absurd h
each_both R S (p ∷ ps) [] h k = absurd h
each_both R S (p ∷ ps) (v ∷ vs) h k = ((h.0, k.0), each_both R S ps vs h.1 k.1)
