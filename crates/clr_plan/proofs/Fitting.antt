-- Plugs and their moves, one for each.
use Rattle.std.proofs.Common.{◌≡◌, ℕ, zero, suc, ◌+◌, ◌-◌, ◌<◌, List, [], ◌∷◌, ◌++◌, length, refl, ap}
use Rattle.std.proofs.Common.{arith, Bool, true, false, MatchBool}
use Rattle.clr_types.specs.Rising.{first, IsIn, later}
use Rattle.clr_types.specs.declared.segment.SegInfo.{SegInfo}
use Rattle.clr_model.specs.Compaction.{IsDestination, Move, Placed, Plug, plug_end}
use Rattle.clr_moves.specs.Moves.{move_at}
use Rattle.clr_plan.specs.PartLists.{AreFor}
use Rattle.clr_plan.specs.LaidParts.{end_behind, planned_plugs}
use Rattle.clr_plan.specs.Writes.{distance_of}

pub placed-for : (segments : List SegInfo) (all : List Plug) (pointer : ℕ) (ps : List Plug) (vs : List Move) (after : ℕ)
    → Placed segments all pointer ps vs after → AreFor ps vs
placed-for segments all pointer [] [] after h = tt
placed-for segments all pointer [] (v ∷ vs) after h = absurd h
placed-for segments all pointer (p ∷ ps) [] after h = absurd h
placed-for segments all pointer (p ∷ ps) (v ∷ vs) after h =
    (h.0, h.1, step (λ pointer' g. placed-for segments all pointer' ps vs after g) p.pinned h.2)
  where
    step : ((pointer' : ℕ) → Placed segments all pointer' ps vs after → AreFor ps vs) → (b : Bool)
        → MatchBool b ((v.to ≡ p.start) × Placed segments all pointer ps vs after)
        (IsDestination segments all pointer p.size v.to × Placed segments all (v.to + v.size) ps vs after)
        → AreFor ps vs
    step more true g = more pointer g.1
    step more false g = more (v.to + v.size) g.1

pub for-append : (ps qs : List Plug) (vs ws : List Move) → AreFor ps vs → AreFor qs ws → AreFor (ps ++ qs) (vs ++ ws)
for-append [] qs [] ws f g = g
for-append [] qs (v ∷ vs) ws f g = absurd f
for-append (p ∷ ps) qs [] ws f g = absurd f
for-append (p ∷ ps) qs (v ∷ vs) ws f g = (f.0, f.1, for-append ps qs vs ws f.2 g)

-- the plan of more plugs behind others
pub planned-append : (below : ℕ) (ps qs : List Plug) (vs ws : List Move) → AreFor ps vs → planned_plugs below (ps ++ qs)
    (vs ++ ws) ≡ planned_plugs below ps vs ++ planned_plugs (end_behind below ps) qs ws
planned-append below [] qs [] ws f = refl
planned-append below [] qs (v ∷ vs) ws f = absurd f
planned-append below (p ∷ ps) qs [] ws f = absurd f
planned-append below (p ∷ ps) qs (v ∷ vs) ws f =
    ap (λ xs. record { start = p.start; gap = p.start - below; distance = distance_of p.start v.to } ∷ xs)
    (planned-append (plug_end p) ps qs vs ws f.2)

-- the plug of a move
pub record HasPlug (ps : List Plug) (v : Move) : Type 0 where
  pub plug : Plug
  pub known : IsIn plug ps
  pub start : v.start ≡ plug.start
  pub size : v.size ≡ plug.size

pub plug-at : (ps : List Plug) (vs : List Move) → AreFor ps vs → (k : ℕ) → k < length vs → HasPlug ps (move_at vs k)
plug-at [] [] f k l = absurd (omega arith)
plug-at [] (v ∷ vs) f k l = absurd f
plug-at (p ∷ ps) [] f k l = absurd f
plug-at (p ∷ ps) (v ∷ vs) f zero l = record { plug = p; known = first; start = f.0; size = f.1 }
plug-at (p ∷ ps) (v ∷ vs) f (suc k) l = let r = plug-at ps vs f.2 k (omega arith) in
    record { plug = r.plug; known = later r.known; start = r.start; size = r.size }

-- the move of a plug
pub record HasMove (vs : List Move) (p : Plug) : Type 0 where
  pub index : ℕ
  pub within : index < length vs
  pub start : (move_at vs index).start ≡ p.start
  pub size : (move_at vs index).size ≡ p.size

pub move-of : (ps : List Plug) (vs : List Move) → AreFor ps vs → (p : Plug) → IsIn p ps → HasMove vs p
move-of [] vs f p i = elim i [ ]
move-of (q ∷ ps) [] f p i = absurd f
move-of (q ∷ ps) (v ∷ vs) f p first = record { index = 0; within = omega arith; start = f.0; size = f.1 }
move-of (q ∷ ps) (v ∷ vs) f p (later i) = let r = move-of ps vs f.2 p i in
    record { index = suc r.index; within = let l = r.within in omega (arith, l); start = r.start; size = r.size }
