-- What is written for plugs one after the other, and for one more behind them.
use Rattle.std.proofs.lemmas.List.{append-nil}
use Rattle.std.proofs.Common.{◌≡◌, ℕ, suc, ◌+◌, ◌-◌, List, [], ◌∷◌, ◌++◌, length, refl, ap, arith}
use Rattle.std.proofs.Common.{Bool, true, false, if◌then◌else◌, MatchBool}
use Rattle.clr_types.specs.declared.segment.SegInfo.{SegInfo}
use Rattle.clr_model.specs.Compaction.{IsDestination, Move, Placed, Plug, plug_end}
use Rattle.clr_pinq.specs.Queue.{last_end}
use Rattle.clr_pinq.specs.declared.entry.PinEntry.{PinEntry}
use Rattle.clr_plugs.specs.Plans.{PlannedPlug}
use Rattle.clr_plan.specs.LaidParts.{end_behind, is_to_push, last_pushed_for, opened_by, planned_plugs, pushes_for}
use Rattle.clr_plan.specs.Writes.{distance_of, entries_for, is_to_save, opened, pin_entry, place_entry}
use Rattle.clr_plan.proofs.Saving.{last_pushed}

pub end-more : (below : ℕ) (ps : List Plug) (p : Plug) → end_behind below (ps ++ p ∷ []) ≡ plug_end p
end-more below [] p = refl
end-more below (q ∷ qs) p = end-more (plug_end q) qs p

pub opened-more : (free : List ℕ) (first below : ℕ) (ps : List Plug) (p : Plug)
    → opened_by free first below (ps ++ p ∷ []) ≡ opened (opened_by free first below ps) first (end_behind below ps)
    p.start
opened-more free first below [] p = refl
opened-more free first below (q ∷ qs) p = opened-more (opened free first below q.start) first (plug_end q) qs p

pub planned-more : (segments : List SegInfo) (all : List Plug) (pointer below : ℕ) (ps : List Plug) (vs : List Move)
    (after : ℕ) (p : Plug) (v : Move) → Placed segments all pointer ps vs after
    → planned_plugs below (ps ++ p ∷ []) (vs ++ v ∷ []) ≡ planned_plugs below ps vs
    ++ record { start = p.start; gap = p.start - end_behind below ps; distance = distance_of p.start v.to } ∷ []
planned-more segments all pointer below [] [] after p v h = refl
planned-more segments all pointer below [] (x ∷ xs) after p v h = absurd h
planned-more segments all pointer below (q ∷ qs) [] after p v h = absurd h
planned-more segments all pointer below (q ∷ qs) (x ∷ xs) after p v h =
    ap (λ (ys : List PlannedPlug). record {
      start = q.start;
      gap = q.start - below;
      distance =
          distance_of q.start x.to;
    } ∷ ys)
    (step (λ pointer' g. planned-more segments all pointer' (plug_end q) qs xs after p v g) q.pinned h.2)
  where
    step : ((pointer' : ℕ) → Placed segments all pointer' qs xs after → planned_plugs (plug_end q) (qs ++ p ∷ [])
        (xs ++ v ∷ []) ≡ planned_plugs (plug_end q) qs xs
        ++ record {
          start = p.start;
          gap = p.start - end_behind (plug_end q) qs;
          distance = distance_of p.start
              v.to;
        } ∷ []) → (b : Bool) → MatchBool b ((x.to ≡ q.start) × Placed segments all pointer qs xs after)
        (IsDestination segments all pointer q.size x.to × Placed segments all (x.to + x.size) qs xs after)
        → planned_plugs (plug_end q) (qs ++ p ∷ []) (xs ++ v ∷ []) ≡ planned_plugs (plug_end q) qs xs
        ++ record {
          start = p.start;
          gap = p.start - end_behind (plug_end q) qs;
          distance =
              distance_of p.start v.to;
        } ∷ []
    step more true g = more pointer g.1
    step more false g = more (x.to + x.size) g.1

-- entries for plugs, and for more behind them
pub pushes-append : (last first below : ℕ) (ps qs : List Plug) → pushes_for last first below (ps ++ qs)
    ≡ pushes_for last first below ps + pushes_for (last_pushed_for last first below ps) first (end_behind below ps) qs
pushes-append last first below [] qs = omega arith
pushes-append last first below (p ∷ ps) qs = go (λ l. pushes-append l first (plug_end p) ps qs) p.pinned
    (is_to_push last first below p.start)
  where
    go : ((l : ℕ) → pushes_for l first (plug_end p) (ps ++ qs) ≡ pushes_for l first (plug_end p) ps + pushes_for
        (last_pushed_for l first (plug_end p) ps) first (end_behind (plug_end p) ps) qs) → (a b : Bool)
        → (if a then suc (pushes_for (plug_end p) first (plug_end p) (ps ++ qs))
        else (if b then suc (pushes_for p.start first (plug_end p) (ps ++ qs)) else pushes_for last first
        (plug_end p) (ps ++ qs)))
        ≡ (if a then suc (pushes_for (plug_end p) first (plug_end p) ps)
        else (if b then suc (pushes_for p.start first (plug_end p) ps) else pushes_for last first (plug_end p) ps))
        + pushes_for (if a then last_pushed_for (plug_end p) first (plug_end p) ps
        else (if b then last_pushed_for p.start first (plug_end p) ps else last_pushed_for last first (plug_end p)
        ps)) first (end_behind (plug_end p) ps) qs
    go f true b = let more = f (plug_end p) in omega (arith, more)
    go f false true = let more = f p.start in omega (arith, more)
    go f false false = f last

pub last-append : (last first below : ℕ) (ps qs : List Plug) → last_pushed_for last first below (ps ++ qs)
    ≡ last_pushed_for (last_pushed_for last first below ps) first (end_behind below ps) qs
last-append last first below [] qs = refl
last-append last first below (p ∷ ps) qs = go (λ l. last-append l first (plug_end p) ps qs) p.pinned
    (is_to_push last first below p.start)
  where
    go : ((l : ℕ) → last_pushed_for l first (plug_end p) (ps ++ qs)
        ≡ last_pushed_for (last_pushed_for l first (plug_end p) ps) first (end_behind (plug_end p) ps) qs)
        → (a b : Bool)
        → (if a then last_pushed_for (plug_end p) first (plug_end p) (ps ++ qs) else (if b then last_pushed_for p.start
        first (plug_end p) (ps ++ qs) else last_pushed_for last first (plug_end p) (ps ++ qs)))
        ≡ last_pushed_for (if a then last_pushed_for (plug_end p) first (plug_end p) ps
        else (if b then last_pushed_for p.start first (plug_end p) ps else last_pushed_for last first (plug_end p)
        ps)) first (end_behind (plug_end p) ps) qs
    go f true b = f (plug_end p)
    go f false true = f p.start
    go f false false = f last

-- so many entries are pushed for one plug
pub pushes-one : (es : List PinEntry) (word : ℕ → ℕ) (first below : ℕ) (p : Plug)
    → length (entries_for es word first below p) ≡ pushes_for (last_end 0 es) first below (p ∷ [])
pushes-one es word first below p = go p.pinned (is_to_save es first below p.start)
  where
    go : (a b : Bool) → length (if a then pin_entry es word first below p ∷ []
        else (if b then place_entry word p.start ∷ [] else [])) ≡ (if a then 1 else (if b then 1 else 0))
    go true b = refl
    go false true = refl
    go false false = refl

pub last-one : (es : List PinEntry) (word : ℕ → ℕ) (first below : ℕ) (p : Plug)
    → last_end 0 (es ++ entries_for es word first below p) ≡ last_pushed_for (last_end 0 es) first below (p ∷ [])
last-one es word first below p = go p.pinned (is_to_save es first below p.start)
  where
    go : (a b : Bool) → last_end 0 (es
        ++ (if a then pin_entry es word first below p ∷ [] else (if b then place_entry word p.start ∷ [] else [])))
        ≡ (if a then plug_end p else (if b then p.start else last_end 0 es))
    go true b = last_pushed 0 es (pin_entry es word first below p)
    go false true = last_pushed 0 es (place_entry word p.start)
    go false false = ap (last_end 0) (append-nil es)
