-- A plan goes on by one part, or by a raise of the pointer.
use Rattle.std.proofs.Common.{◌≡◌, ℕ, ◌+◌, List, [], ◌∷◌, ◌++◌, length, refl, sym, ap, subst, ◌∙◌}
use Rattle.std.proofs.Common.{append_assoc, suc, Bool, true, false, MatchBool}
use Rattle.clr_types.specs.Types.{TypeRow}
use Rattle.clr_types.specs.declared.segment.SegInfo.{SegInfo}
use Rattle.clr_heap.specs.View.{HeapView, segment_at}
use Rattle.clr_model.specs.Compaction.{Plug, Move, IsDestination, Placed}
use Rattle.clr_model.proofs.PlugRoom.{ArePlugs}
use Rattle.clr_plan.specs.Pointing.{IsAt}
use Rattle.clr_pinq.specs.declared.entry.PinEntry.{PinEntry}
use Rattle.clr_plan.specs.Waiting.{ranges_from}
use Rattle.clr_plan.specs.Scans.{CanScan, plugs_between}
use Rattle.clr_plan.specs.Stages.{IsAmong}
use Rattle.clr_plan.specs.Parts.{Around, CanPlan, HasPlacedPart}
use Rattle.clr_plan.specs.Plans.{HasReached}
use Rattle.clr_plan.specs.declared.pointer.Pointer.{Pointer}
use Rattle.clr_plan.proofs.PartPlan.{placed_append}

-- as many moves as plugs
pub placed-length : (segments : List SegInfo) (all : List Plug) (pointer : ℕ) (ps : List Plug) (vs : List Move)
    (after : ℕ) → Placed segments all pointer ps vs after → length vs ≡ length ps
placed-length segments all pointer [] [] after h = refl
placed-length segments all pointer [] (v ∷ vs) after h = absurd h
placed-length segments all pointer (p ∷ ps) [] after h = absurd h
placed-length segments all pointer (p ∷ ps) (v ∷ vs) after h =
    ap suc (step (λ pointer' g. placed-length segments all pointer' ps vs after g) p.pinned h.2)
  where
    step : ((pointer' : ℕ) → Placed segments all pointer' ps vs after → length vs ≡ length ps) → (b : Bool)
        → MatchBool b ((v.to ≡ p.start) × Placed segments all pointer ps vs after)
        (IsDestination segments all pointer p.size v.to × Placed segments all (v.to + v.size) ps vs after)
        → length vs ≡ length ps
    step more true g = more pointer g.1
    step more false g = more (v.to + v.size) g.1

module _ (rows : List TypeRow) (h : HeapView) (segments : List SegInfo) (all : List Plug)
    (plugs : ArePlugs segments all) (entries : List PinEntry) (from : ℕ) (earlier passed : List Plug)
    (moves : List Move) (at : Pointer)
    (k p e : ℕ) (ahead : List Plug) (s : HasReached h segments all entries from earlier passed
    (plugs_between rows h k p e ++ ahead) moves at)
  where
    abbrev part : List Plug
    part = plugs_between rows h k p e

    abbrev pub around : Around
    around = record { segments = segments; done = earlier ++ passed; ahead = ahead }

    -- the next part can be planned
    pub can-plan : IsAmong h segments at k → CanScan rows h k p e → CanPlan around rows h entries at k p e
    can-plan among scan = record {
      among = among;
      plugs = subst (ArePlugs segments) s.split plugs;
      scan = scan;
      behind = s.behind;
      stands = s.stands;
    }

    -- and then it has been
    pub part-reached : (new : List PinEntry) (after : Pointer) (planned : HasPlacedPart around rows h new at k p e
        after) → HasReached h segments all new from earlier (passed ++ part) ahead (moves ++ planned.moves) after
    part-reached new after planned = record {
      split = s.split ∙ sym (append_assoc (earlier ++ passed) part ahead)
          ∙ ap (λ ps. ps ++ ahead) (append_assoc earlier passed part);
      placed = placed_append segments all from passed moves at.place part planned.moves after.place s.placed
          (subst (λ ps. Placed segments ps at.place part planned.moves after.place) (sym s.split) planned.placed);
      high = planned.among.high;
      behind = planned.behind;
      stands = subst (λ ds. IsAt segments ds ahead (segment_at h after.segment) after.place
          (ranges_from after.passed new)) (append_assoc earlier passed part) planned.stands;
    }
