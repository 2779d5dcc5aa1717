-- A part of a segment, planned plug by plug.
use Rattle.std.proofs.lemmas.List.{append-nil}
use Rattle.std.proofs.Common.{◌≡◌, ℕ, ◌+◌, ◌≤◌, List, [], ◌∷◌, ◌++◌, length, refl, sym, ap}
use Rattle.std.proofs.Common.{subst, ◌∙◌, arith, Bool, true, false, MatchBool, append_assoc}
use Rattle.clr_types.specs.Types.{TypeRow}
use Rattle.clr_types.specs.declared.segment.SegInfo.{SegInfo}
use Rattle.clr_heap.specs.View.{HeapView, segment_at}
use Rattle.clr_model.specs.Compaction.{Plug, Move, IsDestination, Placed}
use Rattle.clr_model.proofs.PlugRoom.{ArePlugs}
use Rattle.clr_pinq.specs.declared.entry.PinEntry.{PinEntry}
use Rattle.clr_plan.specs.Pointing.{IsAt}
use Rattle.clr_plan.specs.Waiting.{move_to, ranges_from, with_pin}
use Rattle.clr_plan.specs.Scans.{CanScan, plugs_between}
use Rattle.clr_plan.specs.Runs.{HasNext}
use Rattle.clr_plan.specs.Stages.{Stage, all_plugs, IsAmong, CanGo, HasGone}
use Rattle.clr_plan.specs.Parts.{Around, plugs_around, CanPlan, HasPlacedPart}
use Rattle.clr_plan.specs.declared.pointer.Pointer.{Pointer}
use Rattle.clr_plan.specs.declared.scan.NextPlug.{NextPlug}

-- placed from one pointer to the next, and on from there
pub placed_append : (segments : List SegInfo) (all : List Plug) (pointer : ℕ) (ps : List Plug) (vs : List Move)
    (mid : ℕ) (qs : List Plug) (ws : List Move) (after : ℕ)
    → Placed segments all pointer ps vs mid → Placed segments all mid qs ws after → Placed segments all pointer
    (ps ++ qs) (vs ++ ws) after
placed_append segments all pointer [] [] mid qs ws after h k = subst (λ n. Placed segments all n qs ws after) h k
placed_append segments all pointer [] (v ∷ vs) mid qs ws after h k = absurd h
placed_append segments all pointer (p ∷ ps) [] mid qs ws after h k = absurd h
placed_append segments all pointer (p ∷ ps) (v ∷ vs) mid qs ws after h k =
    (h.0, h.1, step (λ pointer' g. placed_append segments all pointer' ps vs mid qs ws after g k) p.pinned h.2)
  where
    step : ((pointer' : ℕ) → Placed segments all pointer' ps vs mid → Placed segments all pointer' (ps ++ qs) (vs ++ ws)
        after) → (b : Bool)
        → MatchBool b ((v.to ≡ p.start) × Placed segments all pointer ps vs mid)
        (IsDestination segments all pointer p.size v.to × Placed segments all (v.to + v.size) ps vs mid)
        → MatchBool b ((v.to ≡ p.start) × Placed segments all pointer (ps ++ qs) (vs ++ ws) after)
        (IsDestination segments all pointer p.size v.to × Placed segments all (v.to + v.size) (ps ++ qs) (vs ++ ws)
        after)
    step more true g = (g.0, more pointer g.1)
    step more false g = (g.0, more (v.to + v.size) g.1)

module _ (w : Around) (rows : List TypeRow) (h : HeapView) (entries : List PinEntry) (before : Pointer) (k p e : ℕ)
    (can : CanPlan w rows h entries before k p e) where
  abbrev mine : List Plug
  mine = plugs_between rows h k p e

  abbrev all : List Plug
  all = plugs_around w mine

  -- the plugs below the place are planned
  pub record IsPlanning (now : List PinEntry) (at : Pointer) (place : ℕ) : Type 0 where
    pub passed : List Plug
    pub plugs : mine ≡ passed ++ plugs_between rows h k place e
    pub moves : List Move
    pub placed : Placed w.segments all before.place passed moves at.place
    pub among : IsAmong h w.segments at k
    pub scan : CanScan rows h k place e
    pub behind : at.passed ≤ length now
    pub stands : IsAt w.segments (w.done ++ passed) (plugs_between rows h k place e ++ w.ahead)
        (segment_at h at.segment) at.place (ranges_from at.passed now)

  unfoldable pub plan-starts : IsPlanning entries before p
  plan-starts = record {
    passed = [];
    plugs = refl;
    moves = [];
    placed = refl;
    among = can.among;
    scan = can.scan;
    behind = can.behind;
    stands = subst (λ ds. IsAt w.segments ds (mine ++ w.ahead) (segment_at h before.segment) before.place
        (ranges_from before.passed entries)) (sym (append-nil w.done)) can.stands;
  }

  -- what is passed and what is left are the plugs of the collection
  pub whole : (passed rest : List Plug) → mine ≡ passed ++ rest → all ≡ (w.done ++ passed) ++ (rest ++ w.ahead)
  whole passed rest e =
      ap (λ ps. w.done ++ (ps ++ w.ahead)) e
      ∙ ap (λ ps. w.done ++ ps) (append_assoc passed rest w.ahead)
      ∙ sym (append_assoc w.done passed (rest ++ w.ahead))

  module _ (now : List PinEntry) (at : Pointer) (place : ℕ) (s : IsPlanning now at place) where
    -- at the end of the part all is planned
    unfoldable pub plan-ends : plugs_between rows h k place e ≡ [] → HasPlacedPart w rows h now before k p e at
    plan-ends none =
        let passed : s.passed ≡ mine = sym (s.plugs ∙ ap (λ ps. s.passed ++ ps) none ∙ append-nil s.passed) in
        record {
          moves = s.moves;
          placed = subst (λ ps. Placed w.segments all before.place ps s.moves at.place) passed s.placed;
          among = s.among;
          behind = s.behind;
          stands = subst (λ ps. IsAt w.segments (w.done ++ ps) w.ahead (segment_at h at.segment) at.place
              (ranges_from at.passed now)) passed
              (subst (λ ps. IsAt w.segments (w.done ++ s.passed) (ps ++ w.ahead) (segment_at h at.segment) at.place
              (ranges_from at.passed now)) none s.stands);
        }

    module _ (found : NextPlug) (next : HasNext rows h k place e found) where
      abbrev rest : List Plug
      rest = plugs_between rows h k found.next e

      abbrev pub stage : Stage
      stage = record { segments = w.segments; done = w.done ++ s.passed; plug = found.plug; ahead = rest ++ w.ahead }

      pub same : all ≡ all_plugs stage
      same = whole s.passed (plugs_between rows h k place e) s.plugs
          ∙ ap (λ ps. (w.done ++ s.passed) ++ (ps ++ w.ahead)) next.plugs

      pub can-settle : CanGo stage h now at k found.plug
      can-settle = record {
        among = s.among;
        plugs = subst (λ ps. ArePlugs w.segments ps) same can.plugs;
        next = refl;
        of = next.segment;
        behind = s.behind;
        stands = subst (λ ps. IsAt w.segments (w.done ++ s.passed) (ps ++ w.ahead) (segment_at h at.segment) at.place
            (ranges_from at.passed now)) next.plugs s.stands;
      }

      unfoldable pub plan-more : (new : List PinEntry) (after : Pointer) (to : ℕ) → HasGone stage h now at k found.plug
          to after → length now ≤ length new → ranges_from after.passed new ≡ with_pin (ranges_from after.passed now)
          found.plug → IsPlanning new after found.next
      plan-more new after to gone longer pins =
          let move : Move = move_to found.plug to in
          record {
            passed = s.passed ++ found.plug ∷ [];
            plugs = s.plugs ∙ ap (λ ps. s.passed ++ ps) next.plugs ∙ sym (append_assoc s.passed (found.plug ∷ []) rest);
            moves = s.moves ++ move ∷ [];
            placed = placed_append w.segments all before.place s.passed s.moves at.place (found.plug ∷ []) (move ∷ [])
                after.place s.placed
                (subst (λ ps. Placed w.segments ps at.place (found.plug ∷ []) (move ∷ []) after.place) (sym same)
                gone.placed);
            among = gone.among;
            scan = next.scan;
            behind = let b = gone.behind in omega (arith, b, longer);
            stands = subst (λ ps. IsAt w.segments (w.done ++ (s.passed ++ found.plug ∷ [])) (rest ++ w.ahead)
                (segment_at h after.segment) after.place ps) (sym pins)
                (subst (λ ds. IsAt w.segments ds (rest ++ w.ahead) (segment_at h after.segment) after.place
                (with_pin (ranges_from after.passed now) found.plug))
                (append_assoc w.done s.passed (found.plug ∷ [])) gone.stands);
          }
