-- The parts of the lowest segments: their plugs, and what a plan writes for them.
use Rattle.std.specs.Prelude.{◌≡◌, ◌⊎◌, ℕ, zero, suc, ◌+◌, ◌*◌, ◌/◌, ◌<◌, ◌≤◌, true, List, [], ◌∷◌, ◌++◌, length, map}
use Rattle.std.specs.Prelude.{Bool, if◌then◌else◌}
use Rattle.clr_types.specs.Types.{TypeRow}
use Rattle.clr_types.specs.declared.segment.SegInfo.{SegInfo}
use Rattle.clr_covers.specs.Covers.{spans}
use Rattle.clr_bricks.specs.Bricks.{entry_at}
use Rattle.clr_heap.specs.View.{first_of, HeapView, last_of, segment_at}
use Rattle.clr_model.specs.Compaction.{Move, Plug}
use Rattle.clr_plugs.specs.Plans.{IsPlanned, PlannedPart}
use Rattle.clr_moves.specs.Moves.{part_of, takes}
use Rattle.clr_moves.specs.declared.condemned.Condemned.{Condemned}
use Rattle.clr_plan.specs.LaidParts.{opened_by, planned_plugs}
use Rattle.clr_plan.specs.Scans.{plugs_between}
use Rattle.clr_plan.specs.States.{PlanState}
use Rattle.clr_plan.specs.Writes.{AreSavedAt, HasWritten}

-- the plugs of the parts of the k lowest segments, where each segment has these
abbrev pub plugs_in : HeapView → Condemned → (ℕ → List Plug) → ℕ → List Plug
plugs_in h g plugs zero = []
plugs_in h g plugs (suc k) = plugs_in h g plugs k ++ (if takes g (segment_at h k) then plugs k else [])

-- those of n segments from segment k on, of the segments that pass the test
abbrev pub plugs_from : HeapView → (SegInfo → Bool) → (ℕ → List Plug) → ℕ → ℕ → List Plug
plugs_from h test plugs k zero = []
plugs_from h test plugs k (suc n) = (if test (segment_at h k) then plugs k else []) ++ plugs_from h test plugs (k + 1) n

-- the plugs of whole segments
abbrev pub whole_plugs : List TypeRow → HeapView → ℕ → List Plug
whole_plugs rows h t = plugs_between rows h t (first_of h t) (last_of h t)

-- the moves of the k lowest
abbrev pub moves_in : HeapView → Condemned → (ℕ → List Move) → ℕ → List Move
moves_in h g each zero = []
moves_in h g each (suc k) = moves_in h g each k ++ (if takes g (segment_at h k) then each k else [])

-- the places of those of their plugs whose information stands in bytes that no live cell has
abbrev pub opened_in : HeapView → Condemned → (ℕ → List Plug) → ℕ → List ℕ
opened_in h g plugs zero = []
opened_in h g plugs (suc k) =
    if takes g (segment_at h k) then opened_by (opened_in h g plugs k) (first_of h k) (part_of h g k) (plugs k)
    else opened_in h g plugs k

-- the plan of the part of segment t by these moves
abbrev pub plan_in : HeapView → Condemned → (ℕ → List Plug) → ℕ → List Move → PlannedPart
plan_in h g plugs t vs = record {
  segment = t;
  low = part_of h g t;
  high = last_of h t;
  plugs = planned_plugs (part_of h g t) (plugs t) vs;
}

-- as many moves as plugs, of their starts and sizes
abbrev pub AreFor : List Plug → List Move → Type 0
AreFor [] [] = Unit {0}
AreFor [] (v ∷ vs) = ⊥
AreFor (p ∷ ps) [] = ⊥
AreFor (p ∷ ps) (v ∷ vs) = (v.start ≡ p.start) × (v.size ≡ p.size) × AreFor ps vs

-- The plans of the parts of the k lowest segments, by these moves, stand in the heap, the bricks and the queue. From
-- segment k on all is as it was.
pub record AreLaid (old now : PlanState) (g : Condemned) (plugs : ℕ → List Plug) (k : ℕ) (moves : List Move)
    : Type 0 where
  pub each : ℕ → List Move
  pub moves_are : moves ≡ moves_in old.heap g each k
  pub fit : (t : ℕ) → t < k → takes g (segment_at old.heap t) ≡ true → AreFor (plugs t) (each t)
  pub plans : (t : ℕ) → t < k → takes g (segment_at old.heap t) ≡ true
      → IsPlanned now.heap now.bricks (plan_in old.heap g plugs t (each t))
  pub low : ℕ
  pub words : HasWritten old.heap now.heap now.queue.entries (map (λ q. q.start) (plugs_in old.heap g plugs k))
      (opened_in old.heap g plugs k) low
  pub behind : (t : ℕ) → k ≤ t → t < length old.heap.segments → low + 24 ≤ first_of old.heap t
  pub saved : AreSavedAt now.queue.entries (plugs_in old.heap g plugs k)
  pub count : old.queue.spare + length old.queue.entries ≡ now.queue.spare + length now.queue.entries
  pub entries : (i : ℕ)
      → ((t : ℕ) → t < k → takes g (segment_at old.heap t) ≡ true
      → (i + 1 < part_of old.heap g t / 4096) ⊎ (last_of old.heap t ≤ i * 4096))
      → entry_at now.bricks i ≡ entry_at old.bricks i
  pub spans_are : spans now.bricks ≡ spans old.bricks
