-- A run of survivors, and the plug that it becomes.
use Rattle.std.specs.Prelude.{◌≡◌, ℕ, ◌+◌, ◌<◌, ◌≤◌, Bool, ◌&&◌, ◌==◌, List, [], ◌∷◌, if◌then◌else◌}
use Rattle.std.specs.Bool.{beq}
use Rattle.clr_types.specs.Types.{TypeRow}
use Rattle.clr_heap.specs.View.{HeapView, segment_at}
use Rattle.clr_model.specs.Compaction.{Plug, plug_end}
use Rattle.clr_plan.specs.Scans.{CanScan, plugs_between}
use Rattle.clr_plan.specs.declared.scan.NextPlug.{NextPlug}

-- the second plug follows the first and is of its kind
abbrev pub touches : Plug → Plug → Bool
touches r p = ((r.start + r.size == p.start) && (r.segment == p.segment))
    && ((r.generation == p.generation) && beq r.pinned p.pinned)

-- plugs with a run before them
abbrev pub merged : Plug → List Plug → List Plug
merged r [] = r ∷ []
merged r (p ∷ ps) = if touches r p then record p { start = r.start; size = r.size + p.size } ∷ ps else r ∷ p ∷ ps

-- a run of segment k, from whose end the segment can be read
pub record IsRun (rows : List TypeRow) (h : HeapView) (k e : ℕ) (run : Plug) : Type 0 where
  pub segment : run.segment ≡ (segment_at h k).base
  pub scan : CanScan rows h k (plug_end run) e

-- the run has become a plug, behind which the others of the segment are ahead
pub record HasRun (rows : List TypeRow) (h : HeapView) (k e : ℕ) (run : Plug) (found : NextPlug) : Type 0 where
  pub plugs : merged run (plugs_between rows h k (plug_end run) e) ≡ found.plug ∷ plugs_between rows h k found.next e
  pub segment : found.plug.segment ≡ (segment_at h k).base
  pub scan : CanScan rows h k found.next e
  pub above : plug_end run ≤ found.next

-- the first plug of segment k from p to e
pub record HasNext (rows : List TypeRow) (h : HeapView) (k p e : ℕ) (found : NextPlug) : Type 0 where
  pub plugs : plugs_between rows h k p e ≡ found.plug ∷ plugs_between rows h k found.next e
  pub segment : found.plug.segment ≡ (segment_at h k).base
  pub scan : CanScan rows h k found.next e
  pub above : p < found.next

-- a walk over segment k has come from p to a place, and nothing but what doesn't stay was passed
abbrev pub IsPassing : List TypeRow → HeapView → ℕ → ℕ → ℕ → ℕ → Type 0
IsPassing rows h k p e place = CanScan rows h k place e × (plugs_between rows h k p e ≡ plugs_between rows h k place e)
    × (p ≤ place)
