-- The plugs of a collection in a heap, in the order in which they are planned, and how far a plan has come.
use Rattle.std.specs.Prelude.{◌≡◌, ℕ, ◌<◌, ◌≤◌, max, true, List, [], ◌++◌, length}
use Rattle.std.specs.Prelude.{if◌then◌else◌, ◌==◌}
use Rattle.clr_types.specs.Types.{TypeRow}
use Rattle.clr_types.specs.LawfulLayout.{IsLawfulLayout}
use Rattle.clr_types.specs.Segments.{ephemeral, is_small_or_ephemeral, reserved_end}
use Rattle.clr_types.specs.declared.segment.SegInfo.{SegInfo}
use Rattle.clr_heap.specs.View.{first_of, HeapView, IsHeap, last_of, segment_at}
use Rattle.clr_view.specs.View.{layout_in}
use Rattle.clr_model.specs.Sweep.{part_start, taking_part}
use Rattle.clr_model.specs.Compaction.{first_pointer, Move, Placed, Plug, raised_past_pins}
use Rattle.clr_model.proofs.CondemnedPlugs.{AreCondemned}
use Rattle.clr_plan.specs.PartLists.{plugs_from, whole_plugs}
use Rattle.clr_plan.specs.Pointing.{IsAt}
use Rattle.clr_pinq.specs.declared.entry.PinEntry.{PinEntry}
use Rattle.clr_plan.specs.Waiting.{ranges_from}
use Rattle.clr_plan.specs.Scans.{CanScan, plugs_between}
use Rattle.clr_plan.specs.declared.pointer.Pointer.{Pointer}

-- ---- plugs

-- the plugs of segment k, where it holds small objects
abbrev pub segment_plugs : List TypeRow → HeapView → ℕ → List Plug
segment_plugs rows h k = if is_small_or_ephemeral (segment_at h k).kind then whole_plugs rows h k else []

-- those of n segments from segment k on
abbrev pub small_plugs : List TypeRow → HeapView → ℕ → ℕ → List Plug
small_plugs rows h k n = plugs_from h (λ s. is_small_or_ephemeral s.kind) (whole_plugs rows h) k n

-- the start of the condemned part of segment k
abbrev pub start_of_part : List TypeRow → HeapView → ℕ → ℕ → ℕ
start_of_part rows h g k = part_start (layout_in rows h) g (segment_at h k)

-- the plugs of generations 1 and 2, where e is the ephemeral segment
abbrev pub older_plugs : List TypeRow → HeapView → ℕ → ℕ → List Plug
older_plugs rows h g e = (if g == 2 then small_plugs rows h 0 e else [])
    ++ (if g == 0 then [] else plugs_between rows h e (start_of_part rows h g e) h.start0)

-- those of generation 0
abbrev pub young_plugs : List TypeRow → HeapView → ℕ → List Plug
young_plugs rows h e = plugs_between rows h e h.start0 (last_of h e)

abbrev pub condemned_plugs : List TypeRow → HeapView → ℕ → ℕ → List Plug
condemned_plugs rows h g e = older_plugs rows h g e ++ young_plugs rows h e

-- ---- the plan

-- the segments that take part
abbrev pub parts_in : List TypeRow → HeapView → ℕ → List SegInfo
parts_in rows h g = taking_part is_small_or_ephemeral g (layout_in rows h)

-- segment e is the ephemeral one, the heap can be read, and its plugs lie as a lawful machine's do
pub record CanPlanHeap (rows : List TypeRow) (h : HeapView) (g e : ℕ) : Type 0 where
  pub heap : IsHeap h
  pub inside : e < length h.segments
  pub young : segment_at h e ≡ ephemeral (layout_in rows h)
  pub last : (k : ℕ) → k < length h.segments → is_small_or_ephemeral (segment_at h k).kind ≡ true → k ≤ e
  pub least : g ≤ 2
  pub laid : IsLawfulLayout (layout_in rows h)
  pub condemned : AreCondemned (layout_in rows h) g (parts_in rows h g) (condemned_plugs rows h g e)
  pub scans : (k : ℕ) → k < e → CanScan rows h k (first_of h k) (last_of h k)
  pub older_scan : CanScan rows h e (start_of_part rows h g e) h.start0
  pub young_scan : CanScan rows h e h.start0 (last_of h e)

-- From the place `from`, when the plugs `earlier` were placed, the plan has placed the plugs `passed` too by these
-- moves, and `ahead` are to come.
pub record HasReached (h : HeapView) (segments : List SegInfo) (all : List Plug) (entries : List PinEntry) (from : ℕ)
    (earlier passed ahead : List Plug) (moves : List Move) (at : Pointer) : Type 0 where
  pub split : all ≡ (earlier ++ passed) ++ ahead
  pub placed : Placed segments all from passed moves at.place
  pub high : at.high ≡ reserved_end (segment_at h at.segment)
  pub behind : at.passed ≤ length entries
  pub stands : IsAt segments (earlier ++ passed) ahead (segment_at h at.segment) at.place
      (ranges_from at.passed entries)

-- The plugs of the heap are placed by these moves, and generations 1 and 0 begin at these places then.
pub record HasPlannedHeap (rows : List TypeRow) (h : HeapView) (g e : ℕ) (moves : List Move) (start1 start0 : ℕ) : Type
    0 where
  pub older_moves : List Move
  pub young_moves : List Move
  pub after1 : ℕ
  pub after0 : ℕ
  pub moves_are : moves ≡ older_moves ++ young_moves
  pub placed1 : Placed (parts_in rows h g) (condemned_plugs rows h g e)
      (first_pointer (layout_in rows h) g (parts_in rows h g)) (older_plugs rows h g e) older_moves after1
  pub start1_is : start1 ≡ (if g == 0 then h.start1 else raised_past_pins (older_plugs rows h g e)
      (max after1 (first_of h e)))
  pub placed0 : Placed (parts_in rows h g) (condemned_plugs rows h g e) (if g == 0 then after1 else start1)
      (young_plugs rows h e) young_moves after0
  pub start0_is : start0 ≡ raised_past_pins (condemned_plugs rows h g e) after0

-- the plugs of generations 1 and 2 in the ephemeral segment
abbrev pub old_part : List TypeRow → HeapView → ℕ → ℕ → List Plug
old_part rows h g e = plugs_between rows h e (start_of_part rows h g e) h.start0

-- the pointer stands between the plugs of the older generations and the young ones
pub record IsBetween (rows : List TypeRow) (h : HeapView) (g e : ℕ) (entries : List PinEntry) (at : Pointer) : Type
    0 where
  pub order : at.segment ≤ e
  pub high : at.high ≡ reserved_end (segment_at h at.segment)
  pub behind : at.passed ≤ length entries
  pub stands : IsAt (parts_in rows h g) (older_plugs rows h g e) (young_plugs rows h e) (segment_at h at.segment)
      at.place (ranges_from at.passed entries)

-- it is in the ephemeral segment, where generation 1 begins
pub record IsRaisedTo (rows : List TypeRow) (h : HeapView) (g e : ℕ) (entries : List PinEntry)
    (from at : Pointer) : Type 0 where
  pub segment : at.segment ≡ e
  pub place : at.place ≡ raised_past_pins (older_plugs rows h g e) (max from.place (first_of h e))
  pub between : IsBetween rows h g e entries at
