-- The plugs of a part of a segment, planned one after the other.
use Rattle.std.specs.Prelude.{ℕ, ◌≤◌, List, ◌++◌, length}
use Rattle.clr_types.specs.Types.{TypeRow}
use Rattle.clr_types.specs.declared.segment.SegInfo.{SegInfo}
use Rattle.clr_heap.specs.View.{HeapView, segment_at}
use Rattle.clr_model.specs.Compaction.{Plug, Move, Placed}
use Rattle.clr_model.proofs.PlugRoom.{ArePlugs}
use Rattle.clr_plan.specs.Pointing.{IsAt}
use Rattle.clr_pinq.specs.declared.entry.PinEntry.{PinEntry}
use Rattle.clr_plan.specs.Waiting.{ranges_from}
use Rattle.clr_plan.specs.Scans.{CanScan, plugs_between}
use Rattle.clr_plan.specs.Stages.{IsAmong}
use Rattle.clr_plan.specs.declared.pointer.Pointer.{Pointer}

-- the segments that take part in a collection, and its plugs before and behind a part
pub record Around : Type 0 where
  pub segments : List SegInfo
  pub done : List Plug
  pub ahead : List Plug

-- the plugs of the collection, with these between
abbrev pub plugs_around : Around → List Plug → List Plug
plugs_around w plugs = w.done ++ (plugs ++ w.ahead)

-- the part of segment k from p to e is the next one
pub record CanPlan (w : Around) (rows : List TypeRow) (h : HeapView) (entries : List PinEntry) (at : Pointer)
    (k p e : ℕ) : Type 0 where
  pub among : IsAmong h w.segments at k
  pub plugs : ArePlugs w.segments (plugs_around w (plugs_between rows h k p e))
  pub scan : CanScan rows h k p e
  pub behind : at.passed ≤ length entries
  pub stands : IsAt w.segments w.done (plugs_between rows h k p e ++ w.ahead) (segment_at h at.segment) at.place
      (ranges_from at.passed entries)

-- its plugs are placed
pub record HasPlacedPart (w : Around) (rows : List TypeRow) (h : HeapView) (entries : List PinEntry) (before : Pointer)
    (k p e : ℕ) (after : Pointer) : Type 0 where
  pub moves : List Move
  pub placed : Placed w.segments (plugs_around w (plugs_between rows h k p e)) before.place (plugs_between rows h k p e)
      moves after.place
  pub among : IsAmong h w.segments after k
  pub behind : after.passed ≤ length entries
  pub stands : IsAt w.segments (w.done ++ plugs_between rows h k p e) w.ahead (segment_at h after.segment) after.place
      (ranges_from after.passed entries)
