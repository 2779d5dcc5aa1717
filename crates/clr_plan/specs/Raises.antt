-- The pointer raised past pins that begin at it.
use Rattle.std.specs.Prelude.{◌≡◌, ◌≤◌, List, ◌++◌, length}
use Rattle.clr_pinq.specs.declared.entry.PinEntry.{PinEntry}
use Rattle.clr_plan.specs.Waiting.{ranges_from}
use Rattle.clr_types.specs.Segments.{reserved_end}
use Rattle.clr_heap.specs.View.{HeapView, segment_at}
use Rattle.clr_model.specs.Compaction.{raised_past_pins}
use Rattle.clr_model.proofs.PlugRoom.{ArePlugs}
use Rattle.clr_plan.specs.Pointing.{IsAt}
use Rattle.clr_plan.specs.Parts.{Around}
use Rattle.clr_plan.specs.declared.pointer.Pointer.{Pointer}

-- the pointer stands between the plugs that the walk has passed and those that are ahead
pub record CanRaise (w : Around) (h : HeapView) (entries : List PinEntry) (at : Pointer) : Type 0 where
  pub plugs : ArePlugs w.segments (w.done ++ w.ahead)
  pub high : at.high ≡ reserved_end (segment_at h at.segment)
  pub behind : at.passed ≤ length entries
  pub stands : IsAt w.segments w.done w.ahead (segment_at h at.segment) at.place (ranges_from at.passed entries)

-- and where it stands when it is past the pins that begin at it
pub record HasRaised (w : Around) (h : HeapView) (entries : List PinEntry) (old new : Pointer) : Type 0 where
  pub segment : new.segment ≡ old.segment
  pub high : new.high ≡ old.high
  pub place : new.place ≡ raised_past_pins w.done old.place
  pub behind : new.passed ≤ length entries
  pub stands : IsAt w.segments w.done w.ahead (segment_at h new.segment) new.place (ranges_from new.passed entries)
