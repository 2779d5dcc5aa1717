use Rattle.std.proofs.Common.{◌≡◌, []}
use Rattle.clr_view.specs.Marks.{Marked}
use Rattle.clr_mark.specs.Markings.{HasReached, weight}
use Rattle.clr_mark.specs.TieLists.{LeadsBy}
use Rattle.clr_mark.specs.Waiting.{IsGrayBy}
use Rattle.clr_mark.proofs.marker.Marker.drain_over.Given as goal

abbrev pub invariant-loop-low : goal.invariant-loop-low
invariant-loop-low l = record {
  gray : IsGrayBy l.types (LeadsBy l.types l.ties) l.heap l.self;
  marked : HasReached l.types (LeadsBy l.types l.ties l.fn.heap l.fn.self.oldest) (Marked l.types l.fn.heap) l.fn.heap
      l.heap;
  empty : l.self.stack ≡ [];
  capacity : l.self.capacity ≡ l.fn.self.capacity;
  oldest : l.self.oldest ≡ l.fn.self.oldest;
}

-- an object that isn't marked weighs two, a range one
abbrev pub decreases-loop-low : goal.decreases-loop-low
decreases-loop-low l = weight l.types l.heap l.self
