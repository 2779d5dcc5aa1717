-- Parts that are whole segments of generation 2, planned one after the other.
use Rattle.std.specs.Prelude.{◌≡◌, ℕ, ◌+◌, ◌-◌, ◌<◌, ◌≤◌, true, List, [], ◌++◌, length}
use Rattle.clr_types.specs.Types.{TypeRow}
use Rattle.clr_types.specs.Segments.{generation, reserved_end}
use Rattle.clr_types.specs.declared.segment.SegInfo.{SegInfo}
use Rattle.clr_heap.specs.View.{first_of, frame, HeapView, IsHeap, last_of, segment_at}
use Rattle.clr_model.specs.Compaction.{Move, Plug}
use Rattle.clr_model.proofs.PlugRoom.{ArePlugs}
use Rattle.clr_generations.specs.Tables.{AreBricksOf}
use Rattle.clr_pinq.specs.Queue.{QueueView}
use Rattle.clr_pinq.specs.declared.entry.PinEntry.{PinEntry}
use Rattle.clr_plugs.specs.BrickEntries.{BricksView}
use Rattle.clr_moves.specs.Moves.{part_of, takes}
use Rattle.clr_moves.specs.declared.condemned.Condemned.{Condemned}
use Rattle.clr_plan.specs.Firsts.{IsLowest}
use Rattle.clr_plan.specs.PartLists.{AreLaid, plugs_from, plugs_in, whole_plugs}
use Rattle.clr_plan.specs.Planned.{pinned_count}
use Rattle.clr_plan.specs.Plans.{HasReached}
use Rattle.clr_plan.specs.Pointing.{IsAt}
use Rattle.clr_plan.specs.Scans.{CanScan}
use Rattle.clr_plan.specs.Stages.{IsAmong}
use Rattle.clr_plan.specs.States.{PlanState}
use Rattle.clr_plan.specs.declared.pointer.Pointer.{Pointer}

-- the segments that take part in a collection, the place from which its first plug is placed, the plugs of the parts of
-- each segment, and those that come behind these parts
pub record Wholes : Type 0 where
  pub segments : List SegInfo
  pub pointer : ℕ
  pub plugs : ℕ → List Plug
  pub behind : List Plug

-- the plugs of the collection, where the parts are those of the `count` lowest segments
abbrev pub wholes : Wholes → HeapView → Condemned → ℕ → List Plug
wholes w h g count = plugs_in h g w.plugs count ++ w.behind

-- The heap can be read, some segment has a part, and the plugs lie as a lawful machine's do. Of the `count` lowest
-- segments the parts are the whole segments, of generation 2.
pub record CanPlanWhole (w : Wholes) (rows : List TypeRow) (h : HeapView) (g : Condemned) (count : ℕ) : Type 0 where
  pub heap : IsHeap h
  pub inside : count ≤ length h.segments
  pub some : (t : ℕ) × (t < length h.segments) × (takes g (segment_at h t) ≡ true)
  pub lie : ArePlugs w.segments (wholes w h g count)
  pub opens : (n : ℕ) → IsLowest h g n
      → (w.pointer ≡ first_of h n) × IsAt w.segments [] (wholes w h g count) (segment_at h n) w.pointer []
  pub among : (at : Pointer) (k : ℕ) → k < count → takes g (segment_at h k) ≡ true → at.segment ≤ k
      → at.high ≡ reserved_end (segment_at h at.segment) → IsAmong h w.segments at k
  pub plugs_are : (k : ℕ) → k < count → takes g (segment_at h k) ≡ true → w.plugs k ≡ whole_plugs rows h k
  pub starts : (k : ℕ) → k < count → takes g (segment_at h k) ≡ true → part_of h g k ≡ first_of h k
  pub scans : (k : ℕ) → k < count → takes g (segment_at h k) ≡ true → CanScan rows h k (first_of h k) (last_of h k)
  pub ages : (k x : ℕ) → k < count → takes g (segment_at h k) ≡ true → first_of h k ≤ x → x < last_of h k
      → generation (frame h) x ≡ 2

-- the plugs of the parts of the k lowest segments are placed
pub record HasReachedWhole (w : Wholes) (h : HeapView) (g : Condemned) (count k : ℕ) (entries : List PinEntry)
    (moves : List Move) (at : Pointer) : Type 0 where
  pub reached : HasReached h w.segments (wholes w h g count) entries w.pointer [] (plugs_in h g w.plugs k)
      (plugs_from h (takes g) w.plugs k (count - k) ++ w.behind) moves at
  pub nexts : (j : ℕ) → k ≤ j → takes g (segment_at h j) ≡ true → at.segment ≤ j

-- these parts can be planned and written, and the queue has room for their pins
pub record CanLayWhole (w : Wholes) (rows : List TypeRow) (h : HeapView) (bricks : BricksView) (queue : QueueView)
    (g : Condemned) (count : ℕ) : Type 0 where
  pub can : CanPlanWhole w rows h g count
  pub bricks_of : AreBricksOf (frame h) bricks
  pub empty : queue.entries ≡ []
  pub spare : pinned_count (wholes w h g count) + 4 ≤ queue.spare

-- the parts of the k lowest segments are laid, and the pointer stands behind them
pub record AreLaidWhole (w : Wholes) (old now : PlanState) (g : Condemned) (count k : ℕ) (at : Pointer) : Type 0 where
  pub moves : List Move
  pub reached : HasReachedWhole w old.heap g count k now.queue.entries moves at
  pub laid : AreLaid old now g w.plugs k moves
  pub left : old.queue.spare ≤ now.queue.spare + pinned_count (plugs_in old.heap g w.plugs k)
