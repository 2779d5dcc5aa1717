-- A place in a plug whose plan stands in the heap, and places side by side that go equally far.
use Rattle.std.specs.Prelude.{◌≡◌, ℕ, ◌+◌, ◌-◌, ◌*◌, ◌/◌, ◌<◌, ◌≤◌, List, unsigned_abs}
use Rattle.clr_types.specs.Rising.{IsIn}
use Rattle.clr_heap.specs.View.{HeapView}
use Rattle.clr_model.specs.Compaction.{Move, moved_by}
use Rattle.clr_plugs.specs.BrickEntries.{BricksView}
use Rattle.clr_plugs.specs.Plans.{back_number, IsPlanned, PlannedPart, PlannedPlug}
use Rattle.clr_moves.specs.Overlaid.{MayGo}
use Rattle.clr_moves.specs.Told.{GoesDown}
use Rattle.clr_moves.specs.declared.condemned.Condemned.{Condemned}
use Rattle.clr_moves.specs.declared.stretch.Stretch.{Stretch}

-- the plug is the nearest one at the place or below it
pub record IsNearest (plugs : List PlannedPlug) (place : ℕ) (plug : PlannedPlug) : Type 0 where
  pub among : IsIn plug plugs
  pub below : plug.start ≤ place
  pub nearest : (p : PlannedPlug) → IsIn p plugs → p.start ≤ place → p.start ≤ plug.start

-- the place is in a planned part, and the nearest plug at it or below it goes this many bytes down
pub record IsNearPlug (h : HeapView) (bricks : BricksView) (place back : ℕ) : Type 0 where
  pub part : PlannedPart
  pub planned : IsPlanned h bricks part
  pub low : part.low ≤ place
  pub high : place < part.high
  pub plug : PlannedPlug
  pub near : IsNearest part.plugs place plug
  pub goes : GoesDown plug
  pub back_is : back ≡ back_number plug.distance

-- The stretch has the place and others of the part in the place's brick. At each of them the nearest plug goes as far.
pub record IsStretchAt (part : PlannedPart) (place : ℕ) (s : Stretch) : Type 0 where
  pub inside : (s.low ≤ place) × (place < s.stop)
  pub low : part.low ≤ s.low
  pub high : s.stop ≤ place / 4096 * 4096 + 4096
  pub same : (x : ℕ) (plug : PlannedPlug) → s.low ≤ x → x < s.stop → IsNearest part.plugs x plug
      → s.down ≡ unsigned_abs plug.distance

-- each place of the stretch that goes, goes as far down as the stretch tells
abbrev pub IsStretchOf : HeapView → Condemned → List Move → Stretch → Type 0
IsStretchOf view g vs s = (x : ℕ) → s.low ≤ x → x < s.stop → MayGo view g vs x → x - s.down ≡ moved_by vs x
