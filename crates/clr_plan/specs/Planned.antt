-- What a plan that stands in the heap, the bricks and the queue says of the compaction that it is for.
use Rattle.std.specs.Prelude.{◌≡◌, ◌⊎◌, ℕ, ◌+◌, ◌-◌, ◌<◌, ◌≤◌, Bool, ◌&&◌, List, filter, length}
use Rattle.clr_types.specs.Segments.{Layout}
use Rattle.clr_types.specs.Types.{TypeRow}
use Rattle.clr_heap.specs.View.{HeapView, word_of}
use Rattle.clr_model.specs.Compaction.{Move, Plug}
use Rattle.clr_model.specs.Machine.{Machine}
use Rattle.clr_view.specs.Memory.{is_marked}
use Rattle.clr_view.specs.View.{objects_in}
use Rattle.clr_pinq.specs.declared.entry.PinEntry.{PinEntry}
use Rattle.clr_plugs.specs.BrickEntries.{BricksView}
use Rattle.clr_moves.specs.Moves.{IsInPart, move_at, part_of, plug_stop}
use Rattle.clr_moves.specs.Overlaid.{IsCompactionOf, IsOverlaid}
use Rattle.clr_moves.specs.Told.{TellMoves}
use Rattle.clr_plan.specs.Scans.{has_pin}
use Rattle.clr_moves.specs.declared.condemned.Condemned.{Condemned}

-- how many marked objects are pinned
abbrev pub pinned_marked : List TypeRow → HeapView → ℕ
pinned_marked rows h = length (filter (λ o. is_marked h o && has_pin (word_of h (o.place - 8))) (objects_in rows h))

-- how many of the plugs are pinned
abbrev pub pinned_count : List Plug → ℕ
pinned_count ps = length (filter (λ p. p.pinned) ps)

-- This many bytes right below the place are unused: down to the end of the plug before it in its part, or to where the
-- part begins.
pub record AreUnusedBelow (h : HeapView) (g : Condemned) (vs : List Move) (place bytes : ℕ) : Type 0 where
  pub part : ℕ
  pub inside : IsInPart h g part place
  pub within : part_of h g part + bytes ≤ place
  pub unused : (j : ℕ) → j < length vs → (plug_stop (move_at vs j) + bytes ≤ place) ⊎ (place ≤ (move_at vs j).start)
  pub ends : (part_of h g part + bytes ≡ place)
      ⊎ ((j : ℕ) × (j < length vs) × (plug_stop (move_at vs j) + bytes ≡ place))

-- the word before each plug tells how many bytes below it are unused
abbrev pub TellGaps : HeapView → Condemned → List Move → Type 0
TellGaps h g vs =
    (k : ℕ) → k < length vs → AreUnusedBelow h g vs (move_at vs k).start (word_of h ((move_at vs k).start - 32))

-- Some moves are those of the compaction of this machine, after which generations 1 and 0 begin at these places. Plugs
-- and bricks tell the moves and the unused bytes before each plug, and the heap's words and the saved ones together are
-- those of the old heap.
pub record HasPlanned (rows : List TypeRow) (old new : HeapView) (bricks : BricksView) (entries : List PinEntry)
    (g : Condemned) (m : Machine) (kept : ℕ → Bool) (start1 start0 : ℕ) : Type 0 where
  pub moves : List Move
  pub after : Layout
  pub compaction : IsCompactionOf rows old g moves m kept after
  pub start1_is : after.start1 ≡ start1
  pub start0_is : after.start0 ≡ start0
  pub overlaid : IsOverlaid old new entries g moves
  pub told : TellMoves rows new bricks g moves
  pub gaps : TellGaps new g moves
