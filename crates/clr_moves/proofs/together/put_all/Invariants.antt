use Rattle.std.proofs.Common.{ℕ, List}
use Rattle.std.specs.List.{All}
use Rattle.clr_types.specs.Types.{TypeRow}
use Rattle.clr_heap.specs.View.{HeapView}
use Rattle.clr_model.specs.Compaction.{Move}
use Rattle.clr_pinq.specs.declared.entry.PinEntry.{PinEntry}
use Rattle.clr_plugs.specs.BrickEntries.{BricksView}
use Rattle.clr_moves.specs.Going.{IsStretchOf}
use Rattle.clr_moves.specs.Overlaid.{HoldsPlan}
use Rattle.clr_moves.specs.Together.{IsSearchIn}
use Rattle.clr_moves.specs.declared.condemned.Condemned.{Condemned}
use Rattle.clr_moves.proofs.together.put_all.Given as goal

abbrev pub invariant-loop-i : goal.invariant-loop-i
invariant-loop-i l =
    (rows : List TypeRow) (view : HeapView) (bricks : BricksView) (entries : List PinEntry) (g : Condemned)
    (vs : List Move) (start1 start0 : ℕ) → HoldsPlan rows view l.heap bricks entries g vs start1 start0
    → All (IsSearchIn l.heap bricks g) l.searches → All (IsStretchOf view g vs) l.initial.stretches
    → All (IsStretchOf view g vs) l.stretches
