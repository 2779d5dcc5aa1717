-- What a slide of large segments needs.
use Rattle.std.specs.Prelude.{◌≡◌, ℕ, List, ℤ}
use Rattle.clr_types.specs.Types.{TypeRow}
use Rattle.clr_bricks.specs.Bricks.{entry_at}
use Rattle.clr_heap.specs.View.{frame, HeapView}
use Rattle.clr_model.specs.Compaction.{Move}
use Rattle.clr_view.specs.View.{objects_in}
use Rattle.clr_generations.specs.Laws.{BrickLaw}
use Rattle.clr_generations.specs.Tables.{AreBricksOf}
use Rattle.clr_pinq.specs.declared.entry.PinEntry.{PinEntry}
use Rattle.clr_plugs.specs.BrickEntries.{BricksView}
use Rattle.clr_moves.specs.Objects.{IsUntouched}
use Rattle.clr_moves.specs.Overlaid.{HoldsPlan}
use Rattle.clr_moves.specs.declared.condemned.Condemned.TheVariants.{LargeSegments}

-- The heap holds the plan of a slide, which leaves the generations where they begin, and the entries of bricks that the
-- plan hasn't touched obey their law.
pub record CanSlideLarge (rows : List TypeRow) (h : HeapView) (bricks : BricksView) (entries : List PinEntry)
    : Type 0 where
  pub view : HeapView
  pub moves : List Move
  pub entry : ℕ → ℤ
  pub plan : HoldsPlan rows view h bricks entries LargeSegments moves h.start1 h.start0
  pub law : BrickLaw rows (frame view) (objects_in rows view) entry
  pub others : (i : ℕ) → IsUntouched view LargeSegments i → entry_at bricks i ≡ entry i
  pub bricks_of : AreBricksOf (frame h) bricks
