-- The plan of a whole heap, as far as it has come.
use Rattle.std.specs.Prelude.{◌≡◌, ◌⊎◌, ℕ, ◌+◌, ◌≤◌, List, [], ◌++◌, if◌then◌else◌, ◌==◌}
use Rattle.clr_types.specs.Types.{TypeRow}
use Rattle.clr_heap.specs.View.{frame, HeapView, SameShape}
use Rattle.clr_view.specs.View.{layout_in}
use Rattle.clr_model.specs.Compaction.{first_pointer, Move, Plug}
use Rattle.clr_generations.specs.Tables.{AreBricksOf}
use Rattle.clr_pinq.specs.declared.entry.PinEntry.{PinEntry}
use Rattle.clr_plugs.specs.Plans.{PlannedPart}
use Rattle.clr_moves.specs.Moves.{part_of}
use Rattle.clr_moves.specs.declared.condemned.Condemned.TheVariants.{Generations}
use Rattle.clr_plan.specs.PartLists.{AreLaid, opened_in, plan_in, plugs_in, whole_plugs}
use Rattle.clr_plan.specs.Planned.{pinned_count}
use Rattle.clr_plan.specs.Plans.{CanPlanHeap, condemned_plugs, HasPlannedHeap, HasReached, IsBetween}
use Rattle.clr_plan.specs.Plans.{old_part, parts_in, young_plugs}
use Rattle.clr_plan.specs.States.{PlanState}
use Rattle.clr_plan.specs.declared.pointer.Pointer.{Pointer}

-- between the older generations and generation 0 of the heap `old`, of which the plan has made `now`
pub record IsBetweenIn (rows : List TypeRow) (old now : HeapView) (g e : ℕ) (entries : List PinEntry)
    (at : Pointer) : Type 0 where
  pub can : CanPlanHeap rows old g e
  pub shape : SameShape old now
  pub between : IsBetween rows old g e entries at

-- ---- the parts of generations

-- the plugs of the part of segment t, where e is the ephemeral one
abbrev pub part_plugs : List TypeRow → HeapView → ℕ → ℕ → ℕ → List Plug
part_plugs rows h g e t = if t == e then old_part rows h g e ++ young_plugs rows h e else whole_plugs rows h t

-- the plan of that part by these moves
abbrev pub part_plan : List TypeRow → HeapView → ℕ → ℕ → ℕ → List Move → PlannedPart
part_plan rows h g e t vs = plan_in h (Generations g) (part_plugs rows h g e) t vs

-- the plugs of the parts of the k lowest segments
abbrev pub plugs_below : List TypeRow → HeapView → ℕ → ℕ → ℕ → List Plug
plugs_below rows h g e k = plugs_in h (Generations g) (part_plugs rows h g e) k

-- the places of those of them whose information stands in bytes that no live cell has
abbrev pub opened_below : List TypeRow → HeapView → ℕ → ℕ → ℕ → List ℕ
opened_below rows h g e k = opened_in h (Generations g) (part_plugs rows h g e) k

-- the plans of the parts of the k lowest segments, by these moves, stand in the heap, the bricks and the queue
abbrev pub IsLaidBelow : List TypeRow → PlanState → PlanState → ℕ → ℕ → ℕ → List Move → Type 0
IsLaidBelow rows old now g e k moves = AreLaid old now (Generations g) (part_plugs rows old.heap g e) k moves

-- the parts below that of the ephemeral segment are laid, and that one can be
pub record CanLayEphemeral (rows : List TypeRow) (old now : PlanState) (g e low : ℕ) (at : Pointer) : Type 0 where
  pub can : CanPlanHeap rows old.heap g e
  pub low_is : low ≡ part_of old.heap (Generations g) e
  pub moves : List Move
  pub reached : HasReached old.heap (parts_in rows old.heap g) (condemned_plugs rows old.heap g e) now.queue.entries
      (first_pointer (layout_in rows old.heap) g (parts_in rows old.heap g)) [] (plugs_below rows old.heap g e e)
      (old_part rows old.heap g e ++ young_plugs rows old.heap e) moves at
  pub order : at.segment ≤ e
  pub either : (g ≡ 2) ⊎ (at.segment ≡ e)
  pub laid : IsLaidBelow rows old now g e e moves
  pub bricks_of : AreBricksOf (frame old.heap) old.bricks
  pub left : old.queue.spare ≤ now.queue.spare + pinned_count (plugs_below rows old.heap g e e)
  pub spare : pinned_count (condemned_plugs rows old.heap g e) + 4 ≤ old.queue.spare

-- all parts are laid, and generations 1 and 0 begin at these places then
pub record HasLaidHeap (rows : List TypeRow) (old now : PlanState) (g e start1 start0 : ℕ) : Type 0 where
  pub moves : List Move
  pub planned : HasPlannedHeap rows old.heap g e moves start1 start0
  pub laid : IsLaidBelow rows old now g e (e + 1) moves
