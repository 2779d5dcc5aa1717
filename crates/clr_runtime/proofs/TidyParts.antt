-- The heap of a runtime and its tables, where no thread is in mid-step.
use Rattle.std.proofs.Common.{◌≡◌, None}
use Rattle.clr_model.specs.Lookups.{lowest_in_step}
use Rattle.clr_generations.specs.Tidy.{IsTidy}
use Rattle.clr_runtime.specs.RuntimeView.{IsRuntime, seen}
use Rattle.clr_runtime.specs.declared.parts.Parts.{Parts}
use Rattle.clr_runtime.proofs.StepsKept.{tables-idle}

-- where no thread is in mid-step, cards tell all, so the heap is tidy
pub runtime_tidy : (p : Parts) → IsRuntime p → lowest_in_step (seen p) ≡ None → IsTidy p.types p.space
runtime_tidy p is idle = record {
  heap = is.heap;
  held = is.shown.held;
  clean = is.shown.clean;
  free_heads = is.shown.free_heads;
  tables = tables-idle p.space.cards p.safe p.space.bricks p.types p.space.heap idle is.tables;
}
