-- The heap and its tables are tidy again when contexts are given up, when what is kept is marked, when the rest is
-- swept, and when segments are given back.
use Rattle.std.proofs.Common.{◌≡◌, ℕ, ◌≤◌, ◌==◌, List, None, inr, subst, sym}
use Rattle.std.specs.Prelude.{MatchBool, ℤ}
use Rattle.std.specs.FinMap.{FinMap}
use Rattle.std.specs.Ordering.{nat_cmp}
use Rattle.clr_types.specs.Types.{TypeRow}
use Rattle.clr_types.specs.declared.handle.Handle.{Handle}
use Rattle.clr_final.specs.Queues.{Queues}
use Rattle.clr_bricks.specs.Bricks.{entry_at}
use Rattle.clr_covers.specs.Covers.{CoverView, spans}
use Rattle.clr_heap.specs.View.{frame, HeapView}
use Rattle.clr_model.specs.Lawful.{IsPlaceNamed}
use Rattle.clr_model.specs.Lookups.{lowest_in_step}
use Rattle.clr_model.specs.Machine.{Machine}
use Rattle.clr_view.specs.Clean.{AreClean}
use Rattle.clr_view.specs.View.{AreFreeHeads, HasGivenUp, objects_in}
use Rattle.clr_view.specs.World.{IsWorldOf, World}
use Rattle.clr_generations.specs.Laws.{BrickLaw}
use Rattle.clr_generations.specs.Tables.{AreTablesOf}
use Rattle.clr_generations.specs.Tidy.{IsTidy}
use Rattle.clr_generations.specs.declared.space.Space.{Space}
use Rattle.clr_sweep.specs.Swept.{HasSwept}
use Rattle.clr_collect.specs.Collecting.{HasMarkedKept}
use Rattle.clr_collect.specs.Released.{HasReleased}
use Rattle.clr_collect.proofs.AfterRelease.{clean_still, heads_still, lost}
use Rattle.clr_collect.proofs.TablesKept.{tables_given_up}
use Rattle.clr_collect.proofs.WholeCollection.{clean-swept, whole_tables}

-- no context is left
pub tidy_given : (rows : List TypeRow) (was : Space) (new : HeapView) → IsTidy rows was
    → HasGivenUp rows was.heap new → IsTidy rows (record was { heap = new })
tidy_given rows was new t given = record {
  heap = given.heap;
  held = given.held;
  clean = given.clean t.clean;
  free_heads = given.free_heads t.free_heads;
  tables = tables_given_up rows was.heap new was.cards was.bricks t.tables given;
}

-- what is kept is marked
pub tidy_kept : {start : Machine → ℕ → Type 0} (w : World) (was now : Space) (handles : FinMap nat_cmp Handle)
    (queues : Queues) (g : ℕ) → w.heap ≡ was.heap → IsTidy w.rows was
    → HasMarkedKept w start now.heap handles queues g → AreTablesOf w.rows now.heap now.cards now.bricks
    → IsTidy w.rows now
tidy_kept w was now handles queues g same t k tables = record {
  heap = k.heap;
  held = k.held;
  clean = k.clean (subst (AreClean w.rows) (sym same) t.clean);
  free_heads = k.free_heads (subst (AreFreeHeads w.rows) (sym same) t.free_heads);
  tables = tables;
}

-- what isn't kept is swept
pub tidy_swept : {start : Machine → ℕ → Type 0} (w : World) (was : Space) (handles : FinMap nat_cmp Handle)
    (queues : Queues) (g : ℕ) (least : g ≤ 2) (k : HasMarkedKept w start was.heap handles queues g)
    (swept : HeapView) (s : HasSwept w.rows was.heap swept g)
    → (m : Machine) × IsWorldOf w m × IsPlaceNamed m × (lowest_in_step m ≡ None) → IsTidy w.rows was
    → (bricks : List (CoverView ℤ)) → spans bricks ≡ spans was.bricks
    → BrickLaw w.rows (frame swept) (objects_in w.rows swept) (entry_at bricks)
    → IsTidy w.rows (record was { heap = swept; bricks = bricks })
tidy_swept w was handles queues g least k swept s known t bricks spans law = record {
  heap = s.heap;
  held = s.held;
  clean = clean-swept w was.heap handles queues g least k swept s t.clean;
  free_heads = s.free_heads (inr t.free_heads);
  tables =
      whole_tables w was.heap handles queues g least k swept s known was.cards was.bricks bricks t.tables spans law;
}

-- segments are given back, or aren't
pub tidy_released : (rows : List TypeRow) (was now : Space) (g : ℕ) → IsTidy rows was
    → MatchBool (g == 2) (HasReleased rows was.heap now.heap) (now.heap ≡ was.heap)
    → AreTablesOf rows now.heap now.cards now.bricks → IsTidy rows now
tidy_released rows was now g t ended tables =
    let still = lost rows was.heap t.heap t.held now.heap g ended in
    record {
      heap = still.heap;
      held = still.held;
      clean = clean_still rows was.heap t.heap t.held now.heap g ended t.clean;
      free_heads = heads_still rows was.heap t.heap t.held now.heap g ended t.free_heads;
      tables = tables;
    }
