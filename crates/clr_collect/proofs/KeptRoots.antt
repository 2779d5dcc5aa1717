-- Roots after a marking: locals are the old ones, so their world is the one with the old locals. As many handles are
-- pinned, so the queue of saved words is still ready.
use Rattle.std.proofs.Common.{◌≡◌, ℕ, Bool, List, Vec, Global, ap, sym, subst, arith}
use Rattle.clr_types.specs.Types.{TypeRow}
use Rattle.clr_handles.specs.Tables.{Table}
use Rattle.clr_handles.specs.Tops.{pinned_in}
use Rattle.clr_heap.specs.View.{HeapView}
use Rattle.clr_model.specs.Lawful.{IsLaid}
use Rattle.clr_model.specs.Machine.{Machine}
use Rattle.clr_pinq.specs.Queue.{QueueView}
use Rattle.clr_view.specs.Memory.{IsMemoryOf, TestsMarks}
use Rattle.clr_view.specs.World.{World}
use Rattle.clr_survivors.specs.Moving.{IsReadyFor}
use Rattle.clr_survivors.specs.Survivors.{HaveMoved, world_of, world_with}
use Rattle.clr_survivors.specs.declared.roots.Roots.{Roots}

module _ (rows : List TypeRow) (h : HeapView) (old new : Roots) (same : new.locals ≡ old.locals) where
  -- the world of the new roots
  pub same_world : world_with rows h old.locals.items new.handles new.finals ≡ world_of rows h new
  same_world = ap (λ (v : Vec ℕ Global). world_with rows h v.items new.handles new.finals) (sym same)

  -- what moved from it moved from the one with the old locals
  pub same_moves : (fitted : Bool) (after : World) (g promoted1 promoted2 slides slides_after : ℕ)
      → ((n : Machine) (kept : ℕ → Bool) → IsMemoryOf rows h n → IsLaid n → n.handles ≡ new.handles
      → TestsMarks rows h g kept
      → HaveMoved fitted (world_of rows h new) after g n kept promoted1 promoted2 slides slides_after)
      → (n : Machine) (kept : ℕ → Bool) → IsMemoryOf rows h n → IsLaid n → n.handles ≡ new.handles
      → TestsMarks rows h g kept
      → HaveMoved fitted (world_with rows h old.locals.items new.handles new.finals) after g n kept promoted1 promoted2
      slides slides_after
  same_moves fitted after g promoted1 promoted2 slides slides_after moves n kept memory laid handles marks =
      subst (λ (w : World). HaveMoved fitted w after g n kept promoted1 promoted2 slides slides_after) (sym same_world)
      (moves n kept memory laid handles marks)

-- as many handles are pinned
pub ready_still : (old new : Table) (pins : QueueView) → pinned_in new ≡ pinned_in old → IsReadyFor old pins
    → IsReadyFor new pins
ready_still old new pins same ready = record {
  empty = ready.empty;
  room = let room = ready.room in omega (arith, same, room);
}
