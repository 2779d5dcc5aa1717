-- The law of bricks holds of what is seen, whose layout tells free items too.
use Rattle.std.proofs.Common.{List, refl}
use Rattle.clr_bricks.specs.Bricks.{entry_at}
use Rattle.clr_heap.specs.View.{frame}
use Rattle.clr_model.specs.Machine.{Object}
use Rattle.clr_view.specs.View.{layout_in, objects_in}
use Rattle.clr_generations.proofs.ChangedObjects.{same-objects}
use Rattle.clr_generations.proofs.KeptLaws.{brick_law-kept, same-places}
use Rattle.clr_generations.proofs.KeptTables.{bounds-from}
use Rattle.clr_runtime.proofs.runtime.Runtime.bricks.Goals as goal

pub returns-clause-law : goal.returns-clause-law
returns-clause-law c =
    let r = c.self.inside.parts in
    let objects : List Object = objects_in r.types r.space.heap in
    rw (← c.self.view_is)
    (brick_law-kept r.types r.types (frame r.space.heap) (layout_in r.types r.space.heap) objects objects
    (bounds-from (frame r.space.heap) (layout_in r.types r.space.heap) refl refl refl)
    (same-places r.types r.types objects objects (same-objects r.types objects)) (entry_at r.space.bricks)
    c.self.invariant.tables.brick_law)
