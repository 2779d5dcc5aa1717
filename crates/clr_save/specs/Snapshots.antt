-- The machine that a snapshot shows.
use Rattle.std.specs.Prelude.{◌≡◌}
use Rattle.clr_model.specs.Machine.{Machine}
use Rattle.clr_view.specs.Clean.{AreClean}
use Rattle.clr_view.specs.Marks.{IsUnmarked}
use Rattle.clr_view.specs.View.{AreFreeHeads, IsHeld, layout_in, objects_in}
pub use Rattle.clr_sos.specs.Steps.{step_of, steps_of}
use Rattle.clr_save.specs.declared.snapshot.Snapshot.{Snapshot}

-- what a snapshot holds is this machine's, each object named by its place; the machine's sums, its other options and a
-- marking that runs play no part in an image
pub record IsSnapshotOf (s : Snapshot) (m : Machine) : Type 0 where
  pub types : m.types ≡ s.types.now
  pub objects : m.objects ≡ objects_in s.types.now s.heap.now
  pub layout : m.layout ≡ layout_in s.types.now s.heap.now
  pub locals : m.locals ≡ s.locals.now
  pub handles : m.handles ≡ s.handles.now
  pub entries : m.entries ≡ s.finals.now.entries
  pub ready : m.ready ≡ s.finals.now.ready
  pub steps : steps_of m.layout 1 m.steps ≡ s.steps.now
  pub holder : m.holder ≡ s.holder
  pub limit : m.options.limit ≡ s.limit
  pub large : m.options.large ≡ s.large
  pub compact_large : m.compacts_large ≡ s.compact_large

-- A snapshot shows a machine: its words hold the machine's objects, none of which is marked, and headers, padding and
-- the heads of free items are clean.
pub record Shows (s : Snapshot) (m : Machine) : Type 0 where
  pub held : IsHeld s.types.now s.heap.now
  pub unmarked : IsUnmarked s.types.now s.heap.now
  pub free_heads : AreFreeHeads s.types.now s.heap.now
  pub clean : AreClean s.types.now s.heap.now
  pub seen : IsSnapshotOf s m
