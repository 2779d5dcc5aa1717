-- The machine that a world shows, each object named by its place.
use Rattle.clr_bgmark.specs.Shades.{BackgroundView}
use Rattle.clr_model.specs.Machine.{Machine, Options, Sums}
use Rattle.clr_safe.specs.Threads.{Threads, steps_of}
use Rattle.clr_view.specs.View.{layout_in, objects_in}
use Rattle.clr_view.specs.World.{World}
use Rattle.clr_runtime.specs.Marked.{marking_of}
use Rattle.std.specs.Prelude.{[], Bool, false}

-- what the next full collection is to do: to slide the large heap, and to end the background collection, if one runs
pub record Ahead : Type 0 where
  pub compacts_large : Bool
  pub background : BackgroundView

-- no background collection runs
abbrev pub none_running : BackgroundView
none_running = record { running = false; shades = []; gray = 0; parts = []; fronts = [] }

-- nothing but what it always does
abbrev pub nothing_ahead : Ahead
nothing_ahead = record { compacts_large = false; background = none_running }

-- the machine of this world, these sums and these options, whose threads have begun this, and before which this lies
abbrev pub shown : World → Sums → Options → Threads → Ahead → Machine
shown w sums options threads ahead = record {
  types = w.rows;
  born = 0;
  objects = objects_in w.rows w.heap;
  locals = w.locals;
  handles = w.handles;
  entries = w.entries;
  ready = w.ready;
  steps = steps_of threads;
  holder = threads.holder;
  layout = layout_in w.rows w.heap;
  sums = sums;
  options = options;
  compacts_large = ahead.compacts_large;
  background = marking_of ahead.background;
}
