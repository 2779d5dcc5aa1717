-- What a runtime goes on from.
use Rattle.std.specs.Prelude.{◌≡◌, ℕ, ◌≤◌}
use Rattle.std.specs.List.{AllByRecursion}
use Rattle.clr_model.specs.Machine.{Machine, Options, Sums}
use Rattle.clr_safe.specs.Threads.{births_owed}
use Rattle.clr_view.specs.World.{World}
use Rattle.clr_runtime.specs.RuntimeView.{IsShown, TellsFinalizer}
use Rattle.clr_runtime.specs.Shown.{Ahead, none_running, shown}
use Rattle.clr_runtime.specs.declared.standing.Standing.{Standing}

-- the types, the heap, and all that names its objects from outside
abbrev pub world_in : Standing → World
world_in s = record {
  rows = s.types;
  heap = s.heap;
  locals = s.locals.items;
  handles = s.handles;
  entries = s.finals.entries;
  ready = s.finals.ready;
}

-- nothing was counted
abbrev pub no_sums : Sums
no_sums = record { spent0 = 0; spent_large = 0; promoted1 = 0; promoted2 = 0 }

-- no background collection runs
abbrev pub ahead_in : Standing → Ahead
ahead_in s = record { compacts_large = s.compacts_large; background = none_running }

-- the machine that is seen then
abbrev pub standing_machine : Standing → Options → Machine
standing_machine s options = shown (world_in s) no_sums options s.safe (ahead_in s)

-- What has to hold of it: what is seen is lawful, its heap is limited as the options say, and there is room for the
-- finalisation entries of the objects that are begun.
pub record CanGoOn (s : Standing) (options : Options) : Type 0 where
  pub shown : IsShown (world_in s) no_sums options s.safe (ahead_in s)
  pub owed : births_owed s.safe ≤ s.finals.spare
  pub finalizers : AllByRecursion (TellsFinalizer s.types) s.safe.begun
  pub limit : s.heap.limit ≡ options.limit
