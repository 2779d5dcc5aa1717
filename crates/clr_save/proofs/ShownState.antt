-- A snapshot of a lawful machine is a clean state, of which nothing is wrong.
use Rattle.std.proofs.Common.{[], sym, subst}
use Rattle.clr_heap.specs.View.{IsHeap}
use Rattle.clr_model.specs.Lawful.{IsLawful, IsPlaceNamed}
use Rattle.clr_model.specs.Machine.{Machine}
use Rattle.clr_view.specs.View.{layout_in, objects_in}
use Rattle.clr_sos.specs.CleanStates.{IsCleanState}
use Rattle.clr_sos.specs.Faultless.{IsFaultless}
use Rattle.clr_sos.specs.declared.view.View.{View}
use Rattle.clr_sos.proofs.CleanStates.{clean_state_is_faultless}
use Rattle.clr_save.specs.Snapshots.{Shows}
use Rattle.clr_save.specs.declared.snapshot.Snapshot.{Snapshot}

-- what is looked at, without bricks
abbrev view_of : Snapshot → View
view_of s = record {
  types = s.types;
  heap = s.heap;
  bricks = record { ref_ptr = s.heap.ref_ptr; now = [] };
  handles = s.handles;
  finals = s.finals;
  locals = s.locals;
  limit = s.limit;
  large = s.large;
}

-- the machine with what is saved of it
abbrev pub saved_machine : Snapshot → Machine → Machine
saved_machine s m = record m {
  types = s.types.now;
  objects = objects_in s.types.now s.heap.now;
  layout = layout_in s.types.now s.heap.now;
  locals = s.locals.now;
  handles = s.handles.now;
  entries = s.finals.now.entries;
  ready = s.finals.now.ready;
}

module _ (s : Snapshot) (m : Machine) (heap : IsHeap s.heap.now) (shows : Shows s m) (sound : IsPlaceNamed m) where
  state : IsCleanState (view_of s) m
  state =
      let seen = shows.seen in
      record {
        held = shows.held;
        unmarked = shows.unmarked;
        free_heads = shows.free_heads;
        clean = shows.clean;
        seen = record {
          types = seen.types;
          objects = seen.objects;
          layout = seen.layout;
          locals = seen.locals;
          handles = seen.handles;
          entries = seen.entries;
          ready = seen.ready;
          limit = seen.limit;
        };
        sound = sound;
        large = sym seen.large;
      }

  pub nothing-wrong : IsFaultless s.types.now s.large s.heap.now s.locals.now
  nothing-wrong = (clean_state_is_faultless (view_of s) m heap state).1

  pub saved-lawful : IsLawful (saved_machine s m)
  saved-lawful =
      let seen = shows.seen in
      subst IsLawful (λ j. record m {
        types = seen.types j;
        objects = seen.objects j;
        layout = seen.layout j;
        locals = seen.locals j;
        handles = seen.handles j;
        entries = seen.entries j;
        ready = seen.ready j;
      }) sound.lawful
