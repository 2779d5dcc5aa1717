-- The index is that of the heap, and all else is as it was.
use Rattle.std.proofs.Common.{refl}
use Rattle.clr_runtime.specs.RuntimeView.{seen}
use Rattle.clr_runtime.proofs.rooms.renew_index.Goals as goal

pub renew_lost-requires-clause-laid : goal.renew_lost-requires-clause-laid
renew_lost-requires-clause-laid c = (
  seen c.args.parts.now,
  record { types = refl; objects = refl; layout = refl },
  c.requires.shown.sound.lawful.laid,
)

pub returns-clause-runtime : goal.returns-clause-runtime
returns-clause-runtime c =
    let is = c.requires in
    record {
      shown = is.shown;
      heap = is.heap;
      tables = is.tables;
      owed = is.owed;
      finalizers = is.finalizers;
      index = c.renew_lost.ensures.index;
      large = is.large;
      pinned = is.pinned;
      limit = is.limit;
      ready = is.ready;
    }
