-- The other view is sound, and shows the same objects and handles.
use Rattle.std.proofs.Common.{ap}
use Rattle.clr_final.specs.Queues.{Queues}
use Rattle.clr_sos.specs.Reaching.{IsObjectOf}
use Rattle.clr_paths.proofs.PathSearches.{local-alone, ready-none}
use Rattle.clr_paths.proofs.path.reach_from.Goals as goal

pub reach_from_local-requires-clause-sound : goal.reach_from_local-requires-clause-sound
reach_from_local-requires-clause-sound c =
    let v = c.args.view.now in
    record {
      closed = c.requires.sound.closed;
      handles = c.requires.sound.handles;
      locals = local-alone (IsObjectOf v) c.args.a c.requires.from;
      ready = ready-none (IsObjectOf v) c.new-finals.result.ready
          (ap (λ (q : Queues). q.ready) c.new-finals.ensures);
    }
