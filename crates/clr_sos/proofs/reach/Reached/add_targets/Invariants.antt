use Rattle.std.proofs.Common.{◌-◌}
use Rattle.clr_sos.specs.Reaching.{AllCameBy, HasAdded}
use Rattle.clr_sos.specs.RootTexts.{IsRootOrigin}
use Rattle.clr_sos.proofs.Adding.{IsHeldBelow}
use Rattle.clr_sos.proofs.reach.Reached.add_targets.Given as goal

abbrev pub invariant-loop-number : goal.invariant-loop-number
invariant-loop-number l = record {
  added : HasAdded l.view l.initial.self.entries.items l.self.seen.items l.self.entries.items
      (IsHeldBelow l.view.handles.now l.from);
  came : AllCameBy l.initial.self.entries.items IsRootOrigin l.self.entries.items;
}

abbrev pub decreases-loop-number : goal.decreases-loop-number
decreases-loop-number l = 65536 - l.from
