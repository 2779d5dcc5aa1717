use Rattle.clr_sos.specs.Reaching.{AllCameBy, HasAdded}
use Rattle.clr_sos.specs.RootTexts.{IsRootOrigin}
use Rattle.clr_sos.proofs.Adding.{IsNamedBelow}
use Rattle.clr_sos.proofs.reach.Reached.add_ready.Given as goal

abbrev pub invariant-loop-i : goal.invariant-loop-i
invariant-loop-i l = record {
  added : HasAdded l.view l.initial.self.entries.items l.self.seen.items l.self.entries.items
      (IsNamedBelow l.ready l.i);
  came : AllCameBy l.initial.self.entries.items IsRootOrigin l.self.entries.items;
}
