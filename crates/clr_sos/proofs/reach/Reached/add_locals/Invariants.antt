use Rattle.clr_sos.specs.Reaching.{AllCameBy, HasAdded}
use Rattle.clr_sos.specs.RootTexts.{IsLocalOrigin}
use Rattle.clr_sos.proofs.Adding.{IsNamedBelow}
use Rattle.clr_sos.proofs.reach.Reached.add_locals.Given as goal

abbrev pub invariant-loop-i : goal.invariant-loop-i
invariant-loop-i l = record {
  added : HasAdded l.view l.initial.self.entries.items l.self.seen.items l.self.entries.items
      (IsNamedBelow l.view.locals.now l.i);
  came : AllCameBy l.initial.self.entries.items IsLocalOrigin l.self.entries.items;
}
