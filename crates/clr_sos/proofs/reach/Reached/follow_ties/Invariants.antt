use Rattle.clr_sos.specs.Reaching.{AllCame, HasAdded}
use Rattle.clr_sos.specs.declared.reach.Origin.TheVariants.{Through}
use Rattle.clr_sos.proofs.Adding.{IsTiedBelow}
use Rattle.clr_sos.proofs.reach.Reached.follow_ties.Given as goal

abbrev pub invariant-loop-j : goal.invariant-loop-j
invariant-loop-j l = record {
  added : HasAdded l.view l.initial.self.entries.items l.self.seen.items l.self.entries.items
      (IsTiedBelow l.ties l.place l.j);
  came : AllCame l.initial.self.entries.items (Through l.i) l.self.entries.items;
}
