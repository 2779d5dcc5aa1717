use Rattle.clr_types.specs.Descriptors.{offsets_from}
use Rattle.clr_heap.specs.View.{word_of}
use Rattle.clr_sos.specs.Reaching.{AllCame, HasAdded}
use Rattle.clr_sos.specs.declared.reach.Origin.TheVariants.{Through}
use Rattle.clr_sos.proofs.Adding.{IsWordAmong}
use Rattle.clr_sos.proofs.reach.Reached.follow_run.Given as goal

abbrev pub invariant-loop-j : goal.invariant-loop-j
invariant-loop-j l = record {
  added : HasAdded l.view l.initial.self.entries.items l.self.seen.items l.self.entries.items
      (IsWordAmong (word_of l.view.heap.now) l.item.place (offsets_from l.run.offset l.j));
  came : AllCame l.initial.self.entries.items (Through l.i) l.self.entries.items;
}
