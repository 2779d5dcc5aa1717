use Rattle.std.proofs.Common.{◌≡◌, ◌++◌}
use Rattle.clr_heap.specs.View.{word_of}
use Rattle.clr_sos.specs.Reaching.{AllCame, HasAdded}
use Rattle.clr_sos.specs.declared.reach.Origin.TheVariants.{Through}
use Rattle.clr_sos.proofs.Adding.{IsWordAmong}
use Rattle.clr_sos.proofs.reach.Reached.follow_each.Given as goal

abbrev pub invariant-loop-offset : goal.invariant-loop-offset
invariant-loop-offset l = record {
  walked : l.yielded ++ l.offset-iterator ≡ l.initial.offset-iterator;
  added : HasAdded l.view l.initial.self.entries.items l.self.seen.items l.self.entries.items
      (IsWordAmong (word_of l.view.heap.now) l.item.place l.yielded);
  came : AllCame l.initial.self.entries.items (Through l.i) l.self.entries.items;
}
