use Rattle.std.proofs.Common.{◌≡◌, ◌≤◌, ◌-◌, ◌%◌, ◌++◌}
use Rattle.clr_heap.specs.View.{CanWalk, first_of, sight}
use Rattle.clr_format.specs.Saved.{words_bytes}
use Rattle.clr_save.specs.SavedWords.{memory_words}
use Rattle.clr_save.proofs.SavedParts.{IsOwed}
use Rattle.clr_save.proofs.put_memory.put_memory.Given as goal

abbrev pub invariant-loop-place : goal.invariant-loop-place
invariant-loop-place l = record {
  walk : CanWalk (sight l.types l.heap l.k) l.heap.memories l.place l.end;
  low : first_of l.heap l.k ≤ l.run;
  order : l.run ≤ l.place;
  aligned : l.run % 8 ≡ 0;
  within : l.place ≤ l.end;
  owed : IsOwed (sight l.types l.heap l.k) l.out.items l.run l.place l.end
      (l.initial.out.items ++ words_bytes (memory_words l.types l.heap l.k));
}

abbrev pub decreases-loop-place : goal.decreases-loop-place
decreases-loop-place l = l.end - l.place
