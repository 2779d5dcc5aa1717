use Rattle.std.proofs.Common.{◌≡◌, ℕ, ◌+◌, ◌++◌}
use Rattle.clr_types.specs.Rising.{IsIn}
use Rattle.clr_heap.specs.View.{word_of}
use Rattle.clr_bgmark.specs.Closing.{IsNullOrFound}
use Rattle.clr_bgmark.proofs.background.Background.names_found.Given as goal

abbrev pub invariant-loop-offset : goal.invariant-loop-offset
invariant-loop-offset l = record {
  walked : l.yielded ++ l.offset-iterator ≡ l.initial.offset-iterator;
  found : (offset : ℕ) → IsIn offset l.yielded → IsNullOrFound l.self.shades (word_of l.heap (l.obj + offset));
}
