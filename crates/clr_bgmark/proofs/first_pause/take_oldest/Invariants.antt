use Rattle.std.proofs.Common.{◌≡◌}
use Rattle.clr_heap.specs.View.{listings}
use Rattle.clr_bgmark.specs.Pauses.{all_taken}
use Rattle.clr_bgmark.proofs.AllParts.{AreToldTo}
use Rattle.clr_bgmark.proofs.first_pause.take_oldest.Given as goal

abbrev pub invariant-loop-k : goal.invariant-loop-k
invariant-loop-k l = record {
  taken : l.shades.items ≡ all_taken l.heap l.initial.shades.items (listings l.types l.heap 0 l.k);
  told : AreToldTo l.types l.heap l.k l.shades.items l.parts.items;
}
