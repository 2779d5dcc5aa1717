use Rattle.std.proofs.Common.{◌≡◌}
use Rattle.clr_final.specs.Queues.{IsMovedBetween}
use Rattle.clr_final.proofs.moving.move_from.Given as goal

abbrev pub invariant-loop-i : goal.invariant-loop-i
invariant-loop-i g l = record {
  moved : IsMovedBetween (λ place moved. goal.F-post g l.to place moved) l.low l.initial.places.items l.places.items
      l.start l.i;
  capacity : l.places.capacity ≡ l.initial.places.capacity;
}
