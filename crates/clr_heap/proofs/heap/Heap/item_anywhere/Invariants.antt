use Rattle.std.proofs.Common.{◌≡◌, ◌-◌, length}
use Rattle.clr_heap.specs.View.{heap_items, item_with_place, listings}
use Rattle.clr_heap.proofs.heap.Heap.item_anywhere.Given as goal

abbrev pub invariant-loop-k : goal.invariant-loop-k
invariant-loop-k l = item_with_place (listings l.types l.self l.k (length l.self.segments - l.k)) l.a
    ≡ item_with_place (heap_items l.types l.self) l.a
