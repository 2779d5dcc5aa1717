use Rattle.std.proofs.Common.{◌≡◌, ◌≤◌, true, ◌-◌, ℕ, List}
use Rattle.clr_types.specs.declared.item.Item.{Item}
use Rattle.clr_heap.specs.View.{HeapView}
use Rattle.clr_model.specs.Compaction.{Move}
use Rattle.clr_reloc.specs.Relocating.{GoesDown, HaveCardsDown, IsAhead, Tracks}
use Rattle.clr_reloc.specs.RunKinds.{IsRunKind}
use Rattle.clr_reloc.specs.Relocations.{AreRelocated, CanSkip, IsRelocatingBy, KeepsBeside}
use Rattle.clr_reloc.proofs.stretches.relocate_items.Given as goal

abbrev pub invariant-loop-place : goal.invariant-loop-place
invariant-loop-place l = record {
  low : l.range.from ≤ l.place;
  gone : (view now : HeapView) (vs : List Move) (is : List Item) (end : ℕ)
      → IsRelocatingBy l.work view now l.initial.heap l.initial.pins.entries vs l.initial.met.stretch
      → Tracks l.work.types.now view is l.range.from end → IsAhead view now l.work.g vs l.range.from end
      → GoesDown vs l.range.from end l.range.down → HaveCardsDown l.initial.cards l.range.from end l.range.down → l.range.hi ≤ end
      → (l.range.carded ≡ true → CanSkip l.work view vs l.initial.cards l.range.from end)
      → ((rest : List Item) × Tracks l.work.types.now view rest l.place end)
      × AreRelocated l.work view now vs l.initial.heap l.heap l.initial.pins l.pins l.cards l.met.stretch l.range.from
      l.place;
  beside : KeepsBeside l.initial.cards l.cards l.initial.pins l.pins;
  kind : IsRunKind l.work.types.now l.met.kind;
}

abbrev pub decreases-loop-place : goal.decreases-loop-place
decreases-loop-place l = l.range.hi - l.place
