use Rattle.std.proofs.Common.{◌≤◌, ◌-◌, List}
use Rattle.clr_types.specs.declared.item.Item.{Item}
use Rattle.clr_cards.specs.Cards.{is_card_set}
use Rattle.clr_heap.specs.View.{frame, HeapView}
use Rattle.clr_model.specs.Compaction.{Move}
use Rattle.clr_reloc.specs.RunKinds.{IsRunKind}
use Rattle.clr_reloc.specs.Relocated.{rebounded}
use Rattle.clr_reloc.specs.Relocating.{GoesDown, IsAhead, Tracks}
use Rattle.clr_reloc.specs.Relocations.{AreRelocated, IsRelocatingBy, KeepsBeside}
use Rattle.clr_reloc.specs.Scanning.{AreEntriesSound, AreQuietWhereClear, entry_before}
use Rattle.clr_reloc.proofs.cards.relocate_carded.Given as goal

abbrev pub invariant-loop-lo : goal.invariant-loop-lo
invariant-loop-lo l = record {
  low : l.first ≤ l.cursor;
  gone : (view now : HeapView) (vs : List Move) (is : List Item)
      → IsRelocatingBy l.work view now l.initial.heap l.initial.pins.entries vs l.initial.met.stretch
      → Tracks l.work.types.now view is l.first l.end → IsAhead view now l.work.g vs l.first l.end
      → GoesDown vs l.first l.end 0
      → AreEntriesSound l.work.types.now view (entry_before l.work.bricks.now l.work.planned.below l.work.planned.first
      l.border) l.first l.end
      → AreQuietWhereClear l.work.types.now view l.work.g vs (rebounded (frame view) l.work.planned) (is_card_set
      l.initial.cards) l.first l.end
      → ((rest : List Item) × Tracks l.work.types.now view rest l.cursor l.end)
      × AreRelocated l.work view now vs l.initial.heap l.heap l.initial.pins l.pins l.cards l.met.stretch l.first
      l.cursor;
  beside : KeepsBeside l.initial.cards l.cards l.initial.pins l.pins;
  kind : IsRunKind l.work.types.now l.met.kind;
}

abbrev pub decreases-loop-lo : goal.decreases-loop-lo
decreases-loop-lo l = l.end - l.cursor
