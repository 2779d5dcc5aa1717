use Rattle.std.proofs.Common.{length, List}
use Rattle.clr_cards.specs.Cards.{is_card_set}
use Rattle.clr_heap.specs.View.{frame, HeapView}
use Rattle.clr_model.specs.Compaction.{Move}
use Rattle.clr_generations.specs.Tables.{AreCardsOf}
use Rattle.clr_reloc.specs.RunKinds.{IsRunKind}
use Rattle.clr_reloc.specs.Partial.{IsPartial}
use Rattle.clr_reloc.specs.Outside.{AreAheadOutside, AreCardedOutside, HaveGoneOutside, HaveNoneOver}
use Rattle.clr_reloc.specs.Relocated.{rebounded}
use Rattle.clr_reloc.specs.Relocations.{IsRelocatingBy, KeepsBeside}
use Rattle.clr_reloc.specs.Scanning.{CanScan}
use Rattle.clr_reloc.proofs.relocating.relocate_outside.Given as goal

abbrev pub invariant-loop-k : goal.invariant-loop-k
invariant-loop-k l = record {
  gone : (view now : HeapView) (vs : List Move)
      → IsRelocatingBy l.work view now l.initial.heap l.initial.pins.entries vs l.initial.met.stretch
      → AreCardsOf (frame view) l.initial.cards → AreAheadOutside view now l.work.g (length view.segments) 0
      → HaveNoneOver l.work.types.now view l.work.g
      → (IsPartial l.work.g
      → CanScan l.work.types.now view l.initial.cards l.work.bricks.now l.work.g vs (rebounded (frame view)
      l.work.planned)
      (is_card_set l.initial.cards) l.work.planned.below l.work.planned.first)
      → (next : HeapView)
      × IsRelocatingBy l.work view next l.heap l.pins.entries vs l.met.stretch
      × HaveGoneOutside l.work.types.now view now next l.work.g vs l.k
      × AreCardedOutside l.work.types.now view l.work.g vs (rebounded (frame view) l.work.planned) (is_card_set
      l.cards) l.k;
  beside : KeepsBeside l.initial.cards l.cards l.initial.pins l.pins;
  kind : IsRunKind l.work.types.now l.met.kind;
}
