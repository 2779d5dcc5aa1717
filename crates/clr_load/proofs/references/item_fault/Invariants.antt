-- No reference before the next one is bad.
use Rattle.std.proofs.Common.{◌≡◌, ◌+◌, ◌++◌, List, map, None}
use Rattle.clr_types.specs.declared.item.Item.{Item}
use Rattle.clr_format.specs.HeapFields.{word_named}
use Rattle.clr_load.specs.KnownStarts.{AreStarts}
use Rattle.clr_format.specs.NameTests.{first_failed, reference_test}
use Rattle.clr_load.proofs.references.item_fault.Given as goal

abbrev pub invariant-loop-offset : goal.invariant-loop-offset
invariant-loop-offset l = record {
  walked : l.yielded ++ l.offset-iterator ≡ l.initial.offset-iterator;
  passed : (items : List Item) → AreStarts l.starts items
      → first_failed (map (reference_test items) (map (word_named l.scan.bytes.now l.scan.info l.scan.at)
      (map (λ offset. l.item.place + offset) l.yielded))) ≡ None;
}
