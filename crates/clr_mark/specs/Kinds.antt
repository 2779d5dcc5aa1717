-- Objects with one method table word, whose references stand at the same offsets.
use Rattle.std.specs.Prelude.{◌≡◌, ℕ, List}
use Rattle.clr_types.specs.Descriptors.{offsets_from}
use Rattle.clr_types.specs.Types.{TypeRow}
use Rattle.clr_heap.specs.Parts.{item_at, unmarked}
use Rattle.clr_mark.specs.Markings.{item_references}
use Rattle.clr_mark.specs.declared.marker.kind.RunKind.{RunKind}

-- wherever this word stands, marked or not, the references of the item are this run
pub record IsRunKind (rows : List TypeRow) (kind : RunKind) : Type 0 where
  pub run : (word : ℕ → ℕ) (a : ℕ) → unmarked (word a) ≡ kind.mt
      → item_references rows (item_at rows word a) ≡ offsets_from kind.run.offset kind.run.count
