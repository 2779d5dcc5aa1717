-- Objects with one method table word, marked or not, whose references stand at the same offsets.
use Rattle.std.specs.Prelude.{◌≡◌, ℕ, List}
use Rattle.clr_types.specs.Bits.{unmarked}
use Rattle.clr_types.specs.ReferenceRuns.{SpellsReferences}
use Rattle.clr_types.specs.Types.{form_at, TypeRow}
use Rattle.clr_heap.specs.ObjectKinds.{IsObjectKind}
use Rattle.clr_heap.specs.Parts.{item_at}
use Rattle.clr_reloc.specs.declared.kinds.RunKind.{RunKind}

-- wherever this word stands, marked or not, there is an object without a length, of this size, with this run
pub record IsRunKind (rows : List TypeRow) (kind : RunKind) : Type 0 where
  pub object : IsObjectKind rows kind.object
  pub run : (word : ℕ → ℕ) (a : ℕ) → unmarked (word a) ≡ kind.object.mt
      → SpellsReferences (form_at rows (item_at rows word a).type_id.0) 0 kind.run
