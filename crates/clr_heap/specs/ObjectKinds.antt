-- Objects with one method table word, marked or not, which are alike but for their places.
use Rattle.std.specs.Prelude.{◌≡◌, ◌≢◌, ℕ, List, Option, Some, None, if◌then◌else◌, ◌==◌}
use Rattle.clr_types.specs.Bits.{unmarked}
use Rattle.clr_types.specs.Types.{TypeRow}
use Rattle.clr_heap.specs.Parts.{item_at, length_at}
use Rattle.clr_heap.specs.declared.kinds.ObjectKind.{ObjectKind}

-- wherever this word stands, marked or not, there is an object without a length, of this size
pub record IsObjectKind (rows : List TypeRow) (kind : ObjectKind) : Type 0 where
  pub object : (word : ℕ → ℕ) (a : ℕ) → unmarked (word a) ≡ kind.mt → (item_at rows word a).type_id.0 ≢ 0
  pub bare : (word : ℕ → ℕ) (a : ℕ) → unmarked (word a) ≡ kind.mt → length_at rows word a ≡ 0
  pub size : (word : ℕ → ℕ) (a : ℕ) → unmarked (word a) ≡ kind.mt → (item_at rows word a).size ≡ kind.size

-- the size of the objects with this word, where they are of the kind that is known
abbrev pub known_size : ObjectKind → ℕ → Option ℕ
known_size kind mt = if unmarked mt == kind.mt then Some kind.size else None
