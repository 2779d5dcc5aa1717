-- Dead objects with one method table word, which are alike but for their places.
use Rattle.std.specs.Prelude.{◌≡◌, ℕ, List, Option, Some, None, if◌then◌else◌, ◌==◌, true, false}
use Rattle.clr_types.specs.Types.{TypeRow}
use Rattle.clr_heap.specs.Parts.{item_at}
use Rattle.clr_view.specs.Marks.{has_mark}
use Rattle.clr_view.specs.View.{is_object}
use Rattle.clr_sweep.specs.declared.dead.DeadKind.{DeadKind}

-- wherever this word stands, there is an object without a mark, of this size
pub record IsDeadKind (rows : List TypeRow) (kind : DeadKind) : Type 0 where
  pub unmarked : has_mark kind.mt ≡ false
  pub object : (word : ℕ → ℕ) (a : ℕ) → word a ≡ kind.mt → is_object (item_at rows word a) ≡ true
  pub size : (word : ℕ → ℕ) (a : ℕ) → word a ≡ kind.mt → (item_at rows word a).size ≡ kind.size

-- the size of the items with this word, where it is that of the known kind
abbrev pub known_size : Option DeadKind → ℕ → Option ℕ
known_size None mt = None
known_size (Some kind) mt = if kind.mt == mt then Some kind.size else None
