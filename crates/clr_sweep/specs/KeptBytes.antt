-- The bytes of what a collection keeps.
use Rattle.std.specs.Prelude.{◌≡◌, ℕ, ◌+◌, ◌<◌, ◌≤◌, ◌⊎◌, ◌&&◌, List, filter, sum_by}
use Rattle.clr_types.specs.declared.item.Item.{Item}
use Rattle.clr_heap.specs.View.{frame, HeapView, word_of}
use Rattle.clr_model.specs.Collection.{is_in_small_heap}
use Rattle.clr_sweep.specs.SweptItems.{stays}

-- the bytes of the marked objects among items
abbrev pub kept_size : HeapView → List Item → ℕ
kept_size h items = sum_by (λ i. i.size) (filter (stays (word_of h)) items)

-- and of those that stand in the small heap
abbrev pub kept_small : HeapView → List Item → ℕ
kept_small h items = sum_by (λ i. i.size)
    (filter (λ i. stays (word_of h) i && is_in_small_heap (frame h) i.place) items)

-- Bytes that were added up until it was settled whether all of them are below `need`, where those of what is ahead are
-- added: they are all, or enough, or all are too few whatever is ahead.
pub record IsWeighed (all need ahead bytes : ℕ) : Type 0 where
  pub most : bytes ≤ all
  pub settled : (bytes ≡ all) ⊎ ((need ≤ bytes) ⊎ (all + ahead < need))
