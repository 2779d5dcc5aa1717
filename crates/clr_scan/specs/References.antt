-- References of the items of a heap, and which of them name an object of a lower generation.
use Rattle.std.specs.Prelude.{◌≡◌, ◌≢◌, ℕ, ◌+◌, ◌<◌, ◌≤◌, true, false, List}
use Rattle.clr_types.specs.Rising.{IsIn}
use Rattle.clr_types.specs.Segments.{generation}
use Rattle.clr_types.specs.Types.{TypeRow}
use Rattle.clr_types.specs.declared.item.Item.{Item}
use Rattle.clr_heap.specs.View.{frame, heap_items, HeapView, listing, word_of}
use Rattle.clr_view.specs.View.{is_object}
use Rattle.clr_mark.specs.Marks.{is_condemned_place, LeadsTo}
use Rattle.clr_mark.specs.Markings.{item_references}

-- an object that isn't condemned leads to y, which is
pub record IsNamedByOlder (rows : List TypeRow) (h : HeapView) (g y : ℕ) : Type 0 where
  pub by : ℕ
  pub older : is_condemned_place h g by ≡ false
  pub leads : LeadsTo rows h g by y

-- the item is an object, and one of its references stands at a
pub record IsReferenceOf (rows : List TypeRow) (i : Item) (a : ℕ) : Type 0 where
  pub object : is_object i ≡ true
  pub offset : ℕ
  pub reference : IsIn offset (item_references rows i)
  pub address : a ≡ i.place + offset

-- a reference of an item of the heap, at a, names an object of a lower generation
pub record RefersDown (rows : List TypeRow) (h : HeapView) (a : ℕ) : Type 0 where
  pub item : Item
  pub listed : IsIn item (heap_items rows h)
  pub reference : IsReferenceOf rows item a
  pub not_null : word_of h a ≢ 0
  pub younger : generation (frame h) (word_of h a) < generation (frame h) item.place

-- the word at a names nothing of a generation below this one
abbrev pub IsQuiet : HeapView → ℕ → ℕ → Type 0
IsQuiet h age a = word_of h a ≢ 0 → generation (frame h) (word_of h a) < age → ⊥

-- no reference of segment k that stands on a stretch names an object of a lower generation
abbrev pub AreQuiet : List TypeRow → HeapView → ℕ → ℕ → ℕ → Type 0
AreQuiet rows h k lo hi =
    (i : Item) (a : ℕ) → IsIn i (listing rows h k) → IsReferenceOf rows i a → lo ≤ a → a < hi
    → IsQuiet h (generation (frame h) i.place) a
