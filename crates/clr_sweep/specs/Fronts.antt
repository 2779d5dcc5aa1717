-- Fronts of segments, over which a sweep of all generations passes.
use Rattle.std.specs.Prelude.{◌≡◌, ℕ, ◌<◌, ◌≤◌, Bool, true, false, length, List, [], ◌∷◌, get_or, count_by}
use Rattle.clr_types.specs.Rising.{IsIn}
use Rattle.clr_types.specs.Segments.{generation}
use Rattle.clr_types.specs.Types.{TypeRow}
use Rattle.clr_types.specs.declared.item.Item.{Item}
use Rattle.clr_heap.specs.View.{first_of, frame, HeapView, last_of, word_of}
use Rattle.clr_view.specs.Marks.{has_mark}
use Rattle.clr_view.specs.SlotValues.{StandsAt}
use Rattle.clr_view.specs.View.{HaveFreeHeads, is_free, is_object}
use Rattle.clr_mark.specs.Marks.{IsRemarked}
use Rattle.clr_sweep.specs.SweptItems.{items_below}
use Rattle.clr_sweep.specs.SweptSegments.{IsParted}
use Rattle.clr_sweep.specs.declared.behind.Front.{Front}

-- Behind each free item among items stands an object. So it is behind the one before them, where `free` says that there
-- is one, and it is a free item.
abbrev pub AreBeforeObjects : Bool → List Item → Type 0
AreBeforeObjects free [] = free ≡ false
AreBeforeObjects free (i ∷ is) = (free ≡ true → is_object i ≡ true) × AreBeforeObjects (is_free i) is

-- The front of segment k, in a heap h in which none of its objects carries a mark, and v, in which all do: it is of
-- generation 2, no item reaches over its end, and no two of its free items stand side by side, nor one at its end.
pub record IsFront (rows : List TypeRow) (h v : HeapView) (k : ℕ) (f : Front) : Type 0 where
  pub parted : IsParted rows h k f.place
  pub old : (place : ℕ) → first_of h k ≤ place → place < f.place → generation (frame h) place ≡ 2
  pub unmarked : (i : Item) → IsIn i (items_below rows h k f.place) → is_object i ≡ true
      → has_mark (word_of h i.place) ≡ false
  pub marked : (i : Item) → IsIn i (items_below rows h k f.place) → is_object i ≡ true
      → has_mark (word_of v i.place) ≡ true
  pub settled : AreBeforeObjects false (items_below rows h k f.place)
  pub free_heads : HaveFreeHeads (word_of h) (items_below rows h k f.place)
  pub count : f.count ≡ count_by is_object (items_below rows h k f.place)

-- the front of segment k
abbrev pub front_at : List Front → ℕ → Front
front_at fronts k = get_or fronts k (record { place = 0; count = 0 })

-- These are fronts of the segments of h. The heap v differs from it in marks alone: in v the objects of the fronts are
-- marked, too, and behind the fronts the same objects as in h.
pub record HasFronts (rows : List TypeRow) (h v : HeapView) (fronts : List Front) : Type 0 where
  pub marks : IsRemarked rows h v
  pub behind : (k x : ℕ) → k < length h.segments → StandsAt rows h x → (front_at fronts k).place ≤ x → x < last_of h k
      → has_mark (word_of v x) ≡ has_mark (word_of h x)
  pub each : (k : ℕ) → k < length h.segments → IsFront rows h v k (front_at fronts k)
