-- What a part of a scan leaves, and where a walk over items begins.
use Rattle.std.specs.Prelude.{◌≡◌, ◌≢◌, ℕ, ◌+◌, ◌*◌, ◌%◌, ◌<◌, ◌≤◌, ◌⊎◌, Bool, true, false, List}
use Rattle.clr_types.specs.Rising.{IsIn}
use Rattle.clr_types.specs.Types.{TypeRow}
use Rattle.clr_types.specs.declared.item.Item.{Item}
use Rattle.clr_heap.specs.View.{first_of, HeapView, last_of, listing, word_of}
use Rattle.clr_model.specs.Reach.{Reach}
use Rattle.clr_view.specs.Marks.{Marked}
use Rattle.clr_mark.specs.Marks.{is_condemned_place, IsRemarked, LeadsTo}
use Rattle.clr_mark.specs.Waiting.{MarkerView}
use Rattle.clr_scan.specs.References.{IsNamedByOlder, IsQuiet, IsReferenceOf}

-- marks were added, on objects that marked ones and older ones reach over condemned objects
pub record HasScanned (rows : List TypeRow) (old new : HeapView) (m now : MarkerView) : Type 0 where
  pub remarked : IsRemarked rows old new
  pub kept : (x : ℕ) → Marked rows old x → Marked rows new x
  pub reached : (x : ℕ) → Marked rows new x
      → Reach (LeadsTo rows old m.oldest) (λ y. Marked rows old y ⊎ IsNamedByOlder rows old m.oldest y) x
  pub capacity : now.capacity ≡ m.capacity
  pub oldest : now.oldest ≡ m.oldest

-- what the reference at a names is marked now, where it is condemned
abbrev pub IsTraced : HeapView → List TypeRow → HeapView → ℕ → ℕ → Type 0
IsTraced old rows new g a =
    word_of old a ≢ 0 → is_condemned_place old g (word_of old a) ≡ true → Marked rows new (word_of old a)

-- the same for all references of segment k that stand on a stretch
abbrev pub AreTraced : HeapView → List TypeRow → HeapView → ℕ → ℕ → ℕ → ℕ → Type 0
AreTraced old rows new g k lo hi =
    (i : Item) (a : ℕ) → IsIn i (listing rows old k) → IsReferenceOf rows i a → lo ≤ a → a < hi
    → IsTraced old rows new g a

-- Of what the words from number `from` up to j name, of which number 0 stands at `base`, the condemned objects are
-- gathered, and no others. `younger` tells whether one of these words names an object of a generation below `age`.
pub record AreGathered (rows : List TypeRow) (h : HeapView) (g age base from j : ℕ) (targets : List ℕ)
    (younger : Bool) : Type 0 where
  pub named : (y : ℕ) → IsIn y targets → IsNamedByOlder rows h g y
  pub gathered : (s : ℕ) → from ≤ s → s < j → word_of h (base + 8 * s) ≢ 0
      → is_condemned_place h g (word_of h (base + 8 * s)) ≡ true → IsIn (word_of h (base + 8 * s)) targets
  pub clear : younger ≡ false → (s : ℕ) → from ≤ s → s < j → IsQuiet h age (base + 8 * s)
  pub silent : ((s : ℕ) → from ≤ s → s < j → IsQuiet h age (base + 8 * s)) → younger ≡ false

-- A walk over segment k can begin at p, and meets all items that end above lo: each one begins at p or above, or ends
-- at p or below and at lo or below.
pub record IsCursor (rows : List TypeRow) (h : HeapView) (k p lo : ℕ) : Type 0 where
  pub low : first_of h k ≤ p
  pub high : p ≤ last_of h k
  pub aligned : p % 8 ≡ 0
  pub whole : (i : Item) → IsIn i (listing rows h k)
      → (p ≤ i.place) ⊎ ((i.place + i.size ≤ p) × (i.place + i.size ≤ lo))
