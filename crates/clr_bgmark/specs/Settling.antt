-- How the last pause finds the front of a segment by bits.
use Rattle.std.specs.Prelude.{◌≡◌, ℕ, ◌+◌, ◌*◌, ◌%◌, ◌<◌, ◌≤◌, true, false, List, count_by, get_or}
use Rattle.clr_types.specs.Rising.{IsIn}
use Rattle.clr_types.specs.Segments.{generation}
use Rattle.clr_types.specs.Types.{mt_of, TypeRow}
use Rattle.clr_types.specs.declared.item.Item.{Item}
use Rattle.clr_heap.specs.Parts.{item_at}
use Rattle.clr_heap.specs.View.{first_of, frame, HeapView, last_of, listing, word_of}
use Rattle.clr_view.specs.View.{is_object}
use Rattle.clr_sweep.specs.Fronts.{AreBeforeObjects, front_at}
use Rattle.clr_sweep.specs.SweptItems.{items_below}
use Rattle.clr_sweep.specs.SweptSegments.{IsParted}
use Rattle.clr_sweep.specs.declared.behind.Front.{Front}
use Rattle.clr_bgmark.specs.Bits.{has_bit}
use Rattle.clr_bgmark.specs.LastPause.{IsMarkedIn}
use Rattle.clr_bgmark.specs.Shades.{cell_of, covers, PartView, ShadeView}
use Rattle.clr_bgmark.specs.Tiles.{IsEdge}

-- a place of the segment at which an object was taken
pub record IsTakenIn (s : ShadeView) (x : ℕ) : Type 0 where
  pub aligned : x % 8 ≡ 0
  pub inside : covers s x ≡ true
  pub taken : has_bit s.taken (cell_of s x) ≡ true

-- an object stands at x among items
pub record HasObject (items : List Item) (x : ℕ) : Type 0 where
  pub item : Item
  pub listed : IsIn item items
  pub at : item.place ≡ x
  pub object : is_object item ≡ true

-- each object that was taken stands in segment k, and behind it another one, or a gap, or the old part ended there
pub record IsTiledIn (rows : List TypeRow) (h : HeapView) (k : ℕ) (s : ShadeView) (p : PartView) : Type 0 where
  pub stands : (x : ℕ) → IsTakenIn s x → HasObject (listing rows h k) x
  pub edge : (x : ℕ) → IsTakenIn s x → IsEdge s p (x + (item_at rows (word_of h) x).size)

-- the words at a place name a free item before an object that was taken
pub record IsFreeGap (word : ℕ → ℕ) (s : ShadeView) (y : ℕ) : Type 0 where
  pub free : word y ≡ mt_of 0
  pub inside : covers s (y + 24 + word (y + 8)) ≡ true
  pub taken : has_bit s.taken (cell_of s (y + 24 + word (y + 8))) ≡ true

-- what was taken in these cells is found, and each gap there is one free item before an object
pub record AreGood (word : ℕ → ℕ) (s : ShadeView) (p : PartView) (from to : ℕ) : Type 0 where
  pub found : (c : ℕ) → from ≤ c → c < to → has_bit s.taken c ≡ true → has_bit s.marked c ≡ true
  pub gaps : (c : ℕ) → from ≤ c → c < to → has_bit p.gaps c ≡ true → IsFreeGap word s (s.base + 8 * c)

-- the places of segment k below an address are of generation 2
abbrev pub AreOldBelow : HeapView → ℕ → ℕ → Type 0
AreOldBelow h k end = (a : ℕ) → first_of h k ≤ a → a < end → generation (frame h) a ≡ 2

-- of each object that was taken the first word lies below an address
abbrev pub AreTakenBelow : ShadeView → ℕ → Type 0
AreTakenBelow s end = (x : ℕ) → IsTakenIn s x → x + 8 ≤ end

-- The front of segment k: items of generation 2, of which the objects are found, and each free one stands before an
-- object.
pub record IsFoundFront (rows : List TypeRow) (h : HeapView) (s : ShadeView) (k : ℕ) (f : Front) : Type 0 where
  pub parted : IsParted rows h k f.place
  pub old : AreOldBelow h k f.place
  pub found : (i : Item) → IsIn i (items_below rows h k f.place) → is_object i ≡ true → IsMarkedIn s i.place
  pub settled : AreBeforeObjects false (items_below rows h k f.place)
  pub count : f.count ≡ count_by is_object (items_below rows h k f.place)

-- the fronts of the first n segments
abbrev pub ArePut : List TypeRow → HeapView → List ShadeView → List Front → ℕ → Type 0
ArePut rows h ss fronts n =
    (k : ℕ) (s : ShadeView) → k < n → IsFoundFront rows h (get_or ss k s) k (front_at fronts k)

-- ---- the fronts reach as far as they can

-- the 512 bytes of number n lie in the old part of segment k and in what is in use, and are of generation 2
pub record IsOldGroup (h : HeapView) (k : ℕ) (s : ShadeView) (p : PartView) (n : ℕ) : Type 0 where
  pub part : s.base + 512 * n + 512 ≤ p.stop
  pub used : s.base + 512 * n + 512 ≤ last_of h k
  pub old : AreOldBelow h k (s.base + 512 * n + 512)

-- A front of segment k is as far up as groups of 512 bytes are as they were at the first pause: behind each object
-- that was taken in the first ones, which are good; the next one isn't whole in the old part, or isn't good.
pub record IsFurthestFront (rows : List TypeRow) (h : HeapView) (k : ℕ) (s : ShadeView) (p : PartView) (f : Front)
    : Type 0 where
  pub groups : ℕ
  pub good : AreGood (word_of h) s p 0 (64 * groups)
  pub passed : (x : ℕ) → IsTakenIn s x → x < s.base + 512 * groups → x + (item_at rows (word_of h) x).size ≤ f.place
  pub stopped : IsOldGroup h k s p groups → AreGood (word_of h) s p (64 * groups) (64 * groups + 64) → ⊥

-- those of the first n segments
abbrev pub AreFurthest : List TypeRow → HeapView → List ShadeView → List PartView → List Front → ℕ → Type 0
AreFurthest rows h ss ps fronts n =
    (k : ℕ) (s : ShadeView) (p : PartView) → k < n
    → IsFurthestFront rows h k (get_or ss k s) (get_or ps k p) (front_at fronts k)
