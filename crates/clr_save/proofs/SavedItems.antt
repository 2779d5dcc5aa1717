-- The items of an image: those of the heap, and a free one in the place of each rest of a context.
use Rattle.std.proofs.Common.{◌≡◌, ℕ, zero, suc, ◌+◌, ◌-◌, ◌%◌, ◌≤◌, ◌<◌, List, [], ◌∷◌, ◌++◌}
use Rattle.std.proofs.Common.{length, map, refl, sym, subst, arith}
use Rattle.std.proofs.lemmas.List.{append_assoc, map-append}
use Rattle.std.specs.List.{AllByRecursion}
use Rattle.clr_types.specs.Ranges.{Piece}
use Rattle.clr_types.specs.Rising.{IsRisingBy}
use Rattle.clr_types.specs.Segments.{reserved_end}
use Rattle.clr_types.specs.Types.{form_at, size_of, TypeRow}
use Rattle.clr_types.specs.declared.item.Item.{Item}
use Rattle.clr_types.proofs.ChangedLists.{all_imply}
use Rattle.clr_types.proofs.ListMembers.{both_all, rising_append}
use Rattle.clr_types.proofs.RisingLists.{all_at}
use Rattle.clr_types.proofs.Shuffles.{followed, IsShuffled, nothing, shuffled-behind, shuffled-left, shuffled-right}
use Rattle.clr_types.proofs.Shuffles.{shuffled-turn, under}
use Rattle.clr_heap.specs.Parts.{free_item, item_part, items_in, Part, rest_part, Sight, Spells}
use Rattle.clr_heap.specs.View.{AreWalkable, first_of, HeapView, IsHeap, last_of, listing, listings, parts_of}
use Rattle.clr_heap.specs.View.{segment_at, sight}
use Rattle.clr_heap.proofs.Framing.{lawful_at}
use Rattle.clr_heap.proofs.Spelling.{item_size, Spells-le}
use Rattle.clr_heap.proofs.Staying.{segment_order}
use Rattle.clr_model.specs.Listing as model
use Rattle.clr_view.proofs.Items.{AreStacked, IsItem, items-are, stacked-rise, wider}

-- what stands in the place of a part
abbrev pub saved_item : Part → Item
saved_item (item_part i) = i
saved_item (rest_part low high) = free_item low (high - low)

-- the ranges of the rests among parts
abbrev pub rests_in : List Part → List Piece
rests_in [] = []
rests_in (item_part i ∷ ps) = rests_in ps
rests_in (rest_part low high ∷ ps) = record { place = low; size = high - low } ∷ rests_in ps

-- the items of segment k
abbrev pub saved_items : List TypeRow → HeapView → ℕ → List Item
saved_items rows h k = map saved_item (parts_of rows h k)

-- those of n segments from segment k on, and the rests among them
abbrev pub saved_from : List TypeRow → HeapView → ℕ → ℕ → List Item
saved_from rows h k zero = []
saved_from rows h k (suc n) = saved_items rows h k ++ saved_from rows h (k + 1) n

abbrev pub rests_from : List TypeRow → HeapView → ℕ → ℕ → List Piece
rests_from rows h k zero = []
rests_from rows h k (suc n) = rests_in (parts_of rows h k) ++ rests_from rows h (k + 1) n

-- ---- where they stand

pub rest-is : (rows : List TypeRow) (p low high : ℕ) → low ≡ p → p % 8 ≡ 0 → high % 8 ≡ 0 → p + 24 ≤ high
    → IsItem rows p high (free_item low (high - low))
rest-is rows p low high at z whole least = record {
  aligned = omega arith;
  above = omega arith;
  below = omega arith;
  least = omega arith;
  known = omega arith;
  sized = let size : high - low ≡ size_of (form_at rows 0) (high - low - 24) = omega arith in size;
  whole = λ free. omega arith;
}

all_wider : (rows : List TypeRow) (low high p e : ℕ) (items : List Item) → p ≤ low → high ≤ e
    → AllByRecursion (IsItem rows low high) items → AllByRecursion (IsItem rows p e) items
all_wider rows low high p e items down up all =
    all_imply (IsItem rows low high) (IsItem rows p e) items (λ i h. wider rows low high p e i down up h) all

-- the item of one part
pub one-is : (s : Sight) (i : Item) (p e : ℕ) (ps : List Part) → p % 8 ≡ 0 → Spells s p (item_part i ∷ ps) e
    → IsItem s.rows p (p + i.size) i
one-is s i p e ps z h =
    let all = items-are s (item_part i ∷ []) p (p + i.size) z (h.0, h.1, h.2, refl) in all.0

pub saved-are : (s : Sight) (ps : List Part) (p e : ℕ) → p % 8 ≡ 0 → Spells s p ps e
    → AllByRecursion (IsItem s.rows p e) (map saved_item ps)
saved-are s [] p e z h = tt
saved-are s (item_part i ∷ ps) p e z h =
    let f = item_size s i p h.1 h.2 in
    let l = Spells-le s ps (p + i.size) e h.3 in (
      wider s.rows p (p + i.size) p e i (omega arith) l (one-is s i p e ps z h),
      all_wider s.rows (p + i.size) e p e (map saved_item ps) (omega arith) (omega arith)
          (saved-are s ps (p + i.size) e (omega arith) h.3),
    )
saved-are s (rest_part low high ∷ ps) p e z h =
    let up = h.2 in
    let l = Spells-le s ps high e h.4 in (
      wider s.rows p high p e (free_item low (high - low)) (omega arith) l (rest-is s.rows p low high h.0 z h.3 up),
      all_wider s.rows high e p e (map saved_item ps) (omega arith) (omega arith) (saved-are s ps high e h.3 h.4),
    )

pub saved-stacked : (s : Sight) (ps : List Part) (p e : ℕ) → p % 8 ≡ 0 → Spells s p ps e
    → AreStacked (map saved_item ps)
saved-stacked s [] p e z h = tt
saved-stacked s (item_part i ∷ ps) p e z h =
    let f = item_size s i p h.1 h.2 in
    let one = one-is s i p e ps z h in
    let low = one.above in
    let high = one.below in (
      all_imply (IsItem s.rows (p + i.size) e) (λ (j : Item). i.place + i.size ≤ j.place) (map saved_item ps)
          (λ j is. let above = is.above in omega arith) (saved-are s ps (p + i.size) e (omega arith) h.3),
      saved-stacked s ps (p + i.size) e (omega arith) h.3,
    )
saved-stacked s (rest_part low high ∷ ps) p e z h =
    let at = h.0 in
    let up = h.2 in (
      all_imply (IsItem s.rows high e) (λ (j : Item). low + (high - low) ≤ j.place) (map saved_item ps)
          (λ j is. let above = is.above in omega arith) (saved-are s ps high e h.3 h.4),
      saved-stacked s ps high e h.3 h.4,
    )

-- ---- parts, put together from items and rests

pub saved-shuffled : (ps : List Part)
    → IsShuffled (map saved_item ps) (items_in ps ++ map model.free_item (rests_in ps))
saved-shuffled [] = nothing
saved-shuffled (item_part i ∷ ps) = under (saved-shuffled ps)
saved-shuffled (rest_part low high ∷ ps) =
    followed (under (saved-shuffled ps))
    (shuffled-behind (free_item low (high - low)) (items_in ps) (map model.free_item (rests_in ps)))

-- two lists, each of which is put together from two
joined : {X : Type 0} (a b c d e f : List X) → IsShuffled a (b ++ c) → IsShuffled d (e ++ f)
    → IsShuffled (a ++ d) ((b ++ e) ++ (c ++ f))
joined a b c d e f s t =
    let first : IsShuffled (a ++ d) ((b ++ c) ++ (e ++ f)) = followed (shuffled-left d s) (shuffled-right (b ++ c) t) in
    let turned : IsShuffled (b ++ (c ++ (e ++ f))) (b ++ (e ++ (c ++ f))) = shuffled-right b (shuffled-turn c e f) in
    subst (IsShuffled (a ++ d)) (sym (append_assoc b e (c ++ f)))
    (followed (subst (IsShuffled (a ++ d)) (append_assoc b c (e ++ f)) first) turned)

pub from-shuffled : (rows : List TypeRow) (h : HeapView) (k n : ℕ)
    → IsShuffled (saved_from rows h k n) (listings rows h k n ++ map model.free_item (rests_from rows h k n))
from-shuffled rows h k zero = nothing
from-shuffled rows h k (suc n) =
    let here = rests_in (parts_of rows h k) in
    let rest = rests_from rows h (k + 1) n in
    subst (λ (fs : List Item). IsShuffled (saved_from rows h k (suc n)) (listings rows h k (suc n) ++ fs))
    (sym (map-append model.free_item here rest))
    (joined (saved_items rows h k) (listing rows h k) (map model.free_item here) (saved_from rows h (k + 1) n)
    (listings rows h (k + 1) n) (map model.free_item rest) (saved-shuffled (parts_of rows h k))
    (from-shuffled rows h (k + 1) n))

-- ---- segment by segment

module _ (rows : List TypeRow) (h : HeapView) (heap : IsHeap h) (walkable : AreWalkable rows h) where
  pub segment-are : (k : ℕ) → k < length h.segments
      → AllByRecursion (IsItem rows (first_of h k) (last_of h k)) (saved_items rows h k)
  segment-are k l = let w = walkable k l in
      saved-are (sight rows h k) (parts_of rows h k) (first_of h k) (last_of h k) w.start w.spelled

  segment-rise : (k : ℕ) → k < length h.segments → IsRisingBy (λ (i : Item). i.place) (saved_items rows h k)
  segment-rise k l =
      let w = walkable k l in
      stacked-rise (saved_items rows h k)
      (all_imply (IsItem rows (first_of h k) (last_of h k)) (λ (i : Item). 24 ≤ i.size) (saved_items rows h k)
      (λ i is. is.least) (segment-are k l))
      (saved-stacked (sight rows h k) (parts_of rows h k) (first_of h k) (last_of h k) w.start w.spelled)

  -- what holds of the items of each segment holds of all
  pub from-all : (P : Item → Type 0) (k n : ℕ)
      → ((j : ℕ) → k ≤ j → j < k + n → AllByRecursion P (saved_items rows h j))
      → AllByRecursion P (saved_from rows h k n)
  from-all P k zero each = tt
  from-all P k (suc n) each =
      both_all P (saved_items rows h k) (saved_from rows h (k + 1) n) (each k (omega arith) (omega arith))
      (from-all P (k + 1) n (λ j low high. each j (omega arith) (omega arith)))

  -- items of later segments stand higher
  later-above : (k n : ℕ) → k + 1 + n ≤ length h.segments
      → AllByRecursion (λ (i : Item). reserved_end (segment_at h k) ≤ i.place) (saved_from rows h (k + 1) n)
  later-above k n l = from-all (λ (i : Item). reserved_end (segment_at h k) ≤ i.place) (k + 1) n (λ j low high.
      let order = segment_order h k j heap (omega arith) (omega arith) in
      all_imply (IsItem rows (first_of h j) (last_of h j)) (λ (i : Item). reserved_end (segment_at h k) ≤ i.place)
      (saved_items rows h j) (λ i is. let above = is.above in omega arith) (segment-are j (omega arith)))

  pub from-rise : (k n : ℕ) → k + n ≤ length h.segments → IsRisingBy (λ (i : Item). i.place) (saved_from rows h k n)
  from-rise k zero l = tt
  from-rise k (suc n) l =
      let end = (lawful_at h k heap (omega arith)).high in
      rising_append (λ (i : Item). i.place) (saved_items rows h k) (saved_from rows h (k + 1) n)
      (segment-rise k (omega arith)) (from-rise (k + 1) n (omega arith)) (λ x y here more.
      let below = (all_at (IsItem rows (first_of h k) (last_of h k)) here (segment-are k (omega arith))).below in
      let least = (all_at (IsItem rows (first_of h k) (last_of h k)) here (segment-are k (omega arith))).least in
      let above = all_at (λ (i : Item). reserved_end (segment_at h k) ≤ i.place) more (later-above k n (omega arith)) in
      omega arith)
