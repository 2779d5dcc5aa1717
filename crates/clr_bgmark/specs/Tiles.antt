-- The old part of each segment as it was at the first pause: the objects that were taken and gaps, one after the other.
use Rattle.std.specs.Prelude.{◌≡◌, ℕ, ◌+◌, ◌*◌, ◌%◌, ◌<◌, ◌≤◌, ◌⊎◌, true, List, [], ◌∷◌, length, get_or, MatchBool}
use Rattle.clr_types.specs.Types.{TypeRow}
use Rattle.clr_heap.specs.Parts.{item_at}
use Rattle.clr_heap.specs.View.{HeapView, segment_at, word_of}
use Rattle.clr_view.specs.Marks.{has_mark}
use Rattle.clr_view.specs.SlotValues.{StandsAt}
use Rattle.clr_mark.specs.Marks.{IsRemarked}
use Rattle.clr_sweep.specs.Fronts.{front_at, IsFront}
use Rattle.clr_sweep.specs.declared.behind.Front.{Front}
use Rattle.clr_bgmark.specs.Bits.{has_bit}
use Rattle.clr_bgmark.specs.Pauses.{IsFound}
use Rattle.clr_bgmark.specs.Scanning.{IsTakenAt}
use Rattle.clr_bgmark.specs.Shades.{cell_of, covers, is_taken, PartView, ShadeView}

-- the old part ended at y, or an object that was taken or a gap began there
abbrev pub IsEdge : ShadeView → PartView → ℕ → Type 0
IsEdge s p y =
    (y ≡ p.stop) ⊎ ((y < p.stop) × ((has_bit s.taken (cell_of s y) ≡ true) ⊎ (has_bit p.gaps (cell_of s y) ≡ true)))

-- what stays so from the first pause on: the part begins with the segment's first place, and what was taken lies in it
pub record IsPart (s : ShadeView) (p : PartView) : Type 0 where
  pub low : s.base + 4096 ≤ p.stop
  pub high : p.stop ≤ s.base + s.size
  pub aligned : p.stop % 8 ≡ 0
  pub room : s.size ≤ 512 * length p.gaps
  pub first : IsEdge s p (s.base + 4096)
  pub taken_low : (n : ℕ) → has_bit s.taken n ≡ true → s.base + 4096 ≤ s.base + 8 * n
  pub taken_high : (n : ℕ) → has_bit s.taken n ≡ true → s.base + 8 * n < p.stop
  pub gaps_low : (n : ℕ) → has_bit p.gaps n ≡ true → s.base + 4096 ≤ s.base + 8 * n
  pub gaps_high : (n : ℕ) → has_bit p.gaps n ≡ true → s.base + 8 * n < p.stop

abbrev pub AreParts : List ShadeView → List PartView → Type 0
AreParts [] [] = Unit {0}
AreParts [] (p ∷ ps) = ⊥
AreParts (s ∷ ss) [] = ⊥
AreParts (s ∷ ss) (p ∷ ps) = IsPart s p × AreParts ss ps

-- the same of the place y in the part of the segment that has the address x
abbrev pub IsEdgeBy : List ShadeView → List PartView → ℕ → ℕ → Type 0
IsEdgeBy [] ps x y = ⊥
IsEdgeBy (s ∷ ss) [] x y = ⊥
IsEdgeBy (s ∷ ss) (p ∷ ps) x y = MatchBool (covers s x) (IsEdge s p y) (IsEdgeBy ss ps x y)

-- behind each object that was taken another one stands, or a gap, or the old part ended there
abbrev pub AreTiled : List TypeRow → HeapView → List ShadeView → List PartView → Type 0
AreTiled rows h ss ps =
    (x : ℕ) → IsTakenAt ss x → IsEdgeBy ss ps x (x + (item_at rows (word_of h) x).size)

-- the same behind each object of which that alone is known that it was taken
abbrev pub HaveEdges : List TypeRow → HeapView → List ShadeView → List PartView → Type 0
HaveEdges rows h ss ps =
    (x : ℕ) → x % 8 ≡ 0 → is_taken ss x ≡ true → IsEdgeBy ss ps x (x + (item_at rows (word_of h) x).size)

-- ---- at the last pause

-- v is the heap h with marks on exactly what is found
pub record HasFoundMarks (rows : List TypeRow) (h v : HeapView) (ss : List ShadeView) : Type 0 where
  pub marks : IsRemarked rows h v
  pub found : (x : ℕ) → StandsAt rows h x → IsFound ss x → has_mark (word_of v x) ≡ true
  pub only : (x : ℕ) → StandsAt rows h x → has_mark (word_of v x) ≡ true → IsFound ss x

-- the bits are those of the heap's segments, in their order
abbrev pub HaveSameBases : HeapView → List ShadeView → Type 0
HaveSameBases h ss =
    (length ss ≡ length h.segments)
    × ((k : ℕ) (s : ShadeView) → k < length ss → (get_or ss k s).base ≡ (segment_at h k).base)

-- these are fronts of the segments, over which a sweep may pass that keeps what is found
abbrev pub AreFronts : List TypeRow → HeapView → List ShadeView → List Front → Type 0
AreFronts rows h ss fronts =
    (length fronts ≡ length h.segments) × ((v : HeapView) → HasFoundMarks rows h v ss → (k : ℕ)
    → k < length h.segments → IsFront rows h v k (front_at fronts k)) × ((k : ℕ) → k < length h.segments
    → (front_at fronts k).place % 8 ≡ 0)
