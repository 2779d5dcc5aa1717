-- Covers that have the units of segments: what is covered, and what begins.
use Rattle.std.proofs.Common.{◌≡◌, ◌≢◌, inl, inr, ℕ, zero, suc, ◌+◌, ◌/◌, ◌<◌, ◌≤◌, ◌==◌, Bool, true, ◌&&◌}
use Rattle.std.proofs.Common.{nat_le, nat_lt, List, [], ◌∷◌, length, get_or, map, refl, ap, sym, ◌∙◌, arith}
use Rattle.std.specs.List.{list_any, remove}
use Rattle.std.proofs.lemmas.Bool.{and_from, eq-eqb, le-leb, lt-ltb}
use Rattle.std.proofs.lemmas.List.{length-map}
use Rattle.clr_types.specs.Rising.{first, IsIn, later}
use Rattle.clr_types.specs.Segments.{empty_segment, reserved_end}
use Rattle.clr_types.specs.LawfulLayout.{IsLawfulSegment}
use Rattle.clr_types.specs.declared.segment.SegInfo.{SegInfo}
use Rattle.clr_types.proofs.ListMembers.{any-from, any-map}
use Rattle.clr_types.proofs.RisingLists.{in_cons}
use Rattle.clr_covers.specs.Covers.{begins, CoverView, is_covered, span_of, spans}
use Rattle.clr_generations.specs.Tables.{units_of}
use Rattle.clr_collect.proofs.NeededSegments.{number-of}

-- ---- segments of which one is taken away

pub segment-in : (ss : List SegInfo) (j : ℕ) → j < length ss → IsIn (get_or ss j empty_segment) ss
segment-in [] j l = absurd (omega arith)
segment-in (s ∷ ss) zero l = first
segment-in (s ∷ ss) (suc j) l = later (segment-in ss j (omega arith))

-- each other one is left
pub left-in : (ss : List SegInfo) (j k : ℕ) → j < length ss → j ≢ k → IsIn (get_or ss j empty_segment) (remove ss k)
left-in [] j k l other = absurd (omega arith)
left-in (s ∷ ss) zero zero l other = absurd (other refl)
left-in (s ∷ ss) zero (suc k) l other = first
left-in (s ∷ ss) (suc j) zero l other = segment-in ss j (omega arith)
left-in (s ∷ ss) (suc j) (suc k) l other = later (left-in ss j k (omega arith) (λ same. other (ap suc same)))

-- and what is left is another one
pub left-from : (ss : List SegInfo) (k : ℕ) (t : SegInfo) → k < length ss → IsIn t (remove ss k)
    → (j : ℕ) × (j < length ss) × (j ≢ k) × (get_or ss j empty_segment ≡ t)
left-from [] k t under i = absurd (omega arith)
left-from (s ∷ ss) zero t under i =
    let (j, l, at) = number-of ss t i in
    (suc j, omega arith, λ same. omega arith, at)
left-from (s ∷ ss) (suc k) t under i = elim (in_cons i) [
  | inl here ↦ (0, omega arith, λ same. omega arith, sym here)
  | inr more ↦
      let (j, l, other, at) = left-from ss k t (omega arith) more in
      (suc j, omega arith, λ same. other (omega arith), at)
]

pub map-remove : {X Y : Type 0} (f : X → Y) (xs : List X) (k : ℕ) → k < length xs
    → remove (map f xs) k ≡ map f (remove xs k)
map-remove f [] k l = absurd (omega arith)
map-remove f (x ∷ xs) zero l = refl
map-remove f (x ∷ xs) (suc k) l = let ih = map-remove f xs k (omega arith) in λ i. f x ∷ ih i

pub get_or-mapped : {X Y : Type 0} (f : X → Y) (xs : List X) (k : ℕ) (d : X) (e : Y) → k < length xs
    → get_or (map f xs) k e ≡ f (get_or xs k d)
get_or-mapped f [] k d e l = absurd (omega arith)
get_or-mapped f (x ∷ xs) zero d e l = refl
get_or-mapped f (x ∷ xs) (suc k) d e l = get_or-mapped f xs k d e (omega arith)

-- ---- covers of the units of segments

module _ {X : Type 0} (unit : ℕ) (cs : List (CoverView X)) (ss : List SegInfo)
    (same : spans cs ≡ map (units_of unit) ss) where
  any-segment : (test : ℕ × ℕ → Bool) → list_any (λ (c : CoverView X). test (span_of c)) cs
      ≡ list_any (λ s. test (units_of unit s)) ss
  any-segment test =
      sym (any-map span_of test cs) ∙ ap (list_any test) same ∙ any-map (units_of unit) test ss

  pub covers-as-many : length cs ≡ length ss
  covers-as-many = sym (length-map cs span_of) ∙ ap length same ∙ length-map ss (units_of unit)

  -- all units of a segment are covered
  pub segment_covered : (s : SegInfo) → IsIn s ss → (i : ℕ) → s.base / unit ≤ i
      → i < s.base / unit + s.reserved / unit → is_covered cs i ≡ true
  segment_covered s l i low high =
      any-segment (λ (p : ℕ × ℕ). nat_le p.0 i && nat_lt i (p.0 + p.1))
      ∙ any-from (λ (t : SegInfo). nat_le (t.base / unit) i && nat_lt i (t.base / unit + t.reserved / unit)) ss s l
      (and_from (nat_le (s.base / unit) i) (nat_lt i (s.base / unit + s.reserved / unit)) (le-leb (s.base / unit) i low)
      (lt-ltb i (s.base / unit + s.reserved / unit) high))

  -- and one begins where the segment does
  pub segment_begins : (s : SegInfo) → IsIn s ss → begins cs (s.base / unit) ≡ true
  segment_begins s l =
      any-segment (λ (p : ℕ × ℕ). p.0 == s.base / unit)
      ∙ any-from (λ (t : SegInfo). t.base / unit == s.base / unit) ss s l
      (eq-eqb (s.base / unit) (s.base / unit) refl)

  -- the cover of a segment is taken away with it
  pub spans_left : (new : List (CoverView X)) (k : ℕ) → k < length ss
      → ((j : ℕ) → j < length cs → (get_or (spans cs) j (0, 0)).0 ≡ (get_or ss k empty_segment).base / unit
      → spans new ≡ remove (spans cs) j)
      → spans new ≡ map (units_of unit) (remove ss k)
  spans_left new k l removed =
      let count = covers-as-many in
      let at : (get_or (spans cs) k (0, 0)).0 ≡ (get_or ss k empty_segment).base / unit =
      ap (λ (ps : List (ℕ × ℕ)). (get_or ps k (0, 0)).0) same
      ∙ ap (λ (p : ℕ × ℕ). p.0) (get_or-mapped (units_of unit) ss k empty_segment (0, 0) l) in
      removed k (omega arith) at ∙ ap (λ (ps : List (ℕ × ℕ)). remove ps k) same ∙ map-remove (units_of unit) ss k l

-- ---- arithmetic

-- an address of a segment stands on one of its cards
pub card-inside : (s : SegInfo) → IsLawfulSegment s → (a : ℕ) → s.base ≤ a → a < reserved_end s
    → (s.base / 2048 ≤ a / 2048) × (a / 2048 < s.base / 2048 + s.reserved / 2048)
card-inside s h a low high =
    let base = h.base in
    let reserved = h.reserved in
    (omega arith, omega arith)

-- and in one of its bricks
pub brick-inside : (s : SegInfo) → IsLawfulSegment s → (a : ℕ) → s.base ≤ a → a < reserved_end s
    → (s.base / 4096 ≤ a / 4096) × (a / 4096 < reserved_end s / 4096)
brick-inside s h a low high =
    let base = h.base in
    let reserved = h.reserved in
    (omega arith, omega arith)

pub bricks-reserved : (s : SegInfo) → IsLawfulSegment s → reserved_end s / 4096 ≡ s.base / 4096 + s.reserved / 4096
bricks-reserved s h =
    let base = h.base in
    let reserved = h.reserved in
    omega arith
