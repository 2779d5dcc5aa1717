-- Whether a place is in a part, by the segment that it may be in.
use Rattle.std.proofs.Common.{◌≡◌, ◌⊎◌, inl, inr, ℕ, zero, suc, ◌<◌, ◌≤◌, true, false, List, [], ◌∷◌, length}
use Rattle.std.proofs.Common.{get_or, refl, ap, sym, ◌∙◌, subst, arith, ◌&&◌, ◌||◌, eqb, leb, ltb}
use Rattle.std.proofs.lemmas.Bool.{and_parts, both_ways, cases_Bool, cases_lt, le-leb, leb-true, lt-ltb, ltb-true}
use Rattle.std.proofs.lemmas.Bool.{ne_eqb}
use Rattle.clr_types.specs.Segments.{empty_segment, ephemeral, first_place, is_small_or_ephemeral, Layout, reserved_end}
use Rattle.clr_types.specs.Segments.{same_kind, segment_or_empty, stands_in}
use Rattle.clr_types.specs.declared.segment.SegInfo.{SegInfo}
use Rattle.clr_types.specs.declared.segment.SegKind.{SegKind}
use Rattle.clr_types.specs.declared.segment.SegKind.TheVariants.{Small, Ephemeral, Large, Pinned}
use Rattle.clr_heap.specs.View.{first_of, frame, HeapView, IsHeap, segment_at}
use Rattle.clr_heap.proofs.Framing.{ephemerals}
use Rattle.clr_heap.proofs.Staying.{segment_order}
use Rattle.clr_heap.proofs.Young.{young_number}
use Rattle.clr_model.specs.Sweep.{has_condemned_part, part_start}
use Rattle.clr_moves.specs.Moves.{IsInPart, part_of, room_end, takes}
use Rattle.clr_moves.specs.declared.condemned.Condemned.TheVariants.{Generations, LargeSegments}

some_young : (ss : List SegInfo) (k : ℕ) → k < length ss → same_kind Ephemeral (get_or ss k empty_segment).kind ≡ true
    → 0 < length (ephemerals ss)
some_young [] k l e = absurd (omega arith)
some_young (s ∷ ss) zero l e = let n : length (ephemerals (s ∷ ss)) ≡ suc (length (ephemerals ss)) = rw e refl in
    omega (arith, n)
some_young (s ∷ ss) (suc k) l e = elim (cases_Bool (same_kind Ephemeral s.kind)) [
  | inl here ↦ let n : length (ephemerals (s ∷ ss)) ≡ suc (length (ephemerals ss)) = rw here refl in omega (arith, n)
  | inr other ↦ rw other (some_young ss k (omega (arith, l)) e)
]

pub first_young : (ss : List SegInfo) → same_kind Ephemeral (segment_or_empty (ephemerals ss)).kind ≡ true
first_young [] = refl
first_young (s ∷ ss) = elim (cases_Bool (same_kind Ephemeral s.kind)) [
  | inl here ↦ rw here here
  | inr other ↦ rw other (first_young ss)
]

-- the only ephemeral segment
young_at : (ss : List SegInfo) (k : ℕ) → k < length ss → same_kind Ephemeral (get_or ss k empty_segment).kind ≡ true
    → length (ephemerals ss) ≡ 1 → get_or ss k empty_segment ≡ segment_or_empty (ephemerals ss)
young_at [] k l e one = absurd (omega arith)
young_at (s ∷ ss) zero l e one = rw e refl
young_at (s ∷ ss) (suc k) l e one = elim (cases_Bool (same_kind Ephemeral s.kind)) [
  | inl here ↦
      let n : suc (length (ephemerals ss)) ≡ 1 = rw here at one in
      let some = some_young ss k (omega (arith, l)) e in absurd (omega (arith, n, some))
  | inr other ↦
      let count : length (ephemerals ss) ≡ 1 = rw other at one in
      rw other (young_at ss k (omega (arith, l)) e count)
]

pub young_segment : (h : HeapView) (k : ℕ) → IsHeap h → k < length h.segments
    → same_kind Ephemeral (segment_at h k).kind ≡ true → segment_at h k ≡ ephemeral (frame h)
young_segment h k heap l e = young_at h.segments k l e heap.one_ephemeral

-- a heap has a segment
pub some_segments : (h : HeapView) → IsHeap h → 0 < length h.segments
some_segments h heap =
    let one = heap.one_ephemeral in
    let (k, l, is) = young_number h.segments (omega (arith, one)) in
    omega (arith, l)

-- ---- the last segment that begins at a place or below it

pub record IsBelow (h : HeapView) (place k : ℕ) : Type 0 where
  pub in_range : k < length h.segments
  pub below : (k ≡ 0) ⊎ ((segment_at h k).base ≤ place)
  pub above : (t : ℕ) → k < t → t < length h.segments → place < (segment_at h t).base

-- no other segment has the place
pub only_below : (h : HeapView) (place k t : ℕ) → IsHeap h → IsBelow h place k → t < length h.segments
    → first_of h t ≤ place → place < room_end h t → t ≡ k
only_below h place k t heap b l low high = elim (cases_lt t k) [
  | inl less ↦
      let order = segment_order h t k heap less b.in_range in
      elim b.below [
        | inl none ↦ absurd (omega (arith, less, none))
        | inr under ↦ absurd (omega (arith, order, under, high))
      ]
  | inr not_less ↦ elim (cases_lt k t) [
    | inl more ↦ let over = b.above t more l in absurd (omega (arith, over, low))
    | inr not_more ↦ omega (arith, not_less, not_more)
  ]
]

-- ---- parts

pub part_of_two : (layout : Layout) (s : SegInfo) → part_start layout 2 s ≡ first_place s
part_of_two layout s = elim (cases_Bool (same_kind Ephemeral s.kind)) [
  | inl here ↦ rw here refl
  | inr other ↦ rw other refl
]

pub young_start0 : (layout : Layout) (s : SegInfo) → same_kind Ephemeral s.kind ≡ true
    → part_start layout 0 s ≡ layout.start0
young_start0 layout s e = rw e refl

pub young_start1 : (layout : Layout) (s : SegInfo) → same_kind Ephemeral s.kind ≡ true
    → part_start layout 1 s ≡ layout.start1
young_start1 layout s e = rw e refl

stands_bounds : (s : SegInfo) (place : ℕ) → stands_in s place ≡ true
    → (first_place s ≤ place) × (place < reserved_end s)
stands_bounds s place e =
    let (low, high) = and_parts (leb (first_place s) place) (ltb place (reserved_end s)) e in
    (leb-true (first_place s) place low, ltb-true place (reserved_end s) high)

pub stands_from : (s : SegInfo) (place : ℕ) → first_place s ≤ place → place < reserved_end s → stands_in s place ≡ true
stands_from s place low high =
    rw (le-leb (first_place s) place low, lt-ltb place (reserved_end s) high) refl

-- a part of less than two generations is in the ephemeral segment
pub only_young : (g : ℕ) (s : SegInfo) → takes (Generations g) s ≡ true → (g ≡ 2 → ⊥)
    → same_kind Ephemeral s.kind ≡ true
only_young g s on few =
    let has = (and_parts (is_small_or_ephemeral s.kind) (has_condemned_part g s) on).1 in
    elim (cases_Bool (same_kind Ephemeral s.kind)) [
      | inl here ↦ here
      | inr other ↦ absurd (both_ways (same_kind Ephemeral s.kind || eqb g 2) (rw (other, ne_eqb g 2 few) refl) has)
    ]

takes_young : (g : ℕ) (s : SegInfo) → same_kind Ephemeral s.kind ≡ true → takes (Generations g) s ≡ true
takes_young g s e = go s.kind e where
  go : (k : SegKind) → same_kind Ephemeral k ≡ true
      → (is_small_or_ephemeral k && (same_kind Ephemeral k || eqb g 2)) ≡ true
  go Small f = absurd (both_ways false refl f)
  go Ephemeral f = refl
  go Large f = absurd (both_ways false refl f)
  go Pinned f = absurd (both_ways false refl f)

module _ (h : HeapView) (place : ℕ) (heap : IsHeap h) where
  -- a place of the ephemeral segment in its part
  pub in_young : (g : ℕ) → stands_in (ephemeral (frame h)) place ≡ true
      → part_start (frame h) g (ephemeral (frame h)) ≤ place → (t : ℕ) × IsInPart h (Generations g) t place
  in_young g stands low =
      let one = heap.one_ephemeral in
      let (t, l, is) = young_number h.segments (omega (arith, one)) in
      let kind = first_young h.segments in
      let high = (stands_bounds (ephemeral (frame h)) place stands).1 in
      let start = ap (λ (s : SegInfo). part_start (frame h) g s) is in
      let end = ap reserved_end is in (
        t,
        record {
          in_range = l;
          takes = ap (λ (s : SegInfo). takes (Generations g) s) is ∙ takes_young g (ephemeral (frame h)) kind;
          low = omega (arith, low, start);
          high = omega (arith, high, end);
        },
      )

  pub in_first : stands_in (ephemeral (frame h)) place ≡ true → (t : ℕ) × IsInPart h (Generations 2) t place
  in_first stands =
      let start = part_of_two (frame h) (ephemeral (frame h)) in
      let low = (stands_bounds (ephemeral (frame h)) place stands).0 in
      in_young 2 stands (omega (arith, start, low))

  -- outside the ephemeral segment no place is in a part of less than two generations
  pub none_outside : (g t : ℕ) → stands_in (ephemeral (frame h)) place ≡ false → (g ≡ 2 → ⊥)
      → (takes (Generations g) (segment_at h t) ≡ true → first_of h t ≤ part_of h (Generations g) t)
      → IsInPart h (Generations g) t place → ⊥
  none_outside g t off few starts i =
      let kind = only_young g (segment_at h t) i.takes few in
      let is = young_segment h t heap i.in_range kind in
      let start = starts i.takes in
      let low = i.low in
      let on = stands_from (segment_at h t) place (omega (arith, start, low)) i.high in
      both_ways (stands_in (ephemeral (frame h)) place) off (sym (ap (λ (s : SegInfo). stands_in s place) is) ∙ on)

  -- where a place is in a part, the last segment that begins below it has that part
  pub record IsInSegment (k : ℕ) : Type 0 where
    pub low : first_of h k ≤ place
    pub high : place < room_end h k
    pub kind : is_small_or_ephemeral (segment_at h k).kind ≡ true

  pub in_segment : (k t : ℕ) → IsBelow h place k → IsInPart h (Generations 2) t place → IsInSegment k
  in_segment k t b i =
      let start = part_of_two (frame h) (segment_at h t) in
      let low = i.low in
      let low_at : first_of h t ≤ place = omega (arith, start, low) in
      let same = only_below h place k t heap b i.in_range low_at i.high in
      let P : ℕ → Type 0 = λ n. IsInSegment n in
      subst P same (record {
        low = low_at;
        high = i.high;
        kind = (and_parts (is_small_or_ephemeral (segment_at h t).kind) (has_condemned_part 2 (segment_at h t))
            i.takes).0;
      })

  pub not_young_segment : (k : ℕ) → k < length h.segments → same_kind Ephemeral (segment_at h k).kind ≡ true
      → stands_in (ephemeral (frame h)) place ≡ false → IsInSegment k → ⊥
  not_young_segment k l kind off i =
      let is = young_segment h k heap l kind in
      both_ways (stands_in (ephemeral (frame h)) place) off
      (sym (ap (λ (s : SegInfo). stands_in s place) is) ∙ stands_from (segment_at h k) place i.low i.high)

  -- where a place is in a large segment, the last segment that begins below it is that one
  pub record IsInLarge (k : ℕ) : Type 0 where
    pub low : first_of h k ≤ place
    pub high : place < room_end h k
    pub kind : same_kind Large (segment_at h k).kind ≡ true

  pub in_large : (k t : ℕ) → IsBelow h place k → IsInPart h LargeSegments t place → IsInLarge k
  in_large k t b i =
      let low : first_of h t ≤ place = i.low in
      let same = only_below h place k t heap b i.in_range low i.high in
      let P : ℕ → Type 0 = λ n. IsInLarge n in
      subst P same (record { low = low; high = i.high; kind = i.takes })
