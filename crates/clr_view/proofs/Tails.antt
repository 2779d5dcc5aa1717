-- The ephemeral segment of a heap, by its number, and its end that moves.
use Rattle.std.proofs.Common.{◌≡◌, ℕ, zero, suc, ◌<◌, ◌≤◌, true, false, List, [], ◌∷◌, length, get_or}
use Rattle.std.proofs.Common.{set, refl, ap, sym, ◌∙◌, subst, arith, inl, inr}
use Rattle.std.specs.List.{AllByRecursion}
use Rattle.std.proofs.lemmas.Bool.{cases_Bool, eq-eqb, ne_eqb}
use Rattle.clr_types.specs.Rising.{changed_by}
use Rattle.clr_types.specs.Segments.{empty_segment, ended_at, ephemeral, reserved_end, same_kind, segment_or_empty}
use Rattle.clr_types.specs.LawfulLayout.{AreDisjoint, IsLawfulSegment}
use Rattle.clr_types.specs.declared.segment.SegInfo.{SegInfo}
use Rattle.clr_types.specs.declared.segment.SegKind.{SegKind}
use Rattle.clr_types.specs.declared.segment.SegKind.TheVariants.{Small, Ephemeral, Large, Pinned}
use Rattle.clr_heap.specs.View.{frame, HeapView, IsHeap, segment_at}
use Rattle.clr_heap.proofs.Framing.{all_at, ephemerals}
use Rattle.clr_heap.proofs.Young.{young_number}

-- segment k is the ephemeral one
pub record IsEphemeral (h : HeapView) (k : ℕ) : Type 0 where
  pub in_range : k < length h.segments
  pub is : segment_at h k ≡ ephemeral (frame h)

abbrev IsYoung : SegInfo → Type 0
IsYoung s = same_kind Ephemeral s.kind ≡ true

one-more : (s : SegInfo) (ss : List SegInfo) → IsYoung s → length (ephemerals (s ∷ ss)) ≡ suc (length (ephemerals ss))
one-more s ss e = rw e refl

none-more : (s : SegInfo) (ss : List SegInfo) → same_kind Ephemeral s.kind ≡ false → ephemerals (s ∷ ss) ≡ ephemerals ss
none-more s ss e = rw e refl

pub first-young : (ss : List SegInfo) → IsYoung (segment_or_empty (ephemerals ss))
first-young [] = refl
first-young (s ∷ ss) = elim (cases_Bool (same_kind Ephemeral s.kind)) [
  | inl here ↦ rw here here
  | inr other ↦ rw other (first-young ss)
]

some-young : (ss : List SegInfo) (k : ℕ) → k < length ss → IsYoung (get_or ss k empty_segment)
    → 0 < length (ephemerals ss)
some-young [] k l e = absurd (omega arith)
some-young (s ∷ ss) zero l e = let n = one-more s ss e in omega arith
some-young (s ∷ ss) (suc k) l e = elim (cases_Bool (same_kind Ephemeral s.kind)) [
  | inl here ↦ let n = one-more s ss here in omega arith
  | inr other ↦ rw other (some-young ss k (omega arith) e)
]

no-elements : (ss : List SegInfo) → length ss ≡ 0 → ss ≡ []
no-elements [] e = refl
no-elements (s ∷ ss) e = absurd (omega (arith, e))

-- another ephemeral segment in the place of the only one
young-set : (ss : List SegInfo) (k : ℕ) (t : SegInfo) → k < length ss → IsYoung (get_or ss k empty_segment) → IsYoung t
    → length (ephemerals ss) ≡ 1 → ephemerals (set ss k t) ≡ t ∷ []
young-set [] k t l e f one = absurd (omega arith)
young-set (s ∷ ss) zero t l e f one =
    let n = one-more s ss e in
    rw f (ap (λ us. t ∷ us) (no-elements (ephemerals ss) (omega arith)))
young-set (s ∷ ss) (suc k) t l e f one = elim (cases_Bool (same_kind Ephemeral s.kind)) [
  | inl here ↦ let n = one-more s ss here in let some = some-young ss k (omega arith) e in absurd (omega arith)
  | inr other ↦ let count : length (ephemerals ss) ≡ 1 = sym (ap length (none-more s ss other)) ∙ one in
      rw other (young-set ss k t (omega arith) e f count)
]

-- only one place of the list has one
young-alone : (ss : List SegInfo) (j k : ℕ) → j < length ss → k < length ss → IsYoung (get_or ss j empty_segment)
    → IsYoung (get_or ss k empty_segment) → length (ephemerals ss) ≡ 1 → j ≡ k
young-alone [] j k l m e f one = absurd (omega arith)
young-alone (s ∷ ss) zero zero l m e f one = refl
young-alone (s ∷ ss) zero (suc k) l m e f one =
    let n = one-more s ss e in
    let some = some-young ss k (omega arith) f in
    absurd (omega arith)
young-alone (s ∷ ss) (suc j) zero l m e f one =
    let n = one-more s ss f in
    let some = some-young ss j (omega arith) e in
    absurd (omega arith)
young-alone (s ∷ ss) (suc j) (suc k) l m e f one = elim (cases_Bool (same_kind Ephemeral s.kind)) [
  | inl here ↦
      let n = one-more s ss here in
      let some = some-young ss k (omega arith) f in
      absurd (omega arith)
  | inr other ↦
      let count : length (ephemerals ss) ≡ 1 = sym (ap length (none-more s ss other)) ∙ one in
      ap suc (young-alone ss j k (omega arith) (omega arith) e f count)
]

kind-is : (kind : SegKind) → same_kind Ephemeral kind ≡ true → kind ≡ Ephemeral
kind-is Small e = absurd cc
kind-is Ephemeral e = refl
kind-is Large e = absurd cc
kind-is Pinned e = absurd cc

pub same-kind-is : (kind : SegKind) → same_kind kind Ephemeral ≡ true → kind ≡ Ephemeral
same-kind-is Small e = absurd cc
same-kind-is Ephemeral e = refl
same-kind-is Large e = absurd cc
same-kind-is Pinned e = absurd cc

-- ---- segments with one changed, by base

none-changed : (base : ℕ) (change : SegInfo → SegInfo) (ss : List SegInfo)
    → AllByRecursion (λ (s : SegInfo). base < s.base) ss → changed_by (λ s. s.base) base change ss ≡ ss
none-changed base change [] h = tt-refl
  where
    tt-refl : changed_by (λ (s : SegInfo). s.base) base change [] ≡ []
    tt-refl = refl
none-changed base change (s ∷ ss) h =
    let above = h.0 in
    let other = ne_eqb s.base base (λ same. omega arith) in
    rw other (ap (λ us. s ∷ us) (none-changed base change ss h.1))

above-all : (base low : ℕ) (ss : List SegInfo) → base < low → AllByRecursion (λ (s : SegInfo). low ≤ s.base) ss
    → AllByRecursion (λ (s : SegInfo). base < s.base) ss
above-all base low [] l h = tt
above-all base low (s ∷ ss) l h = let le = h.0 in (omega arith, above-all base low ss l h.1)

-- one segment is changed by its number
pub changed-set : (change : SegInfo → SegInfo) (ss : List SegInfo) (k : ℕ) → AreDisjoint ss
    → AllByRecursion IsLawfulSegment ss → k < length ss
    → changed_by (λ s. s.base) (get_or ss k empty_segment).base change ss ≡ set ss k
    (change (get_or ss k empty_segment))
changed-set change [] k d lawful l = absurd (omega arith)
changed-set change (s ∷ ss) zero d lawful l =
    let least = lawful.0.least in
    let here = eq-eqb s.base s.base refl in
    rw here (ap (λ us. change s ∷ us)
    (none-changed s.base change ss (above-all s.base (reserved_end s) ss (omega arith) d.0)))
changed-set change (s ∷ ss) (suc k) d lawful l =
    let least = lawful.0.least in
    let above = all_at (λ (r : SegInfo). reserved_end s ≤ r.base) ss k empty_segment d.0 (omega arith) in
    let other = ne_eqb s.base (get_or ss k empty_segment).base (λ same. omega arith) in
    rw other (ap (λ us. s ∷ us) (changed-set change ss k d.1 lawful.1 (omega arith)))

-- ---- in a heap

-- there is an ephemeral segment
pub found-young : (h : HeapView) → IsHeap h → (k : ℕ) × IsEphemeral h k
found-young h heap =
    let one = heap.one_ephemeral in
    let found = young_number h.segments (omega arith) in
    (found.0, record { in_range = found.1; is = found.2 })

module _ (h : HeapView) (k : ℕ) (heap : IsHeap h) (e : IsEphemeral h k) where
  young : IsYoung (segment_at h k)
  young = subst IsYoung (sym e.is) (first-young h.segments)

  -- by its kind
  pub kind-young : (segment_at h k).kind ≡ Ephemeral
  kind-young = kind-is (segment_at h k).kind young

  -- no other segment has it
  pub only-young : (j : ℕ) → j < length h.segments → (segment_at h j).kind ≡ Ephemeral → j ≡ k
  only-young j l kind = young-alone h.segments j k l e.in_range (ap (same_kind Ephemeral) kind) young heap.one_ephemeral

  -- it has the end to which it is moved
  pub ephemeral-ended : (end : ℕ)
      → ephemeral (frame (record h { segments = set h.segments k (ended_at end (segment_at h k)) })) ≡ ended_at end
      (ephemeral (frame h))
  ephemeral-ended end =
      ap segment_or_empty
      (young-set h.segments k (ended_at end (segment_at h k)) e.in_range young young heap.one_ephemeral)
      ∙ ap (ended_at end) e.is

  -- and no other segment changes
  pub segments-ended : (end : ℕ) → set h.segments k (ended_at end (segment_at h k)) ≡ changed_by (λ s. s.base)
      (ephemeral (frame h)).base (ended_at end) h.segments
  segments-ended end =
      sym (changed-set (ended_at end) h.segments k heap.disjoint heap.segments e.in_range)
      ∙ ap (λ (s : SegInfo). changed_by (λ (s : SegInfo). s.base) s.base (ended_at end) h.segments) e.is
