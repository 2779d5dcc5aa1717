-- Segments whose parts stay while something else changes.
use Rattle.std.proofs.Common.{◌≡◌, ◌≢◌, ◌⊎◌, inl, inr, ℕ, zero, suc, ◌+◌, ◌%◌, ◌<◌, ◌≤◌, false, List, [], ◌∷◌, length}
use Rattle.std.proofs.Common.{get_or, set, refl, ap, sym, subst, subst₂, arith, cond, Option}
use Rattle.std.proofs.lemmas.Bool.{cases_lt}
use Rattle.std.proofs.lemmas.List.{get_or-set_other}
use Rattle.clr_types.specs.Types.{TypeRow}
use Rattle.clr_types.specs.Ranges.{Piece}
use Rattle.clr_types.specs.Segments.{empty_segment, first_place, reserved_end, same_kind}
use Rattle.clr_types.specs.LawfulLayout.{AreDisjoint}
use Rattle.clr_types.specs.declared.segment.SegInfo.{SegInfo}
use Rattle.clr_types.specs.declared.segment.SegKind.TheVariants.{Ephemeral}
use Rattle.clr_heap.specs.Memories.{memory_index, shapes}
use Rattle.clr_heap.specs.Parts.{hole_from, Part, Spells}
use Rattle.clr_heap.specs.View.{first_of, HeapView, holes_of, IsHeap, IsWalkable, last_of, parts_of, PartsAre}
use Rattle.clr_heap.specs.View.{segment_at, sight, word_of}
use Rattle.clr_heap.proofs.Framing.{all_at, lawful_at}
use Rattle.clr_heap.proofs.Storing.{length-shapes, memory_index-shapes}
use Rattle.clr_heap.proofs.Placing.{Placed}
use Rattle.clr_heap.proofs.Runs.{parts_are, Spells-seen}

-- what is spelled by the words of a heap and by these holes, between these places, is what segment k has
pub parts_from : (rows : List TypeRow) (h : HeapView) (k : ℕ) (ps : List Part) (holes : List (Option Piece))
    (first last : ℕ) → first_of h k ≡ first → last_of h k ≡ last → holes_of h k ≡ holes → first % 8 ≡ 0
    → Spells (record { rows = rows; word = word_of h; holes = holes }) first ps last
    → ((a : ℕ) → a % 8 ≡ 0 → first ≤ a + 8 → a + 8 < last → memory_index h.memories a < length h.memories)
    → PartsAre rows h k ps
parts_from rows h k ps holes first last e f g z spelled held =
    let S : List (Option Piece) → Type 0 =
    λ hs. Spells (record { rows = rows; word = word_of h; holes = hs }) first ps last in
    let P : ℕ → ℕ → Type 0 = λ p q. Spells (sight rows h k) p ps q in
    let H : ℕ → ℕ → Type 0 =
    λ p q. (a : ℕ) → a % 8 ≡ 0 → p ≤ a + 8 → a + 8 < q → memory_index h.memories a < length h.memories in
    parts_are rows h k ps (rw e z) (subst₂ P (sym e) (sym f) (subst S (sym g) spelled)) (subst₂ H (sym e) (sym f) held)

-- segment j of the old heap is segment i of the new one, with the same words between its ends and the same holes
pub record StaysAs (old : HeapView) (j : ℕ) (new : HeapView) (i : ℕ) : Type 0 where
  pub first : first_of new i ≡ first_of old j
  pub last : last_of new i ≡ last_of old j
  pub words : (b : ℕ) → b % 8 ≡ 0 → first_of old j ≤ b → b + 16 ≤ last_of old j → word_of new b ≡ word_of old b
  pub holes : (q : ℕ) → first_of old j ≤ q → q < last_of old j
      → hole_from (holes_of new i) q ≡ hole_from (holes_of old j) q
  pub held : (b : ℕ) → first_of old j ≤ b + 8 → b + 8 < last_of old j
      → memory_index old.memories b < length old.memories → memory_index new.memories b < length new.memories

-- THE RULE OF WHAT STAYS: such a segment has the same parts
pub parts_stay : (rows : List TypeRow) (old new : HeapView) (j i : ℕ) → IsWalkable rows old j → StaysAs old j new i
    → PartsAre rows new i (parts_of rows old j)
parts_stay rows old new j i w s =
    parts_from rows new i (parts_of rows old j) (holes_of new i) (first_of old j)
    (last_of old j) s.first s.last refl w.start
    (Spells-seen (sight rows old j) (word_of new) (holes_of new i) (parts_of rows old j) (first_of old j)
    (last_of old j) w.start (record { words = s.words; holes = s.holes }) w.spelled)
    (λ a z low high. s.held a low high (w.held a z low high))

-- ---- segments stand apart

order_at : (ss : List SegInfo) (j k : ℕ) (d : SegInfo) → AreDisjoint ss → j < k → k < length ss
    → reserved_end (get_or ss j d) ≤ (get_or ss k d).base
order_at [] j k d h l m = absurd (omega arith)
order_at (s ∷ ss) j zero d h l m = absurd (omega arith)
order_at (s ∷ ss) zero (suc k) d h l m = all_at (λ (r : SegInfo). reserved_end s ≤ r.base) ss k d h.0 (omega arith)
order_at (s ∷ ss) (suc j) (suc k) d h l m = order_at ss j k d h.1 (omega arith) (omega arith)

-- segments of lower numbers end before those of higher ones begin
pub segment_order : (h : HeapView) (j k : ℕ) → IsHeap h → j < k → k < length h.segments
    → reserved_end (segment_at h j) ≤ (segment_at h k).base
segment_order h j k i l m = order_at h.segments j k empty_segment i.disjoint l m

-- an address that segment j reserves is none that segment k reserves
pub outside_other : (h : HeapView) (j k a : ℕ) → IsHeap h → j < length h.segments → k < length h.segments → j ≢ k
    → (segment_at h j).base ≤ a → a < reserved_end (segment_at h j)
    → (a < (segment_at h k).base) ⊎ (reserved_end (segment_at h k) ≤ a)
outside_other h j k a i lj lk ne low high = elim (cases_lt j k) [
  | inl below ↦ let o = segment_order h j k i below lk in inl (omega arith)
  | inr above ↦ let o = segment_order h k j i (omega arith) lj in inr (omega arith)
]

-- ---- what leaves other segments as they are

-- words of another segment are written
-- words of another segment are written
pub stays_written : (old new : HeapView) (j k : ℕ) → IsHeap old → j < length old.segments → k < length old.segments
    → j ≢ k → shapes new.memories ≡ shapes old.memories → new ≡ record old { memories = new.memories }
    → ((b : ℕ) → b % 8 ≡ 0 → (b < (segment_at old k).base) ⊎ (reserved_end (segment_at old k) ≤ b)
    → word_of new b ≡ word_of old b) → StaysAs old j new j
stays_written old new j k i lj lk ne shape others words =
    let lawful = lawful_at old j i lj in
    let high = lawful.high in
    record {
      first = ap (λ (g : HeapView). first_of g j) others;
      last = ap (λ (g : HeapView). last_of g j) others;
      words = λ b z low up. words b z (outside_other old j k b i lj lk ne (omega arith) (omega arith));
      holes = λ q low up. ap (λ (g : HeapView). hole_from (holes_of g j) q) others;
      held = λ b low up inside. rw (
        memory_index-shapes new.memories old.memories b shape,
        length-shapes new.memories old.memories shape,
      ) inside;
    }

-- the end of another segment moves
pub stays_ended : (h : HeapView) (j k : ℕ) (t : SegInfo) → j ≢ k
    → StaysAs h j (record h { segments = set h.segments k t }) j
stays_ended h j k t ne =
    let same : get_or (set h.segments k t) j empty_segment ≡ get_or h.segments j empty_segment =
    get_or-set_other h.segments k j t empty_segment ne in
    record {
      first = ap first_place same;
      last = ap (λ (s : SegInfo). s.end) same;
      words = λ b z low up. refl;
      holes = λ q low up. ap (λ (s : SegInfo). hole_from (cond (same_kind s.kind Ephemeral) h.rests []) q) same;
      held = λ b low up inside. inside;
    }

-- a rest changes, which only the ephemeral segment sees
pub stays_rested : (h : HeapView) (j : ℕ) (rests : List (Option Piece))
    → same_kind (segment_at h j).kind Ephemeral ≡ false → StaysAs h j (record h { rests = rests }) j
stays_rested h j rests other = record {
  first = refl;
  last = refl;
  words = λ b z low up. refl;
  holes = λ q low up. rw other refl;
  held = λ b low up inside. inside;
}

-- the head of an item is written in another segment
pub stays_placed : (rows : List TypeRow) (h p : HeapView) (j k a t n : ℕ) → IsHeap h → j < length h.segments
    → k < length h.segments → j ≢ k → first_of h k ≤ a → a + 8 < reserved_end (segment_at h k) → Placed rows h p a t n
    → StaysAs h j p j
stays_placed rows h p j k a t n i lj lk ne low high made =
    stays_written h p j k i lj lk ne made.shape.memories made.shape.others
    (λ b z out. made.others b z (λ same. elim out [ inl l ↦ omega arith | inr l ↦ omega arith ])
    (λ same. elim out [ inl l ↦ omega arith | inr l ↦ omega arith ])
    (λ same. elim out [ inl l ↦ omega arith | inr l ↦ omega arith ]))
