-- Segments that come and go: what the others keep.
use Rattle.std.proofs.Common.{◌≡◌, ◌≢◌, inl, inr, ℕ, zero, suc, ◌%◌, ◌<◌, ◌≤◌, false, List, [], ◌∷◌, ◌++◌, length}
use Rattle.std.proofs.Common.{get_or, map, refl, ap, sym, ◌∙◌, arith, cond, None}
use Rattle.std.proofs.lemmas.Bool.{cases_Bool}
use Rattle.std.proofs.lemmas.List.{get_or-map, get_or_append_left, length-map}
use Rattle.std.specs.List.{remove}
use Rattle.clr_mem.specs.Words.{Memory}
use Rattle.clr_types.specs.Types.{TypeRow}
use Rattle.clr_types.specs.Segments.{empty_segment, first_place, opening_segment, reserved_end, same_kind}
use Rattle.clr_types.specs.Segments.{sealed_kind, sealed_segment}
use Rattle.clr_types.specs.declared.segment.SegInfo.{SegInfo}
use Rattle.clr_types.specs.declared.segment.SegKind.{SegKind}
use Rattle.clr_types.specs.declared.segment.SegKind.TheVariants.{Small, Ephemeral, Large, Pinned}
use Rattle.clr_heap.specs.Memories.{contains, first_memory, memory_index, word_in}
use Rattle.clr_heap.specs.Parts.{hole_from}
use Rattle.clr_heap.specs.View.{first_of, heap_with_segment, HeapView, holes_of, IsHeap, last_of, PartsAre, segment_at}
use Rattle.clr_heap.specs.View.{with_ephemeral}
use Rattle.clr_heap.proofs.Framing.{count_is, held_in, lawful_at, memory_extent}
use Rattle.clr_heap.proofs.Storing.{contains_bounds}
use Rattle.clr_heap.proofs.Runs.{parts_are}
use Rattle.clr_heap.proofs.Staying.{outside_other, StaysAs}

-- ---- one memory more

pub memory_index-push : (ms : List Memory) (m : Memory) (b : ℕ) → memory_index ms b < length ms
    → memory_index (ms ++ m ∷ []) b < length (ms ++ m ∷ [])
memory_index-push [] m b h = absurd (omega arith)
memory_index-push (x ∷ ms) m b h = elim (cases_Bool (contains x b)) [
  | inl here ↦ rw here (omega arith)
  | inr other ↦
      let later : memory_index ms b < length ms = let k = rw other at h in omega (arith, k) in
      let ih = memory_index-push ms m b later in
      rw other (omega arith)
]

pub word_in-push : (ms : List Memory) (m : Memory) (b : ℕ) → memory_index ms b < length ms
    → word_in (ms ++ m ∷ []) b ≡ word_in ms b
word_in-push [] m b h = absurd (omega arith)
word_in-push (x ∷ ms) m b h = elim (cases_Bool (contains x b)) [
  | inl here ↦ rw here refl
  | inr other ↦
      let later : memory_index ms b < length ms = let k = rw other at h in omega (arith, k) in
      rw other (word_in-push ms m b later)
]

-- ---- one memory less

pub memory_index-remove : (ms : List Memory) (k b : ℕ) (d : Memory) → k < length ms → contains (get_or ms k d) b ≡ false
    → memory_index ms b < length ms → memory_index (remove ms k) b < length (remove ms k)
memory_index-remove [] k b d l f h = absurd (omega arith)
memory_index-remove (x ∷ ms) zero b d l f h = let k = rw f at h in omega (arith, k)
memory_index-remove (x ∷ ms) (suc k) b d l f h = elim (cases_Bool (contains x b)) [
  | inl here ↦ rw here (omega arith)
  | inr other ↦
      let later : memory_index ms b < length ms = let j = rw other at h in omega (arith, j) in
      let ih = memory_index-remove ms k b d (omega arith) f later in
      rw other (omega arith)
]

pub word_in-remove : (ms : List Memory) (k b : ℕ) (d : Memory) → k < length ms → contains (get_or ms k d) b ≡ false
    → word_in (remove ms k) b ≡ word_in ms b
word_in-remove [] k b d l f = absurd (omega arith)
word_in-remove (x ∷ ms) zero b d l f = rw f refl
word_in-remove (x ∷ ms) (suc k) b d l f = elim (cases_Bool (contains x b)) [
  | inl here ↦ rw here refl
  | inr other ↦ rw other (word_in-remove ms k b d (omega arith) f)
]

get_or-remove_below : {X : Type 0} (xs : List X) (k j : ℕ) (d : X) → j < k → get_or (remove xs k) j d ≡ get_or xs j d
get_or-remove_below xs zero j d l = absurd (omega arith)
get_or-remove_below [] (suc k) j d l = refl
get_or-remove_below (x ∷ xs) (suc k) zero d l = refl
get_or-remove_below (x ∷ xs) (suc k) (suc j) d l = get_or-remove_below xs k j d (omega arith)

get_or-remove_above : {X : Type 0} (xs : List X) (k j : ℕ) (d : X) → k ≤ j
    → get_or (remove xs k) j d ≡ get_or xs (suc j) d
get_or-remove_above [] zero j d l = refl
get_or-remove_above [] (suc k) j d l = refl
get_or-remove_above (x ∷ xs) zero j d l = refl
get_or-remove_above (x ∷ xs) (suc k) zero d l = absurd (omega arith)
get_or-remove_above (x ∷ xs) (suc k) (suc j) d l = get_or-remove_above xs k j d (omega arith)

-- ---- a segment is acquired

module _ (h : HeapView) (i : IsHeap h) (size : ℕ) (j : ℕ) (lj : j < length h.segments) where
  -- a word of an old segment is one of an old memory
  old_inside : (b : ℕ) → (segment_at h j).base ≤ b → b < reserved_end (segment_at h j)
      → memory_index h.memories b < length h.memories
  old_inside b low high = held_in h j b i lj low high

  -- another kind than the ephemeral one leaves all old segments as they are
  pub stays_with_segment : (kind : SegKind) → StaysAs h j (heap_with_segment h kind size) j
  stays_with_segment kind =
      let lawful = lawful_at h j i lj in
      let high = lawful.high in
      let same : get_or (h.segments ++ opening_segment h.top kind size ∷ []) j empty_segment ≡ segment_at h j =
      get_or_append_left h.segments (opening_segment h.top kind size ∷ []) empty_segment j lj in
      record {
        first = ap first_place same;
        last = ap (λ (s : SegInfo). s.end) same;
        words = λ b z low up. word_in-push h.memories (first_memory h.top size) b
            (old_inside b (omega arith) (omega arith));
        holes = λ q low up. ap (λ (s : SegInfo). hole_from (cond (same_kind s.kind Ephemeral) h.rests []) q) same;
        held = λ b low up inside. memory_index-push h.memories (first_memory h.top size) b inside;
      }

  -- a new ephemeral segment leaves an old segment as it is where no rest starts there
  pub stays_with_ephemeral : ((q : ℕ) → first_of h j ≤ q → q < last_of h j → hole_from (holes_of h j) q ≡ None)
      → StaysAs h j (with_ephemeral h size) j
  stays_with_ephemeral clear =
      let lawful = lawful_at h j i lj in
      let high = lawful.high in
      let count = length-map h.segments sealed_segment in
      let same : get_or (map sealed_segment h.segments ++ opening_segment h.top Ephemeral size ∷ []) j empty_segment
      ≡ sealed_segment (segment_at h j) =
      get_or_append_left (map sealed_segment h.segments) (opening_segment h.top Ephemeral size ∷ []) empty_segment j
      (omega arith) ∙ get_or-map sealed_segment h.segments j empty_segment empty_segment lj in
      record {
        first = ap first_place same;
        last = ap (λ (s : SegInfo). s.end) same;
        words = λ b z low up. word_in-push h.memories (first_memory h.top size) b
            (old_inside b (omega arith) (omega arith));
        holes = λ q low up. ap (λ (s : SegInfo). hole_from (cond (same_kind s.kind Ephemeral) h.rests []) q) same
            ∙ sealed_has_none (segment_at h j).kind q ∙ sym (clear q low up);
        held = λ b low up inside. memory_index-push h.memories (first_memory h.top size) b inside;
      }
    where
      sealed_has_none : (kind : SegKind) (q : ℕ)
          → hole_from (cond (same_kind (sealed_kind kind) Ephemeral) h.rests []) q ≡ None
      sealed_has_none Small q = refl
      sealed_has_none Ephemeral q = refl
      sealed_has_none Large q = refl
      sealed_has_none Pinned q = refl

-- a segment that ends at its first place has no parts
pub nothing_in : (rows : List TypeRow) (h : HeapView) (k : ℕ) → first_of h k % 8 ≡ 0 → first_of h k ≡ last_of h k
    → PartsAre rows h k []
nothing_in rows h k z e = parts_are rows h k [] z e (λ a za low high. absurd (omega arith))

-- ---- a segment is given back

module _ (h : HeapView) (i : IsHeap h) (k : ℕ) (lk : k < length h.segments) where
  abbrev pub without : HeapView
  without = record h { memories = remove h.memories k; segments = remove h.segments k }

  elsewhere : (j b : ℕ) → j < length h.segments → j ≢ k → (segment_at h j).base ≤ b → b < reserved_end (segment_at h j)
      → contains (get_or h.memories k (record { base = 0; words = [] })) b ≡ false
  elsewhere j b lj ne low high =
      let d : Memory = record { base = 0; words = [] } in
      let m = get_or h.memories k d in
      let n = count_is h i in
      let shape = memory_extent h.memories h.segments k d empty_segment i.memories (omega arith) lk in
      let base = ap (λ (p : ℕ × ℕ). p.0) shape in
      let room = ap (λ (p : ℕ × ℕ). p.1) shape in
      let out = outside_other h j k b i lj lk ne low high in
      elim (cases_Bool (contains m b)) [
        | inl here ↦ let c = contains_bounds m b here in absurd (elim out [ inl l ↦ omega arith | inr l ↦ omega arith ])
        | inr other ↦ other
      ]

  removed_stays : (j new : ℕ) → j < length h.segments → j ≢ k
      → get_or (remove h.segments k) new empty_segment ≡ segment_at h j → StaysAs h j without new
  removed_stays j new lj ne same =
      let d : Memory = record { base = 0; words = [] } in
      let n = count_is h i in
      let lawful = lawful_at h j i lj in
      let high = lawful.high in
      record {
        first = ap first_place same;
        last = ap (λ (s : SegInfo). s.end) same;
        words = λ b z low up. word_in-remove h.memories k b d (omega arith)
            (elsewhere j b lj ne (omega arith) (omega arith));
        holes = λ q low up. ap (λ (s : SegInfo). hole_from (cond (same_kind s.kind Ephemeral) h.rests []) q) same;
        held = λ b low up inside. memory_index-remove h.memories k b d (omega arith)
            (elsewhere j b lj ne (omega arith) (omega arith)) inside;
      }

  -- the segments before it keep their numbers
  pub stays_before : (j : ℕ) → j < k → StaysAs h j without j
  stays_before j l =
      removed_stays j j (omega arith) (λ same. omega arith) (get_or-remove_below h.segments k j empty_segment l)

  -- the segments after it have lower numbers
  pub stays_after : (j : ℕ) → k ≤ j → suc j < length h.segments → StaysAs h (suc j) without j
  stays_after j l m =
      removed_stays (suc j) j m (λ same. omega arith) (get_or-remove_above h.segments k j empty_segment l)
