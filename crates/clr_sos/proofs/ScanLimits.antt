-- What a scan knows by its limits is what the rules say.
use Rattle.std.proofs.Common.{◌≡◌, ◌≢◌, ℕ, ◌+◌, ◌-◌, ◌%◌, ◌^◌, ◌<◌, ◌≤◌, ◌==◌, ◌&&◌, ◌||◌, not, nat_lt, nat_le, Bool}
use Rattle.std.proofs.Common.{true, false, List, length, Option, Some, None, refl, sym, arith, inl, inr, MatchOption}
use Rattle.std.proofs.Common.{option_map}
use Rattle.std.proofs.lemmas.Bool.{cases_Bool}
use Rattle.clr_types.specs.declared.TypeId.{TypeId}
use Rattle.clr_types.specs.Types.{form_at, mt_of, size_of, TypeRow}
use Rattle.clr_types.specs.declared.segment.SegKind.{SegKind}
use Rattle.clr_types.specs.declared.segment.SegKind.TheVariants.{Small, Ephemeral, Large, Pinned}
use Rattle.clr_heap.specs.Memories.{HasWord, memory_index}
use Rattle.clr_heap.proofs.Addresses.{has_word, index_is_segment}
use Rattle.clr_heap.proofs.Framing.{below_top_at, lawful_at}
use Rattle.clr_heap.specs.View.{HeapView, holes_of, last_of, segment_at, word_of}
use Rattle.clr_sos.specs.CheckedCells.{checked_item, is_header, typed_item, checked_size, crosses, is_inside, is_whole}
use Rattle.clr_sos.specs.CheckedCells.{number_in, suits, type_of_word}
use Rattle.clr_sos.specs.Faults.{rules_of, words_in}
use Rattle.clr_sos.specs.CellScans.{fits_there, IsNext, IsPlace, limits_of, size_with, suits_object}

-- the type of a method table word
pub type_found : (rows : List TypeRow) (mt t : ℕ) → t ≤ length rows → mt ≡ mt_of t → type_of_word rows mt ≡ Some t
type_found rows mt t l is =
    let number : number_in mt ≡ t = omega (arith, is) in
    let known : nat_le t (length rows) ≡ true = grind (arith, l) in
    let same : (mt_of t == mt) ≡ true = grind (arith, is) in
    rw (number, known, same) refl

pub type_unknown : (rows : List TypeRow) (mt : ℕ) → ((t : ℕ) → t ≤ length rows → mt ≢ mt_of t)
    → type_of_word rows mt ≡ None
type_unknown rows mt none = elim (cases_Bool (nat_le (number_in mt) (length rows) && (mt_of (number_in mt) == mt))) [
  | inl on ↦
      let l : number_in mt ≤ length rows = grind (arith, on) in
      let is : mt_of (number_in mt) ≡ mt = grind (arith, on) in
      absurd (none (number_in mt) l (sym is))
  | inr off ↦ rw off refl
]

-- what the table of types answers
pub type_is : (rows : List TypeRow) (mt : ℕ) (found : Option TypeId)
    → MatchOption found ((t : ℕ) → t ≤ length rows → mt ≢ mt_of t) (λ t. (t.0 ≤ length rows) × (mt ≡ mt_of t.0))
    → type_of_word rows mt ≡ option_map (λ (t : TypeId). t.0) found
type_is rows mt None h = type_unknown rows mt h
type_is rows mt (Some t) h = type_found rows mt t.0 h.0 h.1

any_or : (b : Bool) → true ≡ (b || true)
any_or true = refl
any_or false = refl

pub suits_is : (large : ℕ) (kind : SegKind) (t size : ℕ)
    → suits kind large t size ≡ ((t == 0) || suits_object large kind size)
suits_is large Small t size = refl
suits_is large Ephemeral t size = refl
suits_is large Large t size = refl
suits_is large Pinned t size = any_or (t == 0)

neither : (a b c d : Bool) → (a && (not b && (not c && d))) ≡ (a && (not (b || c) && d))
neither false b c d = refl
neither true true c d = refl
neither true false true d = refl
neither true false false d = refl

module _ (rows : List TypeRow) (large : ℕ) (h : HeapView) (k place next : ℕ) (is : IsNext (holes_of h k) place next)
    (small : last_of h k < 2 ^ 64) where
  pub inside_is : (size : ℕ)
      → is_inside (rules_of rows large h k) place size
      ≡ (nat_le (place + size) (last_of h k) && nat_le (place + size) next)
  inside_is size = elim (cases_Bool (nat_le (place + size) (last_of h k))) [
    | inl on ↦
        let below : place + size ≤ last_of h k = grind (arith, on) in
        let begins = is (place + size) (omega arith) in
        let turned : not (nat_lt next (place + size)) ≡ nat_le (place + size) next = grind arith in
        rw (on, begins) turned
    | inr off ↦ rw off refl
  ]

  whole_is : (t size : ℕ)
      → is_whole (rules_of rows large h k) place t size ≡ fits_there (limits_of large h k) next place t size
  whole_is t size =
      let a = inside_is size in
      let s = suits_is large (segment_at h k).kind t size in
      rw (a, s)
      (neither (nat_le (place + size) (last_of h k) && nat_le (place + size) next)
      (crosses (limits_of large h k).start1 place size) (crosses (limits_of large h k).start0 place size)
      ((t == 0) || suits_object large (segment_at h k).kind size))

  pub size_is : (t len : ℕ)
      → checked_size (rules_of rows large h k) place t len ≡ size_with rows (limits_of large h k) next place t len
  size_is t len = rw (whole_is t (size_of (form_at rows t) len)) refl

-- the words of a cell are the segment's
pub cell_words : (h : HeapView) (k p a : ℕ) → IsPlace h k p → a % 8 ≡ 0 → p ≤ a + 8 → a < last_of h k
    → HasWord h.memories a × (k ≡ memory_index h.memories a)
cell_words h k p a at z low high =
    let heap = at.heap in
    let down = at.low in
    let lawful = lawful_at h k heap at.in_range in
    let up = lawful.high in (
      has_word h k a heap at.in_range (omega arith) z (omega arith),
      sym
          (index_is_segment h k a heap at.in_range (omega arith) (omega arith)),
    )

-- and end low
pub end_low : (h : HeapView) (k p : ℕ) → IsPlace h k p → last_of h k ≤ 2 ^ 61 + 2 ^ 30
end_low h k p at =
    let lawful = lawful_at h k at.heap at.in_range in
    let up = lawful.high in
    let top = below_top_at h k at.heap at.in_range in
    let small = at.heap.top_small in
    omega arith

-- an item whose first 24 bytes are inside, with a lawful header
pub item_from : (rows : List TypeRow) (large : ℕ) (h : HeapView) (k p : ℕ)
    → is_inside (rules_of rows large h k) p 24 ≡ true
    → is_header (word_of h (p - 8)) ≡ true
    → checked_item (rules_of rows large h k) (words_in h) p
    ≡ typed_item (rules_of rows large h k) (words_in h) p (word_of h (p - 8)) (type_of_word rows (word_of h p))
unfolding checked_item
item_from rows large h k p inside header = rw (inside, header) refl
