-- An object at the front of a thread's context: what its words hold, which words stay, and which other contexts there
-- are.
use Rattle.std.proofs.Common.{◌≡◌, ◌≢◌, ◌⊎◌, inl, inr, ℕ, suc, ◌+◌, ◌-◌, ◌%◌, ◌<◌, ◌≤◌, true, false, List, [], ◌∷◌}
use Rattle.std.proofs.Common.{length, get_or, set, refl, ap, sym, ◌∙◌, arith, Option, None, Some}
use Rattle.std.proofs.lemmas.Bool.{cases_Bool, cases_eq, eq-eqb, ne_eqb}
use Rattle.std.proofs.lemmas.List.{get_or-set_other, get_or-set_same}
use Rattle.clr_types.specs.Types.{TypeRow, Form, form_at, is_array, mt_of, size_of, slot_offset}
use Rattle.clr_types.specs.Ranges.{Piece, piece_end}
use Rattle.clr_heap.specs.Memories.{memory_index}
use Rattle.clr_heap.specs.Parts.{Among, hole_from, IsMakeable, made_item, rest_part, start_of}
use Rattle.clr_heap.specs.View.{first_of, HasHead, HeapView, IsHeap, IsWalkable, last_of, parts_of, placed}
use Rattle.clr_heap.specs.View.{rest_between, sight, stored, word_of}
use Rattle.clr_heap.proofs.Addresses.{index_is_segment}
use Rattle.clr_heap.proofs.Framing.{lawful_at}
use Rattle.clr_heap.proofs.Holes.{hole_among, HoleAt, part_bounds}
use Rattle.clr_heap.proofs.Placing.{head_at, Placed, placed_leaves}
use Rattle.clr_heap.proofs.Spelling.{Among-bounds}
use Rattle.clr_heap.proofs.Staying.{outside_other}
use Rattle.clr_heap.proofs.Storing.{word_in-store_in_other}
use Rattle.clr_view.specs.View.{IsContext, IsHeld, has_suppressed_bit, newborn_at, object_in}
use Rattle.clr_view.proofs.Cuts.{hole-cuts, IsCut, parts-apart}
use Rattle.clr_view.proofs.Items.{CellsStay}
use Rattle.clr_view.proofs.Slots.{above-length, slot_word, slot-inside, slots-empty}
use Rattle.clr_view.proofs.Tails.{found-young, IsEphemeral, kind-young}

-- ---- lists of rests

-- where no rest starts, there is no hole
pub none-starts : (rests : List (Option Piece)) (q : ℕ)
    → ((j : ℕ) (r : Piece) → get_or rests j None ≡ Some r → r.place ≢ q) → hole_from rests q ≡ None
none-starts [] q ne = refl
none-starts (None ∷ rests) q ne = none-starts rests q (λ j r e. ne (suc j) r e)
none-starts (Some r ∷ rests) q ne =
    let miss = ne_eqb r.place q (ne 0 r refl) in
    rw miss (none-starts rests q (λ j s e. ne (suc j) s e))

-- a rest of the list with one changed is that one or another one
pub rest-either : (rests : List (Option Piece)) (i j : ℕ) (o : Option Piece) (r : Piece) → i < length rests
    → get_or (set rests i o) j None ≡ Some r → ((j ≡ i) × (o ≡ Some r)) ⊎ ((j ≢ i) × (get_or rests j None ≡ Some r))
rest-either rests i j o r l e = elim (cases_eq j i) [
  | inl same ↦ inl (
    same,
    sym (get_or-set_same rests i o None l) ∙ ap (λ n. get_or (set rests i o) n None) (sym same)
        ∙ e,
  )
  | inr other ↦ inr (other, sym (get_or-set_other rests i j o None other) ∙ e)
]

-- what is left between two places is the range between them
pub between-some : (low high : ℕ) (r : Piece) → rest_between low high ≡ Some r
    → (low ≢ high) × (record { place = low; size = high - low } ≡ r)
between-some low high r e = elim (cases_eq low high) [
  | inl same ↦ let hit = eq-eqb low high same in let none : None ≡ Some r = rw hit at e in absurd cc
  | inr apart ↦ let miss = ne_eqb low high apart in let some : Some (record { place = low; size = high - low })
      ≡ Some r = rw miss at e in (apart, cc)
]

-- a class has no length word, so what stands there stays
unmeasured : (rows : List TypeRow) (h : HeapView) (a t n : ℕ) → HasHead h a → is_array (form_at rows t) ≡ false
    → word_of (placed rows h a t n) (a + 8) ≡ word_of h (a + 8)
unfolding placed
unmeasured rows h a t n g class =
    let h1 = stored h (a - 8) 0 in
    let up = g.above in
    let z0 = g.header.aligned in
    let z1 = g.mt.aligned in
    let z2 = g.len.aligned in
    rw class (word_in-store_in_other h1.memories a (mt_of t) (a + 8) z1 z2 (λ same. omega arith)
    ∙ word_in-store_in_other h.memories (a - 8) 0 (a + 8) z0 z2 (λ same. omega arith))

-- the words of the cell of an object of type t and length n at a are clear, but for its method table word and its
-- length word
abbrev pub IsClearBehind : List TypeRow → (ℕ → ℕ) → ℕ → ℕ → ℕ → Type 0
IsClearBehind rows word a t n =
    (b : ℕ) → b % 8 ≡ 0 → a + 8 ≤ b → b + 16 ≤ a + size_of (form_at rows t) n
    → (is_array (form_at rows t) ≡ true → a + 16 ≤ b)
    → word b ≡ 0

-- where the words of a cell are clear, they are so behind a head that is written there
pub clear-behind : (rows : List TypeRow) (h : HeapView) (a t n : ℕ) → HasHead h a
    → ((b : ℕ) → b % 8 ≡ 0 → a + 8 ≤ b → b + 16 ≤ a + size_of (form_at rows t) n → word_of h b ≡ 0)
    → IsClearBehind rows (word_of (placed rows h a t n)) a t n
clear-behind rows h a t n g clear b z low end long =
    let up = g.above in
    let leaves = placed_leaves rows h a t n g in
    let zero = clear b z low end in
    elim (cases_Bool (is_array (form_at rows t))) [
      | inl array ↦
          let far = long array in
          leaves.others b z (λ same. omega arith) (λ same. omega arith) (λ same. omega arith) ∙ zero
      | inr class ↦ elim (cases_eq b (a + 8)) [
        | inl same ↦ ap (word_of (placed rows h a t n)) same ∙ unmeasured rows h a t n g class
            ∙ ap (word_of h) (sym same) ∙ zero
        | inr other ↦ leaves.others b z (λ same. omega arith) (λ same. omega arith) other ∙ zero
      ]
    ]

-- the object that a clear header and clear words behind a head hold
pub newborn-seen : (rows : List TypeRow) (word : ℕ → ℕ) (a t n : ℕ) → a % 8 ≡ 0 → word (a - 8) ≡ 0
    → IsClearBehind rows word a t n → object_in rows word (made_item rows a t n) ≡ newborn_at rows a t n
newborn-seen rows word a t n z header clear =
    let form = form_at rows t in
    let slots = slots-empty form word a n (λ j l.
    let at = slot-inside form n a j z l in
    clear (slot_word form (a + slot_offset form j)) at.aligned at.above at.below
    (λ array. above-length form a j z array)) in
    let flag : has_suppressed_bit (word (a - 8)) ≡ false = ap has_suppressed_bit header in
    λ i. record (newborn_at rows a t n) { slots = slots i; suppressed = flag i }

-- ---- the birth

-- an object of type t and length n fits at the front of the thread's context r
pub record FitsFront (rows : List TypeRow) (h : HeapView) (thread : ℕ) (r : Piece) (t n : ℕ) : Type 0 where
  pub heap : IsHeap h
  pub held : IsHeld rows h
  pub positive : 0 < thread
  pub few : thread ≤ 16
  pub rest : get_or h.rests (thread - 1) None ≡ Some r
  pub item : IsMakeable rows t n
  pub object : 0 < t
  pub room : (r.place + size_of (form_at rows t) n ≡ piece_end r)
      ⊎ (r.place + size_of (form_at rows t) n + 24 ≤ piece_end r)

module _ (rows : List TypeRow) (h : HeapView) (thread : ℕ) (r : Piece) (t n : ℕ)
    (f : FitsFront rows h thread r t n) where
  abbrev form : Form
  form = form_at rows t

  abbrev a : ℕ
  a = r.place

  abbrev last : ℕ
  last = a + size_of form n

  abbrev high : ℕ
  high = piece_end r

  -- the heap with the object's head
  abbrev pub headed : HeapView
  headed = placed rows h a t n

  -- the ephemeral segment
  abbrev pub k : ℕ
  k = (found-young h f.heap).0

  pub young : IsEphemeral h k
  young = (found-young h f.heap).1

  pub own : IsContext rows h r
  own = f.held.contexts (thread - 1) r f.rest

  pub walk : IsWalkable rows h k
  walk = f.held.walkable k young.in_range

  pub among : Among (parts_of rows h k) (rest_part a high)
  among = own.among k young.in_range (kind-young h k f.heap young)

  pub hole : HoleAt (sight rows h k) a high
  hole = hole_among (sight rows h k) (parts_of rows h k) a high (first_of h k) (last_of h k) walk.spelled among

  pub cut : IsCut (sight rows h k) (parts_of rows h k) (first_of h k) a high (last_of h k)
  cut = hole-cuts (sight rows h k) (parts_of rows h k) (first_of h k) a high (last_of h k) walk.spelled among

  pub bounds : (first_of h k ≤ a) × (high ≤ last_of h k)
  bounds = Among-bounds (sight rows h k) (parts_of rows h k) (rest_part a high) (first_of h k) (last_of h k)
      walk.spelled among

  pub up-to : last ≤ high
  up-to = elim f.room [ inl l ↦ omega arith | inr l ↦ omega arith ]

  pub head : HasHead h a
  head =
      let b = part_bounds (sight rows h k) (parts_of rows h k) (rest_part a high) (first_of h k) (last_of h k)
      walk.spelled among in
      head_at rows h k a high walk b.0 b.1 hole.least

  -- all of it is in one memory
  pub one-memory : (b : ℕ) → a ≤ b + 8 → b < high → memory_index h.memories b ≡ k
  one-memory b low below =
      let lawful = lawful_at h k f.heap young.in_range in
      let top = lawful.high in
      let from = bounds.0 in
      let to = bounds.1 in
      index_is_segment h k b f.heap young.in_range (omega arith) (omega arith)

  pub leaves : Placed rows h headed a t n
  leaves = placed_leaves rows h a t n head

  -- ---- other contexts

  -- the context of another thread ends before this one begins, or begins where it ends
  pub other-apart : (j : ℕ) (q : Piece) → j ≢ thread - 1 → get_or h.rests j None ≡ Some q
      → (piece_end q ≤ a) ⊎ (high ≤ q.place)
  other-apart j q ne e =
      let there = (f.held.contexts j q e).among k young.in_range (kind-young h k f.heap young) in
      elim (parts-apart (sight rows h k) (parts_of rows h k) (rest_part q.place (piece_end q)) (rest_part a high)
      (first_of h k) (last_of h k) walk.spelled there among) [
        | inl same ↦ let at : q.place ≡ a = ap start_of same in
            absurd (ne (f.held.apart j (thread - 1) q r e f.rest at))
        | inr apart ↦ apart
      ]

  pub other-least : (j : ℕ) (q : Piece) → get_or h.rests j None ≡ Some q → q.place + 24 ≤ piece_end q
  other-least j q e =
      let there = (f.held.contexts j q e).among k young.in_range (kind-young h k f.heap young) in
      (hole_among (sight rows h k) (parts_of rows h k) q.place (piece_end q) (first_of h k) (last_of h k) walk.spelled
      there).least

  -- none of them starts within this one
  pub alone : (q : ℕ) → a ≤ q → q < high → hole_from (set h.rests (thread - 1) None) q ≡ None
  alone q low up = none-starts (set h.rests (thread - 1) None) q (λ j s e same.
      let count = f.heap.threads in
      let pos = f.positive in
      let few = f.few in
      elim (rest-either h.rests (thread - 1) j None s (omega arith) e) [
        | inl here ↦ let clash = here.1 in absurd cc
        | inr other ↦
            let least = other-least j s other.1 in
            elim (other-apart j s other.0 other.1) [ inl l ↦ omega arith | inr l ↦ omega arith ]
      ])

  -- ---- words

  -- past the new object all words of the context are still clear
  pub clear-above : (b : ℕ) → b % 8 ≡ 0 → last ≤ b + 8 → b + 8 < high → word_of headed b ≡ 0
  clear-above b z low up =
      let least = f.item.least in
      leaves.others b z (λ same. omega arith) (λ same. omega arith) (λ same. omega arith)
      ∙ own.clear b z (omega arith) up

  -- so are those of the new object, but for its method table word and its length word
  pub cell-clear : IsClearBehind rows (word_of headed) a t n
  cell-clear = clear-behind rows h a t n head (λ b z low end. let up = up-to in
      own.clear b z (omega arith) (omega arith))

  -- the object that its words hold
  pub newborn-is : object_in rows (word_of headed) (made_item rows a t n) ≡ newborn_at rows a t n
  newborn-is = newborn-seen rows (word_of headed) a t n head.mt.aligned leaves.header cell-clear

  -- the cells below and above the context stay
  pub below-stays : CellsStay (word_of h) (word_of headed) (first_of h k) a
  below-stays b z low up = leaves.others b z (λ same. omega arith) (λ same. omega arith) (λ same. omega arith)

  pub above-stays : CellsStay (word_of h) (word_of headed) high (last_of h k)
  above-stays b z low up =
      let least = hole.least in
      leaves.others b z (λ same. omega arith) (λ same. omega arith) (λ same. omega arith)

  -- and those of all other segments
  pub others-stay : (j : ℕ) → j < length h.segments → j ≢ k
      → CellsStay (word_of h) (word_of headed) (first_of h j) (last_of h j)
  others-stay j l ne b z low up =
      let here = lawful_at h k f.heap young.in_range in
      let there = lawful_at h j f.heap l in
      let first = here.low in
      let end = there.high in
      let own_end = here.high in
      let within = bounds in
      let least = hole.least in
      elim (outside_other h j k b f.heap l young.in_range ne (omega arith) (omega arith)) [
        | inl under ↦ leaves.others b z (λ same. omega arith) (λ same. omega arith) (λ same. omega arith)
        | inr over ↦ leaves.others b z (λ same. omega arith) (λ same. omega arith) (λ same. omega arith)
      ]
