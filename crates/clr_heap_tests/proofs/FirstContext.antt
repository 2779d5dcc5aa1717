-- A heap where no thread has a context gets one behind the end of its ephemeral segment.
use Rattle.std.proofs.Common.{◌≡◌, ◌≢◌, inl, inr, ℕ, ◌+◌, ◌-◌, ◌%◌, ◌<◌, ◌≤◌, false, List, [], ◌∷◌, ◌++◌, get_or}
use Rattle.std.proofs.Common.{length, set, Option, None, refl, ap, sym, ◌∙◌, subst, subst₂, arith}
use Rattle.std.proofs.lemmas.Bool.{cases_Bool, cases_eq}
use Rattle.std.proofs.lemmas.List.{get_or-set_other, length-set}
use Rattle.clr_mem.specs.Words.{Memory}
use Rattle.clr_mem.proofs.Callers.{word_at-zeroed}
use Rattle.clr_types.specs.Types.{TypeRow}
use Rattle.clr_types.specs.Ranges.{Piece}
use Rattle.clr_types.specs.Segments.{empty_segment, ended_at, reserved_end, same_kind}
use Rattle.clr_types.specs.declared.segment.SegInfo.{SegInfo}
use Rattle.clr_types.specs.declared.segment.SegKind.TheVariants.{Ephemeral}
use Rattle.clr_heap.specs.Memories.{contains, first_memory, word_in}
use Rattle.clr_heap.specs.Parts.{Among, hole_from, rest_part}
use Rattle.clr_heap.specs.View.{HeapView, IsHeap, IsWalkable, last_of, no_rests, opening_heap, parts_of, PartsAre}
use Rattle.clr_heap.specs.View.{rest_between, segment_at, word_of}
use Rattle.clr_heap.proofs.Holes.{hole_at_end}
use Rattle.clr_heap.proofs.Staying.{parts_stay, stays_ended, stays_rested}
use Rattle.clr_view.specs.View.{IsContext, IsHeld}
use Rattle.clr_view.proofs.Cuts.{among-right}
use Rattle.clr_view.proofs.Fronts.{between-some, rest-either}
use Rattle.clr_view.proofs.Opening.{none-at}
use Rattle.clr_view.proofs.Tails.{ephemeral-ended, IsEphemeral, kind-young, only-young, same-kind-is}

-- the words of a new heap are clear
clear_word : (base size a : ℕ) (ms : List Memory) → word_in ms a ≡ 0 → word_in (first_memory base size ∷ ms) a ≡ 0
clear_word base size a ms rest = elim (cases_Bool (contains (first_memory base size) a)) [
  | inl here ↦ rw here (word_at-zeroed base size a)
  | inr other ↦ rw other rest
]

pub opening_clear : (segment limit a : ℕ) → word_of (opening_heap segment limit) a ≡ 0
opening_clear segment limit a =
    clear_word 0x10000000 segment a (first_memory (0x10000000 + segment) segment ∷ [])
    (clear_word (0x10000000 + segment) segment a [] refl)

-- so many bytes behind the end of the ephemeral segment k can be a first context
pub record CanOpen (rows : List TypeRow) (h : HeapView) (k i size : ℕ) : Type 0 where
  pub heap : IsHeap h
  pub held : IsHeld rows h
  pub segment : IsEphemeral h k
  pub rests : h.rests ≡ no_rests
  pub thread : i < 16
  pub young : h.start0 ≤ last_of h k
  pub least : 24 ≤ size
  pub whole : size % 8 ≡ 0
  pub room : last_of h k + size ≤ reserved_end (segment_at h k)
  pub clear : (b : ℕ) → b % 8 ≡ 0 → last_of h k ≤ b + 8 → b + 8 < last_of h k + size → word_of h b ≡ 0

module _ (rows : List TypeRow) (h : HeapView) (k i size : ℕ) (f : CanOpen rows h k i size) where
  abbrev a : ℕ
  a = last_of h k

  abbrev c : ℕ
  c = a + size

  abbrev ended : HeapView
  ended = record h { segments = set h.segments k (ended_at c (segment_at h k)) }

  -- the heap with the context
  abbrev pub opened : HeapView
  opened = record ended { rests = set h.rests i (rest_between a c) }

  in_range : k < length h.segments
  in_range = f.segment.in_range

  thread-there : i < length h.rests
  thread-there = let count = f.heap.threads in let few = f.thread in omega arith

  none-before : (j : ℕ) → get_or h.rests j None ≡ None
  none-before j = ap (λ (rs : List (Option Piece)). get_or rs j None) f.rests ∙ none-at 16 j

  here-parts : PartsAre rows opened k (parts_of rows h k ++ rest_part a c ∷ [])
  here-parts =
      let none : hole_from h.rests a ≡ None = ap (λ (rs : List (Option Piece)). hole_from rs a) f.rests in
      hole_at_end rows h k i size f.heap in_range (f.held.walkable k in_range) (kind-young h k f.heap f.segment)
      thread-there (none-before i) f.least f.whole f.room none

  other-parts : (j : ℕ) → j < length h.segments → j ≢ k → PartsAre rows opened j (parts_of rows h j)
  other-parts j l ne =
      let same : (segment_at ended j).kind ≡ (segment_at h j).kind =
      ap (λ (s : SegInfo). s.kind) (get_or-set_other h.segments k j (ended_at c (segment_at h k)) empty_segment ne) in
      let old : same_kind (segment_at ended j).kind Ephemeral ≡ false =
      elim (cases_Bool (same_kind (segment_at ended j).kind Ephemeral)) [
        | inl is ↦ absurd (ne
            (only-young h k f.heap f.segment j l (sym same ∙ same-kind-is (segment_at ended j).kind is)))
        | inr not ↦ not
      ] in
      let first = parts_stay rows h ended j j (f.held.walkable j l)
      (stays_ended h j k (ended_at c (segment_at h k)) ne) in
      let then = parts_stay rows ended opened j j first.walkable
      (stays_rested ended j (set h.rests i (rest_between a c)) old) in
      record { walkable = then.walkable; parts = then.parts ∙ first.parts }

  count : length opened.segments ≡ length h.segments
  count = length-set h.segments k (ended_at c (segment_at h k))

  -- a segment of the kind is this one
  only-here : (m : ℕ) → m < length opened.segments → (segment_at opened m).kind ≡ Ephemeral → m ≡ k
  only-here m l kind = elim (cases_eq m k) [
    | inl same ↦ same
    | inr other ↦
        let same : (segment_at ended m).kind ≡ (segment_at h m).kind =
        ap (λ (s : SegInfo). s.kind)
        (get_or-set_other h.segments k m (ended_at c (segment_at h k)) empty_segment other) in
        let n = count in
        only-young h k f.heap f.segment m (omega arith) (sym same ∙ kind)
  ]

  first : IsContext rows opened (record { place = a; size = c - a })
  first =
      let end : a + (c - a) ≡ c = omega arith in
      let there : Among (parts_of rows opened k) (rest_part a c) =
      subst (λ ps. Among ps (rest_part a c)) (sym here-parts.parts)
      (among-right (parts_of rows h k) (rest_part a c ∷ []) (rest_part a c) (inl refl)) in
      let P : ℕ → ℕ → Type 0 = λ m q. Among (parts_of rows opened m) (rest_part a q) in
      record {
        among = λ m l kind. subst₂ P (sym (only-here m l kind)) (sym end) there;
        young = f.young;
        clear = λ b z low high. f.clear b z low (omega arith);
      }

  -- THE FIRST CONTEXT: the heap is held
  pub held_opened : IsHeld rows opened
  held_opened = record {
    walkable = λ j l.
        let n = count in
        elim (cases_eq j k) [
          | inl same ↦ subst (IsWalkable rows opened) (sym same) here-parts.walkable
          | inr other ↦ (other-parts j (omega arith) other).walkable
        ];
    contexts = λ j q is. elim (rest-either h.rests i j (rest_between a c) q thread-there is) [
      | inl here ↦ subst (IsContext rows opened) (between-some a c q here.1).1 first
      | inr other ↦ let none = none-before j in let some = other.1 in absurd cc
    ];
    apart = λ j m q s is there same. elim (rest-either h.rests i j (rest_between a c) q thread-there is) [
      | inl here ↦ elim (rest-either h.rests i m (rest_between a c) s thread-there there) [
        | inl too ↦ here.0 ∙ sym too.0
        | inr other ↦ let none = none-before m in let some = other.1 in absurd cc
      ]
      | inr other ↦ let none = none-before j in let some = other.1 in absurd cc
    ];
    young = let end = ap (λ (s : SegInfo). s.end) (ephemeral-ended h k f.heap f.segment c) in let low = f.young in
        omega (arith, end, low);
  }
