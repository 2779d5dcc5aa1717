-- Room in the unused parts of contexts and in free items.
use Rattle.std.proofs.Common.{◌≡◌, ℕ, zero, suc, ◌+◌, ◌-◌, ◌<◌, ◌≤◌, ◌==◌, ◌&&◌, ◌||◌, Bool, true, false, List, [], ◌∷◌}
use Rattle.std.proofs.Common.{drop, filter, get_or, length, Option, Some, None, refl, sym, ◌∙◌, ap, arith}
use Rattle.std.proofs.Common.{inl, inr, option_map, slice_get}
use Rattle.std.specs.List.{list_any, sum_by}
use Rattle.std.proofs.lemmas.List.Sums.{sum_by-cons}
use Rattle.std.proofs.lemmas.Bool.{and_parts, cases_Bool}
use Rattle.std.proofs.lemmas.Bool.Decides.{nat_tests}
use Rattle.std.proofs.lemmas.List.Folds.{list_any-append}
use Rattle.clr_types.specs.Ranges as ranges
use Rattle.clr_types.specs.Ranges.{Piece}
use Rattle.clr_types.specs.Rising.{IsIn}
use Rattle.clr_types.specs.Segments.{empty_segment, flat_option, generation, rest_pieces, same_kind}
use Rattle.clr_types.specs.Segments.{segment_or_empty}
use Rattle.clr_types.specs.Types.{TypeRow}
use Rattle.clr_types.specs.declared.item.Item.{Item}
use Rattle.clr_types.specs.declared.segment.SegInfo.{SegInfo}
use Rattle.clr_types.specs.declared.segment.SegKind.{SegKind}
use Rattle.clr_types.specs.declared.segment.SegKind.TheVariants.{Small, Ephemeral, Large, Pinned}
use Rattle.clr_types.proofs.ChangedLists.{out_of_filter}
use Rattle.clr_types.proofs.ListMembers.{any-in, from-map, in_append}
use Rattle.clr_heap.specs.Parts.{item_piece}
use Rattle.clr_heap.specs.View.{AreWalkable, frame, heap_items, HeapView, IsHeap, rest_bounds, segment_at}
use Rattle.clr_heap.proofs.Framing.{lawful_at}
use Rattle.clr_heap.proofs.Young.{young_number}
use Rattle.clr_view.specs.View.{free_among, is_free}
use Rattle.clr_sos.specs.Faults.{AreInside}
use Rattle.clr_sos.specs.Steps.{is_front, rooms}
use Rattle.clr_sos.proofs.BegunSteps.{rest-of}
use Rattle.clr_sos.proofs.PlacedItems.{listed_small}

abbrev pub has_room : ℕ → ℕ → Piece → Bool
has_room size a p = (p.place == a) && ranges.fits size p.size

-- ---- one context

low_of : Option (ℕ × ℕ) → ℕ
low_of None = 0
low_of (Some bounds) = bounds.0

high_of : Option (ℕ × ℕ) → ℕ
high_of None = 0
high_of (Some bounds) = bounds.1

pub rest_is : (o : Option Piece) (low high : ℕ) → option_map rest_bounds o ≡ Some (low, high)
    → (o ≡ Some (record { place = low; size = high - low })) × (low ≤ high)
unfolding low_of high_of
rest_is None low high e = absurd cc
rest_is (Some p) low high e =
    let place : p.place ≡ low = ap low_of e in
    let end : p.place + p.size ≡ high = ap high_of e in
    let size : p.size ≡ high - low = omega arith in
    ((λ i. Some (record { place = place i; size = size i })), omega arith)

pub rest_none : (o : Option Piece) → option_map rest_bounds o ≡ None → o ≡ None
rest_none None e = refl
rest_none (Some p) e = absurd cc

pub context_room : (size a : ℕ) (o : Option Piece) (low high : ℕ) (r : Bool)
    → option_map rest_bounds o ≡ Some (low, high) → r ≡ ((low == a) && ranges.fits size (high - low))
    → r ≡ list_any (has_room size a) (rest_pieces (o ∷ []))
context_room size a o low high r e f =
    let is = (rest_is o low high e).0 in
    f ∙ sym (or_false ((low == a) && ranges.fits size (high - low)))
    ∙ sym (ap (λ (x : Option Piece). list_any (has_room size a) (rest_pieces (x ∷ []))) is)
  where
    or_false : (b : Bool) → (b || false) ≡ b
    or_false true = refl
    or_false false = refl

pub context_none : (size a : ℕ) (o : Option Piece) → option_map rest_bounds o ≡ None
    → false ≡ list_any (has_room size a) (rest_pieces (o ∷ []))
context_none size a o e =
    sym (ap (λ (x : Option Piece). list_any (has_room size a) (rest_pieces (x ∷ []))) (rest_none o e))

-- ---- context by context

or_joined : (a b : Bool) → (a || b) ≡ ((a || false) || b)
or_joined true b = refl
or_joined false b = refl

pub rooms_turn : (size a : ℕ) (rests : List (Option Piece)) (k : ℕ) → k < length rests
    → list_any (has_room size a) (rest_pieces (drop k rests))
    ≡ (list_any (has_room size a) (rest_pieces (flat_option (slice_get rests k) ∷ []))
    || list_any (has_room size a) (rest_pieces (drop (suc k) rests)))
rooms_turn size a [] k l = absurd (omega arith)
rooms_turn size a (None ∷ rests) zero l = refl
rooms_turn size a (Some p ∷ rests) zero l =
    or_joined (has_room size a p) (list_any (has_room size a) (rest_pieces rests))
rooms_turn size a (o ∷ rests) (suc k) l = rooms_turn size a rests k (omega arith)

module _ (size a : ℕ) (rests : List (Option Piece)) (k : ℕ) (l : k < length rests) (here : Bool)
    (is : here ≡ list_any (has_room size a) (rest_pieces (flat_option (slice_get rests k) ∷ []))) where
  split : list_any (has_room size a) (rest_pieces (drop k rests))
      ≡ (here || list_any (has_room size a) (rest_pieces (drop (k + 1) rests)))
  split =
      let next : suc k ≡ k + 1 = omega arith in
      rooms_turn size a rests k l
      ∙ ap (λ (b : Bool). b || list_any (has_room size a) (rest_pieces (drop (suc k) rests))) (sym is)
      ∙ ap (λ (n : ℕ). here || list_any (has_room size a) (rest_pieces (drop n rests))) next

  pub room_on : here ≡ false
      → list_any (has_room size a) (rest_pieces (drop k rests)) ≡ list_any (has_room size a) (rest_pieces rests)
      → list_any (has_room size a) (rest_pieces (drop (k + 1) rests)) ≡ list_any (has_room size a) (rest_pieces rests)
  room_on off so_far =
      sym (split ∙ ap (λ (b : Bool). b || list_any (has_room size a) (rest_pieces (drop (k + 1) rests))) off) ∙ so_far

  pub room_here : here ≡ true
      → list_any (has_room size a) (rest_pieces (drop k rests)) ≡ list_any (has_room size a) (rest_pieces rests)
      → true ≡ list_any (has_room size a) (rest_pieces rests)
  room_here on so_far =
      sym (split ∙ ap (λ (b : Bool). b || list_any (has_room size a) (rest_pieces (drop (k + 1) rests))) on) ∙ so_far

-- ---- all room

pub front_is : (items : List Item) (h : HeapView) (size a : ℕ) (free unused : Bool) → generation (frame h) a ≡ 0
    → free ≡ list_any (has_room size a) (free_among items) → unused ≡ list_any (has_room size a) (rest_pieces h.rests)
    → (free || unused) ≡ is_front items h size a
front_is items h size a free unused young e f =
    let zero_ : (generation (frame h) a == 0) ≡ true = grind (arith, nat_tests, young) in
    ap (λ (b : Bool). b || unused) e
    ∙ ap (λ (b : Bool). list_any (has_room size a) (free_among items) || b) f
    ∙ sym (list_any-append (has_room size a) (free_among items) (rest_pieces h.rests))
    ∙ sym (and_true (list_any (has_room size a) (rooms items h)))
    ∙ ap (λ (b : Bool). list_any (has_room size a) (rooms items h) && b) (sym zero_)
  where
    and_true : (b : Bool) → (b && true) ≡ b
    and_true true = refl
    and_true false = refl

-- ---- no room is larger than a GiB

kind-is : (kind : SegKind) → same_kind Ephemeral kind ≡ true → kind ≡ Ephemeral
kind-is Small e = absurd cc
kind-is Ephemeral e = refl
kind-is Large e = absurd cc
kind-is Pinned e = absurd cc

head_kind : (ss : List SegInfo) → 0 < length (filter (λ (s : SegInfo). same_kind Ephemeral s.kind) ss)
    → same_kind Ephemeral (segment_or_empty (filter (λ (s : SegInfo). same_kind Ephemeral s.kind) ss)).kind ≡ true
head_kind [] some = absurd (omega arith)
head_kind (s ∷ ss) some = elim (cases_Bool (same_kind Ephemeral s.kind)) [
  | inl here ↦ rw here here
  | inr other ↦ rw other (head_kind ss (rw other at some))
]

reserved_in : (ss : List SegInfo) (k : ℕ) → k < length ss
    → (get_or ss k empty_segment).reserved ≤ sum_by (λ (s : SegInfo). s.reserved) ss
reserved_in [] k l = absurd (omega arith)
reserved_in (s ∷ ss) zero l = let e = sum_by-cons (λ (t : SegInfo). t.reserved) s ss in omega arith
reserved_in (s ∷ ss) (suc k) l =
    let e = sum_by-cons (λ (t : SegInfo). t.reserved) s ss in
    let more = reserved_in ss k (omega arith) in
    omega arith

module _ (rows : List TypeRow) (h : HeapView) (heap : IsHeap h) (walkable : AreWalkable rows h)
    (inside : AreInside h) where
  rest_small : (p : Piece) → IsIn p (rest_pieces h.rests) → p.size ≤ 1073741824
  rest_small p m =
      let r = rest-of h.rests p m in
      let one = heap.one_ephemeral in
      let some : 0 < length (filter (λ (s : SegInfo). same_kind Ephemeral s.kind) h.segments) = omega (arith, one) in
      let young = young_number h.segments some in
      let kind : same_kind Ephemeral (segment_at h young.0).kind ≡ true =
      ap (λ (s : SegInfo). same_kind Ephemeral s.kind) young.2 ∙ head_kind h.segments some in
      let is = inside r.0 young.0 p r.1 young.1 (kind-is (segment_at h young.0).kind kind) in
      let high = (lawful_at h young.0 heap young.1).high in
      let all = reserved_in h.segments young.0 young.1 in
      let within = heap.within_limit in
      let small = heap.limit_small in
      let above = is.above in
      let below = is.below in
      omega arith

  pub no_room : (size a : ℕ) → 1073741824 < size → is_front (heap_items rows h) h size a ≡ false
  no_room size a large = elim (cases_Bool (list_any (has_room size a) (rooms (heap_items rows h) h))) [
    | inr off ↦ ap (λ (b : Bool). b && (generation (frame h) a == 0)) off
    | inl on ↦
        let some = any-in (has_room size a) (rooms (heap_items rows h) h) on in
        let fits = (and_parts (some.0.place == a) (ranges.fits size some.0.size) some.2).1 in
        let most : size ≤ some.0.size = grind (arith, nat_tests, fits) in
        elim (in_append (free_among (heap_items rows h)) some.1) [
          | inl free ↦
              let from = from-map item_piece some.0 (filter is_free (heap_items rows h)) free in
              let passed = out_of_filter is_free from.0 (heap_items rows h) from.2 in
              let bytes : from.0.size ≡ some.0.size = sym (ap (λ (p : Piece). p.size) from.1) in
              let small = listed_small rows h heap walkable from.0 passed.1 in
              absurd (omega arith)
          | inr rest ↦ let small = rest_small some.0 rest in absurd (omega arith)
        ]
  ]
