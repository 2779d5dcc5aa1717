-- What is left of contexts are the rests among the parts of a heap.
use Rattle.std.proofs.Common.{◌≡◌, ◌≢◌, ℕ, zero, suc, ◌+◌, ◌-◌, ◌≤◌, ◌<◌, List, [], ◌∷◌, length, get_or}
use Rattle.std.proofs.Common.{map, Option, Some, None, nat_eq, if◌then◌else◌, refl, ap, sym, subst, arith, inl}
use Rattle.std.proofs.Common.{inr}
use Rattle.std.proofs.Common.{Bool, true, false}
use Rattle.std.proofs.lemmas.Bool.{cases_eq, eqb-true}
use Rattle.clr_types.specs.Ranges.{Piece, piece_end}
use Rattle.clr_types.specs.Rising.{first, IsIn, later, sorted_by}
use Rattle.clr_types.specs.Segments.{rest_pieces, same_kind}
use Rattle.clr_types.specs.Types.{TypeRow}
use Rattle.clr_types.specs.declared.item.Item.{Item}
use Rattle.clr_types.specs.declared.segment.SegKind.TheVariants.{Ephemeral}
use Rattle.clr_types.proofs.ChangedLists.{all_members, append_left, rising-distinct}
use Rattle.clr_types.proofs.ListMembers.{append_right, distinct_right, distinct_unmap, in_append}
use Rattle.clr_types.proofs.RisingLists.{in_cons}
use Rattle.clr_types.proofs.Shuffles.{followed, IsShuffled, shuffled-distinct, shuffled-sorted, shuffled-sym}
use Rattle.clr_types.proofs.SortedLists.{into_sorted_by, IsDistinctBy, out_of_sorted_by, sorted_by-rises}
use Rattle.clr_types.proofs.SortedLists.{sorted_by-unique}
use Rattle.clr_heap.specs.Parts.{Among, hole_from, item_part, Part, rest_part}
use Rattle.clr_heap.specs.View.{first_of, HeapView, holes_of, IsHeap, last_of, listings, parts_of, segment_at, sight}
use Rattle.clr_heap.proofs.Holes.{hole_among}
use Rattle.clr_model.specs.Listing as model
use Rattle.clr_view.specs.View.{IsHeld}
use Rattle.clr_view.proofs.Tails.{found-young, kind-young}
use Rattle.clr_sos.proofs.BegunSteps.{rest-of}
use Rattle.clr_save.proofs.SavedItems.{from-rise, from-shuffled, rests_from, rests_in, saved_from}

-- ---- rests by thread

-- rests of two threads stand apart
rests-distinct : (rs : List (Option Piece))
    → ((i j : ℕ) (r q : Piece) → get_or rs i None ≡ Some r → get_or rs j None ≡ Some q → r.place ≡ q.place → i ≡ j)
    → IsDistinctBy (λ (r : Piece). r.place) (rest_pieces rs)
rests-distinct [] apart = tt
rests-distinct (None ∷ rs) apart =
    rests-distinct rs (λ i j r q e f same. let n = apart (suc i) (suc j) r q e f same in omega arith)
rests-distinct (Some p ∷ rs) apart = (
  all_members (λ (r : Piece). p.place ≢ r.place) (rest_pieces rs)
      (λ r l same. let found = rest-of rs r l in let n = apart 0 (suc found.0) p r refl found.1 same in omega arith),
  rests-distinct rs (λ i j r q e f same. let n = apart (suc i) (suc j) r q e f same in omega arith),
)

-- ---- rests among parts

-- a hole that begins somewhere is what is left of a context
abbrev IsRest : List (Option Piece) → ℕ → ℕ → Type 0
IsRest holes low high = IsIn (record { place = low; size = high - low }) (rest_pieces holes)

hole-in : (holes : List (Option Piece)) (p e : ℕ) → hole_from holes p ≡ Some e → IsRest holes p e
hole-in [] p e h = absurd cc
hole-in (None ∷ holes) p e h = hole-in holes p e h
hole-in (Some q ∷ holes) p e h = go (nat_eq q.place p) refl h (hole-in holes p e)
  where
    go : (b : Bool) → nat_eq q.place p ≡ b → (if b then Some (piece_end q) else hole_from holes p) ≡ Some e
        → (hole_from holes p ≡ Some e → IsRest holes p e) → IsRest (Some q ∷ holes) p e
    go true at is more =
        let end : piece_end q ≡ e = cc in
        let place = eqb-true q.place p at in
        let size : q.size ≡ e - p = omega arith in
        subst (λ (r : Piece). IsIn r (q ∷ rest_pieces holes)) (λ k. record { place = place k; size = size k }) first
    go false at is more = later (more is)

-- a range among the rests is a part
range-among : (ps : List Part) (r : Piece) → IsIn r (rests_in ps)
    → (low high : ℕ) × Among ps (rest_part low high) × (r ≡ record { place = low; size = high - low })
range-among [] r l = elim l [ ]
range-among (item_part i ∷ ps) r l = let found = range-among ps r l in (found.0, found.1, inr found.2, found.3)
range-among (rest_part low high ∷ ps) r l = elim (in_cons l) [
  | inl here ↦ (low, high, inl refl, here)
  | inr more ↦ let found = range-among ps r more in (found.0, found.1, inr found.2, found.3)
]

-- and a part of rest gives its range
among-range : (ps : List Part) (low high : ℕ) → Among ps (rest_part low high)
    → IsIn (record { place = low; size = high - low }) (rests_in ps)
among-range [] low high l = absurd l
among-range (item_part i ∷ ps) low high l = elim l [ inl wrong ↦ absurd cc | inr more ↦ among-range ps low high more ]
among-range (rest_part from to ∷ ps) low high l = elim l [
  | inl here ↦
      let at : low ≡ from = cc in
      let end : high ≡ to = cc in
      subst (λ (r : Piece). IsIn r (rests_in (rest_part from to ∷ ps)))
      (λ k. record { place = sym at k; size = sym end k - sym at k }) first
  | inr more ↦ later (among-range ps low high more)
]

-- the rests of one segment are among all
from-in : (rows : List TypeRow) (h : HeapView) (r : Piece) (j k n : ℕ) → j ≤ k → k < j + n
    → IsIn r (rests_in (parts_of rows h k)) → IsIn r (rests_from rows h j n)
from-in rows h r j k zero low high l = absurd (omega arith)
from-in rows h r j k (suc n) low high l = elim (cases_eq j k) [
  | inl same ↦
      append_left (rests_from rows h (j + 1) n)
      (subst (λ (m : ℕ). IsIn r (rests_in (parts_of rows h m))) (sym same) l)
  | inr other ↦
      append_right (rests_in (parts_of rows h j))
      (from-in rows h r (j + 1) k n (let lower : j ≢ k = other in omega arith) (omega arith) l)
]

-- and each of all is one of a segment
in-from : (rows : List TypeRow) (h : HeapView) (r : Piece) (j n : ℕ) → IsIn r (rests_from rows h j n)
    → (k : ℕ) × (k < j + n) × IsIn r (rests_in (parts_of rows h k))
in-from rows h r j zero l = elim l [ ]
in-from rows h r j (suc n) l = elim (in_append (rests_in (parts_of rows h j)) l) [
  | inl here ↦ (j, omega arith, here)
  | inr more ↦ let found = in-from rows h r (j + 1) n more in let low = found.1 in (found.0, omega arith, found.2)
]

-- the holes of a segment are rests of contexts, or there are none
seen-hole : (h : HeapView) (k p e : ℕ) → hole_from (holes_of h k) p ≡ Some e → hole_from h.rests p ≡ Some e
seen-hole h k p e is = go (same_kind (segment_at h k).kind Ephemeral) is
  where
    go : (b : Bool) → hole_from (if b then h.rests else []) p ≡ Some e → hole_from h.rests p ≡ Some e
    go true is = is
    go false is = absurd cc

module _ (rows : List TypeRow) (h : HeapView) (heap : IsHeap h) (held : IsHeld rows h) where
  abbrev key : Piece → ℕ
  key r = r.place

  abbrev pub among : List Piece
  among = rests_from rows h 0 (length h.segments)

  -- no two rests among parts begin at one place, since items rise
  among-distinct : IsDistinctBy key among
  among-distinct =
      let place : Item → ℕ = λ i. i.place in
      let rise = from-rise rows h heap held.walkable 0 (length h.segments) (omega arith) in
      let all = shuffled-distinct place (from-shuffled rows h 0 (length h.segments))
      (rising-distinct place (saved_from rows h 0 (length h.segments)) rise) in
      distinct_unmap model.free_item place among
      (distinct_right place (listings rows h 0 (length h.segments)) (map model.free_item among) all)

  -- a rest among parts is what is left of a context
  is-left : (r : Piece) → IsIn r among → IsIn r (rest_pieces h.rests)
  is-left r l =
      let (k, low, here) = in-from rows h r 0 (length h.segments) l in
      let w = held.walkable k (omega arith) in
      let (from, to, part, is) = range-among (parts_of rows h k) r here in
      let hole = hole_among (sight rows h k) (parts_of rows h k) from to (first_of h k) (last_of h k) w.spelled part in
      subst (λ (x : Piece). IsIn x (rest_pieces h.rests)) (sym is)
      (hole-in h.rests from to (seen-hole h k from to hole.hole))

  -- and what is left of a context is a part
  pub left-is : (r : Piece) → IsIn r (rest_pieces h.rests) → IsIn r among
  left-is r l =
      let (i, is) = rest-of h.rests r l in
      let (k, young) = found-young h heap in
      let part = (held.contexts i r is).among k young.in_range (kind-young h k heap young) in
      let size : r.place + r.size - r.place ≡ r.size = omega arith in
      let there = among-range (parts_of rows h k) r.place (piece_end r) part in
      from-in rows h r 0 k (length h.segments) (omega arith) (let l = young.in_range in omega arith)
      (subst (λ (n : ℕ). IsIn (record { place = r.place; size = n }) (rests_in (parts_of rows h k))) size there)

  -- THE RESTS: those among parts are what is left of contexts
  pub rests-shuffled : IsShuffled (rests_from rows h 0 (length h.segments)) (rest_pieces h.rests)
  rests-shuffled =
      let same : sorted_by key among ≡ sorted_by key (rest_pieces h.rests) =
      sorted_by-unique key (sorted_by key among) (rest_pieces h.rests) (rests-distinct h.rests held.apart)
      (sorted_by-rises key among among-distinct)
      (λ r. (
        λ l. is-left r (out_of_sorted_by key r among l),
        λ l. into_sorted_by key r among (left-is r l),
      )) in
      followed (subst (IsShuffled among) same (shuffled-sorted key among))
      (shuffled-sym (shuffled-sorted key (rest_pieces h.rests)))
