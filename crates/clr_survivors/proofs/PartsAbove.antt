-- Below the first place that is condemned nothing is in a part, and nothing moves.
use Rattle.std.proofs.Common.{◌≡◌, inl, inr, ℕ, ◌<◌, ◌≤◌, ◌==◌, Bool, true, false, List, refl, ap, sym}
use Rattle.std.proofs.Common.{◌||◌, if◌then◌else◌, subst, arith, nat_lt}
use Rattle.std.proofs.lemmas.Bool.{and_parts, eqb-true, ltb-false}
use Rattle.clr_types.specs.Segments.{ephemeral, first_place, generation, is_small_or_ephemeral, same_kind, stands_in}
use Rattle.clr_types.specs.Types.{TypeRow}
use Rattle.clr_types.specs.declared.segment.SegInfo.{SegInfo}
use Rattle.clr_types.specs.declared.segment.SegKind.TheVariants.{Ephemeral}
use Rattle.clr_heap.specs.View.{first_of, frame, HeapView, IsHeap, segment_at}
use Rattle.clr_model.specs.Compaction.{Move, moved_by}
use Rattle.clr_model.specs.Sweep.{has_condemned_part, part_start}
use Rattle.clr_model.proofs.MovedPlaces.{moved-is}
use Rattle.clr_plugs.specs.BrickEntries.{BricksView}
use Rattle.clr_moves.specs.Moves.{AreMoves, IsInPart, move_at, takes}
use Rattle.clr_moves.specs.Told.{TellMoves}
use Rattle.clr_moves.proofs.FromMachine.{number_of}
use Rattle.clr_moves.proofs.PlacesInPlugs.{outside_stays}
use Rattle.clr_survivors.specs.Condemned.{condemned_from, parts_from}
use Rattle.clr_moves.specs.declared.condemned.Condemned.{Condemned}
use Rattle.clr_moves.specs.declared.condemned.Condemned.TheVariants.{Generations, LargeSegments}

-- the part of a segment that has one starts there or above it
start-above : (h : HeapView) (g : ℕ) (s : SegInfo) → takes (Generations g) s ≡ true
    → condemned_from h g ≤ part_start (frame h) g s
start-above h g s on =
    go (same_kind Ephemeral s.kind) (g == 0) (g == 1) refl refl
    (and_parts (is_small_or_ephemeral s.kind) (has_condemned_part g s) on).1
  where
    go : (young zero_is one_is : Bool) → (g == 0) ≡ zero_is → (g == 1) ≡ one_is → (young || (g == 2)) ≡ true
        → (if zero_is then h.start0 else (if one_is then h.start1 else 1))
        ≤ (if young then (if zero_is then h.start0 else (if one_is then h.start1 else first_place s))
        else first_place s)
    go true true one_is e0 e1 some = omega arith
    go true false true e0 e1 some = omega arith
    go true false false e0 e1 some = omega arith
    go false true one_is e0 e1 some =
        let two = eqb-true g 2 some in let none = eqb-true g 0 e0 in absurd (omega (arith, two, none))
    go false false true e0 e1 some =
        let two = eqb-true g 2 some in let one = eqb-true g 1 e1 in absurd (omega (arith, two, one))
    go false false false e0 e1 some = omega arith

-- each place of a part stands there or above it
pub part-above : (h : HeapView) (g t place : ℕ) → IsInPart h (Generations g) t place → condemned_from h g ≤ place
part-above h g t place i =
    let start = start-above h g (segment_at h t) i.takes in
    let low = i.low in
    omega (arith, start, low)

-- what stands below it stays
pub below-stays : (rows : List TypeRow) (h : HeapView) (bricks : BricksView) (g : Condemned) (vs : List Move) → IsHeap h
    → TellMoves rows h bricks g vs → (place : ℕ) → place < parts_from h g → place ≡ moved_by vs place
below-stays rows h bricks (Generations g) vs heap tell place under =
    outside_stays rows h bricks (Generations g) vs heap tell place
    (λ t i. let above = part-above h g t place i in omega (arith, above, under))
below-stays rows h bricks LargeSegments vs heap tell place under =
    outside_stays rows h bricks LargeSegments vs heap tell place
    (λ t i. let low : first_of h t ≤ place = i.low in omega (arith, low, under))

-- from there on nothing goes below it
pub moves-above : (h : HeapView) (g : ℕ) (vs : List Move) → AreMoves h (Generations g) vs → (x : ℕ)
    → condemned_from h g ≤ x
    → condemned_from h g ≤ moved_by vs x
moves-above h g vs moves x high = elim (moved-is vs x) [
  | inr (uncovered, still) ↦ subst (λ (n : ℕ). condemned_from h g ≤ n) (sym still) high
  | inl (v, i, covered, e) ↦
      let (k, l, is) = number_of vs v i in
      let move = moves.each k l in
      let into = part-above h g move.into (move_at vs k).to move.into_in in
      let to = ap (λ (w : Move). w.to) is in
      omega (arith, into, to, e)
]

-- what is condemned stands there or above it
pub young-above : (h : HeapView) (g place : ℕ) → 0 < place → generation (frame h) place ≤ g
    → condemned_from h g ≤ place
young-above h g place some young =
    go (stands_in (ephemeral (frame h)) place) (nat_lt place h.start1) refl (nat_lt place h.start0) refl (g == 0) refl
    (g == 1) refl young
  where
    go : (stands old : Bool) → nat_lt place h.start1 ≡ old → (older : Bool) → nat_lt place h.start0 ≡ older
        → (zero_is : Bool) → (g == 0) ≡ zero_is → (one_is : Bool) → (g == 1) ≡ one_is
        → (if stands then (if old then 2 else (if older then 1 else 0)) else 2) ≤ g
        → (if zero_is then h.start0 else (if one_is then h.start1 else 1)) ≤ place
    go stands old e older f false e0 false e1 least = omega (arith, some)
    go true false e false f true e0 one_is e1 least = let above = ltb-false place h.start0 f in omega (arith, above)
    go true false e true f true e0 one_is e1 least = let none = eqb-true g 0 e0 in absurd (omega (arith, none, least))
    go true true e older f true e0 one_is e1 least = let none = eqb-true g 0 e0 in absurd (omega (arith, none, least))
    go false old e older f true e0 one_is e1 least = let none = eqb-true g 0 e0 in absurd (omega (arith, none, least))
    go true false e older f false e0 true e1 least = let above = ltb-false place h.start1 e in omega (arith, above)
    go true true e older f false e0 true e1 least = let one = eqb-true g 1 e1 in absurd (omega (arith, one, least))
    go false old e older f false e0 true e1 least = let one = eqb-true g 1 e1 in absurd (omega (arith, one, least))
