-- What a collection leaves goes with a plug, or stands in no part.
use Rattle.std.proofs.Common.{◌≡◌, ℕ, ◌+◌, ◌<◌, ◌≤◌, inl, inr, Bool, true, false, not, ◌||◌, List, refl}
use Rattle.std.proofs.Common.{ap}
use Rattle.std.proofs.Common.{◌∙◌, arith, nat_le, subst}
use Rattle.std.proofs.lemmas.Bool.{both_ways, cases_Bool, le-leb}
use Rattle.clr_types.specs.Rising.{IsIn}
use Rattle.clr_types.specs.Segments.{generation, Layout}
use Rattle.clr_types.specs.Types.{TypeRow}
use Rattle.clr_types.specs.declared.segment.SegInfo.{SegInfo}
use Rattle.clr_types.proofs.SegmentFacts.{between-stands, one_home}
use Rattle.clr_heap.specs.View.{frame, HeapView, segment_at}
use Rattle.clr_model.specs.Compaction.{IsCompacted, Move}
use Rattle.clr_model.specs.Lawful.{IsLaid}
use Rattle.clr_model.specs.Lookups.{object_piece}
use Rattle.clr_model.specs.Machine.{Machine, Object}
use Rattle.clr_model.specs.Sweep.{survivors}
use Rattle.clr_model.proofs.CondemnedParts.{taking-is}
use Rattle.clr_model.proofs.LawfulPieces.{HasHome, object-in-pieces, piece-home}
use Rattle.clr_model.proofs.LawfulSurvivors.{aged}
use Rattle.clr_model.proofs.MovedPlaces.{is_small-survivor, moved-is, survivor-covered}
use Rattle.clr_view.specs.Memory.{is_left, is_marked, is_reached_by}
use Rattle.clr_view.specs.View.{layout_in, objects_in}
use Rattle.clr_sweep.proofs.SurvivorsSwept.{seen}
use Rattle.clr_mark.specs.Marks.{is_condemned_place}
use Rattle.clr_moves.specs.Moves.{AreMoves, IsInPart, IsInPlug}
use Rattle.clr_moves.specs.Objects.{is_in_parts}
use Rattle.clr_moves.specs.Overlaid.{IsCompactionOf, MayGo}
use Rattle.clr_moves.proofs.FromMachine.{number_of, part_segment}
use Rattle.clr_moves.proofs.PartPlaces.{into_parts, out_of_parts}
use Rattle.clr_moves.proofs.PlannedMoves.{are-moves, seen-compacted, seen-laid}
use Rattle.clr_moves.specs.declared.condemned.Condemned.TheVariants.{Generations}

-- a place that is condemned, as what a collection goes over
pub condemned-is : (h : HeapView) (g x : ℕ) → is_condemned_place h g x ≡ nat_le (generation (frame h) x) g
unfolding is_condemned_place
condemned-is h g x = refl

module _ (rows : List TypeRow) (h : HeapView) (g : ℕ) (vs : List Move) (base : Machine) (kept : ℕ → Bool)
    (after : Layout) (least : g ≤ 2) (p : IsCompactionOf rows h (Generations g) vs base kept after) where
  m : Machine
  m = seen rows h base

  laid : IsLaid (seen rows h base)
  laid = seen-laid rows h (Generations g) vs base kept after p

  c : IsCompacted (layout_in rows h) g (survivors (seen rows h base) g kept) vs after
  c = seen-compacted rows h (Generations g) vs base kept after p

  pub the-moves : AreMoves h (Generations g) vs
  the-moves = are-moves rows h (Generations g) vs base kept after p least

  -- a collection goes over what is in a part
  pub part-young : (x : ℕ) → is_in_parts h (Generations g) x ≡ true → generation (frame h) x ≤ g
  part-young x inside =
      let (t, into, up) = out_of_parts h (Generations g) x inside in
      let s = segment_at h t in
      let known = part_segment rows h base laid g least kept vs after c t into.in_range into.takes in
      let (kind, part, among) = taking-is (seen rows h base).layout laid.layout g least s
      (subst (IsIn s) c.segments_are known) in
      aged (seen rows h base) laid g least kept s among part x into.low up into.high

  pub part-test : (t place : ℕ) → IsInPart h (Generations g) t place → is_in_parts h (Generations g) place ≡ true
  part-test t place is =
      let start = (the-moves.starts t is.in_range is.takes).0 in
      let low = is.low in
      into_parts h (Generations g) t place is (omega (arith, start, low))

  pub none-null : (t : ℕ) → IsInPart h (Generations g) t 0 → ⊥
  none-null t is =
      let start = (the-moves.starts t is.in_range is.takes).0 in
      let low = is.low in
      omega (arith, start, low)

  -- a marked object of a part goes with a plug
  pub marked-goes : (o : Object) → IsIn o (objects_in rows h) → is_marked h o ≡ true
      → is_in_parts h (Generations g) o.place ≡ true
      → (k : ℕ) × IsInPlug vs k o.place
  marked-goes o present mark inside =
      let (t, into, up) = out_of_parts h (Generations g) o.place inside in
      let s = segment_at h t in
      let known = part_segment rows h base laid g least kept vs after c t into.in_range into.takes in
      let (kind, part, among) = taking-is (seen rows h base).layout laid.layout g least s
      (subst (IsIn s) c.segments_are known) in
      let young = aged (seen rows h base) laid g least kept s among part o.place into.low up into.high in
      let stays : kept o.name ≡ true = p.tests o present young ∙ mark in
      let n : HasHome (seen rows h base).layout o.place =
      piece-home (seen rows h base) laid (object_piece rows o) (object-in-pieces (seen rows h base) laid o present) in
      let same : n.home ≡ s =
      one_home (seen rows h base).layout laid.layout n.home s o.place n.among among n.stands
      (between-stands s o.place up into.high) in
      let survives = is_small-survivor (seen rows h base) laid g least kept vs after c o present stays young s among
      kind (n.base ∙ ap (λ (u : SegInfo). u.base) same) in
      elim (moved-is vs o.place) [
        | inr (uncovered, still) ↦
            absurd (survivor-covered (seen rows h base) laid g least kept vs after c o survives uncovered)
        | inl (v, j, cover, e) ↦
            let (k, within, is) = number_of vs v j in (
              k,
              record {
                within = within;
                low = subst (λ (w : Move). w.start ≤ o.place) is cover.0;
                high = subst (λ (w : Move). o.place < w.start + w.size) is cover.1;
              },
            )
      ]

  or-right : (a b : Bool) → a ≡ true → (not a || b) ≡ true → b ≡ true
  or-right true b e f = f
  or-right false b e f = absurd cc

  -- what is left in a part is marked
  pub left-in-part : (o : Object) → is_left h g o ≡ true → is_in_parts h (Generations g) o.place ≡ true
      → is_marked h o ≡ true
  left-in-part o left inside =
      or-right (is_reached_by h g o.place) (is_marked h o)
      (le-leb (generation (frame h) o.place) g (part-young o.place inside)) left

  -- WHAT IS LEFT MAY GO
  pub left-goes : (o : Object) → IsIn o (objects_in rows h) → is_left h g o ≡ true → MayGo h (Generations g) vs o.place
  left-goes o present left = elim (cases_Bool (is_in_parts h (Generations g) o.place)) [
    | inl inside ↦ inr (marked-goes o present (left-in-part o left inside) inside)
    | inr away ↦ inl (λ t is. both_ways (is_in_parts h (Generations g) o.place) away (part-test t o.place is))
  ]
