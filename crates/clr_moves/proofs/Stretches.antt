-- Places side by side, of which the nearest plugs go equally far.
use Rattle.std.proofs.Common.{◌≡◌, inl, inr, ℕ, ◌-◌, ◌<◌, ◌≤◌, List, [], ◌∷◌, ap, sym, ◌∙◌}
use Rattle.std.proofs.Common.{subst, arith}
use Rattle.std.specs.Prelude.{unsigned_abs}
use Rattle.std.proofs.lemmas.Bool.{cases_lt}
use Rattle.clr_types.specs.Rising.{IsRisingBy}
use Rattle.clr_types.specs.Types.{TypeRow}
use Rattle.clr_types.proofs.ChangedLists.{all-unmap, IsIn-map}
use Rattle.clr_types.proofs.ListMembers.{rising_same}
use Rattle.clr_heap.specs.View.{first_of, HeapView, IsHeap}
use Rattle.clr_heap.proofs.Framing.{lawful_at}
use Rattle.clr_model.specs.Compaction.{Move, moved_by}
use Rattle.clr_pinq.specs.declared.entry.PinEntry.{PinEntry}
use Rattle.clr_plugs.specs.BrickEntries.{BricksView}
use Rattle.clr_plugs.specs.Plans.{IsPlanned, PlannedPart, PlannedPlug, plug_starts}
use Rattle.clr_plugs.specs.Searches.{IsInPlan, IsNearestPlug}
use Rattle.clr_plugs.specs.declared.search.NearestPlug.{NearestPlug}
use Rattle.clr_plugs.proofs.Starts.{spaced-rises}
use Rattle.clr_moves.proofs.PlacesInPlugs.{goes_down, nearest_here, one_part, part_at, plug_at_place, plug_in_part}
use Rattle.clr_moves.proofs.PlacesInPlugs.{parts_start, plug_lies, plug_of}
use Rattle.clr_moves.proofs.Reading.{back_is}
use Rattle.clr_moves.specs.Going.{IsStretchAt, IsStretchOf}
use Rattle.clr_moves.specs.Moves.{IsInPart, IsInPlug}
use Rattle.clr_moves.specs.Overlaid.{HoldsPlan, MayGo}
use Rattle.clr_moves.specs.Together.{IsUsedPlace}
use Rattle.clr_moves.specs.declared.condemned.Condemned.{Condemned}
use Rattle.clr_moves.specs.declared.stretch.Stretch.{Stretch}

rising_plugs : (plugs : List PlannedPlug) → IsRisingBy (λ x. x) (plug_starts plugs) → IsRisingBy (λ p. p.start) plugs
rising_plugs [] r = tt
rising_plugs (p ∷ ps) r =
    (all-unmap (λ (q : PlannedPlug). q.start) (λ x. p.start < x) ps r.0, rising_plugs ps r.1)

-- from the start of the plug that is found up to the next start of its brick, it is the nearest one
pub found_stretch : (h : HeapView) (bricks : BricksView) (part : PlannedPart) → IsPlanned h bricks part
    → (place : ℕ) (found : NearestPlug) → IsNearestPlug part.plugs place found → (s : Stretch) → s.low ≡ found.start
    → s.stop ≡ found.stop → s.down ≡ unsigned_abs found.distance → IsStretchAt part place s
found_stretch h bricks part plan place found f s low stop down =
    let at = f.start in
    let under = f.not_above in
    let end = f.stop.0 in
    let past = f.stop.1 (omega arith) in
    let start = (plan.lies.places f.plug.start (IsIn-map (λ (p : PlannedPlug). p.start) f.among)).low in
    record {
      inside = (omega (arith, low, at, under), omega (arith, stop, past));
      low = omega (arith, low, at, start);
      high = omega (arith, stop, end);
      same = λ x plug from to near.
          let rises = rising_plugs part.plugs (spaced-rises part.low (plug_starts part.plugs) plan.lies.spaced) in
          let one = near.nearest f.plug f.among (omega (arith, low, at, from)) in
          let below = near.below in
          let other : plug.start ≤ f.plug.start = elim (cases_lt place plug.start) [
            | inl over ↦
                let next = f.alone plug.start (IsIn-map (λ (p : PlannedPlug). p.start) near.among) over in
                absurd (omega (arith, next, below, to, stop))
            | inr not_over ↦ f.greatest plug near.among (omega (arith, not_over))
          ] in
          let is = rising_same (λ (p : PlannedPlug). p.start) part.plugs f.plug plug rises f.among near.among
          (omega (arith, one, other)) in
          down ∙ ap unsigned_abs (f.distance ∙ ap (λ (p : PlannedPlug). p.distance) is);
    }

-- a stretch of a place in the part of segment t is one of the moves
module _ (rows : List TypeRow) (view h : HeapView) (bricks : BricksView) (entries : List PinEntry) (g : Condemned)
    (vs : List Move) (start1 start0 : ℕ) (heap : IsHeap h)
    (plan : HoldsPlan rows view h bricks entries g vs start1 start0) (place : ℕ) (s : Stretch) (t : ℕ)
    (at : IsInPart h g t place) (here : IsStretchAt (plan.told.parts t) place s) where
  first_low : first_of h t ≤ s.low
  first_low =
      let first = parts_start rows view h bricks entries g vs start1 start0 heap plan place t at.in_range at.takes in
      let low = here.low in
      let low_is = (plan.told.each t at.in_range at.takes).low in
      omega (arith, first, low, low_is)

  -- all of it is in that part
  in_part : (x : ℕ) → s.low ≤ x → x < s.stop → IsInPart h g t x
  in_part x from to =
      let law = lawful_at h t heap at.in_range in
      let base = law.base in
      let reserved = law.reserved in
      let high = at.high in
      let stop = here.high in
      let low = here.low in
      let low_is = (plan.told.each t at.in_range at.takes).low in
      record {
        in_range = at.in_range;
        takes = at.takes;
        low = omega (arith, low, low_is, from);
        high = omega (arith, base, reserved, high, stop, to);
      }

  -- so each of its places that goes is in a plug of the part, and goes as far
  pub stretch_in : IsStretchOf view g vs s
  stretch_in x from to may_go =
      let low = first_low in
      let there = in_part x from to in
      let (n, j) = plug_at_place rows view h bricks entries g vs start1 start0 heap plan x may_go (t, there) in
      let m = plug_of rows h bricks g vs heap plan.told n j.within in
      let lies = plug_lies rows h bricks g vs heap plan.told n j.within in
      let first = lies.first in
      let start = lies.low in
      let above = j.low in
      let same = one_part h g m.segment t x heap (omega (arith, first, start, above)) (omega (arith, low, from))
      (plug_in_part rows h bricks g vs heap plan.told n x j) there in
      let near = nearest_here rows h bricks g vs heap plan.told plan.overlaid.line n x j in
      let P : ℕ → Type 0 = λ u. IsStretchAt (plan.told.parts u) place s in
      let down = (subst P (sym same) here).same x m.plug from to near in
      let each = plan.told.each m.segment m.within m.takes in
      let back = (back_is m.plug (each.down m.plug m.among)).0 in
      let gone = goes_down rows h bricks g vs heap plan.told plan.overlaid.line n x j in
      ap (λ (b : ℕ). x - b) (down ∙ back) ∙ gone

module _ (rows : List TypeRow) (view h : HeapView) (bricks : BricksView) (entries : List PinEntry) (g : Condemned)
    (vs : List Move) (start1 start0 : ℕ) (heap : IsHeap h)
    (plan : HoldsPlan rows view h bricks entries g vs start1 start0) (place : ℕ) (may : MayGo view g vs place)
    (inside : (t : ℕ) × IsInPart h g t place) (s : Stretch)
    (met : (part : PlannedPart) → IsPlanned h bricks part → part.low ≤ place → place < part.high
    → IsStretchAt part place s) where
  -- the stretch of a place of a plug, in the part of the plug's segment
  module _ (k : ℕ) (i : IsInPlug vs k place) where
    here_at : IsStretchAt (plan.told.parts (plug_of rows h bricks g vs heap plan.told k i.within).segment) place s
    here_at =
        let t = (plug_of rows h bricks g vs heap plan.told k i.within).segment in
        let a = part_at rows h bricks g vs heap plan.told k place i in
        met (plan.told.parts t) (plan.told.each t a.in_range a.takes).planned a.low a.high

  -- what is met at a place that goes is a stretch of the moves
  pub stretch_goes : IsStretchOf view g vs s
  stretch_goes =
      let (k, i) = plug_at_place rows view h bricks entries g vs start1 start0 heap plan place may inside in
      stretch_in rows view h bricks entries g vs start1 start0 heap plan place s
      (plug_of rows h bricks g vs heap plan.told k i.within).segment
      (plug_in_part rows h bricks g vs heap plan.told k place i) (here_at k i)

  -- and has the place
  pub stretch_has : (s.low ≤ place) × (place < s.stop)
  stretch_has =
      let (k, i) = plug_at_place rows view h bricks entries g vs start1 start0 heap plan place may inside in
      (here_at k i).inside

-- ---- places that are searched for side by side

-- the place is in the plan of its segment's part
pub used_plan : (rows : List TypeRow) (view h : HeapView) (bricks : BricksView) (entries : List PinEntry)
    (g : Condemned) (vs : List Move) (start1 start0 : ℕ)
    (plan : HoldsPlan rows view h bricks entries g vs start1 start0) (t place : ℕ) → IsUsedPlace h g t place
    → (i : IsInPlan h bricks place) × (t ≡ i.part.segment)
used_plan rows view h bricks entries g vs start1 start0 plan t place u =
    let each = plan.told.each t u.in_range u.takes in
    let low = u.low in
    let high = u.high in
    let low_is = each.low in
    let high_is = each.high in (
      record {
        part = plan.told.parts t;
        low = omega (arith, low, low_is);
        high = omega (arith, high, high_is);
        planned = each.planned;
      },
      sym each.segment,
    )

-- the stretch of the plug that is found for it is one of the moves
pub used_stretch : (rows : List TypeRow) (view h : HeapView) (bricks : BricksView) (entries : List PinEntry)
    (g : Condemned) (vs : List Move) (start1 start0 : ℕ) → IsHeap h
    → HoldsPlan rows view h bricks entries g vs start1 start0 → (t place : ℕ) → IsUsedPlace h g t place
    → (found : NearestPlug)
    → ((part : PlannedPart) → IsPlanned h bricks part → part.low ≤ place → place < part.high
    → IsNearestPlug part.plugs place found)
    → (s : Stretch) → s.low ≡ found.start → s.stop ≡ found.stop → s.down ≡ unsigned_abs found.distance
    → IsStretchOf view g vs s
used_stretch rows view h bricks entries g vs start1 start0 heap plan t place u found near s low stop down =
    let each = plan.told.each t u.in_range u.takes in
    let from = u.low in
    let to = u.high in
    let low_is = each.low in
    let high_is = each.high in
    let end = (lawful_at h t heap u.in_range).high in
    let at : IsInPart h g t place = record {
      in_range = u.in_range;
      takes = u.takes;
      low = from;
      high = omega (arith, to, end);
    } in
    stretch_in rows view h bricks entries g vs start1 start0 heap plan place s t at
    (found_stretch h bricks (plan.told.parts t) each.planned place found
    (near (plan.told.parts t) each.planned (omega (arith, from, low_is)) (omega (arith, to, high_is))) s low stop down)
