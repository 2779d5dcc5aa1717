-- Layouts of the same bounds: their segments differ in their ends alone.
use Rattle.std.proofs.Common.{◌≡◌, ℕ, ◌/◌, Bool, true, false, List, [], ◌∷◌, filter, map, refl, ap, sym, ◌∙◌}
use Rattle.std.proofs.Common.{if◌then◌else◌, ltb, leb, ◌||◌, ◌*◌, subst, eqb}
use Rattle.clr_types.specs.Rising.{changed_by, IsIn}
use Rattle.clr_types.specs.Segments.{ended_at, ephemeral, generation, Layout, same_kind, segment_or_empty, stands_in}
use Rattle.clr_types.specs.declared.segment.SegInfo.{SegInfo}
use Rattle.clr_types.specs.declared.segment.SegKind.TheVariants.{Ephemeral}
use Rattle.clr_types.proofs.ChangedLists.{IsIn-map}
use Rattle.clr_types.proofs.ListMembers.{from-map, map-map}
use Rattle.clr_generations.specs.Laws.{may_lead}
use Rattle.clr_generations.specs.Tables.{units_of}

-- segments without their ends
abbrev pub outlines : List SegInfo → List SegInfo
outlines ss = map (ended_at 0) ss

-- the segments differ in their ends alone, and the boundaries of the generations are the same
pub record HasSameBounds (old new : Layout) : Type 0 where
  pub segments : outlines new.segments ≡ outlines old.segments
  pub start1 : new.start1 ≡ old.start1
  pub start0 : new.start0 ≡ old.start0

-- the first of some segments, without its end
first_outline : (ss : List SegInfo) → ended_at 0 (segment_or_empty ss) ≡ segment_or_empty (outlines ss)
first_outline [] = refl
first_outline (s ∷ ss) = refl

-- the ephemeral ones, without their ends
abbrev is_ephemeral : SegInfo → Bool
is_ephemeral s = same_kind Ephemeral s.kind

ephemeral_outlines : (ss : List SegInfo)
    → outlines (filter is_ephemeral ss) ≡ filter is_ephemeral (outlines ss)
ephemeral_outlines [] = refl
ephemeral_outlines (s ∷ ss) = go (is_ephemeral s) (ephemeral_outlines ss)
  where
    go : (b : Bool) → outlines (filter is_ephemeral ss) ≡ filter is_ephemeral (outlines ss)
        → outlines (if b then s ∷ filter is_ephemeral ss else filter is_ephemeral ss)
        ≡ (if b then ended_at 0 s ∷ filter is_ephemeral (outlines ss) else filter is_ephemeral (outlines ss))
    go true rest = ap (λ (ts : List SegInfo). ended_at 0 s ∷ ts) rest
    go false rest = rest

ephemeral_outline : (layout : Layout)
    → ended_at 0 (ephemeral layout)
    ≡ segment_or_empty (filter is_ephemeral (outlines layout.segments))
ephemeral_outline layout =
    first_outline (filter is_ephemeral layout.segments)
    ∙ ap segment_or_empty (ephemeral_outlines layout.segments)

-- a segment that ends elsewhere has the same outline
pub outlines_ended : (base end : ℕ) (ss : List SegInfo)
    → outlines (changed_by (λ (s : SegInfo). s.base) base (ended_at end) ss) ≡ outlines ss
outlines_ended base end [] = refl
outlines_ended base end (s ∷ ss) = go (eqb s.base base) (outlines_ended base end ss)
  where
    go : (b : Bool) → outlines (changed_by (λ (s : SegInfo). s.base) base (ended_at end) ss) ≡ outlines ss
        → ended_at 0 (if b then ended_at end s else s)
        ∷ outlines (changed_by (λ (s : SegInfo). s.base) base (ended_at end) ss) ≡ ended_at 0 s ∷ outlines ss
    go true rest = ap (λ (ts : List SegInfo). ended_at 0 s ∷ ts) rest
    go false rest = ap (λ (ts : List SegInfo). ended_at 0 s ∷ ts) rest

-- the units of segments are those of their outlines
pub units-outlines : (unit : ℕ) (ss : List SegInfo) → map (units_of unit) (outlines ss) ≡ map (units_of unit) ss
units-outlines unit ss = map-map (ended_at 0) (units_of unit) ss

module _ (old new : Layout) (same : HasSameBounds old new) where
  -- the ephemeral segment is where it was
  ephemeral-same : ended_at 0 (ephemeral new) ≡ ended_at 0 (ephemeral old)
  ephemeral-same =
      ephemeral_outline new
      ∙ ap (λ (ss : List SegInfo). segment_or_empty (filter is_ephemeral ss))
      same.segments ∙ sym (ephemeral_outline old)

  -- so each place has the generation that it had
  pub generation-same : (place : ℕ) → generation new place ≡ generation old place
  generation-same place =
      let s = ephemeral-same in
      let a = same.start1 in
      let b = same.start0 in
      λ i. if stands_in (s i) place then (if ltb place (a i) then 2 else (if ltb place (b i) then 1 else 0)) else 2

  -- and may lead where it might
  pub may-same : (place : ℕ) → may_lead new place ≡ may_lead old place
  may-same place =
      let g = generation-same place in
      let b = same.start0 in
      λ i. ltb 0 (g i) || leb (b i) (4096 * (place / 4096))

  -- the same units are covered
  pub units-same : (unit : ℕ) → map (units_of unit) new.segments ≡ map (units_of unit) old.segments
  units-same unit = sym (units-outlines unit new.segments) ∙ ap (map (units_of unit)) same.segments
      ∙ units-outlines unit old.segments

  -- each segment has the outline of one that was there
  pub segment-was : (s : SegInfo) → IsIn s new.segments
      → (t : SegInfo) × (ended_at 0 s ≡ ended_at 0 t) × IsIn t old.segments
  segment-was s i =
      from-map (ended_at 0) (ended_at 0 s) old.segments
      (subst (IsIn (ended_at 0 s)) same.segments (IsIn-map (ended_at 0) i))
