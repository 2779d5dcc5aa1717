-- A layout of which one segment gives bytes from its tail.
use Rattle.std.proofs.Common.{◌≡◌, ℕ, ◌+◌, ◌%◌, ◌<◌, ◌≤◌, List, [], ◌∷◌, length, refl, sym, ap, subst, ◌∙◌, arith, Bool}
use Rattle.std.proofs.Common.{true, false, nat_lt, if◌then◌else◌, ◌==◌, Some}
use Rattle.std.specs.List.{AllByRecursion}
use Rattle.std.specs.Option.{option_map}
use Rattle.std.proofs.lemmas.Bool.{eqb-true}
use Rattle.clr_types.specs.Rising.{IsIn, changed_by}
use Rattle.clr_types.specs.declared.segment.SegInfo.{SegInfo}
use Rattle.clr_types.specs.declared.segment.SegKind.{SegKind}
use Rattle.clr_types.specs.declared.segment.SegKind.TheVariants.{Small, Ephemeral, Large}
use Rattle.clr_types.specs.Segments.{Layout, first_place, reserved_end, same_kind, stands_in, ended_at}
use Rattle.clr_types.specs.Segments.{segment_or_empty, segments_of, segment_of, ephemeral, reserved_sum, generation}
use Rattle.clr_types.specs.Segments.{with_end}
use Rattle.clr_types.specs.LawfulLayout.{IsLawfulSegment, IsLawfulLayout, IsBoundedSegment}
use Rattle.clr_types.proofs.ChangedLists.{all-changed_by, all-changed_same, length-changed_by, sum_by-changed_by}
use Rattle.clr_types.proofs.ChangedLists.{filter-changed_by, find-changed_by}
use Rattle.clr_types.proofs.SegmentFacts.{ephemerals-are, ephemeral-in, lawful_segment, one_base, segment_of-home}
use Rattle.clr_types.proofs.SegmentFacts.{between-stands}
use Rattle.clr_types.proofs.TailTaken.{disjoint-ended}

-- a segment after this one gave so many bytes from its tail
abbrev pub raised_segment : SegInfo → ℕ → SegInfo → SegInfo
raised_segment s size u = if u.base == s.base then ended_at (s.end + size) u else u

module _ (layout : Layout) (h : IsLawfulLayout layout) (s : SegInfo) (among : IsIn s layout.segments) (size : ℕ) where
  abbrev end : ℕ
  end = s.end + size

  abbrev key : SegInfo → ℕ
  key u = u.base

  abbrev change : SegInfo → SegInfo
  change = ended_at end

  abbrev next : Layout
  next = with_end layout s.base end

  abbrev young : SegInfo
  young = ephemeral layout

  -- the segments of one kind, with the new end
  kind-raised : (kind : SegKind) → segments_of kind next ≡ changed_by key s.base change (segments_of kind layout)
  kind-raised kind =
      filter-changed_by key s.base change (λ (u : SegInfo). same_kind kind u.kind) (λ u. refl) layout.segments

  -- so there is one ephemeral segment
  ephemerals-raised : segments_of Ephemeral next ≡ raised_segment s size young ∷ []
  ephemerals-raised = kind-raised Ephemeral ∙ ap (changed_by key s.base change) (ephemerals-are layout h)

  -- which perhaps has a new end
  ephemeral-raised : ephemeral next ≡ raised_segment s size young
  ephemeral-raised = ap segment_or_empty ephemerals-raised

  -- bases stay
  base-raised : (b : Bool) (u : SegInfo) → (if b then change u else u).base ≡ u.base
  base-raised true u = refl
  base-raised false u = refl

  -- and what stands in a segment
  stands-raised : (b : Bool) (u : SegInfo) (place : ℕ)
      → stands_in (if b then change u else u) place ≡ stands_in u place
  stands-raised true u place = refl
  stands-raised false u place = refl

  -- each place has the generation that it had
  pub generation-raised : (place : ℕ) → generation (with_end layout s.base (s.end + size)) place
      ≡ generation layout place
  generation-raised place =
      ap (λ (u : SegInfo). if stands_in u place then
      (if nat_lt place layout.start1 then 2 else (if nat_lt place layout.start0 then 1 else 0)) else 2)
      ephemeral-raised
      ∙ ap (λ (b : Bool). if b then
      (if nat_lt place layout.start1 then 2 else (if nat_lt place layout.start0 then 1 else 0)) else 2)
      (stands-raised (young.base == s.base) young place)

  -- as much is reserved as before
  pub reserved_sum-raised : reserved_sum (with_end layout s.base (s.end + size)) ≡ reserved_sum layout
  reserved_sum-raised = sum_by-changed_by key s.base change (λ (u : SegInfo). u.reserved) (λ u. refl) layout.segments

  -- and stands in the segment in which it stood
  pub segment_of-raised : (place : ℕ) → segment_of (with_end layout s.base (s.end + size)) place
      ≡ option_map (raised_segment s size) (segment_of layout place)
  segment_of-raised place =
      find-changed_by key s.base change (λ (u : SegInfo). stands_in u place) (λ u. refl) layout.segments

  module _ (within : s.end + size ≤ reserved_end s) where
    -- the old end is a place in the segment
    pub end-stands : 0 < size → stands_in s s.end ≡ true
    end-stands some =
        let low : first_place s ≤ s.end = (lawful_segment layout h s among).low in
        between-stands s s.end low (omega arith)

    -- in which it is found
    pub segment_of-end : 0 < size → segment_of layout s.end ≡ Some s
    segment_of-end some = segment_of-home layout h s s.end among (end-stands some)

    -- the segment with its new end is lawful
    raised_lawful : size % 8 ≡ 0 → IsLawfulSegment (change s)
    raised_lawful aligned =
        let is : IsLawfulSegment s = lawful_segment layout h s among in
        let low = is.low in
        let end_aligned = is.aligned in
        record {
          base = is.base;
          lowest = is.lowest;
          reserved = is.reserved;
          least = is.least;
          low = omega arith;
          high = within;
          aligned = omega arith;
        }

    -- the boundaries stay below the end of the ephemeral segment
    young_end : (b : Bool) → (young.base == s.base) ≡ b → layout.start0 ≤ (if b then change young else young).end
    young_end true e =
        let same : young ≡ s = one_base layout h young s (ephemeral-in layout h) among (eqb-true young.base s.base e) in
        let at : young.end ≡ s.end = ap (λ (u : SegInfo). u.end) same in
        let high = h.start0_high in
        omega arith
    young_end false e = h.start0_high

    -- the layout stays lawful where the bytes are there
    pub raised_layout : size % 8 ≡ 0 → IsLawfulLayout (with_end layout s.base (s.end + size))
    raised_layout aligned =
        let at : (ephemeral next).base ≡ young.base =
        ap (λ (u : SegInfo). u.base) ephemeral-raised ∙ base-raised (young.base == s.base) young in
        let low = h.start1_low in
        record {
          segments = all-changed_by key s.base change IsLawfulSegment layout.segments
              (λ u i same. subst (λ (w : SegInfo). IsLawfulSegment (change w))
              (sym (one_base layout h u s i among same)) (raised_lawful aligned))
              (λ u i other. lawful_segment layout h u i);
          bounded = all-changed_same key s.base change IsBoundedSegment (λ u most. most) layout.segments h.bounded;
          disjoint = disjoint-ended s.base end layout.segments h.disjoint;
          below_top = all-changed_same key s.base change (λ (u : SegInfo). reserved_end u ≤ layout.top) (λ u l. l)
              layout.segments h.below_top;
          top_aligned = h.top_aligned;
          one_ephemeral = ap length ephemerals-raised;
          ephemeral_last =
              subst (λ n. AllByRecursion (λ (u : SegInfo). u.base ≤ n) (segments_of Small next)) (sym at)
              (subst (AllByRecursion (λ (u : SegInfo). u.base ≤ young.base)) (sym (kind-raised Small))
              (all-changed_same key s.base change (λ (u : SegInfo). u.base ≤ young.base) (λ u l. l)
              (segments_of Small layout) h.ephemeral_last));
          some_large =
              let count = length-changed_by key s.base change (segments_of Large layout) in
              let some = h.some_large in
              subst (λ (us : List SegInfo). 0 < length us) (sym (kind-raised Large)) (omega arith);
          start1_low = omega arith;
          start1_high = h.start1_high;
          start0_high = subst (λ (u : SegInfo). layout.start0 ≤ u.end) (sym ephemeral-raised)
              (young_end (young.base == s.base) refl);
          aligned = h.aligned;
          free_rise = h.free_rise;
          threads = h.threads;
        }
