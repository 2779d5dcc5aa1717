-- A layout whose ephemeral segment gives bytes from its tail.
use Rattle.std.proofs.Common.{◌≡◌, ℕ, ◌+◌, ◌%◌, ◌<◌, ◌≤◌, List, [], ◌∷◌, ◌++◌, length, refl, sym, ap, subst, ◌∙◌, arith}
use Rattle.std.proofs.Common.{Bool, true, false, nat_lt, if◌then◌else◌, ◌==◌, Some}
use Rattle.std.specs.List.{AllByRecursion}
use Rattle.std.specs.Option.{option_map}
use Rattle.std.proofs.lemmas.Bool.{eq-eqb}
use Rattle.clr_types.specs.Rising.{IsIn, changed_by}
use Rattle.clr_types.specs.Ranges.{Piece, piece_end, IsLawfulSize, Tiles}
use Rattle.clr_types.specs.Types.{Form, class_form, references_form, bytes_form, structs_form, size_of}
use Rattle.clr_types.specs.Segments.{Layout, first_place, reserved_end, same_kind, stands_in, ended_at}
use Rattle.clr_types.specs.Segments.{segment_or_empty, segments_of, segment_of, ephemeral, reserved_sum, generation}
use Rattle.clr_types.specs.Segments.{with_end}
use Rattle.clr_types.specs.LawfulLayout.{AreDisjoint, IsLawfulSegment, IsLawfulLayout, IsBoundedSegment}
use Rattle.clr_types.specs.declared.segment.SegInfo.{SegInfo}
use Rattle.clr_types.specs.declared.segment.SegKind.{SegKind}
use Rattle.clr_types.specs.declared.segment.SegKind.TheVariants.{Small, Ephemeral, Large}
use Rattle.clr_types.proofs.Tilings.{tiles-append}
use Rattle.clr_types.proofs.ChangedLists.{all-changed_by, all-changed_same, length-changed_by, sum_by-changed_by}
use Rattle.clr_types.proofs.ChangedLists.{filter-changed_by, find-changed_by}
use Rattle.clr_types.proofs.SegmentFacts.{ephemerals-are, ephemeral-in, lawful_segment, one_base, segment_of-home}
use Rattle.clr_types.proofs.SegmentFacts.{between-stands}

-- an object's size is lawful
pub size-lawful : (form : Form) (len : ℕ) → IsLawfulSize (size_of form len)
size-lawful (class_form pattern) len = (omega arith, omega arith)
size-lawful references_form len = (omega arith, omega arith)
size-lawful bytes_form len = (omega arith, omega arith)
size-lawful (structs_form pattern) len = (omega arith, omega arith)

-- a tiling ends no lower than it begins
tiles-up : (low high : ℕ) (ps : List Piece) → Tiles low high ps → low ≤ high
tiles-up low high [] t = let e : low ≡ high = t in omega arith
tiles-up low high (p ∷ ps) t = let at : p.place ≡ low = t.0 in let l = tiles-up (piece_end p) high ps t.2 in omega arith

-- the pieces of a tiling begin below its high end
pub tiles-below : (low high : ℕ) (ps : List Piece) → Tiles low high ps
    → AllByRecursion (λ (p : Piece). p.place < high) ps
tiles-below low high [] t = tt
tiles-below low high (p ∷ ps) t =
    let size : IsLawfulSize p.size = t.1 in
    let up = tiles-up (piece_end p) high ps t.2 in
    (omega arith, tiles-below (piece_end p) high ps t.2)

-- one piece more at its high end
pub tiles-push : (low high : ℕ) (ps : List Piece) (p : Piece) → Tiles low high ps → p.place ≡ high → IsLawfulSize p.size
    → Tiles low (piece_end p) (ps ++ p ∷ [])
tiles-push low high ps p t at size = tiles-append low high (piece_end p) ps (p ∷ []) t (at, size, refl)

-- new ends leave segments apart
pub disjoint-ended : (base high : ℕ) (ss : List SegInfo) → AreDisjoint ss
    → AreDisjoint (changed_by (λ s. s.base) base (ended_at high) ss)
disjoint-ended base high [] d = tt
disjoint-ended base high (s ∷ ss) d = (
  go (s.base == base) (all-changed_same (λ (r : SegInfo). r.base) base (ended_at high)
      (λ (r : SegInfo). reserved_end s ≤ r.base) (λ r l. l) ss d.0),
  disjoint-ended base high ss d.1,
)
  where
    go : (b : Bool) → AllByRecursion (λ (r : SegInfo). reserved_end s ≤ r.base)
        (changed_by (λ s. s.base) base (ended_at high) ss)
        → AllByRecursion (λ (r : SegInfo). reserved_end (if b then ended_at high s else s) ≤ r.base)
        (changed_by (λ s. s.base) base (ended_at high) ss)
    go true all = all
    go false all = all

-- the layout with so many bytes taken from the tail of the ephemeral segment
abbrev pub tail_taken : Layout → ℕ → Layout
tail_taken layout size = with_end layout (ephemeral layout).base ((ephemeral layout).end + size)

-- the segment as it is afterwards
abbrev pub taken_segment : Layout → ℕ → SegInfo → SegInfo
taken_segment layout size s = if s.base == (ephemeral layout).base then ended_at ((ephemeral layout).end + size) s else
    s

module _ (layout : Layout) (h : IsLawfulLayout layout) (size : ℕ) where
  abbrev raised : SegInfo
  raised = ended_at ((ephemeral layout).end + size) (ephemeral layout)

  -- the ephemeral segment has its new end
  ephemerals-taken : segments_of Ephemeral (tail_taken layout size) ≡ raised ∷ []
  ephemerals-taken =
      filter-changed_by (λ (s : SegInfo). s.base) (ephemeral layout).base (ended_at ((ephemeral layout).end + size))
      (λ (s : SegInfo). same_kind Ephemeral s.kind) (λ s. refl) layout.segments
      ∙ ap (changed_by (λ (s : SegInfo). s.base) (ephemeral layout).base (ended_at ((ephemeral layout).end + size)))
      (ephemerals-are layout h)
      ∙ ap (λ b. (if b then raised else ephemeral layout) ∷ [])
      (eq-eqb (ephemeral layout).base (ephemeral layout).base refl)

  pub ephemeral-taken : ephemeral (tail_taken layout size) ≡ raised
  ephemeral-taken = ap segment_or_empty ephemerals-taken

  -- each place has the generation that it had
  pub generation-taken : (place : ℕ) → generation (tail_taken layout size) place ≡ generation layout place
  generation-taken place =
      ap (λ (s : SegInfo). if stands_in s place then
      (if nat_lt place layout.start1 then 2 else (if nat_lt place layout.start0 then 1 else 0)) else 2)
      ephemeral-taken

  pub reserved_sum-taken : reserved_sum (tail_taken layout size) ≡ reserved_sum layout
  reserved_sum-taken = sum_by-changed_by (λ (s : SegInfo). s.base) (ephemeral layout).base
      (ended_at ((ephemeral layout).end + size)) (λ (s : SegInfo). s.reserved) (λ s. refl) layout.segments

  -- and stands in the segment in which it stood
  pub segment_of-taken : (place : ℕ)
      → segment_of (tail_taken layout size) place ≡ option_map (taken_segment layout size) (segment_of layout place)
  segment_of-taken place = find-changed_by (λ (s : SegInfo). s.base) (ephemeral layout).base
      (ended_at ((ephemeral layout).end + size)) (λ (s : SegInfo). stands_in s place) (λ s. refl) layout.segments

  module _ (within : (ephemeral layout).end + size ≤ reserved_end (ephemeral layout)) where
    -- the old end is a place in the ephemeral segment
    pub tail-stands : 0 < size → stands_in (ephemeral layout) (ephemeral layout).end ≡ true
    tail-stands some =
        let low : first_place (ephemeral layout) ≤ (ephemeral layout).end =
        (lawful_segment layout h (ephemeral layout) (ephemeral-in layout h)).low in
        between-stands (ephemeral layout) (ephemeral layout).end low (omega arith)

    pub segment_of-tail : 0 < size → segment_of layout (ephemeral layout).end ≡ Some (ephemeral layout)
    segment_of-tail some = segment_of-home layout h (ephemeral layout) (ephemeral layout).end (ephemeral-in layout h)
        (tail-stands some)

    raised_lawful : size % 8 ≡ 0 → IsLawfulSegment raised
    raised_lawful aligned =
        let is : IsLawfulSegment (ephemeral layout) = lawful_segment layout h (ephemeral layout) (ephemeral-in layout h)
        in
        let low = is.low in
        let end_aligned = is.aligned in
        record {
          base = is.base;
          lowest = is.lowest;
          reserved = is.reserved;
          least = is.least;
          low = omega arith;
          high = within;
          aligned = omega arith;
        }

    segment_lawful : size % 8 ≡ 0 → (s : SegInfo) → IsIn s layout.segments → s.base ≡ (ephemeral layout).base
        → IsLawfulSegment (ended_at ((ephemeral layout).end + size) s)
    segment_lawful aligned s i at =
        subst (λ u. IsLawfulSegment (ended_at ((ephemeral layout).end + size) u))
        (sym (one_base layout h s (ephemeral layout) i (ephemeral-in layout h) at)) (raised_lawful aligned)

    -- the layout stays lawful where the bytes are there
    pub taken_lawful : size % 8 ≡ 0 → IsLawfulLayout (tail_taken layout size)
    taken_lawful aligned =
        let same = sym ephemeral-taken in
        let kept = λ (kind : SegKind). filter-changed_by (λ (s : SegInfo). s.base) (ephemeral layout).base
        (ended_at ((ephemeral layout).end + size)) (λ (s : SegInfo). same_kind kind s.kind)
        (λ s. refl) layout.segments in
        let change = ended_at ((ephemeral layout).end + size) in
        record {
          segments = all-changed_by (λ (s : SegInfo). s.base)
              (ephemeral layout).base change IsLawfulSegment layout.segments (segment_lawful aligned)
              (λ s i other. lawful_segment layout h s i);
          bounded = all-changed_same (λ (s : SegInfo). s.base) (ephemeral layout).base change IsBoundedSegment
              (λ s most. most) layout.segments h.bounded;
          disjoint = disjoint-ended (ephemeral layout).base ((ephemeral layout).end + size) layout.segments h.disjoint;
          below_top = all-changed_same (λ (s : SegInfo). s.base) (ephemeral layout).base change
              (λ (s : SegInfo). reserved_end s ≤ layout.top) (λ s l. l) layout.segments h.below_top;
          top_aligned = h.top_aligned;
          one_ephemeral = ap length ephemerals-taken;
          ephemeral_last =
              subst (λ (u : SegInfo). AllByRecursion (λ (s : SegInfo). s.base ≤ u.base)
              (segments_of Small (tail_taken layout size))) same
              (subst (AllByRecursion (λ (s : SegInfo). s.base ≤ (ephemeral layout).base)) (sym (kept Small))
              (all-changed_same (λ (s : SegInfo). s.base) (ephemeral layout).base change
              (λ (s : SegInfo). s.base ≤ (ephemeral layout).base) (λ s l. l)
              (segments_of Small layout) h.ephemeral_last));
          some_large =
              let count = length-changed_by (λ (s : SegInfo). s.base) (ephemeral layout).base change
              (segments_of Large layout) in
              let some = h.some_large in
              subst (λ (ss : List SegInfo). 0 < length ss) (sym (kept Large)) (omega arith);
          start1_low = subst (λ (u : SegInfo). first_place u ≤ layout.start1) same h.start1_low;
          start1_high = h.start1_high;
          start0_high = let l = h.start0_high in subst (λ (u : SegInfo). layout.start0 ≤ u.end) same (omega arith);
          aligned = h.aligned;
          free_rise = h.free_rise;
          threads = h.threads;
        }
