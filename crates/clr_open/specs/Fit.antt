-- From which images a run goes on.
use Rattle.std.specs.Prelude.{◌≡◌, ℕ, ◌+◌, ◌-◌, ◌*◌, ◌^◌, ◌≤◌, nat_lt, ◌&&◌, if◌then◌else◌, List, [], ◌∷◌, None, Option}
use Rattle.std.specs.Prelude.{Some}
use Rattle.std.specs.List.{AllByRecursion}
use Rattle.clr_types.specs.LawfulLayout.{AreBounded}
use Rattle.clr_types.specs.Segments.{ephemeral, is_small_or_ephemeral}
use Rattle.clr_types.specs.declared.segment.SegInfo.{SegInfo}
use Rattle.clr_heap.specs.View.{frame}
use Rattle.clr_sos.specs.CheckedCells.{or_else}
use Rattle.clr_format.specs.Images.{Parts}
use Rattle.clr_format.specs.declared.head.Head.{Head}
use Rattle.clr_opened.specs.Opened as machine
use Rattle.clr_open.specs.declared.budgets.Budgets.{Budgets}

-- ---- budgets

abbrev pub budgets_of : Budgets → machine.Budgets
budgets_of b = record { b0 = b.b0; b1 = b.b1; b2 = b.b2; bl = b.bl; compact = b.compact }

-- budgets as options of a run bound them
pub record AreLawfulBudgets (b : machine.Budgets) : Type 0 where
  pub b0 : b.b0 ≤ 1073741824
  pub b1 : b.b1 ≤ 1073741824
  pub b2 : b.b2 ≤ 1073741824
  pub bl : b.bl ≤ 1073741824
  pub compact : b.compact ≤ 100

-- ---- images

-- how many bytes a new small segment is to reserve: as many as the ephemeral one does
abbrev pub segment_in : Parts → ℕ
segment_in p = (ephemeral (frame p.body.heap)).reserved

-- An image that a run goes on from, as each is that a run leaves: two segments are within the limit, a small object
-- fits in one, addresses are left for new segments, and small and ephemeral segments are no longer than a run makes
-- them.
pub record IsFit (p : Parts) : Type 0 where
  pub limit : 2 * segment_in p ≤ p.head.limit
  pub large : p.head.large + 4096 ≤ segment_in p
  pub low : AllByRecursion (λ (s : SegInfo). s.base ≤ 2 ^ 60) p.body.heap.segments
  pub bounded : AreBounded p.body.heap.segments

-- ---- the first field that no run has

-- the limit stands at offset 8, and the least size of large objects at offset 16
abbrev pub unfit_head : ℕ → Head → Option ℕ
unfit_head segment head =
    if nat_lt head.limit (2 * segment) then Some 8 else (if nat_lt segment (head.large + 4096) then Some 16 else None)

-- how far such a field stands from the front of its segment: first the base, and then the bytes that it reserves
abbrev pub bad_field : SegInfo → Option ℕ
bad_field s =
    if nat_lt (2 ^ 60) s.base then Some 0
    else (if is_small_or_ephemeral s.kind && nat_lt 67108864 s.reserved then Some 8 else None)

-- that field, by the offset of its segment's memory, which stands 48 bytes behind the segment's front
abbrev pub field_before : ℕ → Option ℕ → Option ℕ
field_before memory None = None
field_before memory (Some d) = Some (memory - 48 + d)

-- the first of segments whose memories stand at these offsets
abbrev pub unfit_segments : List SegInfo → List ℕ → Option ℕ
unfit_segments [] memories = None
unfit_segments (s ∷ ss) [] = None
unfit_segments (s ∷ ss) (o ∷ os) = or_else (field_before o (bad_field s)) (unfit_segments ss os)

-- THE OFFSET OF THE FIRST FIELD THAT NO RUN HAS, where there is one
abbrev pub unfit : Parts → Option ℕ
unfit p = or_else (unfit_head (segment_in p) p.head) (unfit_segments p.body.heap.segments p.body.offsets)

-- no run goes on from the image, and this is the offset of the first field that tells it
pub record IsUnfitAt (p : Parts) (offset : ℕ) : Type 0 where
  pub is : unfit p ≡ Some offset
  pub unfit : IsFit p → ⊥
