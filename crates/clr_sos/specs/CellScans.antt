-- Where a check of a segment stands.
use Rattle.std.specs.Prelude.{true, ◌≡◌, ℕ, ◌+◌, ◌-◌, ◌%◌, ◌^◌, ◌<◌, ◌≤◌, ◌==◌, ◌&&◌, ◌||◌, not, Bool, List, length}
use Rattle.std.specs.Prelude.{nat_lt}
use Rattle.std.specs.Prelude.{nat_le, if◌then◌else◌, Option, Result, Ok, Err}
use Rattle.clr_types.specs.Ranges.{Piece}
use Rattle.clr_types.specs.Segments.{first_place, same_kind}
use Rattle.clr_types.specs.Types.{form_at, size_of, TypeRow}
use Rattle.clr_types.specs.declared.segment.SegInfo.{SegInfo}
use Rattle.clr_types.specs.declared.segment.SegKind.{SegKind}
use Rattle.clr_types.specs.declared.segment.SegKind.TheVariants.{Small, Ephemeral, Large, Pinned}
use Rattle.clr_heap.specs.View.{first_of, HeapView, IsHeap, last_of, segment_at}
use Rattle.clr_sos.specs.CheckedCells.{begins_in, crosses, is_length, Rules}
use Rattle.clr_sos.specs.Faults.{is_between, is_young, rules_of}
use Rattle.clr_sos.specs.declared.verify.cells.Limits.{Limits}
use Rattle.clr_sos.specs.declared.verify.cells.Scan.{Scan}

-- the kind, the end and the boundaries of segment k, where objects of `large` bytes and more are large
abbrev pub limits_of : ℕ → HeapView → ℕ → Limits
limits_of large h k = record {
  kind = (segment_at h k).kind;
  end = last_of h k;
  start1 = if is_young h k then h.start1 else 0;
  start0 = if is_young h k then h.start0 else 0;
  large = large;
}

-- what the checks know of a segment
abbrev pub rules_in : Scan → Rules
rules_in s = rules_of s.types.now s.limits.large s.heap.now s.k

-- a place of segment k of a heap, below the segment's end
pub record IsPlace (h : HeapView) (k p : ℕ) : Type 0 where
  pub heap : IsHeap h
  pub in_range : k < length h.segments
  pub aligned : p % 8 ≡ 0
  pub low : first_of h k ≤ p
  pub high : p < last_of h k

-- no hole begins from p on and below next, and one begins at next where that isn't the highest address
abbrev pub IsNext : List (Option Piece) → ℕ → ℕ → Type 0
IsNext holes p next = (high : ℕ) → high < 2 ^ 64 → begins_in holes p high ≡ nat_lt next high

-- whether the boundaries stand in order where they are the segment's
abbrev pub are_ordered : SegInfo → Limits → Bool
are_ordered s limits =
    not (same_kind s.kind Ephemeral)
    || (is_between (first_place s) limits.start1 s.end && is_between limits.start1 limits.start0 s.end)

-- an object of this size stands in a segment of this kind, where those of `large` bytes and more are large; in pinned
-- ones the size is any
abbrev pub suits_object : ℕ → SegKind → ℕ → Bool
suits_object large Small size = nat_lt size large
suits_object large Ephemeral size = nat_lt size large
suits_object large Large size = nat_le large size
suits_object large Pinned size = true

-- whether so many bytes end within the segment, before the next hole and within the generation where they begin, and
-- suit the segment
abbrev pub fits_there : Limits → ℕ → ℕ → ℕ → ℕ → Bool
fits_there limits next place t size =
    (nat_le (place + size) limits.end && nat_le (place + size) next)
    && (not (crosses limits.start1 place size || crosses limits.start0 place size)
    && ((t == 0) || suits_object limits.large limits.kind size))

-- the size of an item of this type and length, where it is lawful
abbrev pub size_with : List TypeRow → Limits → ℕ → ℕ → ℕ → ℕ → Result ℕ ℕ
size_with rows limits next place t len =
    if is_length rows t len then
    (if fits_there limits next place t (size_of (form_at rows t) len) then Ok (size_of (form_at rows t) len) else
    Err (place - 8)) else Err (place + 8)
