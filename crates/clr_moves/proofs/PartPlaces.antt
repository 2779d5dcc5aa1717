-- Places in parts, by the test and by the segment.
use Rattle.std.proofs.Common.{◌≡◌, ℕ, ◌<◌, ◌≤◌, Bool, true, ◌&&◌, length, subst, arith, nat_le}
use Rattle.std.proofs.lemmas.Bool.{and_from, and_parts, le-leb, leb-true}
use Rattle.clr_types.specs.Segments.{empty_segment, first_place, is_small_or_ephemeral, reserved_end, same_kind}
use Rattle.clr_types.specs.Segments.{stands_in}
use Rattle.clr_types.specs.declared.segment.SegInfo.{SegInfo}
use Rattle.clr_types.specs.declared.segment.SegKind.{SegKind}
use Rattle.clr_types.specs.declared.segment.SegKind.TheVariants.{Large}
use Rattle.clr_types.proofs.ListMembers.{any-from, any-in}
use Rattle.clr_types.proofs.SegmentFacts.{between-stands, stands-between}
use Rattle.clr_heap.specs.View.{first_of, frame, HeapView, segment_at}
use Rattle.clr_model.specs.Sweep.{has_condemned_part, is_in_part, part_start}
use Rattle.clr_model.proofs.LargeSurvivors.{all-take}
use Rattle.clr_sweep.proofs.SurvivorsSwept.{at-in}
use Rattle.clr_moves.specs.Moves.{IsInPart, room_end}
use Rattle.clr_moves.specs.Objects.{is_in_parts}
use Rattle.clr_moves.specs.declared.condemned.Condemned.{Condemned}
use Rattle.clr_moves.specs.declared.condemned.Condemned.TheVariants.{Generations, LargeSegments}
use Rattle.clr_moves.proofs.FromMachine.{index_of}
use Rattle.clr_moves.proofs.SegmentsBelow.{part_of_two}

-- the place stands in the condemned part of segment t, which is of one of these kinds
record StandsIn (kinds : SegKind → Bool) (h : HeapView) (g t place : ℕ) : Type 0 where
  in_range : t < length h.segments
  kind : kinds (segment_at h t).kind ≡ true
  condemned : has_condemned_part g (segment_at h t) ≡ true
  up : first_of h t ≤ place
  high : place < room_end h t
  low : part_start (frame h) g (segment_at h t) ≤ place

module _ (kinds : SegKind → Bool) (h : HeapView) (g place : ℕ) where
  abbrev above : SegInfo → Bool
  above s = stands_in s place && nat_le (part_start (frame h) g s) place

  abbrev test : SegInfo → Bool
  test s = kinds s.kind && (has_condemned_part g s && above s)

  into : (t : ℕ) → StandsIn kinds h g t place
      → is_in_part kinds (frame h) g (record { place = place; size = 0 }) ≡ true
  into t is =
      let s = segment_at h t in
      any-from test h.segments s (at-in h.segments t empty_segment is.in_range)
      (and_from (kinds s.kind) (has_condemned_part g s && above s) is.kind
      (and_from (has_condemned_part g s) (above s) is.condemned
      (and_from (stands_in s place) (nat_le (part_start (frame h) g s) place) (between-stands s place is.up is.high)
      (le-leb (part_start (frame h) g s) place is.low))))

  out : is_in_part kinds (frame h) g (record { place = place; size = 0 }) ≡ true → (t : ℕ) × StandsIn kinds h g t place
  out e =
      let (s, i, is) = any-in test h.segments e in
      let (kind, more) = and_parts (kinds s.kind) (has_condemned_part g s && above s) is in
      let (condemned, rest) = and_parts (has_condemned_part g s) (above s) more in
      let (stands, low) = and_parts (stands_in s place) (nat_le (part_start (frame h) g s) place) rest in
      let (t, l, at) = index_of h.segments s i in
      let (up, high) = stands-between s place stands in (
        t,
        record {
          in_range = l;
          kind = subst (λ (u : SegInfo). kinds u.kind ≡ true) at kind;
          condemned = subst (λ (u : SegInfo). has_condemned_part g u ≡ true) at condemned;
          up = subst (λ (u : SegInfo). first_place u ≤ place) at up;
          high = subst (λ (u : SegInfo). place < reserved_end u) at high;
          low = subst (λ (u : SegInfo). part_start (frame h) g u ≤ place) at
              (leb-true (part_start (frame h) g s) place low);
        },
      )

pub into_parts : (h : HeapView) (g : Condemned) (t place : ℕ) → IsInPart h g t place → first_of h t ≤ place
    → is_in_parts h g place ≡ true
into_parts h (Generations g) t place is up =
    let s = segment_at h t in
    let (kind, condemned) = and_parts (is_small_or_ephemeral s.kind) (has_condemned_part g s) is.takes in
    into is_small_or_ephemeral h g place t (record {
      in_range = is.in_range;
      kind = kind;
      condemned = condemned;
      up = up;
      high = is.high;
      low = is.low;
    })
into_parts h LargeSegments t place is up =
    let s = segment_at h t in
    let start = part_of_two (frame h) s in
    into (same_kind Large) h 2 place t (record {
      in_range = is.in_range;
      kind = is.takes;
      condemned = all-take s;
      up = up;
      high = is.high;
      low = omega (arith, start, up);
    })

pub out_of_parts : (h : HeapView) (g : Condemned) (place : ℕ) → is_in_parts h g place ≡ true
    → (t : ℕ) × IsInPart h g t place × (first_of h t ≤ place)
out_of_parts h (Generations g) place e =
    let (t, is) = out is_small_or_ephemeral h g place e in
    let s = segment_at h t in (
      t,
      record {
        in_range = is.in_range;
        takes = and_from (is_small_or_ephemeral s.kind) (has_condemned_part g s) is.kind is.condemned;
        low = is.low;
        high = is.high;
      },
      is.up,
    )
out_of_parts h LargeSegments place e =
    let (t, is) = out (same_kind Large) h 2 place e in
    (t, record { in_range = is.in_range; takes = is.kind; low = is.up; high = is.high }, is.up)
