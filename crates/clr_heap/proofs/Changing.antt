-- What holds of every heap still holds where a segment's end moves, a segment comes or one goes.
use Rattle.std.proofs.Common.{◌≡◌, ℕ, ◌+◌, ◌*◌, ◌/◌, ◌%◌, ◌<◌, ◌≤◌, ◌^◌, false, List, [], ◌∷◌, ◌++◌, length}
use Rattle.std.proofs.Common.{set, map, refl, ap, ap₂, sym, ◌∙◌, subst, arith}
use Rattle.std.proofs.Math.Seq.{map-set_same}
use Rattle.std.specs.List.{AllByRecursion, remove}
use Rattle.clr_mem.specs.Words.{Memory, zeros}
use Rattle.clr_mem.proofs.Callers.{length-zeros}
use Rattle.clr_types.specs.Segments.{empty_segment, ended_at, ephemeral, first_place}
use Rattle.clr_types.specs.Segments.{opening_segment, reserved_end, reserved_sum, same_kind}
use Rattle.clr_types.specs.Segments.{sealed_segment, segment_or_empty}
use Rattle.clr_types.specs.LawfulLayout.{IsLawfulSegment}
use Rattle.clr_types.specs.declared.segment.SegInfo.{SegInfo}
use Rattle.clr_types.specs.declared.segment.SegKind.{SegKind}
use Rattle.clr_types.specs.declared.segment.SegKind.TheVariants.{Small, Ephemeral, Large}
use Rattle.clr_heap.specs.Memories.{first_memory, shape_of, shapes}
use Rattle.clr_heap.specs.View.{extent_of, extents, first_of, frame, heap_with_segment, HeapView, IsHeap, IsKept}
use Rattle.clr_heap.specs.View.{opening_heap, segment_at, with_ephemeral}
use Rattle.std.proofs.lemmas.List.{map-append}
use Rattle.clr_heap.proofs.Framing.{all_map, all_passing, all_passing_remove, all_push, all_remove, all_set, all_weaker}
use Rattle.clr_heap.proofs.Framing.{bases_same, below_same, below_top_at, disjoint_push, disjoint_remove, disjoint_same}
use Rattle.clr_heap.proofs.Framing.{ephemerals, ephemerals_remove, ephemerals_sealed, extents_sealed, lawful_at}
use Rattle.clr_heap.proofs.Framing.{map_remove, of_kind, of_kind_push, of_kind_set, reserved_push, reserved_remove}
use Rattle.clr_heap.proofs.Framing.{reserved_same, same_count, same_first}
use Rattle.clr_heap.proofs.Young.{young_number}

-- the first place and the reserved end of the ephemeral segment, by the extents
young_same : (ss us : List SegInfo) → extents (ephemerals ss) ≡ extents (ephemerals us)
    → (first_place (segment_or_empty (ephemerals ss)) ≡ first_place (segment_or_empty (ephemerals us)))
    × (reserved_end (segment_or_empty (ephemerals ss)) ≡ reserved_end (segment_or_empty (ephemerals us)))
young_same ss us e =
    let first = same_first (ephemerals ss) (ephemerals us) e in
    (ap (λ (p : ℕ × ℕ). p.0 + 0x1000) first, ap (λ (p : ℕ × ℕ). p.0 + p.1) first)

-- the ephemeral segment is still the highest of the small ones where the extents of both kinds stay
last_same : (ss us : List SegInfo) → extents (ephemerals ss) ≡ extents (ephemerals us)
    → extents (of_kind Small ss) ≡ extents (of_kind Small us)
    → AllByRecursion (λ (s : SegInfo). s.base ≤ (segment_or_empty (ephemerals ss)).base) (of_kind Small ss)
    → AllByRecursion (λ (s : SegInfo). s.base ≤ (segment_or_empty (ephemerals us)).base) (of_kind Small us)
last_same ss us young small h =
    let base : (segment_or_empty (ephemerals ss)).base ≡ (segment_or_empty (ephemerals us)).base =
    ap (λ (p : ℕ × ℕ). p.0) (same_first (ephemerals ss) (ephemerals us) young) in
    let P : ℕ → Type 0 = λ b. AllByRecursion (λ (s : SegInfo). s.base ≤ b) (of_kind Small us) in
    subst P base (bases_same (segment_or_empty (ephemerals ss)).base (of_kind Small ss) (of_kind Small us) small h)

-- the end of a segment moves
pub kept_ended : (h : HeapView) (k e low high : ℕ) (t : SegInfo) → IsKept h low high → k < length h.segments
    → t ≡ ended_at e (segment_at h k)
    → first_of h k ≤ e → e ≤ reserved_end (segment_at h k) → e % 8 ≡ 0
    → IsKept (record h { segments = set h.segments k t }) low high
kept_ended h k e low high t kept l is above below z =
    let s = segment_at h k in
    let heap = kept.heap in
    let extent : extent_of t ≡ extent_of s = ap extent_of is in
    let kind : t.kind ≡ s.kind = ap (λ (u : SegInfo). u.kind) is in
    let old = lawful_at h k heap l in
    let lawful : IsLawfulSegment t = subst IsLawfulSegment (sym is) (record {
      base = old.base;
      lowest = old.lowest;
      reserved = old.reserved;
      least = old.least;
      low = above;
      high = below;
      aligned = z;
    }) in
    let same : extents h.segments ≡ extents (set h.segments k t) =
    sym (map-set_same extent_of h.segments k t empty_segment extent) in
    let young = of_kind_set Ephemeral h.segments k t empty_segment l extent kind in
    let small = of_kind_set Small h.segments k t empty_segment l extent kind in
    let places = young_same (set h.segments k t) h.segments young in
    let sum = reserved_same h.segments (set h.segments k t) same in
    let limit = heap.within_limit in
    record {
      heap = record {
        memories = heap.memories ∙ same;
        segments = all_set IsLawfulSegment h.segments k t heap.segments lawful;
        highest = bases_same (2 ^ 61) h.segments (set h.segments k t) same heap.highest;
        disjoint = disjoint_same h.segments (set h.segments k t) same heap.disjoint;
        below_top = below_same h.top h.segments (set h.segments k t) same heap.below_top;
        one_ephemeral = same_count (ephemerals (set h.segments k t)) (ephemerals h.segments) young ∙ heap.one_ephemeral;
        ephemeral_last = last_same h.segments (set h.segments k t) (sym young) (sym small) heap.ephemeral_last;
        top_aligned = heap.top_aligned;
        top_small = heap.top_small;
        within_limit = rw sum limit;
        limit_small = heap.limit_small;
        threads = heap.threads;
      };
      low = kept.low ∙ sym places.0;
      high = kept.high ∙ sym places.1;
    }

-- an empty segment is lawful
new_lawful : (kind : SegKind) (top size : ℕ) → 0x10000000 ≤ top → top % 4096 ≡ 0 → size % 4096 ≡ 0 → 262144 ≤ size
    → IsLawfulSegment (opening_segment top kind size)
new_lawful kind top size lowest z s least = record {
  base = z;
  lowest = lowest;
  reserved = s;
  least = least;
  low = omega arith;
  high = omega arith;
  aligned = omega arith;
}

-- the heap at the start
pub kept_opening : (segment limit : ℕ) → segment % 4096 ≡ 0 → 262144 ≤ segment → segment ≤ 67108864
    → 2 * segment ≤ limit → limit ≤ 1073741824 → IsKept (opening_heap segment limit) 0x10001000 (0x10000000 + segment)
kept_opening segment limit z least most room small =
    let n = length-zeros (segment / 8) in
    let size : 8 * length (zeros (segment / 8)) ≡ segment = omega arith in
    record {
      heap = record {
        memories = ap (λ (b : ℕ). (0x10000000, b) ∷ (0x10000000 + segment, b) ∷ []) size;
        segments = (
          new_lawful Ephemeral 0x10000000 segment (omega arith) refl z least,
          (new_lawful Large (0x10000000 + segment) segment (omega arith) (omega arith) z least, tt),
        );
        highest = (omega arith, (omega arith, tt));
        disjoint = ((omega arith, tt), (tt, tt));
        below_top = (omega arith, (omega arith, tt));
        one_ephemeral = refl;
        ephemeral_last = tt;
        top_aligned = omega arith;
        top_small = omega arith;
        within_limit = omega arith;
        limit_small = small;
        threads = refl;
      };
      low = refl;
      high = refl;
    }

-- ---- a new segment

-- segments begin at 0x10000000, so nothing was ever reserved up to a lower address
top_least : (h : HeapView) → IsHeap h → 0x10000000 ≤ h.top
top_least h i =
    let one = i.one_ephemeral in
    let found = young_number h.segments (omega arith) in
    let is = lawful_at h found.0 i found.1 in
    let lowest = is.lowest in
    let below = below_top_at h found.0 i found.1 in
    omega arith

shapes_push : (ms : List Memory) (ss : List SegInfo) (kind : SegKind) (top size : ℕ) → shapes ms ≡ extents ss
    → size % 4096 ≡ 0 → shapes (ms ++ first_memory top size ∷ []) ≡ extents (ss ++ opening_segment top kind size ∷ [])
shapes_push ms ss kind top size e z =
    let n = length-zeros (size / 8) in
    let same : 8 * length (zeros (size / 8)) ≡ size = omega arith in
    map-append shape_of ms (first_memory top size ∷ [])
    ∙ ap₂ (λ (ps : List (ℕ × ℕ)) (b : ℕ). ps ++ (top, b) ∷ []) e same
    ∙ sym (map-append extent_of ss (opening_segment top kind size ∷ []))

-- segments of the same extents, and one more at the top
module _ (h : HeapView) (low high size : ℕ) (kept : IsKept h low high) (aligned : size % 4096 ≡ 0)
    (least : 262144 ≤ size) (top : h.top ≤ 2 ^ 61) (room : reserved_sum (frame h) + size ≤ h.limit) where
  heap : IsHeap h
  heap = kept.heap

  lifted : AllByRecursion (λ (s : SegInfo). reserved_end s ≤ h.top + size) h.segments
  lifted = all_weaker (λ (s : SegInfo). reserved_end s ≤ h.top)
      (λ (s : SegInfo). reserved_end s ≤ h.top + size) h.segments (λ s l. omega arith) heap.below_top

  size_small : h.top + size ≤ 2 ^ 61 + 2 ^ 30
  size_small = let limit = heap.limit_small in omega arith

  pub kept_with_other : (kind : SegKind) → same_kind Ephemeral kind ≡ false → same_kind Small kind ≡ false
      → IsKept (heap_with_segment h kind size) low high
  kept_with_other kind not_young not_small =
      let t = opening_segment h.top kind size in
      let young = of_kind_push Ephemeral h.segments t not_young in
      let small = of_kind_push Small h.segments t not_small in
      let z = heap.top_aligned in
      let sum = reserved_push h.segments t in
      record {
        heap = record {
          memories = shapes_push h.memories h.segments kind h.top size heap.memories aligned;
          segments = all_push IsLawfulSegment h.segments t heap.segments
              (new_lawful kind h.top size (top_least h heap) z aligned least);
          highest = all_push (λ (s : SegInfo). s.base ≤ 2 ^ 61) h.segments t heap.highest top;
          disjoint = disjoint_push h.segments t heap.disjoint heap.below_top;
          below_top = all_push (λ (s : SegInfo). reserved_end s ≤ h.top + size) h.segments t lifted (omega arith);
          one_ephemeral = ap length young ∙ heap.one_ephemeral;
          ephemeral_last = last_same h.segments (h.segments ++ t ∷ []) (sym (ap extents young)) (sym (ap extents small))
              heap.ephemeral_last;
          top_aligned = omega arith;
          top_small = size_small;
          within_limit = rw sum room;
          limit_small = heap.limit_small;
          threads = heap.threads;
        };
        low = kept.low ∙ ap (λ (ss : List SegInfo). first_place (segment_or_empty ss)) (sym young);
        high = kept.high ∙ ap (λ (ss : List SegInfo). reserved_end (segment_or_empty ss)) (sym young);
      }

  sealed_lawful : AllByRecursion IsLawfulSegment (map sealed_segment h.segments)
  sealed_lawful = all_map IsLawfulSegment IsLawfulSegment sealed_segment h.segments (λ s l. record {
    base = l.base;
    lowest = l.lowest;
    reserved = l.reserved;
    least = l.least;
    low = l.low;
    high = l.high;
    aligned = l.aligned;
  }) heap.segments

  pub kept_with_ephemeral : IsKept (with_ephemeral h size) (h.top + 0x1000) (h.top + size)
  kept_with_ephemeral =
      let t = opening_segment h.top Ephemeral size in
      let old = map sealed_segment h.segments in
      let same : extents h.segments ≡ extents old = sym (extents_sealed h.segments) in
      let young = ephemerals_sealed h.segments t refl in
      let z = heap.top_aligned in
      let sum = reserved_push old t in
      let sealed_sum = reserved_same h.segments old same in
      let at_top = all_weaker (λ (s : SegInfo). reserved_end s ≤ h.top) (λ (s : SegInfo). s.base ≤ h.top) h.segments
      (λ s l. omega arith) heap.below_top in
      let bases = all_push (λ (s : SegInfo). s.base ≤ h.top) old t (bases_same h.top h.segments old same at_top)
      (omega arith) in
      record {
        heap = record {
          memories = shapes_push h.memories old Ephemeral h.top size (heap.memories ∙ same) aligned;
          segments = all_push IsLawfulSegment old t sealed_lawful
              (new_lawful Ephemeral h.top size (top_least h heap) z aligned least);
          highest = all_push (λ (s : SegInfo). s.base ≤ 2 ^ 61) old t
              (bases_same (2 ^ 61) h.segments old same heap.highest) top;
          disjoint = disjoint_push old t (disjoint_same h.segments old same heap.disjoint)
              (below_same h.top h.segments old same heap.below_top);
          below_top = all_push (λ (s : SegInfo). reserved_end s ≤ h.top + size) old t
              (below_same (h.top + size) h.segments old same lifted) (omega arith);
          one_ephemeral = ap length young;
          ephemeral_last = rw young
              (all_passing (λ (s : SegInfo). s.base ≤ h.top) (λ (s : SegInfo). same_kind Small s.kind)
              (old ++ t ∷ []) bases);
          top_aligned = omega arith;
          top_small = size_small;
          within_limit = rw (sum, sealed_sum) room;
          limit_small = heap.limit_small;
          threads = heap.threads;
        };
        low = ap (λ (ss : List SegInfo). first_place (segment_or_empty ss)) (sym young);
        high = ap (λ (ss : List SegInfo). reserved_end (segment_or_empty ss)) (sym young);
      }

-- ---- a segment is given back

pub kept_released : (h : HeapView) (k low high : ℕ) → IsKept h low high → k < length h.segments
    → same_kind Ephemeral (segment_at h k).kind ≡ false
    → IsKept (record h { memories = remove h.memories k; segments = remove h.segments k }) low high
kept_released h k low high kept l other =
    let heap = kept.heap in
    let young = ephemerals_remove h.segments k empty_segment l other in
    let sum = reserved_remove h.segments k in
    let limit = heap.within_limit in
    record {
      heap = record {
        memories = map_remove shape_of h.memories k ∙ ap (λ (ps : List (ℕ × ℕ)). remove ps k) heap.memories
            ∙ sym (map_remove extent_of h.segments k);
        segments = all_remove IsLawfulSegment h.segments k heap.segments;
        highest = all_remove (λ (s : SegInfo). s.base ≤ 2 ^ 61) h.segments k heap.highest;
        disjoint = disjoint_remove h.segments k heap.disjoint;
        below_top = all_remove (λ (s : SegInfo). reserved_end s ≤ h.top) h.segments k heap.below_top;
        one_ephemeral = ap length young ∙ heap.one_ephemeral;
        ephemeral_last = rw young (all_passing_remove (λ (s : SegInfo). s.base ≤ (ephemeral (frame h)).base)
            (λ (s : SegInfo). same_kind Small s.kind) h.segments k heap.ephemeral_last);
        top_aligned = heap.top_aligned;
        top_small = heap.top_small;
        within_limit = omega arith;
        limit_small = heap.limit_small;
        threads = heap.threads;
      };
      low = kept.low ∙ ap (λ (ss : List SegInfo). first_place (segment_or_empty ss)) (sym young);
      high = kept.high ∙ ap (λ (ss : List SegInfo). reserved_end (segment_or_empty ss)) (sym young);
    }
