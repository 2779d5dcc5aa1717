use Rattle.std.proofs.Common.{◌≡◌, ◌+◌, zero, suc, List, length, refl, ap, ◌∙◌, arith}
use Rattle.clr_types.specs.Types.{TypeRow}
use Rattle.clr_types.specs.Segments.{opening_segment}
use Rattle.clr_types.specs.declared.segment.SegInfo.{SegInfo}
use Rattle.clr_types.specs.declared.segment.SegKind.TheVariants.{Large}
use Rattle.clr_heap.proofs.Acquiring.{nothing_in}
use Rattle.clr_heap.specs.View.{AreWalkable, HeapView, IsWalkable, opening_heap, segment_at}
use Rattle.clr_heap_tests.proofs.heaps.objects_are_found.Goals as goal

pub append-pair-requires-clause-walkable : goal.append-pair-requires-clause-walkable
append-pair-requires-clause-walkable g c =
    rw c.in_ok-heap.ensures (nothing_in _ (opening_heap 262144 1048576) 0 refl refl).walkable

one_walkable : (rows : List TypeRow) (h : HeapView) → length h.segments ≡ 2 → IsWalkable rows h 0
    → segment_at h 1 ≡ opening_segment 0x10040000 Large 262144 → AreWalkable rows h
one_walkable rows h count first second zero l = first
one_walkable rows h count first second (suc zero) l =
    let low = ap (λ (s : SegInfo). s.base + 4096) second in
    let last = ap (λ (s : SegInfo). s.end) second in
    (nothing_in rows h 1 (omega arith) (omega arith)).walkable
one_walkable rows h count first second (suc (suc k)) l = absurd (omega arith)

pub expect_objects-requires : goal.expect_objects-requires
expect_objects-requires g c =
    let first : length c.in_ok-heap.heap.segments ≡ 2 = ap (λ (h : HeapView). length h.segments) c.in_ok-heap.ensures in
    let second : segment_at c.in_ok-heap.heap 1 ≡ opening_segment 0x10040000 Large 262144 =
    ap (λ (h : HeapView). segment_at h 1) c.in_ok-heap.ensures in
    one_walkable c.in_ok-types.types c.append-free.new.heap
    (c.append-free.ensures.count ∙ c.append-pair.ensures.count ∙ first) c.append-free.ensures.parts.walkable
    (c.append-free.ensures.others 1 (λ same. omega arith) ∙ c.append-pair.ensures.others 1 (λ same. omega arith)
    ∙ second)
