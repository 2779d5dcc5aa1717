use Rattle.std.proofs.Common.{◌≡◌, ℕ, ◌+◌, ◌≤◌, arith, sym, subst, Bool, Result, Ok, Err, OnOk}
use Rattle.std.proofs.Common.{◌<◌, length, ap}
use Rattle.clr_types.specs.declared.segment.SegInfo.{SegInfo}
use Rattle.clr_heap.specs.Memories.{memory_index}
use Rattle.clr_heap.specs.View.{first_of, HeapView, IsHeap, last_of, sight}
use Rattle.clr_heap.proofs.Addresses.{index_is_segment}
use Rattle.clr_heap.proofs.Framing.{lawful_at}
use Rattle.clr_save.specs.SavedWords.{IsNext}
use Rattle.clr_save.proofs.SavedParts.{owes_free, owes_last, owes_more, owes_nothing}
use Rattle.clr_save.proofs.put_memory.put_memory.Goals as goal
use Rattle.clr_save.proofs.put_memory.put_memory.Goals.{then-part+in_ok-put_cells+in_ok-put_free, else-part}

pub loop-place-init : goal.loop-place-init
loop-place-init c =
    let seg = c.info-segment.ensures.value in
    let at = c.first_place-place.ensures in
    let lawful = c.info-segment.ensures.lawful in
    let aligned = lawful.base in
    let low = lawful.low in
    rw (at, seg) (record {
      walk = c.requires.walkable;
      low = omega arith;
      order = omega arith;
      aligned = omega arith;
      within = omega arith;
      owed = owes_nothing (sight c.args.types.now c.args.heap.now c.args.k) c.args.out.now.items
          (first_of c.args.heap.now c.args.k) (last_of c.args.heap.now c.args.k);
    })

pub loop-place-preserved : goal.loop-place-preserved
loop-place-preserved c =
    let s = sight c.args.types.now c.args.heap.now c.args.k in
    let next = c.part_at-part.ensures in
    let inv = c.loop-place.invariant in
    let walk = inv.walk in
    let start = walk.start in
    let low = inv.low in
    let least = next.least in
    let whole = next.whole in
    let order = inv.order in
    elim c.if-part.branch [
      | then-part+in_ok-put_cells+in_ok-put_free w ↦
          let run = w.run-is in
          let seg = c.info-segment.ensures.value in
          rw (w.out-is, w.run-is) (record {
            walk = next.walk;
            low = omega arith;
            order = omega arith;
            aligned = omega arith;
            within = next.within;
            owed = owes_free s c.args.heap.now.memories c.loop-place.out.items _ _ c.loop-place.run c.loop-place.place
                c.info-segment.result.end c.part_at-part.result.size _ inv.owed
                (subst (λ (v : Bool). IsNext s c.args.heap.now.memories c.loop-place.place c.info-segment.result.end
                c.part_at-part.result.size v) w.if-part.true next) w.in_ok-put_cells.ensures w.in_ok-put_free.ensures;
          })
      | else-part w ↦
          rw (w.out-is, w.run-is) (record {
            walk = next.walk;
            low = inv.low;
            order = omega arith;
            aligned = inv.aligned;
            within = next.within;
            owed = owes_more s c.args.heap.now.memories c.loop-place.out.items c.loop-place.run c.loop-place.place
                c.info-segment.result.end c.part_at-part.result.size _ inv.owed
                (subst (λ (v : Bool). IsNext s c.args.heap.now.memories c.loop-place.place c.info-segment.result.end
                c.part_at-part.result.size v) w.if-part.false next) (omega arith) inv.order inv.aligned walk.start;
          })
    ]

ok_then : {A E : Type 0} {P Q : Type 0} (r : Result A E) → OnOk r P → (P → Q) → OnOk r Q
ok_then (Ok x) p f = f p
ok_then (Err e) p f = tt

pub returns : goal.returns
returns c =
    let inv = c.loop-place.invariant in
    ok_then c.put_cells-2.result c.put_cells-2.ensures
    (λ put. owes_last (sight c.args.types.now c.args.heap.now c.args.k) c.args.heap.now.memories c.loop-place.out.items
    _
    c.loop-place.run c.loop-place.place c.info-segment.result.end _ inv.owed inv.walk c.loop-place-test.false put)

-- an address of a cell below the end lies in the segment
in_segment : (h : HeapView) (k low high a : ℕ) → IsHeap h → k < length h.segments → first_of h k ≤ low
    → high ≤ last_of h k → low ≤ a + 8 → a + 8 < high → k ≡ memory_index h.memories a
in_segment h k low high a heap less above below from to =
    let lawful = lawful_at h k heap less in
    let end = lawful.high in
    sym (index_is_segment h k a heap less (omega arith) (omega arith))

pub put_cells-requires-clause-segment : goal.put_cells-requires-clause-segment
put_cells-requires-clause-segment c =
    let inv = c.loop-place.invariant in
    let within = inv.within in
    let seg = ap (λ (s : SegInfo). s.end) c.info-segment.ensures.value in
    λ a aligned from to. in_segment c.args.heap.now c.args.k c.loop-place.run c.loop-place.place a
    c.info-segment.ensures.heap c.requires.in_range inv.low (omega arith) from to

pub put_cells-requires-2-clause-segment : goal.put_cells-requires-2-clause-segment
put_cells-requires-2-clause-segment c =
    let inv = c.loop-place.invariant in
    let within = inv.within in
    let seg = ap (λ (s : SegInfo). s.end) c.info-segment.ensures.value in
    λ a aligned from to. in_segment c.args.heap.now c.args.k c.loop-place.run c.loop-place.place a
    c.info-segment.ensures.heap c.requires.in_range inv.low (omega arith) from to
