use Rattle.std.proofs.Common.{◌≡◌, ℕ, ◌+◌, ◌-◌, ◌/◌, ◌<◌, ◌≤◌, ◌⊎◌, [], length, refl, ap, sym, ◌∙◌, subst, arith}
use Rattle.std.proofs.Common.{pos}
use Rattle.clr_types.specs.Segments.{first_place}
use Rattle.clr_types.specs.declared.segment.SegInfo.{SegInfo}
use Rattle.clr_heap.specs.View.{first_of, HeapView, segment_at}
use Rattle.clr_covers.specs.Covers.{spans, with_value}
use Rattle.clr_covers.proofs.Values.{spans-with_value}
use Rattle.clr_bricks.specs.Bricks.{entry_at}
use Rattle.clr_plugs.specs.BrickEntries.{IsCovered}
use Rattle.clr_plugs.specs.Planning.{CanAdvance, IsWriting, WriterView}
use Rattle.clr_plugs.specs.Plans.{IsPlanned, PlannedPart}
use Rattle.clr_plan.specs.Counts.{HasCounted, no_counts}
use Rattle.clr_plan.specs.LaidParts.{CanLay, HasLaid, segment_part}
use Rattle.clr_plan.specs.States.{progress, stretch, written}
use Rattle.clr_plan.proofs.LaidSegment.{can-end, can-lay, laid-segment, lay-part-of}
use Rattle.clr_plan.proofs.Writing.{shape-on}
use Rattle.clr_plan.proofs.parts.plan_segment.Goals as goal

pub info-segment-requires : goal.info-segment-requires
info-segment-requires c =
    let (old, w, starts, free, below, can) = c.requires.segment in
    subst (λ (h : HeapView). c.args.k < length h.segments) (sym can.words.shape.others) can.plan.among.in_range

pub new-writer-requires-clause-covered : goal.new-writer-requires-clause-covered
new-writer-requires-clause-covered c =
    let (old, w, starts, free, below, can) = c.requires.segment in
    let e : c.info-segment.result ≡ segment_at old c.args.k = c.info-segment.ensures.value
    ∙ ap (λ (h : HeapView). segment_at h c.args.k) can.words.shape.others in
    subst (λ (s : SegInfo). IsCovered c.args.bricks.now (first_place s / 4096 - 1)) (sym e) can.covered_below

pub plan_part-counts-requires : goal.plan_part-counts-requires
plan_part-counts-requires c =
    let (old, w, starts, free, below, can) = c.requires.segment in
    let e : c.info-segment.result ≡ segment_at old c.args.k = c.info-segment.ensures.value
    ∙ ap (λ (h : HeapView). segment_at h c.args.k) can.words.shape.others in
    let value : c.new-writer.result ≡ record {
      builder = record { brick = first_of old c.args.k / 4096; plugs = [] };
      last = 0;
    } = c.new-writer.ensures.value
    ∙ ap (λ (s : SegInfo). let v : WriterView =
    record { builder = record { brick = first_place s / 4096; plugs = [] }; last = 0 } in v) e in
    let writing = c.new-writer.ensures.writing c.args.heap.now (segment_part old c.args.k [])
    (lay-part-of w c.args.types.now old c.args.heap.now c.args.bricks.now c.args.queue.now c.args.from starts free
    c.args.k below can c.info-segment.ensures.heap) (sym (ap first_place e)) refl can.covered in
    let lay = can-lay w c.args.types.now old c.args.heap.now c.args.bricks.now c.args.queue.now c.args.from starts free
    c.args.k below can c.info-segment.ensures.heap c.new-writer.new.bricks c.new-writer.result writing value in
    let P : SegInfo → Type 0 = λ s. CanLay w c.args.types.now old (progress (written c.args.heap.now
    c.new-writer.new.bricks c.args.queue.now c.new-writer.result) c.args.from (first_place s)) starts free
    (segment_part old c.args.k []) (stretch c.args.k (first_place s) s.end) in
    record { part = (old, w, starts, free, segment_part old c.args.k [], subst P (sym e) lay) }

pub finish-requires : goal.finish-requires
finish-requires c =
    let (old, w, starts, free, below, can) = c.requires.segment in
    let e : c.info-segment.result ≡ segment_at old c.args.k = c.info-segment.ensures.value
    ∙ ap (λ (h : HeapView). segment_at h c.args.k) can.words.shape.others in
    let value : c.new-writer.result ≡ record {
      builder = record { brick = first_of old c.args.k / 4096; plugs = [] };
      last = 0;
    } = c.new-writer.ensures.value
    ∙ ap (λ (s : SegInfo). let v : WriterView =
    record { builder = record { brick = first_place s / 4096; plugs = [] }; last = 0 } in v) e in
    let writing = c.new-writer.ensures.writing c.args.heap.now (segment_part old c.args.k [])
    (lay-part-of w c.args.types.now old c.args.heap.now c.args.bricks.now c.args.queue.now c.args.from starts free
    c.args.k below can c.info-segment.ensures.heap) (sym (ap first_place e)) refl can.covered in
    let lay = can-lay w c.args.types.now old c.args.heap.now c.args.bricks.now c.args.queue.now c.args.from starts free
    c.args.k below can c.info-segment.ensures.heap c.new-writer.new.bricks c.new-writer.result writing value in
    let Q : SegInfo → Type 0 = λ s. CanLay w c.args.types.now old (progress (written c.args.heap.now
    c.new-writer.new.bricks c.args.queue.now c.new-writer.result) c.args.from (first_place s)) starts free
    (segment_part old c.args.k []) (stretch c.args.k (first_place s) s.end)
    → HasLaid w c.args.types.now old (progress (written c.args.heap.now c.new-writer.new.bricks c.args.queue.now
    c.new-writer.result) c.args.from (first_place s)) (progress (written c.plan_part-counts.new.heap
    c.plan_part-counts.new.bricks
    c.plan_part-counts.new.queue c.plan_part-counts.new.laying.writer) c.plan_part-counts.new.laying.at
    c.plan_part-counts.new.laying.below) starts free
    (segment_part old c.args.k []) (stretch c.args.k (first_place s) s.end) in
    let laid = subst Q e (c.plan_part-counts.ensures.laid old w starts free (segment_part old c.args.k [])) lay in
    let high = c.info-segment.ensures.lawful.high in
    let top = c.info-segment.ensures.below_top in
    let small = c.info-segment.ensures.fits in
    let same = ap (λ (s : SegInfo). s.end) c.info-segment.ensures.value in
    record {
      can = subst (λ (s : SegInfo). CanAdvance c.plan_part-counts.new.heap c.plan_part-counts.new.bricks
          c.plan_part-counts.new.laying.writer
          ((s.end + 4095) / 4096)) (sym e) (can-end w c.args.types.now old c.args.heap.now c.args.bricks.now
          c.args.queue.now c.args.from starts free c.args.k below can c.info-segment.ensures.heap
          c.new-writer.new.bricks c.plan_part-counts.new.bricks c.new-writer.result c.plan_part-counts.new.laying.writer
          c.plan_part-counts.new.heap c.plan_part-counts.new.queue c.plan_part-counts.new.laying.below
          c.plan_part-counts.new.laying.at laid);
      fits = omega (arith, high, top, small, same);
    }

pub returns-clause-laid : goal.returns-clause-laid
returns-clause-laid c = λ old w starts free below can.
    let e : c.info-segment.result ≡ segment_at old c.args.k = c.info-segment.ensures.value
    ∙ ap (λ (h : HeapView). segment_at h c.args.k) can.words.shape.others in
    let value : c.new-writer.result ≡ record {
      builder = record { brick = first_of old c.args.k / 4096; plugs = [] };
      last = 0;
    } = c.new-writer.ensures.value
    ∙ ap (λ (s : SegInfo). let v : WriterView =
    record { builder = record { brick = first_place s / 4096; plugs = [] }; last = 0 } in v) e in
    let writing = c.new-writer.ensures.writing c.args.heap.now (segment_part old c.args.k [])
    (lay-part-of w c.args.types.now old c.args.heap.now c.args.bricks.now c.args.queue.now c.args.from starts free
    c.args.k below can c.info-segment.ensures.heap) (sym (ap first_place e)) refl can.covered in
    let lay = can-lay w c.args.types.now old c.args.heap.now c.args.bricks.now c.args.queue.now c.args.from starts free
    c.args.k below can c.info-segment.ensures.heap c.new-writer.new.bricks c.new-writer.result writing value in
    let Q : SegInfo → Type 0 = λ s. CanLay w c.args.types.now old (progress (written c.args.heap.now
    c.new-writer.new.bricks c.args.queue.now c.new-writer.result) c.args.from (first_place s)) starts free
    (segment_part old c.args.k []) (stretch c.args.k (first_place s) s.end)
    → HasLaid w c.args.types.now old (progress (written c.args.heap.now c.new-writer.new.bricks c.args.queue.now
    c.new-writer.result) c.args.from (first_place s)) (progress (written c.plan_part-counts.new.heap
    c.plan_part-counts.new.bricks
    c.plan_part-counts.new.queue c.plan_part-counts.new.laying.writer) c.plan_part-counts.new.laying.at
    c.plan_part-counts.new.laying.below) starts free
    (segment_part old c.args.k []) (stretch c.args.k (first_place s) s.end) in
    let laid = subst Q e (c.plan_part-counts.ensures.laid old w starts free (segment_part old c.args.k [])) lay in
    let R : SegInfo → Type 0 = λ s. (q : PlannedPart) → IsWriting c.plan_part-counts.new.heap
    c.plan_part-counts.new.bricks q
    c.plan_part-counts.new.laying.writer → q.high ≡ s.end → IsPlanned c.finish.new.heap c.finish.new.bricks q in
    let S : SegInfo → Type 0 = λ s. (i : ℕ) → (i < c.plan_part-counts.new.laying.writer.builder.brick)
    ⊎ ((s.end + 4095) / 4096 ≤ i) → entry_at c.finish.new.bricks i ≡ entry_at c.plan_part-counts.new.bricks i in
    laid-segment w c.args.types.now old c.args.heap.now c.args.bricks.now c.args.queue.now c.args.from starts free
    c.args.k below can c.info-segment.ensures.heap c.new-writer.new.bricks c.plan_part-counts.new.bricks
    c.new-writer.result
    c.plan_part-counts.new.laying.writer c.plan_part-counts.new.heap c.plan_part-counts.new.queue
    c.plan_part-counts.new.laying.below
    c.plan_part-counts.new.laying.at laid c.finish.new.heap c.finish.new.bricks (c.new-writer.ensures.bricks
    ∙ ap (λ (s : SegInfo). with_value c.args.bricks.now (first_place s / 4096 - 1) (pos 0)) e) value
    (subst R e c.finish.ensures.planned) c.finish.ensures.words c.finish.ensures.shape
    (subst S e c.finish.ensures.entries)

pub returns-clause-counted : goal.returns-clause-counted
returns-clause-counted c = λ old w starts free below can.
    let e : c.info-segment.result ≡ segment_at old c.args.k = c.info-segment.ensures.value
    ∙ ap (λ (h : HeapView). segment_at h c.args.k) can.words.shape.others in
    let value : c.new-writer.result ≡ record {
      builder = record { brick = first_of old c.args.k / 4096; plugs = [] };
      last = 0;
    } = c.new-writer.ensures.value
    ∙ ap (λ (s : SegInfo). let v : WriterView =
    record { builder = record { brick = first_place s / 4096; plugs = [] }; last = 0 } in v) e in
    let writing = c.new-writer.ensures.writing c.args.heap.now (segment_part old c.args.k [])
    (lay-part-of w c.args.types.now old c.args.heap.now c.args.bricks.now c.args.queue.now c.args.from starts free
    c.args.k below can c.info-segment.ensures.heap) (sym (ap first_place e)) refl can.covered in
    let lay = can-lay w c.args.types.now old c.args.heap.now c.args.bricks.now c.args.queue.now c.args.from starts free
    c.args.k below can c.info-segment.ensures.heap c.new-writer.new.bricks c.new-writer.result writing value in
    let Q : SegInfo → Type 0 = λ s. CanLay w c.args.types.now old (progress (written c.args.heap.now
    c.new-writer.new.bricks c.args.queue.now c.new-writer.result) c.args.from (first_place s)) starts free
    (segment_part old c.args.k []) (stretch c.args.k (first_place s) s.end)
    → HasCounted c.args.types.now old c.args.k s.end (first_place s) no_counts s.end c.plan_part-counts.result in
    subst Q e (c.plan_part-counts.ensures.counted old w starts free (segment_part old c.args.k [])) lay

pub returns-clause-shape : goal.returns-clause-shape
returns-clause-shape c = shape-on c.args.heap.now c.plan_part-counts.new.heap c.finish.new.heap
    c.plan_part-counts.ensures.shape
    c.finish.ensures.shape

pub returns-clause-spans : goal.returns-clause-spans
returns-clause-spans c = c.finish.ensures.spans ∙ c.plan_part-counts.ensures.spans ∙ ap spans
    c.new-writer.ensures.bricks
    ∙ spans-with_value c.args.bricks.now ((c.info-segment.result.base + 4096) / 4096 - 1) (pos 0)
