use Rattle.std.proofs.Common.{◌≡◌, ap, arith, sym, true, false, ◌∙◌}
use Rattle.clr_types.specs.Segments.{same_kind}
use Rattle.clr_types.specs.declared.segment.SegInfo.{SegInfo}
use Rattle.clr_types.specs.declared.segment.SegKind.TheVariants.{Large}
use Rattle.clr_heap.specs.View.{segment_at}
use Rattle.clr_heap.proofs.Rewrite.{shaped_heap}
use Rattle.clr_mark.proofs.LargeMarks.{large_held, large_marked, large_more, large_over, large_same, large_starts}
use Rattle.clr_mark.proofs.large.mark_large.Goals as goal
use Rattle.clr_mark.proofs.large.mark_large.Goals.{then-is_large, else-is_large}

pub loop-k-init : goal.loop-k-init
loop-k-init c = large_starts c.args.types.now c.args.heap.now

pub mark_segment-requires : goal.mark_segment-requires
mark_segment-requires c =
    let r = c.loop-k.invariant in
    let same = large_same c.args.types.now c.args.heap.now c.loop-k.heap c.loop-k.k c.segments-count.ensures.heap
    c.requires r in
    record {
      heap = shaped_heap c.args.heap.now c.loop-k.heap r.remarked.shape c.segments-count.ensures.heap;
      held = large_held c.args.types.now c.args.heap.now c.loop-k.heap c.loop-k.k c.segments-count.ensures.heap
          c.requires r;
      in_range = omega (arith, same, c.segments-count.ensures.count);
    }

pub loop-k-preserved : goal.loop-k-preserved
loop-k-preserved c = elim c.if-is_large.branch [
  | then-is_large b ↦
      let on : same_kind Large (segment_at c.loop-k.heap c.loop-k.k).kind ≡ true =
      ap (λ (s : SegInfo). same_kind Large s.kind) (sym c.info.ensures.value) ∙ sym c.is_large.ensures
      ∙ b.if-is_large.true in
      rw b.heap-is
      (large_more c.args.types.now c.args.heap.now c.loop-k.heap c.loop-k.k c.segments-count.ensures.heap c.requires
      c.loop-k.invariant b.mark_segment.new.heap (omega (arith, c.segments-count.ensures.count)) on
      b.mark_segment.ensures.words b.mark_segment.ensures.kept b.mark_segment.ensures.outside
      b.mark_segment.ensures.marked)
  | else-is_large b ↦
      let off : same_kind Large (segment_at c.loop-k.heap c.loop-k.k).kind ≡ false =
      ap (λ (s : SegInfo). same_kind Large s.kind) (sym c.info.ensures.value) ∙ sym c.is_large.ensures
      ∙ b.if-is_large.false in
      rw b.heap-is
      (large_over c.args.types.now c.args.heap.now c.loop-k.heap c.loop-k.k c.segments-count.ensures.heap c.requires
      c.loop-k.invariant off)
]

pub returns-clause-marked : goal.returns-clause-marked
returns-clause-marked c = large_marked c.args.types.now c.args.heap.now c.loop-k.heap c.loop-k.k
    c.segments-count.ensures.heap c.requires c.loop-k.invariant (omega (arith, c.segments-count.ensures.count))
