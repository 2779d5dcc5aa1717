use Rattle.std.proofs.Common.{◌≡◌, ◌+◌, ◌<◌, ◌∙◌, ap, refl, subst, length, arith}
use Rattle.clr_heap.specs.View.{segment_at}
use Rattle.clr_types.specs.Segments.{reserved_end}
use Rattle.clr_types.specs.declared.segment.SegInfo.{SegInfo}
use Rattle.clr_reloc.specs.Clearing.{HaveCleared}
use Rattle.clr_reloc.proofs.ClearedCards.{cleared_more, in_row}
use Rattle.clr_reloc.proofs.clearing.clear_cards.Goals as goal

pub loop-k-init : goal.loop-k-init
loop-k-init c = record { cleared = λ j l. absurd (omega (arith, l)); kept = λ i on. on; same = refl }

pub clear_between-requires-clause-small : goal.clear_between-requires-clause-small
clear_between-requires-clause-small c =
    let same = ap reserved_end c.info-segment.ensures.value in
    let below = c.info-segment.ensures.below_top in
    let fits = c.info-segment.ensures.fits in
    omega (arith, same, below, fits)

pub clear_between-requires-clause-row : goal.clear_between-requires-clause-row
clear_between-requires-clause-row c =
    let count = c.segments-count.ensures.count in
    let test = c.loop-k-test.true in
    in_row c.args.heap.now c.args.cards.now c.loop-k.cards c.loop-k.k c.info-segment.result c.info-segment.ensures.heap
    c.requires (omega (arith, count, test)) c.info-segment.ensures.value c.loop-k.invariant.same

pub loop-k-preserved : goal.loop-k-preserved
loop-k-preserved c =
    let h = c.args.heap.now in
    let inv = c.loop-k.invariant in
    let more = c.clear_between.ensures in record {
      cleared = cleared_more (λ j. (segment_at h j).base) (λ j. reserved_end (segment_at h j)) c.args.cards.now
          c.loop-k.cards c.clear_between.new.cards c.loop-k.k inv.cleared inv.kept inv.same
          (subst (λ (s : SegInfo). HaveCleared c.loop-k.cards c.clear_between.new.cards s.base (reserved_end s))
          c.info-segment.ensures.value more);
      kept = λ i on. inv.kept i (more.kept i on);
      same = more.spans ∙ inv.same;
    }

pub returns-clause-cleared : goal.returns-clause-cleared
returns-clause-cleared c k l =
    let count = c.segments-count.ensures.count in
    let past = c.loop-k-test.false in
    c.loop-k.invariant.cleared k (omega (arith, count, past, l))

pub returns-clause-spans : goal.returns-clause-spans
returns-clause-spans c = c.loop-k.invariant.same
