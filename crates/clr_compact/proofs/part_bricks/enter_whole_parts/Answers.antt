use Rattle.std.proofs.Common.{◌≡◌, ◌+◌, ◌<◌, ap, arith, length, subst, sym, ◌∙◌, true}
use Rattle.clr_types.specs.declared.segment.SegInfo.{SegInfo}
use Rattle.clr_heap.specs.View.{HeapView, segment_at}
use Rattle.clr_plugs.specs.BrickEntries.{BricksView}
use Rattle.clr_generations.specs.Laws.{IsBrickOf}
use Rattle.clr_moves.specs.Moves.{takes}
use Rattle.clr_compact.proofs.AllParts.{IsUnmarking, unmarked_same}
use Rattle.clr_compact.proofs.EnteringParts.{AreKeptElsewhere, kept-more}
use Rattle.clr_compact.proofs.PartWalks.{AreWholeUpTo, whole-more, whole-passes, whole-unmarked, whole-walk}
use Rattle.clr_compact.proofs.part_bricks.enter_whole_parts.Goals.{else-takes_part, then-takes_part}
use Rattle.clr_compact.proofs.part_bricks.enter_whole_parts.Goals as goal

pub enter_whole_part-requires-clause-walk : goal.enter_whole_part-requires-clause-walk
enter_whole_part-requires-clause-walk c =
    let h = c.args.heap.now in
    let k = c.loop-k.k in
    let unmarking = c.loop-k.invariant.unmarking in
    let n = c.segments-count.ensures.count in
    let inside : k < length h.segments = omega (arith, n, c.loop-k-test.true) in
    let same = ap (λ (x : HeapView). segment_at x k) unmarking.shape.others in
    let on : takes c.args.g (segment_at h k) ≡ true =
    ap (takes c.args.g) (sym (c.info.ensures.value ∙ same)) ∙ sym c.takes_part.ensures ∙ c.if-takes_part.true in
    whole-walk c.args.types.now c.args.g c.requires.whole h c.loop-k.heap c.segments-count.ensures.heap c.requires.parts
    k inside unmarking on

pub loop-k-preserved : goal.loop-k-preserved
loop-k-preserved c =
    let rows = c.args.types.now in
    let h = c.args.heap.now in
    let mid = c.loop-k.heap in
    let k = c.loop-k.k in
    let inv = c.loop-k.invariant in
    let heap = c.segments-count.ensures.heap in
    let n = c.segments-count.ensures.count in
    let inside : k < length h.segments = omega (arith, n, c.loop-k-test.true) in
    let same = ap (λ (x : HeapView). segment_at x k) inv.unmarking.shape.others in
    let told : takes c.args.g (segment_at h k) ≡ c.takes_part.result =
    ap (takes c.args.g) (sym (c.info.ensures.value ∙ same)) ∙ sym c.takes_part.ensures in
    let U : HeapView → Type 0 = λ x. IsUnmarking rows h x c.args.g (k + 1) in
    let K : BricksView → Type 0 = λ b. AreKeptElsewhere h c.args.g c.args.bricks.now b in
    let W : BricksView → Type 0 = λ b. AreWholeUpTo rows c.args.g h b (k + 1) in
    elim c.if-takes_part.branch [
      | then-takes_part w ↦
          let on = told ∙ w.if-takes_part.true in
          let done = w.enter_whole_part.ensures in
          record {
            unmarking = subst U (sym w.heap-is)
                (whole-unmarked rows c.args.g c.requires.whole h mid heap c.requires.parts k inside inv.unmarking on
                w.enter_whole_part.new.heap
                done.shape done.words);
            kept = subst K (sym w.bricks-is)
                (kept-more h c.args.g k c.args.bricks.now c.loop-k.bricks w.enter_whole_part.new.bricks heap inside on
                inv.kept
                (λ b out. done.others b (λ of. out (subst (λ (s : SegInfo). IsBrickOf s b) same of))) done.spans);
            entered = subst W (sym w.bricks-is)
                (whole-more rows c.args.g c.requires.whole h mid heap c.requires.parts k inside inv.unmarking
                c.loop-k.bricks inv.entered on
                w.enter_whole_part.new.bricks done.entered done.others);
          }
      | else-takes_part w ↦
          let off = told ∙ w.if-takes_part.false in
          record {
            unmarking = subst U (sym w.heap-is)
                (unmarked_same rows h c.args.g heap c.requires.parts mid k inside inv.unmarking off);
            kept = subst K (sym w.bricks-is) inv.kept;
            entered = subst W (sym w.bricks-is)
                (whole-passes rows c.args.g c.requires.whole h mid heap c.requires.parts k inside inv.unmarking
                c.loop-k.bricks inv.entered off);
          }
    ]

pub returns-clause-parts : goal.returns-clause-parts
returns-clause-parts c =
    let n = c.segments-count.ensures.count in
    let test = c.loop-k-test.false in
    λ final can t inside on. c.loop-k.invariant.entered final can t (omega (arith, n, test, inside)) inside on
