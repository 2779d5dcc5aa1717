use Rattle.std.proofs.Common.{◌≡◌, ℕ, ap, sym, ◌∙◌, subst}
use Rattle.clr_bricks.specs.Bricks.{entry_at}
use Rattle.clr_generations.specs.Laws.{BrickLaw}
use Rattle.clr_heap.specs.View.{frame, HeapView, IsHeap}
use Rattle.clr_view.specs.View.{objects_in}
use Rattle.clr_sweep.specs.SweptLarge.{AreLargeRenewed, HasSweptLarge, HaveLargeBricks, is_large}
use Rattle.clr_sweep.specs.SweptSegments.{AreSwept}
use Rattle.clr_sweep.proofs.LargeSwept.{bounded_as}
use Rattle.clr_sweep.proofs.LargeWhole.{has_swept_large, large-law, low-bricks}
use Rattle.clr_sweep.proofs.LawfulHeaps.{bounded_heap}
use Rattle.clr_sweep.proofs.large.sweep_large.Goals as goal

pub renew_large_bricks-requires-clause-heap : goal.renew_large_bricks-requires-clause-heap
renew_large_bricks-requires-clause-heap c =
    subst IsHeap (sym c.set_boundaries.ensures) (bounded_heap c.args.heap.now 0 0 c.segments-count.ensures.heap)

pub sweep_large_segments-requires-clause-heap : goal.sweep_large_segments-requires-clause-heap
sweep_large_segments-requires-clause-heap c =
    subst IsHeap (sym c.set_boundaries.ensures) (bounded_heap c.args.heap.now 0 0 c.segments-count.ensures.heap)

pub renew_large_bricks-requires-clause-law : goal.renew_large_bricks-requires-clause-law
renew_large_bricks-requires-clause-law c =
    subst (λ (h : HeapView). HaveLargeBricks c.args.types.now h c.args.bricks.now) (sym c.set_boundaries.ensures)
    (low-bricks c.args.types.now c.args.heap.now c.segments-count.ensures.heap c.requires.held c.requires.no_contexts
    (bounded_heap c.args.heap.now 0 0 c.segments-count.ensures.heap) c.args.bricks.now c.requires.brick_law)

pub returns-clause-swept : goal.returns-clause-swept
returns-clause-swept c =
    let rows = c.args.types.now in
    let old = c.args.heap.now in
    let mid = c.sweep_large_segments.new.heap in
    let back : c.set_boundaries-2.new.self ≡ bounded_as old mid = c.set_boundaries-2.ensures
    ∙ ap (λ (b : ℕ × ℕ). record mid { start1 = b.0; start0 = b.1 }) c.boundaries-start1.ensures in
    subst (λ (h : HeapView). HasSweptLarge rows old h) (sym back)
    (has_swept_large rows old c.segments-count.ensures.heap c.requires.held c.requires.no_contexts
    (bounded_heap c.args.heap.now 0 0 c.segments-count.ensures.heap) mid
    (subst (λ (h : HeapView). AreSwept rows h mid (is_large h)) c.set_boundaries.ensures
    c.sweep_large_segments.ensures.swept)
    (bounded_heap mid old.start1 old.start0 c.sweep_large_segments.ensures.lawful))

pub returns-clause-brick_law : goal.returns-clause-brick_law
returns-clause-brick_law c =
    let rows = c.args.types.now in
    let old = c.args.heap.now in
    let mid = c.sweep_large_segments.new.heap in
    let after = c.renew_large_bricks.new.bricks in
    let back : c.set_boundaries-2.new.self ≡ bounded_as old mid = c.set_boundaries-2.ensures
    ∙ ap (λ (b : ℕ × ℕ). record mid { start1 = b.0; start0 = b.1 }) c.boundaries-start1.ensures in
    subst (λ (h : HeapView). BrickLaw rows (frame h) (objects_in rows h) (entry_at after)) (sym back)
    (large-law rows old c.segments-count.ensures.heap c.requires.held c.requires.no_contexts
    (bounded_heap c.args.heap.now 0 0 c.segments-count.ensures.heap) mid
    (subst (λ (h : HeapView). AreSwept rows h mid (is_large h)) c.set_boundaries.ensures
    c.sweep_large_segments.ensures.swept)
    (bounded_heap mid old.start1 old.start0 c.sweep_large_segments.ensures.lawful) c.args.bricks.now after
    c.requires.brick_law
    (subst (λ (h : HeapView). AreLargeRenewed rows h c.args.bricks.now after) c.set_boundaries.ensures
    c.renew_large_bricks.ensures))
