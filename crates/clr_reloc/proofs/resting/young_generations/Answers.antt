use Rattle.std.proofs.Common.{◌≡◌, ℕ, ap, sym, ◌∙◌, arith}
use Rattle.clr_types.specs.Segments.{ephemeral}
use Rattle.clr_heap.specs.View.{frame}
use Rattle.clr_model.specs.Sweep.{part_start}
use Rattle.clr_moves.proofs.SegmentsBelow.{first_young, young_start0, young_start1}
use Rattle.clr_reloc.proofs.resting.young_generations.Goals as goal

pub returns-then-g-eq0 : goal.returns-then-g-eq0
returns-then-g-eq0 c =
    let h = c.args.heap.now in
    ap (λ (p : ℕ × ℕ). p.1) c.boundaries-start1.ensures
    ∙ sym (young_start0 (frame h) (ephemeral (frame h)) (first_young h.segments))
    ∙ sym (ap (λ (g : ℕ). part_start (frame h) g (ephemeral (frame h))) c.if-g-eq0.true)

pub returns-else-g-eq0 : goal.returns-else-g-eq0
returns-else-g-eq0 c =
    let h = c.args.heap.now in
    let few = c.requires in
    let ne = c.if-g-eq0.false in
    let one : c.args.g ≡ 1 = omega (arith, few, ne) in
    ap (λ (p : ℕ × ℕ). p.0) c.boundaries-start1.ensures
    ∙ sym (young_start1 (frame h) (ephemeral (frame h)) (first_young h.segments))
    ∙ sym (ap (λ (g : ℕ). part_start (frame h) g (ephemeral (frame h))) one)
