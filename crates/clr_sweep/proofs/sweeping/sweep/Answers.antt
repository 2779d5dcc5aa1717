use Rattle.std.proofs.Common.{ap, sym, ◌∙◌, subst}
use Rattle.clr_sweep.specs.Swept.{HasSwept, tally_of}
use Rattle.clr_sweep.proofs.YoungPart.{below_two}
use Rattle.clr_sweep.proofs.sweeping.sweep.Goals as goal

pub sweep_part-requires-clause-generation : goal.sweep_part-requires-clause-generation
sweep_part-requires-clause-generation c = below_two c.args.g c.requires.generation c.if-g-eq2.false

pub returns-then-g-eq2-clause-swept : goal.returns-then-g-eq2-clause-swept
returns-then-g-eq2-clause-swept c =
    subst (λ n. HasSwept c.args.types.now c.args.heap.now c.sweep_whole.new.heap n) (sym c.if-g-eq2.true)
    c.sweep_whole.ensures.swept

pub returns-then-g-eq2-clause-tally : goal.returns-then-g-eq2-clause-tally
returns-then-g-eq2-clause-tally c =
    c.sweep_whole.ensures.tally ∙ ap (tally_of c.args.types.now c.args.heap.now) (sym c.if-g-eq2.true)
