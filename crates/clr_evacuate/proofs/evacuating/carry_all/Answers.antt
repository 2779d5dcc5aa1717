use Rattle.std.proofs.Common.{ℕ, subst, sym}
use Rattle.clr_model.specs.Fitting.{fit, older_items}
use Rattle.clr_view.specs.View.{layout_in}
use Rattle.clr_evacuate.specs.FittedAll.{CanCarryBetween, HasMade}
use Rattle.clr_evacuate.specs.Fittings.{fitting_between}
use Rattle.clr_evacuate.proofs.FitOfHeap.{can_carry, laid_order, made_for}
use Rattle.clr_evacuate.proofs.evacuating.carry_all.Goals as goal

pub carry_between-requires-clause-order : goal.carry_between-requires-clause-order
carry_between-requires-clause-order c = laid_order c.args.types.now c.args.heap.now c.requires.laid

pub carry_between-requires-clause-can : goal.carry_between-requires-clause-can
carry_between-requires-clause-can c =
    subst (λ (s : ℕ × ℕ). CanCarryBetween c.args.types.now c.args.heap.now c.ephemeral-k.result s.0 s.1)
    (sym c.boundaries-start1.ensures)
    (can_carry c.args.types.now c.args.heap.now c.ephemeral-k.ensures.heap c.requires.held c.requires.no_contexts
    c.ephemeral-k.result c.ephemeral-k.ensures.in_range c.ephemeral-k.ensures.segment c.requires.laid)

pub returns-clause-made : goal.returns-clause-made
returns-clause-made c =
    made_for c.args.types.now c.args.heap.now c.ephemeral-k.ensures.heap c.requires.held c.requires.no_contexts
    c.ephemeral-k.result c.ephemeral-k.ensures.in_range c.ephemeral-k.ensures.segment
    c.carry_between.new.heap c.carry_between.result c.requires.free_heads
    (subst (λ (s : ℕ × ℕ). HasMade c.args.types.now c.args.heap.now c.carry_between.new.heap s.0
    (fit (fitting_between c.args.types.now c.args.heap.now c.ephemeral-k.result s.0 s.1)
    (older_items (layout_in c.args.types.now c.args.heap.now))) c.carry_between.result)
    c.boundaries-start1.ensures c.carry_between.ensures.made)

pub returns-clause-bricks : goal.returns-clause-bricks
returns-clause-bricks c = c.carry_between.ensures.bricks

pub returns-clause-spans : goal.returns-clause-spans
returns-clause-spans c = c.carry_between.ensures.spans
