use Rattle.std.proofs.Common.{sym, ap, ◌∙◌, refl}
use Rattle.clr_heap.specs.View.{only_object}
use Rattle.clr_generations.proofs.FoundItems.{nowhere-found, only-free, only-other, start-found, walk-from-start}
use Rattle.clr_generations.proofs.finding.object_at.Goals as goal

pub returns-in_err-k : goal.returns-in_err-k
returns-in_err-k c =
    c.from_residual.ensures ∙ ap only_object (sym (nowhere-found c.args.types.now c.args.heap.now c.requires.held
    c.args.a (c.in_err-k.ensures.none refl)))

pub item_from-requires-clause-walk : goal.item_from-requires-clause-walk
item_from-requires-clause-walk c =
    (walk-from-start c.args.types.now c.args.heap.now c.in_ok-k.ensures.heap c.requires.held c.in_ok-k.k c.args.a
    c.walk_start-start.result c.in_ok-k.ensures.in_range c.in_ok-k.ensures.high c.walk_start-start.ensures).walk

pub returns-in_err-found : goal.returns-in_err-found
returns-in_err-found c =
    c.from_residual-in_err-found.ensures
    ∙ ap only_object (sym c.in_err-found.was
    ∙ start-found c.args.types.now c.args.heap.now c.in_ok-k.ensures.heap c.requires.held c.in_ok-k.k c.args.a
    c.walk_start-start.result c.in_ok-k.ensures.in_range c.in_ok-k.ensures.low c.in_ok-k.ensures.high
    c.walk_start-start.ensures c.item_from.result c.item_from.ensures)

pub returns-then-found-eq0 : goal.returns-then-found-eq0
returns-then-found-eq0 c =
    only-free c.in_ok-found.found _ (sym c.in_ok-found.was
    ∙ start-found c.args.types.now c.args.heap.now c.in_ok-k.ensures.heap c.requires.held c.in_ok-k.k c.args.a
    c.walk_start-start.result c.in_ok-k.ensures.in_range c.in_ok-k.ensures.low c.in_ok-k.ensures.high
    c.walk_start-start.ensures c.item_from.result c.item_from.ensures) c.if-found-eq0.true

pub returns-else-found-eq0 : goal.returns-else-found-eq0
returns-else-found-eq0 c =
    only-other c.in_ok-found.found _ (sym c.in_ok-found.was
    ∙ start-found c.args.types.now c.args.heap.now c.in_ok-k.ensures.heap c.requires.held c.in_ok-k.k c.args.a
    c.walk_start-start.result c.in_ok-k.ensures.in_range c.in_ok-k.ensures.low c.in_ok-k.ensures.high
    c.walk_start-start.ensures c.item_from.result c.item_from.ensures) c.if-found-eq0.false
