use Rattle.std.proofs.Common.{ap, sym, ◌∙◌}
use Rattle.clr_sweep.specs.Swept.{tally_of}
use Rattle.clr_sweep.specs.SweptItems.{items_from, tally_among}
use Rattle.clr_sweep.proofs.Counted.{young-counted}
use Rattle.clr_sweep.proofs.Tallies.{none-plus}
use Rattle.clr_sweep.proofs.YoungPart.{below_two}
use Rattle.clr_sweep.proofs.YoungWhole.{as-seen, part_parted}
use Rattle.clr_sweep.proofs.counting.count.Goals as goal

pub returns-then-g-eq2 : goal.returns-then-g-eq2
returns-then-g-eq2 c =
    c.count_whole.ensures ∙ ap (tally_of c.args.types.now c.args.heap.now) (sym c.if-g-eq2.true)

pub count_part-requires-clause-parted : goal.count_part-requires-clause-parted
count_part-requires-clause-parted c =
    rw c.start_of-from.ensures (part_parted c.args.types.now c.args.heap.now c.ephemeral-k.ensures.heap c.requires.held
    c.requires.no_contexts c.requires.laid c.args.g (below_two c.args.g c.requires.generation c.if-g-eq2.false)
    c.ephemeral-k.result c.ephemeral-k.ensures.in_range c.ephemeral-k.ensures.segment)

pub returns : goal.returns
returns c =
    c.count_part.ensures.tally
    ∙ none-plus (tally_among c.args.heap.now (items_from c.args.types.now c.args.heap.now c.ephemeral-k.result
    c.start_of-from.result))
    ∙ rw c.start_of-from.ensures (young-counted c.args.types.now c.args.heap.now c.requires.laid.0
    c.ephemeral-k.ensures.heap c.requires.held c.requires.no_contexts
    (as-seen c.args.types.now c.args.heap.now c.ephemeral-k.ensures.heap c.requires.held c.requires.no_contexts
    c.requires.laid c.args.g (below_two c.args.g c.requires.generation c.if-g-eq2.false))
    c.args.g (below_two c.args.g c.requires.generation c.if-g-eq2.false)
    c.ephemeral-k.result c.ephemeral-k.ensures.in_range c.ephemeral-k.ensures.segment)
