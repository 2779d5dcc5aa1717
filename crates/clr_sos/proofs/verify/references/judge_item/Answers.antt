use Rattle.clr_sos.proofs.CellPlaces.{listed_facts}
use Rattle.clr_sos.proofs.verify.references.judge_item.Goals as goal

pub reference_run-requires : goal.reference_run-requires
reference_run-requires c =
    (listed_facts c.args.judge.now.types.now c.args.judge.now.heap.now c.args.k c.args.item c.requires.judging.heap
    c.requires.judging.walkable c.requires.in_range c.requires.listed).known
