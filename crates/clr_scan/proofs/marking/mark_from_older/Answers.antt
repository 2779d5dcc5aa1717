use Rattle.std.proofs.Common.{arith}
use Rattle.clr_scan.proofs.WholeScans.{none_older}
use Rattle.clr_scan.proofs.marking.mark_from_older.Goals as goal

pub scan_cards-requires-clause-parts : goal.scan_cards-requires-clause-parts
scan_cards-requires-clause-parts c =
    c.requires.parts (let few = c.if-is_young.true in let same = c.oldest-is_young.ensures in omega (arith, few, same))

pub returns-else-is_young-clause-marked : goal.returns-else-is_young-clause-marked
returns-else-is_young-clause-marked c =
    none_older c.args.types.now c.args.heap.now c.args.marker.now c.requires.gray c.requires.idle
    (let many = c.if-is_young.false in let same = c.oldest-is_young.ensures in omega (arith, many, same))
