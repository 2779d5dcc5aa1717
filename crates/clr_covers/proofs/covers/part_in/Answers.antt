use Rattle.clr_covers.proofs.Values.{part_bounds, part_count, part_fits, part_values}
use Rattle.clr_covers.proofs.covers.part_in.Goals as goal

pub part-requires-clause-first : goal.part-requires-clause-first
part-requires-clause-first g c =
    let r = c.requires in
    (part_bounds _ c.args.k c.args.from c.args.past _ c.index-cover.ensures r.apart r.at r.some r.shared).0

pub part-requires-clause-last : goal.part-requires-clause-last
part-requires-clause-last g c =
    let r = c.requires in
    (part_bounds _ c.args.k c.args.from c.args.past _ c.index-cover.ensures r.apart r.at r.some r.shared).1

pub returns-clause-count : goal.returns-clause-count
returns-clause-count g c =
    let r = c.requires in
    part_count _ c.args.k c.args.from c.args.past _ c.index-cover.ensures r.apart r.at r.some r.shared
    _ c.part.ensures

pub returns-clause-values : goal.returns-clause-values
returns-clause-values g c =
    let r = c.requires in
    part_values _ c.args.k c.args.from c.args.past _ c.index-cover.ensures r.apart r.at r.some r.shared
    _ c.part.ensures

pub returns-clause-fits : goal.returns-clause-fits
returns-clause-fits g c =
    let r = c.requires in
    part_fits _ c.args.k c.args.from c.args.past _ c.index-cover.ensures r.apart r.at r.some r.shared
