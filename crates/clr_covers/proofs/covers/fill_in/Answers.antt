use Rattle.clr_covers.proofs.Filling.{AreApart-set, kept-span, spans-set, value_at-filled}
use Rattle.clr_covers.proofs.Values.{part_bounds}
use Rattle.clr_covers.proofs.covers.fill_in.Goals as goal

pub fill-requires-clause-first : goal.fill-requires-clause-first
fill-requires-clause-first g c =
    let r = c.requires in
    (part_bounds _ c.args.k c.args.from c.args.past _ c.index_mut-cover.ensures.value r.apart r.at r.some r.shared).0

pub fill-requires-clause-last : goal.fill-requires-clause-last
fill-requires-clause-last g c =
    let r = c.requires in
    (part_bounds _ c.args.k c.args.from c.args.past _ c.index_mut-cover.ensures.value r.apart r.at r.some r.shared).1

pub returns-clause-values : goal.returns-clause-values
returns-clause-values g c =
    let r = c.requires in
    let e = c.fill.ensures in
    value_at-filled c.args.covers.now.items c.args.k c.args.from c.args.past c.index_mut-cover.result.now
    c.fill.new.self
    c.args.v c.index_mut-cover.ensures.value r.apart r.at r.some r.shared e.first e.count e.values

pub returns-clause-spans : goal.returns-clause-spans
returns-clause-spans g c =
    let cs = c.args.covers.now.items in
    let m = c.index_mut-cover.result.now in
    let e = c.fill.ensures in
    spans-set cs c.args.k c.fill.new.self m
    (kept-span cs c.args.k m c.fill.new.self c.index_mut-cover.ensures.value e.first e.count)

pub returns-clause-apart : goal.returns-clause-apart
returns-clause-apart g c =
    let cs = c.args.covers.now.items in
    let m = c.index_mut-cover.result.now in
    let e = c.fill.ensures in
    AreApart-set cs c.args.k c.fill.new.self m
    (kept-span cs c.args.k m c.fill.new.self c.index_mut-cover.ensures.value e.first e.count) c.requires.apart
