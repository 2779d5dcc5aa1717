use Rattle.std.proofs.Common.{◌-◌, ap, arith, length}
use Rattle.clr_items.proofs.StretchRows.{last-high, last-low}
use Rattle.clr_items.proofs.stretches.Stretch.is_below.Goals as goal

pub returns-clause-below : goal.returns-clause-below
returns-clause-below c = λ passes.
    let ok = c.self.inside.items.ok in
    let len = c.len.ensures in
    let some = c.requires.filled in
    let long = ap length c.self.view_is in
    last-low c.self.inside.items.items c.args.self.now (c.len.result - 1) c.args.place c.place.result c.index.result.now
    c.self.view_is (omega (arith, ok, len, some, long)) c.index.ensures c.place.ensures c.requires.rising passes

pub returns-clause-reached : goal.returns-clause-reached
returns-clause-reached c = λ fails.
    let ok = c.self.inside.items.ok in
    let len = c.len.ensures in
    let some = c.requires.filled in
    let long = ap length c.self.view_is in
    last-high c.self.inside.items.items c.args.self.now (c.len.result - 1) c.args.place c.place.result
    c.index.result.now c.self.view_is (omega (arith, ok, len, some, long)) c.index.ensures c.place.ensures fails
