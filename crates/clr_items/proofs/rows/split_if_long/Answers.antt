use Rattle.std.proofs.Common.{◌+◌, Bool, ap, arith, sym}
use Rattle.std.proofs.Common.{◌∙◌, if◌then◌else◌}
use Rattle.std.specs.List.{insert}
use Rattle.clr_items.proofs.StretchRows.{split-row}
use Rattle.clr_items.proofs.rows.split_if_long.Goals as goal

pub returns-then-is_ok-clause-filled : goal.returns-then-is_ok-clause-filled
returns-then-is_ok-clause-filled c =
    let row = c.args.row.now.items in
    let fine = sym c.is_ok.ensures.value ∙ c.if-is_ok.true in
    let new = c.insert.ensures.items
    ∙ ap (λ (b : Bool). if b then insert row (c.args.k + 1) c.in-Some.upper else row) fine in
    let ok = c.args.row.now.ok in
    let within = c.requires.within in
    (split-row row c.insert.new.self.items c.args.k c.in-Some.upper c.index.result.now c.index-2.result.now
    c.index_mut.result.now c.cut.new.self (omega (arith, ok, within)) c.index.ensures c.index-2.ensures
    c.index_mut.ensures.value c.in-Some.ensures new c.cut.ensures (c.is_long.ensures c.if-not-is_long.false)).filled

pub returns-then-is_ok-clause-items : goal.returns-then-is_ok-clause-items
returns-then-is_ok-clause-items c =
    let row = c.args.row.now.items in
    let fine = sym c.is_ok.ensures.value ∙ c.if-is_ok.true in
    let new = c.insert.ensures.items
    ∙ ap (λ (b : Bool). if b then insert row (c.args.k + 1) c.in-Some.upper else row) fine in
    let ok = c.args.row.now.ok in
    let within = c.requires.within in
    (split-row row c.insert.new.self.items c.args.k c.in-Some.upper c.index.result.now c.index-2.result.now
    c.index_mut.result.now c.cut.new.self (omega (arith, ok, within)) c.index.ensures c.index-2.ensures
    c.index_mut.ensures.value c.in-Some.ensures new c.cut.ensures (c.is_long.ensures c.if-not-is_long.false)).items
