use Rattle.std.proofs.Common.{◌-◌, Bool, List, [], ◌∷◌, ◌++◌, ap, arith, set, ◌∙◌, if◌then◌else◌}
use Rattle.clr_types.specs.Ranges.{Piece}
use Rattle.clr_items.specs.Stretches.{all_of}
use Rattle.clr_items.proofs.StretchRows.{grown-last}
use Rattle.clr_items.proofs.rows.add_last.Goals as goal

pub returns-then-has_room-clause-added : goal.returns-then-has_room-clause-added
returns-then-has_room-clause-added c = λ done.
    let row = c.args.row.now.items in
    let last = c.index_mut-last.result.now in
    let x = c.args.item in
    let ok = c.args.row.now.ok in
    let len = c.len-count.ensures in
    let some = c.if-count-gt0.true in
    ap (λ (s : List Piece). all_of (set row (c.len-count.result - 1) s))
    (c.push.ensures ∙ ap (λ (b : Bool). if b then last ++ x ∷ [] else last) done
    ∙ ap (λ (s : List Piece). s ++ x ∷ []) c.index_mut-last.ensures.value)
    ∙ grown-last row (c.len-count.result - 1) last x (omega (arith, ok, len, some))
