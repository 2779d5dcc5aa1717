use Rattle.std.proofs.Common.{Bool, List, [], ◌∷◌, ◌++◌, ap, sym, ◌∙◌, if◌then◌else◌, append-nil}
use Rattle.clr_types.specs.Ranges.{Piece}
use Rattle.clr_items.specs.Stretches.{all_of}
use Rattle.clr_items.proofs.StretchRows.{all-append}
use Rattle.clr_items.proofs.rows.begin_stretch.Goals as goal

pub returns-clause-added : goal.returns-clause-added
returns-clause-added c = λ done.
    let row = c.args.row.now.items in
    let s = c.in-Some.stretch in
    let fine = sym c.is_ok.ensures.value ∙ done in
    ap all_of (c.push.ensures.items ∙ ap (λ (b : Bool). if b then row ++ s ∷ [] else row) fine)
    ∙ all-append row (s ∷ [])
    ∙ ap (λ (ps : List Piece). all_of row ++ ps) (append-nil s ∙ c.in-Some.ensures)
