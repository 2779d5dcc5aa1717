use Rattle.std.proofs.Common.{◌∙◌, ap, not, ◌&&◌, ◌==◌, ℕ}
use Rattle.clr_types.specs.Bits.{has_pin}
use Rattle.clr_types.specs.Segments.{generation}
use Rattle.clr_heap.specs.View.{frame}
use Rattle.clr_view.specs.Marks.{has_mark}
use Rattle.clr_view.specs.View.{is_object}
use Rattle.clr_evacuate.proofs.PassedItems.{look_tells}
use Rattle.clr_evacuate.proofs.fittings.look.Goals as goal

pub returns-clause-may_fit : goal.returns-clause-may_fit
returns-clause-may_fit c =
    let h = c.args.heap.now in
    let mt = c.word_at-mt.result in
    let found = c.item_of_word-found.result in
    c.may_go.ensures
    ∙ (λ j. (c.is_kept.ensures j && (c.gen_of.ensures j == 1)) && not (c.is_pinned-pinned.ensures j))
    ∙ ap (λ (w : ℕ). ((is_object found && has_mark mt) && (generation (frame h) c.args.place == 1)) && not (has_pin w))
    c.word_at.ensures
    ∙ look_tells c.args.types.now h c.args.place mt found c.word_at-mt.ensures c.item_of_word-found.ensures
