use Rattle.std.proofs.Common.{◌+◌, ◌-◌, ◌%◌, ℕ, ap, ◌∙◌}
use Rattle.clr_heap.specs.View.{stored}
use Rattle.clr_mark.proofs.Graying.{mark_either}
use Rattle.clr_bgmark.proofs.last_pause.mark_at.Goals as goal

pub returns : goal.returns
returns c =
    let h = c.args.heap.now in
    let obj = c.args.obj in
    c.set_word_at.ensures
    ∙ ap (λ (n : ℕ). stored h obj (c.word_at-word.result + (1 - n))) c.mark_of-new.ensures
    ∙ ap (λ (w : ℕ). stored h obj (w + (1 - w % 2))) c.word_at-word.ensures
    ∙ mark_either h 2 obj c.requires.condemned
