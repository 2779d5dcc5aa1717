use Rattle.std.proofs.Common.{sym, ◌∙◌}
use Rattle.clr_plan.proofs.Looking.{look-none, look-some}
use Rattle.clr_plan.proofs.look.look.Goals.{else-is_kept, then-is_kept}
use Rattle.clr_plan.proofs.look.look.Goals as goal

pub returns-clause-kept : goal.returns-clause-kept
returns-clause-kept c =
    elim c.if-is_kept.branch [
      | then-is_kept w ↦ w.kept-is
          ∙ look-some c.args.types.now c.args.heap.now c.args.k c.args.place c.word_at-mt.result
          c.tell-told.result.is_object c.word_at-mt.ensures c.tell-told.ensures.object
          (sym c.is_kept.ensures ∙ w.if-is_kept.true) c.tell-told.result.size c.tell-told.ensures.size
          w.plug_at.result w.plug_at.ensures
      | else-is_kept w ↦ w.kept-is
          ∙ look-none c.args.types.now c.args.heap.now c.args.k c.args.place c.word_at-mt.result
          c.tell-told.result.is_object c.word_at-mt.ensures c.tell-told.ensures.object
          (sym c.is_kept.ensures ∙ w.if-is_kept.false)
    ]
