-- What is found in the window, and what was before.
use Rattle.std.proofs.Common.{◌∙◌, ◌&&◌, Bool, sym, ap}
use Rattle.std.proofs.lemmas.Bool.{and_parts}
use Rattle.clr_sos.proofs.BothGood.{both_true}
use Rattle.clr_sos.proofs.JudgedViews.{good_by_bits}
use Rattle.clr_sos.proofs.verify.names.judge_window.Goals as goal

pub returns : goal.returns
returns c =
    let view = c.args.view.now in
    let all = c.together.ensures in
    let old = c.args.before in
    record {
      low = all.low ∙ c.judge_heap-low.ensures;
      locals =
          all.locals
          ∙ ap (λ (b : Bool). old.locals && b)
          (c.are_good-locals.ensures
          ∙ good_by_bits view.types.now view.heap.now c.args.window c.args.bits.now c.requires view.locals.now);
      handles = (
        λ e. let p = and_parts old.handles c.are_handles_good-handles.result (sym all.handles ∙ e) in (
          p.0,
          c.are_handles_good-handles.ensures.0 p.1,
        ),
        λ p. all.handles
            ∙ both_true old.handles c.are_handles_good-handles.result p.0 (c.are_handles_good-handles.ensures.1 p.1),
      );
      finals = all.finals ∙ ap (λ (b : Bool). old.finals && b) c.are_queues_final-finals.ensures;
    }
