-- Window by window.
use Rattle.std.proofs.Common.{◌≡◌, Bool, length, sym, subst, refl, arith}
use Rattle.clr_sos.specs.JudgedTables.{IsJudgedBefore}
use Rattle.clr_sos.specs.Windows.{IsCovered}
use Rattle.clr_sos.proofs.JudgedViews.{judged_all, judged_starts, judged_step}
use Rattle.clr_sos.proofs.verify.names.judge_names.Goals as goal

pub loop-more-init : goal.loop-more-init
loop-more-init c =
    record { judged = judged_starts c.args.view.now; small = λ e. omega arith; aligned = λ e. refl }

pub judge_window-names-requires : goal.judge_window-names-requires
judge_window-names-requires c =
    let view = c.args.view.now in
    let window = c.window_from-window.result in
    let count : length c.loop-more.bits ≡ length c.mark_starts.new.bits = sym c.mark_starts.auto.bits in
    record {
      heap = c.requires.heap;
      walkable = c.requires.walkable;
      aligned = c.window_from-window.ensures.start;
      marked = c.mark_starts.ensures;
      covered = subst (IsCovered view.heap.now window) count c.window_from-window.ensures.covered;
    }

pub loop-more-preserved : goal.loop-more-preserved
loop-more-preserved c =
    let view = c.args.view.now in
    let window = c.window_from-window.result in
    let w = c.window_from-window.ensures in
    record {
      judged =
          judged_step view window c.loop-more.from w.from w.further c.loop-more.names c.judge_window-names.result
          (subst (λ (m : Bool). IsJudgedBefore view c.loop-more.from m c.loop-more.names) c.loop-more-test.true
          c.loop-more.invariant.judged) c.judge_window-names.ensures;
      small = λ e. w.small (grind (arith, e));
      aligned = λ e. w.end (grind (arith, e));
    }

pub returns : goal.returns
returns c =
    judged_all c.args.view.now c.loop-more.from c.loop-more.names
    (subst (λ (m : Bool). IsJudgedBefore c.args.view.now c.loop-more.from m c.loop-more.names) c.loop-more-test.false
    c.loop-more.invariant.judged)
