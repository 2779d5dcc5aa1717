use Rattle.clr_final.proofs.JudgeSteps.{IsSorting}
use Rattle.clr_final.proofs.judging.judge_from.Given as goal

abbrev pub invariant-loop-i : goal.invariant-loop-i
invariant-loop-i g l =
    IsSorting (λ place verdict. goal.F-post g l.judge place verdict) l.low l.initial.entries l.initial.ready l.i l.kept
    l.entries l.ready
