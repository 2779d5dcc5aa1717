use Rattle.std.proofs.Common.{◌≡◌, ◌-◌, ◌%◌, ◌^◌, ◌≤◌, true, if◌then◌else◌}
use Rattle.clr_sos.specs.JudgedTables.{IsJudgedBefore}
use Rattle.clr_sos.proofs.verify.names.judge_names.Given as goal

abbrev pub invariant-loop-more : goal.invariant-loop-more
invariant-loop-more l = record {
  judged : IsJudgedBefore l.view l.from l.more l.names;
  small : l.more ≡ true → l.from ≤ 2 ^ 63;
  aligned : l.more ≡ true → l.from % 8 ≡ 0;
}

abbrev pub decreases-loop-more : goal.decreases-loop-more
decreases-loop-more l = if l.more then 2 ^ 64 - l.from else 0
