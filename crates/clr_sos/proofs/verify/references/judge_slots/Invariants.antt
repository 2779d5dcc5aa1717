use Rattle.std.proofs.Common.{◌≡◌, ◌+◌, ◌++◌, map}
use Rattle.clr_sos.specs.Windows.{lowest_bad}
use Rattle.clr_sos.proofs.verify.references.judge_slots.Given as goal

abbrev pub invariant-loop-offset : goal.invariant-loop-offset
invariant-loop-offset l = record {
  walked : l.yielded ++ l.offset-iterator ≡ l.initial.offset-iterator;
  low : l.low ≡ lowest_bad l.judge l.initial.low (map (λ offset. l.item.place + offset) l.yielded);
}
