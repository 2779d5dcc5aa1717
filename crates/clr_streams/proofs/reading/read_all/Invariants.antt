use Rattle.std.proofs.Common.{◌≡◌, ◌+◌, length}
use Rattle.clr_streams.specs.Faults.{Taken}
use Rattle.clr_streams.proofs.reading.read_all.Given as goal

abbrev pub invariant-loop-count : goal.invariant-loop-count
invariant-loop-count g l = record {
  taken : Taken (g.S.Source.held l.initial.source) (g.S.Source.held l.source) l.bytes.items;
  counted : g.S.Source.faults l.source ≡ g.S.Source.faults l.initial.source;
  left : length l.bytes.items + l.left ≡ l.limit;
}

abbrev pub decreases-loop-count : goal.decreases-loop-count
decreases-loop-count g l = l.left
