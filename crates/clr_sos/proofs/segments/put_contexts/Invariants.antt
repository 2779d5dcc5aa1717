use Rattle.std.proofs.Common.{◌≡◌, ◌++◌, take}
use Rattle.std.specs.List.{enumerate_from, flat_map}
use Rattle.clr_model.specs.Sos.{context_line}
use Rattle.clr_sos.proofs.segments.put_contexts.Given as goal

abbrev pub invariant-loop-k : goal.invariant-loop-k
invariant-loop-k l =
    l.text.items ≡ l.initial.text.items ++ flat_map context_line (take l.k (enumerate_from 1 l.heap.rests))
