use Rattle.std.proofs.Common.{◌≡◌, ◌+◌, ◌*◌, ◌^◌, ◌≤◌, ◌++◌, ◌-◌, ℕ, List, length, take}
use Rattle.clr_session.specs.FrontLines.{GoesOver}
use Rattle.clr_session.proofs.pending.answer_lines.Given as goal

abbrev pub invariant-loop-buffer : goal.invariant-loop-buffer
invariant-loop-buffer l = record {
  read : l.from ≤ length l.text;
  behind : l.at ≤ l.end;
  within : l.end ≤ length l.buffer;
  kept : take l.at l.buffer ≡ take l.at l.initial.buffer;
  idle : l.from ≡ 0 → l.runtime ≡ l.initial.runtime;
  answered : (reply : List ℕ) × GoesOver l.initial.runtime.machine (take l.from l.text) reply l.runtime.machine
      × (take l.end l.buffer ≡ take l.at l.initial.buffer ++ reply);
  grows : l.runtime.machine.layout.top ≤ l.initial.runtime.machine.layout.top + 2 ^ 30 * l.from;
}

abbrev pub decreases-loop-buffer : goal.decreases-loop-buffer
decreases-loop-buffer l = length l.text - l.from
