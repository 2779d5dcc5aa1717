use Rattle.std.proofs.Common.{◌≡◌, ℕ, ◌-◌, ◌<◌, ◌≤◌, None, length, get_or}
use Rattle.clr_pinq.specs.Queue.{entry_word}
use Rattle.clr_pinq.specs.declared.entry.PinEntry.{PinEntry}
use Rattle.clr_pinq.proofs.queue.PinQueue.next_saved.Given as goal

abbrev pub invariant-loop-i : goal.invariant-loop-i
invariant-loop-i l = record {
  within : l.i ≤ length l.self-inside.entries.items;
  none : (j b : ℕ) (d : PinEntry) → j < l.i → l.a ≤ b → b < 18446744073709551615
      → entry_word (get_or l.self-inside.entries.items j d) b ≡ None;
}

abbrev pub decreases-loop-i : goal.decreases-loop-i
decreases-loop-i l = length l.self-inside.entries.items - l.i
