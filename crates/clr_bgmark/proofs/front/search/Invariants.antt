use Rattle.std.proofs.Common.{◌≡◌, ◌-◌, ◌*◌, ◌≤◌}
use Rattle.clr_heap.specs.View.{word_of}
use Rattle.clr_bgmark.specs.Bits.{count_below}
use Rattle.clr_bgmark.specs.Settling.{AreGood}
use Rattle.clr_bgmark.proofs.front.search.Given as goal

abbrev pub invariant-loop-words : goal.invariant-loop-words
invariant-loop-words l = record {
  few : l.words ≤ l.past;
  good : AreGood (word_of l.heap) l.shade l.part 0 (64 * l.words);
  count : l.count ≡ count_below l.shade.taken (64 * l.words);
}

abbrev pub decreases-loop-words : goal.decreases-loop-words
decreases-loop-words l = l.past - l.words
