use Rattle.std.proofs.Common.{ℕ, ◌-◌, ◌≤◌, List, take, drop}
use Rattle.clr_heap.specs.View.{word_of}
use Rattle.clr_plugs.specs.Forests.{AreWaiting, CanReadAll}
use Rattle.clr_plugs.proofs.forests.gather_in.Given as goal

abbrev pub invariant-loop-at : goal.invariant-loop-at
invariant-loop-at l = record {
  waiting : (starts : List ℕ) → CanReadAll l.heap l.base l.k starts
      → AreWaiting (word_of l.heap) starts l.base 0 (take l.roots l.initial.into) l.initial.words
      → AreWaiting (word_of l.heap) starts l.base l.at (drop l.at (take l.met l.into)) l.words;
  order : l.at ≤ l.met;
  most : l.met ≤ 684;
}

abbrev pub decreases-loop-at : goal.decreases-loop-at
decreases-loop-at l = 684 - l.at
