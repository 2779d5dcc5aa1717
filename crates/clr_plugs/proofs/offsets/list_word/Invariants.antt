use Rattle.std.proofs.Common.{take, ◌≤◌}
use Rattle.clr_plugs.proofs.Listing.{IsListing}
use Rattle.clr_plugs.proofs.offsets.list_word.Given as goal

abbrev pub invariant-loop-left : goal.invariant-loop-left
invariant-loop-left l = record {
  listing : IsListing l.word l.low (take l.count l.initial.into) l.left (take l.listed l.into);
  most : l.listed ≤ 683;
}

abbrev pub decreases-loop-left : goal.decreases-loop-left
decreases-loop-left l = l.left
