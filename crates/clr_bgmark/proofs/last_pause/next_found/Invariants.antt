use Rattle.std.proofs.Common.{◌≡◌, ◌<◌, ◌⊎◌}
use Rattle.clr_bgmark.proofs.FoundPlaces.{IsPassed}
use Rattle.clr_bgmark.proofs.last_pause.next_found.Given as goal

abbrev pub invariant-loop-k : goal.invariant-loop-k
invariant-loop-k l = record {
  passed : IsPassed l.search l.shades.items l.fn.spot.k l.fn.spot.from l.k l.from;
  further : (l.fn.spot.k < l.k) ⊎ ((l.fn.spot.k ≡ l.k) × (l.from ≡ l.fn.spot.from));
}
