use Rattle.std.proofs.Common.{◌≡◌, length}
use Rattle.clr_bgmark.specs.Settling.{AreFurthest, ArePut}
use Rattle.clr_bgmark.proofs.front.put_fronts.Given as goal

abbrev pub invariant-loop-k : goal.invariant-loop-k
invariant-loop-k l = record {
  room : length l.fronts.items ≡ length l.shades.items;
  fronts : ArePut l.types l.heap l.shades.items l.fronts.items l.k;
  furthest : AreFurthest l.types l.heap l.shades.items l.parts.items l.fronts.items l.k;
}
