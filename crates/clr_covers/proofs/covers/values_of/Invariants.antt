use Rattle.std.proofs.Common.{◌≡◌, ◌≤◌, replicate, vec_capacity, vec_len}
use Rattle.clr_covers.proofs.covers.values_of.Given as goal

abbrev pub invariant-loop : goal.invariant-loop
invariant-loop g l = record {
  items : l.values.items ≡ replicate l.counter l.v;
  len : vec_len l.values ≡ l.counter;
  room : l.count ≤ vec_capacity l.values;
}
