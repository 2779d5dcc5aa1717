use Rattle.std.proofs.Common.{◌≡◌, ◌*◌, [], drop}
use Rattle.clr_nums.specs.Numbers.{hex_onto}
use Rattle.clr_nums.proofs.write.put_hex8.Given as goal

-- the pairs that are left to write, before those that stand
abbrev pub invariant-loop-pair : goal.invariant-loop-pair
invariant-loop-pair l = hex_onto (2 * l.pair) l.rest (drop (2 * l.pair) l.into) ≡ hex_onto 8 l.v []
