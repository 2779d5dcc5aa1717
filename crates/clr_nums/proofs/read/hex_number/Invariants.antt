use Rattle.std.proofs.Common.{◌≡◌, ◌<◌, ◌^◌, take, []}
use Rattle.clr_nums.specs.Numbers.{hex_onto}
use Rattle.clr_nums.proofs.read.hex_number.Given as goal

-- the digits so far are those of the number
abbrev pub invariant-loop-letter : goal.invariant-loop-letter
invariant-loop-letter l = record {
  bound : l.number < 16 ^ l.letter-index;
  digits : take l.letter-index l.text ≡ hex_onto l.letter-index l.number [];
}
