use Rattle.std.proofs.Common.{arith}
use Rattle.clr_moves.proofs.going.destination.Goals as goal

pub returns : goal.returns
returns c = record {
  goes = λ rows view entries vs start1 start0 plan may.
      c.destination_near.ensures.goes rows view entries vs start1 start0 plan may
      (λ x low high go. absurd (omega (arith, high)));
}
