-- Without contexts nothing is left but the walk and the boundaries.
use Rattle.clr_sos.proofs.HeldHeaps.{faultless_held, faultless_shown, inside_none}
use Rattle.clr_sos.proofs.verify.laws.faultless_heaps_are_held.Goals as goal

pub returns : goal.returns
returns c = record {
  held = λ rows large h locals. record {
    inside = inside_none h;
    held = faultless_held rows large h locals;
  };
  shown = faultless_shown;
}
