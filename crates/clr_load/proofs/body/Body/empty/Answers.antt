-- Nothing is kept of no segments.
use Rattle.std.proofs.Common.{ap, refl, List, ◌∙◌}
use Rattle.clr_load.specs.Starts.{has_start}
use Rattle.clr_load.specs.declared.starts.Range.{Range}
use Rattle.clr_load.proofs.BodySteps.{no_start}
use Rattle.clr_load.proofs.body.Body.empty.Goals as goal

pub returns-clause-empty : goal.returns-clause-empty
returns-clause-empty c bytes rows = record {
  heap = c.in-Ok.ensures;
  offsets = c.new.ensures.items;
  starts = λ x. ap (λ (rs : List Range). has_start rs x) c.new-2.ensures ∙ no_start x;
  read = (refl, refl);
}
