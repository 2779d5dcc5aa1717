use Rattle.clr_mark.proofs.RunKinds.{no_kind}
use Rattle.clr_mark.proofs.marker.kind.RunKind.none.Goals as goal

pub returns : goal.returns
returns c = λ rows. no_kind rows _
