use Rattle.std.proofs.Common.{refl}
use Rattle.clr_reloc.proofs.KnownKinds.{no_kind}
use Rattle.clr_reloc.proofs.kinds.RunKind.none.Goals as goal

pub returns : goal.returns
returns c rows =
    no_kind rows (record { object = record { mt = 1; size = 0 }; run = record { offset = 0; count = 0 } }) refl
