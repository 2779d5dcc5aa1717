use Rattle.std.proofs.Common.{ap}
use Rattle.clr_types.specs.Types.{form_of}
use Rattle.clr_types.proofs.ReferenceRuns.{first_in_range}
use Rattle.clr_types.proofs.SlotsByForm.{class_in_range}
use Rattle.clr_types.proofs.descriptors.class_run.Goals as goal

pub run_slots-requires : goal.run_slots-requires
run_slots-requires c =
    let all = class_in_range (form_of c.args.shape) c.requires.lawful.0 c.in-Class.field-0.now c.args.size
    (ap form_of c.in-Class.is) c.requires.lawful.1 c.requires.size in
    first_in_range c.args.size c.args.series.now _ c.in-len1.len_at_least (rw c.requires.series all)
