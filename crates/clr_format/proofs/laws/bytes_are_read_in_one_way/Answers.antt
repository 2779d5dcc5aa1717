use Rattle.clr_format.proofs.Versions.{no_fault, one_image}
use Rattle.clr_format.proofs.laws.bytes_are_read_in_one_way.Goals as goal

pub returns-clause-image : goal.returns-clause-image
returns-clause-image c = one_image

pub returns-clause-fault : goal.returns-clause-fault
returns-clause-fault c = no_fault
