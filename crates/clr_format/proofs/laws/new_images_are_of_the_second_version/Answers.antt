use Rattle.clr_format.proofs.Versions.{migrated_stays, saved_second}
use Rattle.clr_format.proofs.laws.new_images_are_of_the_second_version.Goals as goal

pub returns-clause-saved : goal.returns-clause-saved
returns-clause-saved c = saved_second

pub returns-clause-migrated : goal.returns-clause-migrated
returns-clause-migrated c = migrated_stays
