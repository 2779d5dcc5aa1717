use Rattle.clr_opened.proofs.ReadBack.{objects-read}
use Rattle.clr_opened.proofs.ReadObjects.{read-word}
use Rattle.clr_opened.proofs.objects_are_read_back.Goals as goal

pub returns-clause-words : goal.returns-clause-words
returns-clause-words c = read-word

pub returns-clause-objects : goal.returns-clause-objects
returns-clause-objects c = objects-read
