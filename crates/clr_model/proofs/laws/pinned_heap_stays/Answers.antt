use Rattle.clr_model.proofs.OldStay as lemma
use Rattle.clr_model.proofs.laws.pinned_heap_stays.Goals as goal

pub returns-clause-collections : goal.returns-clause-collections
returns-clause-collections c = lemma.pinned_heap_stays

pub returns-clause-background : goal.returns-clause-background
returns-clause-background c = lemma.pinned_heap_stays_behind
