-- Each step is a lemma.
use Rattle.clr_model.proofs.PinnedFollows.{pinned_acquired, pinned_full, pinned_full_acquired, pinned_full_lacks}
use Rattle.clr_model.proofs.PinnedFollows.{pinned_lacks, pinned_none, pinned_place, pinned_wait}
use Rattle.clr_model.proofs.laws.pinned_ladders_follow.Goals as goal

pub returns-clause-place : goal.returns-clause-place
returns-clause-place c = λ s size room. pinned_place s size room

pub returns-clause-acquired : goal.returns-clause-acquired
returns-clause-acquired c = λ s size none may. pinned_acquired s size none may

pub returns-clause-lacks : goal.returns-clause-lacks
returns-clause-lacks c = λ s size none may. pinned_lacks s size none may

pub returns-clause-waits : goal.returns-clause-waits
returns-clause-waits c = λ s size k none barred busy. pinned_wait s size none barred k busy

pub returns-clause-collected_place : goal.returns-clause-collected_place
returns-clause-collected_place c = λ s size none barred idle full done room.
    pinned_full s size none barred idle full done room

pub returns-clause-collected_acquired : goal.returns-clause-collected_acquired
returns-clause-collected_acquired c = λ s size none barred idle full done still may.
    pinned_full_acquired s size none barred idle full done still may

pub returns-clause-collected_lacks : goal.returns-clause-collected_lacks
returns-clause-collected_lacks c = λ s size none barred idle full done still may.
    pinned_full_lacks s size none barred idle full done still may

pub returns-clause-none : goal.returns-clause-none
returns-clause-none c = λ s size none barred idle full done still over.
    pinned_none s size none barred idle full done still over
