-- Room for finalisation entries, through the steps of a ladder.
use Rattle.std.proofs.Common.{◌≡◌, ◌≤◌, arith, subst, sym}
use Rattle.clr_final.specs.Queues.{Queues}

-- a step that leaves the queue as it is
pub spare-same : (old new : Queues) → new ≡ old → old.spare ≤ new.spare
spare-same old new same = subst (λ (q : Queues). old.spare ≤ q.spare) (sym same) (omega arith)

-- one behind others
pub spare-then : (old mid new : Queues) → old.spare ≤ mid.spare → new ≡ mid → old.spare ≤ new.spare
spare-then old mid new kept same = subst (λ (q : Queues). old.spare ≤ q.spare) (sym same) kept

-- a collection behind others
pub spare-past : (old mid new : Queues) → old.spare ≤ mid.spare → mid.spare ≤ new.spare → old.spare ≤ new.spare
spare-past old mid new first second = omega (arith, first, second)
