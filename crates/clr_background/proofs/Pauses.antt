-- What the lines of the two pauses of a background collection do where they are answered.
use Rattle.std.proofs.Common.{◌≡◌, ℕ, ◌⊎◌, inl, inr, sym, subst, Some}
use Rattle.clr_model.specs.declared.Collected.{Collected}
use Rattle.clr_model.specs.declared.Refusal.{Refusal}
use Rattle.clr_model.specs.declared.Refusal.TheVariants as refusal
use Rattle.clr_model.specs.declared.Reply.{Reply}
use Rattle.clr_model.specs.declared.Reply.TheVariants as reply
use Rattle.clr_model.specs.Machine.{Machine, Marking}
use Rattle.clr_model.specs.Lookups.{lowest_in_step}
use Rattle.clr_model.specs.Background.{IsBegun}
use Rattle.clr_model.specs.Collection.{EndsBackground}
use Rattle.clr_model.specs.Instructions.{begin_background, end_background}
use Rattle.clr_model.specs.Checks.{refusal as first_refusal}
use Rattle.clr_model.specs.Outcomes.{Outcome, answered, refused}
use Rattle.clr_model.specs.Step.{BeginsBackground, EndsByLine, Obeys, Replies, WantsMemory}
use Rattle.clr_model.proofs.SmallLadder.{either_option}

not_refused : (a : Reply) (r : Refusal) → answered a ≡ refused r → ⊥
not_refused a r e = cc

same_answer : (one other : Collected) → answered (reply.Collected one) ≡ answered (reply.Collected other) → one ≡ other
same_answer one other e = cc

-- the first pause has a marking, and the machine takes it
pub began : (m : Machine) (t : ℕ) (new : Machine) → Obeys m (begin_background t) (answered reply.Done) new
    → (marking : Marking) × IsBegun m marking × (new ≡ record m { background = Some marking })
began m t new obeys =
    either_option (first_refusal m (begin_background t)) (BeginsBackground m done new)
    (λ r. (done ≡ refused r) × (new ≡ m)) obeys
    (λ does. either_option (lowest_in_step m) Begins (λ k. (done ≡ refused (refusal.Wait k)) × (new ≡ m)) does begins
    (λ k h. absurd (not_refused reply.Done (refusal.Wait k) h.0)))
    (λ r h. absurd (not_refused reply.Done r h.0))
  where
    done : Outcome
    done = answered reply.Done

    Begins : Type 0
    Begins =
        ((marking : Marking) × IsBegun m marking
        × Replies (answered reply.Done) reply.Done new (record m { background = Some marking }))
        ⊎ WantsMemory m (answered reply.Done) new

    begins : Begins → (marking : Marking) × IsBegun m marking × (new ≡ record m { background = Some marking })
    begins (inl (marking, is, (replied, same))) = (marking, is, same)
    begins (inr (wants, same)) = absurd (not_refused reply.Done refusal.NoMemory wants)

-- and the last one ends that of the machine
pub ended_by : (m : Machine) (t : ℕ) (answer : Collected) (new : Machine)
    → Obeys m (end_background t) (answered (reply.Collected answer)) new
    → (marking : Marking) × (m.background ≡ Some marking) × EndsBackground m marking answer new
ended_by m t answer new obeys =
    either_option (first_refusal m (end_background t)) (EndsByLine m (answered (reply.Collected answer)) new)
    (λ r. (answered (reply.Collected answer) ≡ refused r) × (new ≡ m)) obeys
    (λ does. either_option (lowest_in_step m) Ends
    (λ k. (answered (reply.Collected answer) ≡ refused (refusal.Wait k)) × (new ≡ m)) does ends
    (λ k h. absurd (not_refused (reply.Collected answer) (refusal.Wait k) h.0)))
    (λ r h. absurd (not_refused (reply.Collected answer) r h.0))
  where
    Ends : Type 0
    Ends =
        (marking : Marking) × (m.background ≡ Some marking) × (other : Collected) × EndsBackground m marking other new
        × (answered (reply.Collected answer) ≡ answered (reply.Collected other))

    ends : Ends → (marking : Marking) × (m.background ≡ Some marking) × EndsBackground m marking answer new
    ends (marking, runs, other, c, says) =
        (marking, runs, subst (λ a. EndsBackground m marking a new) (sym (same_answer answer other says)) c)
