-- The lines by which a thread holds all others, and lets them go: what they do to what is seen, they do to each machine
-- that is seen so.
use Rattle.std.proofs.Common.{◌≡◌, ℕ, [], ◌∷◌, List, refl, sym, Bool, true, false, not, ◌&&◌, ◌==◌, Option, Some, None}
use Rattle.std.proofs.Common.{◌∙◌}
use Rattle.clr_model.specs.declared.Refusal.{Refusal}
use Rattle.clr_model.specs.declared.Refusal.TheVariants.{MidStep, NoSlot, NotMidStep, UnknownThread, Blocked}
use Rattle.clr_model.specs.declared.Reply.TheVariants.{Done}
use Rattle.clr_model.specs.Machine.{Machine}
use Rattle.clr_model.specs.Lookups.{is_step, is_thread, step_of}
use Rattle.clr_model.specs.Instructions.{Instruction, suspend_others, resume_others}
use Rattle.clr_model.specs.Checks.{refusal as first_refusal, first_of_all, refuse_if, with_some}
use Rattle.clr_model.specs.Outcomes.{answered}
use Rattle.clr_model.specs.Run.{Follows}
use Rattle.clr_model.proofs.Carried.{IsAlike}
use Rattle.clr_model.proofs.LineChecks.{IsLocalLine, IsThreadLine, is_away, line_alike, MayRun, no_more}
use Rattle.clr_model.proofs.LineFollows.{line_follows_done, ThreadLine}
use Rattle.clr_runtime.proofs.StepChanged.{with_holder_lawful}

-- where no check of a line of a thread fails, there is such a thread
pub passed-thread : (i : Instruction) (t : ℕ) (locals : List ℕ) (more : Machine → List (Option Refusal))
    → IsThreadLine i t locals more → (s : Machine) → first_refusal s i ≡ None → is_thread t ≡ true
passed-thread i t locals more line s e =
    go (is_thread t) (with_some s.holder (λ h. refuse_if (not (h == t) && not (is_step (step_of s t))) (Blocked h)))
    (is_step (step_of s t)) (sym (line.checks s) ∙ e)
  where
    go : (known : Bool) (held : Option Refusal) (stepping : Bool)
        → first_of_all (refuse_if (not known) UnknownThread ∷ held ∷ refuse_if (stepping && true) MidStep
        ∷ refuse_if (not stepping && false) NotMidStep ∷ None ∷ None ∷ None ∷ None ∷ None ∷ None
        ∷ refuse_if (is_away locals) NoSlot ∷ more s) ≡ None
        → known ≡ true
    go true held stepping e = refl
    go false held stepping e = absurd cc

-- ---- a thread holds the others

pub suspend_line : (t : ℕ) → IsLocalLine (suspend_others t) t []
suspend_line t = record { thread = refl; checks = λ s. refl }

pub suspend_alike : (t : ℕ) → IsAlike (suspend_others t)
suspend_alike t = record {
  checks = λ m named. line_alike (suspend_others t) t [] (λ s. None ∷ None ∷ None ∷ no_more) (suspend_line t) m refl;
  does = λ m named none outcome after (answer, same). (
    record m { holder = Some t },
    (answer, refl),
    with_holder_lawful m named (Some t)
        (passed-thread (suspend_others t) t [] (λ s. None ∷ None ∷ None ∷ no_more) (suspend_line t) m none),
    sym same,
  );
}

abbrev pub suspend_of : (t : ℕ) → ThreadLine
suspend_of t = record {
  instruction = suspend_others t;
  thread = t;
  locals = [];
  more = λ s. None ∷ None ∷ None ∷ no_more;
  line = suspend_line t;
  alike = suspend_alike t;
}

pub suspend_done : (s : Machine) (t : ℕ) → MayRun s t
    → Follows s (suspend_others t) (answered Done) (record s { holder = Some t })
suspend_done s t run = line_follows_done s (suspend_of t) run tt refl _ _ (refl, refl)

-- ---- and lets them go

pub resume_line : (t : ℕ) → IsLocalLine (resume_others t) t []
resume_line t = record { thread = refl; checks = λ s. refl }

pub resume_alike : (t : ℕ) → IsAlike (resume_others t)
resume_alike t = record {
  checks = λ m named. line_alike (resume_others t) t [] (λ s. None ∷ None ∷ None ∷ no_more) (resume_line t) m refl;
  does = λ m named none outcome after (answer, same).
      (record m { holder = None }, (answer, refl), with_holder_lawful m named None tt, sym same);
}

abbrev pub resume_of : (t : ℕ) → ThreadLine
resume_of t = record {
  instruction = resume_others t;
  thread = t;
  locals = [];
  more = λ s. None ∷ None ∷ None ∷ no_more;
  line = resume_line t;
  alike = resume_alike t;
}

pub resume_done : (s : Machine) (t : ℕ) → MayRun s t
    → Follows s (resume_others t) (answered Done) (record s { holder = None })
resume_done s t run = line_follows_done s (resume_of t) run tt refl _ _ (refl, refl)
