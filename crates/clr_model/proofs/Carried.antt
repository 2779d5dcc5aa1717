-- Lines carried from a picture to every machine that it stands for.
use Rattle.std.proofs.Common.{◌≡◌, refl, sym, subst, Option, Some, None, MatchOption}
use Rattle.clr_model.specs.declared.Refusal.{Refusal}
use Rattle.clr_model.specs.Machine.{Machine}
use Rattle.clr_model.specs.Lawful.{IsBirthNamed}
use Rattle.clr_model.specs.Picture.{picture}
use Rattle.clr_model.specs.Instructions.{Instruction}
use Rattle.clr_model.specs.Outcomes.{Outcome, refused}
use Rattle.clr_model.specs.Checks.{refusal as first_refusal}
use Rattle.clr_model.specs.Step.{Obeys, Does}
use Rattle.clr_model.specs.Run.{StandsFor, Follows}

-- each machine that is seen so obeys the line with this outcome, and is then seen as the new picture shows
abbrev pub IsCarried : Machine → Instruction → Outcome → Machine → Type 0
IsCarried seen i outcome new = (m : Machine) → StandsFor seen m
    → (next : Machine) × Obeys m i outcome next × StandsFor new next

-- what is carried from each machine's own picture is carried from what is seen
pub carried : (i : Instruction) (premise : Machine → Type 0) (outcome : Machine → Outcome) (new : Machine → Machine)
    → ((m : Machine) → IsBirthNamed m → premise (picture m)
    → (next : Machine) × Obeys m i (outcome (picture m)) next × StandsFor (new (picture m)) next)
    → (seen : Machine) → premise seen → IsCarried seen i (outcome seen) (new seen)
carried i premise outcome new core seen given m stands =
    subst (λ (s : Machine). premise s
    → (next : Machine) × Obeys m i (outcome s) next × StandsFor (new s) next) stands.seen_is
    (core m stands.lawful) given

-- and so is a refusal, which leaves the machine and what is seen of it
pub refusal_carried_by : (i : Instruction) (premise : Machine → Type 0) (r : Refusal)
    → ((m : Machine) → IsBirthNamed m → premise (picture m) → Obeys m i (refused r) m)
    → (seen : Machine) → premise seen → IsCarried seen i (refused r) seen
refusal_carried_by i premise r core =
    carried i premise (λ s. refused r) (λ s. s)
    (λ m lawful given. (m, core m lawful given, record { lawful = lawful; seen_is = refl }))

-- what is carried is what a call's contract says
pub follows : (seen : Machine) (i : Instruction) (outcome : Outcome) (new : Machine) → IsCarried seen i outcome new
    → Follows seen i outcome new
unfolding Follows
follows seen i outcome new carried = carried

-- What holds while a machine stands for what is seen may be used.
pub follows_if_stands : (seen : Machine) (i : Instruction) (outcome : Outcome) (new : Machine)
    → ((m : Machine) → StandsFor seen m → Follows seen i outcome new) → Follows seen i outcome new
unfolding Follows
follows_if_stands seen i outcome new f = λ m stands. f m stands m stands

-- A line whose checks see in the picture what they see in the machine, and that does to the machine what it does to the
-- picture.
pub record IsAlike (i : Instruction) : Type 0 where
  pub checks : (m : Machine) → IsBirthNamed m → first_refusal (picture m) i ≡ first_refusal m i
  pub does : (m : Machine) → IsBirthNamed m → first_refusal m i ≡ None → (outcome : Outcome) (after : Machine)
      → Does (picture m) i outcome after
      → (next : Machine) × Does m i outcome next × IsBirthNamed next × (picture next ≡ after)

-- Such a line is obeyed by each machine that is seen so.
pub follows_alike : (i : Instruction) → IsAlike i → (seen : Machine) (outcome : Outcome) (after : Machine)
    → Obeys seen i outcome after → Follows seen i outcome after
unfolding Follows
follows_alike i alike seen outcome after h m stands =
    go (first_refusal m i) refl (subst
    (λ (r : Option Refusal). MatchOption r (Does (picture m) i outcome after)
    (λ r. (outcome ≡ refused r) × (after ≡ picture m))) (alike.checks m stands.lawful) here)
  where
    here : Obeys (picture m) i outcome after
    here = subst (λ (s : Machine). Obeys s i outcome after) (sym stands.seen_is) h

    go : (r : Option Refusal) → first_refusal m i ≡ r
        → MatchOption r (Does (picture m) i outcome after) (λ r. (outcome ≡ refused r) × (after ≡ picture m))
        → (next : Machine) × Obeys m i outcome next × StandsFor after next
    go None e does =
        let (next, done, lawful, shown) = alike.does m stands.lawful e outcome after does in (
          next,
          subst (λ (r : Option Refusal). MatchOption r (Does m i outcome next)
              (λ r. (outcome ≡ refused r) × (next ≡ m))) (sym e) done,
          record { lawful = lawful; seen_is = shown },
        )
    go (Some r) e (is, same) = (
      m,
      subst (λ (r : Option Refusal). MatchOption r (Does m i outcome m) (λ r. (outcome ≡ refused r) × (m ≡ m)))
          (sym e) (is, refl),
      record { lawful = stands.lawful; seen_is = sym same },
    )
