-- Loops that load what stands in so many steps.
use Rattle.std.proofs.Common.{ℕ, ◌+◌, ◌<◌, ◌≤◌, Ok, Err}
use Rattle.clr_fields.specs.Fields.{Fields, Found, times}
use Rattle.clr_fields.specs.Finds.{Reading, Tells}
use Rattle.clr_fields.specs.declared.fault.LoadFault.{LoadFault}
use Rattle.clr_fields.specs.declared.fault.LoadFault.TheVariants.{At, NoMemory}
use Rattle.clr_fields.proofs.Turns.{all_turned, at_start, IsAtTurn, turn_failed, turned}
use Rattle.clr_load.specs.Bodies.{Loads, LoadsTo}

-- a fault says the same, whatever was to hold
pub fault_told : {A : Type 0} (B C : Type 0) (P : A → Type 0) (see : C → A) (there : Found A) (e : LoadFault) (n m : ℕ)
    → LoadsTo {B = B} P there (Err e) n → Tells {B = C} see there (Err e) m
fault_told B C P see there (At o) n m h = h
fault_told B C P see there NoMemory n m h = tt

pub fault_loads : {A : Type 0} (B C : Type 0) (P : A → Type 0) (see : C → A) (there : Found A) (e : LoadFault) (n m : ℕ)
    → Tells {B = C} see there (Err e) n → LoadsTo {B = B} P there (Err e) m
fault_loads B C P see there (At o) n m h = h
fault_loads B C P see there NoMemory n m h = tt

-- i of n steps are done, and of what there is then this holds
pub record IsLoading {S : Type 0} (step : S → Fields S) (n i : ℕ) (first : S) (old now : Reading) (P : S → Type 0)
    : Type 0 where
  pub state : S
  pub turn : IsAtTurn step n i first state old now
  pub holds : P state

module _ {S : Type 0} (step : S → Fields S) (n : ℕ) (first : S) (old : Reading) where
  pub loading_starts : (P : S → Type 0) → P first → IsLoading step n 0 first old old P
  loading_starts P h = record { state = first; turn = at_start step n first old; holds = h }

  module _ (i : ℕ) (now new : Reading) (P Q : S → Type 0) (at : IsLoading step n i first old now P) (less : i < n) where
    pub loading_more : (B : Type 0) (x : B) → Loads {B = B} Q (step at.state) now new (Ok x)
        → IsLoading step n (i + 1) first old new Q
    loading_more B x loads =
        let value = loads.tells.0 in
        record {
          state = value;
          turn = turned step n first old {B = B} i at.state value now new x at.turn less
              (record { bytes = loads.bytes; tells = loads.tells.1 });
          holds = loads.tells.2;
        }

    pub loading_fails : (B C : Type 0) (R : S → Type 0) (e : LoadFault)
        → Loads {B = B} Q (step at.state) now new (Err e)
        → Loads {B = C} R (times n step first) old new (Err e)
    loading_fails B C R e loads =
        let told =
        turn_failed step n first old {B = B} {C = C} i at.state at.state at.state now new e at.turn less (record {
          bytes = loads.bytes;
          tells = fault_told B B Q (λ _. at.state) (step at.state now.bytes now.at) e new.at new.at loads.tells;
        }) in
        record {
          bytes = told.bytes;
          tells = fault_loads C C R (λ _. at.state) (times n step first old.bytes old.at) e new.at new.at told.tells;
        }

  pub loading_ends : (C : Type 0) (i : ℕ) (now : Reading) (P : S → Type 0) (x : C)
      → IsLoading step n i first old now P → i ≤ n → n ≤ i → Loads {B = C} P (times n step first) old now (Ok x)
  loading_ends C i now P x at most least =
      let all = all_turned step n first old {C = C} i at.state now x at.turn most least in
      record { bytes = all.bytes; tells = (at.state, all.tells, at.holds) }
