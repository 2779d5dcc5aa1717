-- Loops that read what stands in so many steps.
use Rattle.std.proofs.Common.{◌≡◌, ℕ, suc, ◌≤◌, ◌<◌, ◌+◌, ◌-◌, refl, arith, ap, sym, ◌∙◌, Ok, Err}
use Rattle.clr_fields.specs.Fields.{Fields, found, found_then, times}
use Rattle.clr_fields.specs.Finds.{FindsThat, Reading, Tells}
use Rattle.clr_fields.specs.declared.fault.LoadFault.{LoadFault}
use Rattle.clr_fields.specs.declared.fault.LoadFault.TheVariants.{At, NoMemory}

-- i of n steps are done, and s is what there is
pub record IsAtTurn {S : Type 0} (step : S → Fields S) (n i : ℕ) (first s : S) (old now : Reading) : Type 0 where
  pub bytes : now.bytes ≡ old.bytes
  pub same : times n step first old.bytes old.at ≡ times (n - i) step s old.bytes now.at

module _ {S : Type 0} (step : S → Fields S) (n : ℕ) (first : S) (old : Reading) where
  pub at_start : IsAtTurn step n 0 first first old old
  at_start = record {
    bytes = refl;
    same = ap (λ k. times k step first old.bytes old.at) (let e : n ≡ n - 0 = omega arith in e);
  }

  one_step : (k : ℕ) (s : S) (o : ℕ) → times (suc k) step s old.bytes o
      ≡ found_then old.bytes (times k step) (step s old.bytes o)
  unfolding times
  one_step k s o = refl

  step_left : (i : ℕ) (s : S) (now : Reading) → IsAtTurn step n i first s old now → i < n
      → times n step first old.bytes old.at
      ≡ found_then old.bytes (times (n - (i + 1)) step) (step s now.bytes now.at)
  step_left i s now at less =
      let e : n - i ≡ suc (n - (i + 1)) = omega arith in
      at.same ∙ ap (λ k. times k step s old.bytes now.at) e ∙ one_step (n - (i + 1)) s now.at
      ∙ ap (λ b. found_then old.bytes (times (n - (i + 1)) step) (step s b now.at)) (sym at.bytes)

  -- one more
  pub turned : {B : Type 0} (i : ℕ) (s t : S) (now new : Reading) (x : B) → IsAtTurn step n i first s old now → i < n
      → FindsThat (step s) now new (Ok x) t → IsAtTurn step n (i + 1) first t old new
  turned i s t now new x at less finds = record {
    bytes = finds.bytes ∙ at.bytes;
    same = step_left i s now at less ∙ ap (found_then old.bytes (times (n - (i + 1)) step)) finds.tells;
  }

  failed : {C : Type 0} (i : ℕ) (s : S) (now : Reading) (e : LoadFault) (as_ : C → S) (o : ℕ)
      → IsAtTurn step n i first s old now → i < n → (B : Type 0) (t : S) (o' : ℕ)
      → Tells {B = B} (λ _. t) (step s now.bytes now.at) (Err e) o'
      → Tells as_ (times n step first old.bytes old.at) (Err e) o
  failed i s now (At a) as_ o at less B t o' tells =
      step_left i s now at less ∙ ap (found_then old.bytes (times (n - (i + 1)) step)) tells
  failed i s now NoMemory as_ o at less B t o' tells = tt

  -- a fault in one is a fault of all
  pub turn_failed : {B C : Type 0} (i : ℕ) (s t v : S) (now new : Reading) (e : LoadFault)
      → IsAtTurn step n i first s old now → i < n → FindsThat {B = B} (step s) now new (Err e) t
      → FindsThat {B = C} (times n step first) old new (Err e) v
  turn_failed {B = B} {C = C} i s t v now new e at less finds = record {
    bytes = finds.bytes ∙ at.bytes;
    tells = failed {C = C} i s now e (λ _. v) new.at at less B t new.at finds.tells;
  }

  none_left : (s : S) (o : ℕ) → times 0 step s old.bytes o ≡ found s o
  unfolding times
  none_left s o = refl

  -- all are done
  pub all_turned : {C : Type 0} (i : ℕ) (s : S) (now : Reading) (x : C) → IsAtTurn step n i first s old now → i ≤ n
      → n ≤ i → FindsThat {B = C} (times n step first) old now (Ok x) s
  all_turned i s now x at most least = record {
    bytes = at.bytes;
    tells =
        let e : n - i ≡ 0 = omega arith in
        at.same ∙ ap (λ k. times k step s old.bytes now.at) e ∙ none_left s now.at;
  }
