-- The first refusal that fits, read backwards.
use Rattle.std.proofs.Common.{◌≡◌, ℕ, ◌≤◌, ◌<◌, Bool, true, false, Option, Some, None, Result, Err, refl, arith, inl}
use Rattle.std.proofs.Common.{inr}
use Rattle.std.specs.Prelude.{◌↔◌}
use Rattle.std.proofs.lemmas.Bool.Decides.{leb_tells}
use Rattle.clr_types.specs.declared.TypeId.{TypeId}
use Rattle.clr_types.specs.declared.fault.DefineFault.{DefineFault}
use Rattle.clr_types.specs.declared.fault.DefineFault.TheVariants.{TooManyTypes}
use Rattle.clr_types.specs.Table.{first_refusal}

pub no_refusal : (number : Option ℕ) (lawful : Bool) (count : ℕ) → None ≡ first_refusal number lawful count
    → (number ≡ None) × (lawful ≡ true) × (count < 1000)
no_refusal (Some n) lawful count none = cc
no_refusal None false count none = cc
no_refusal None true count none =
    elim (leb_tells 1000 count) [
      | inl full ↦ let some : None ≡ Some TooManyTypes = rw full.0 at none in cc
      | inr room ↦ (refl, refl, room.1)
    ]

pub too_many_cause : (number : Option ℕ) (lawful : Bool) (count : ℕ) (fault : DefineFault)
    → Some fault ≡ first_refusal number lawful count → count ≤ 1000
    → let outcome : Result TypeId DefineFault = Err fault in
    (outcome ≡ Err TooManyTypes) ↔ ((number ≡ None) × (lawful ≡ true) × (count ≡ 1000))
too_many_cause (Some n) lawful count fault is most = (λ e. cc, λ all. cc)
too_many_cause None false count fault is most = (λ e. cc, λ all. cc)
too_many_cause None true count fault is most =
    elim (leb_tells 1000 count) [
      | inl full ↦ let some : Some fault ≡ Some TooManyTypes = rw full.0 at is in
          (λ e. (refl, refl, omega arith), λ all. cc)
      | inr room ↦ let none : Some fault ≡ None = rw room.0 at is in cc
    ]
