-- References to younger objects where an object is born, of whatever generation: its own are null, and none names it.
use Rattle.std.proofs.Common.{◌≡◌, ◌⊎◌, inl, inr, ℕ, zero, suc, ◌<◌, Bool, true, false}
use Rattle.std.proofs.Common.{List, [], ◌∷◌, map, ap, sym, ◌∙◌, arith, Some}
use Rattle.std.specs.Prelude.{slice_get}
use Rattle.clr_types.specs.Rising.{IsIn}
use Rattle.clr_types.specs.Segments.{Layout}
use Rattle.clr_types.specs.Types.{TypeRow}
use Rattle.clr_model.specs.Machine.{Object, ref}
use Rattle.clr_model.specs.Updates.{empty_value}
use Rattle.clr_generations.specs.Laws.{NamesNoMore}
use Rattle.clr_generations.proofs.SameBounds.{generation-same, HasSameBounds}

-- a new slot names nothing
pub names-nothing : (kinds : List Bool) (j n : ℕ) → slice_get (map empty_value kinds) j ≡ Some (ref n) → n ≡ 0
names-nothing [] j n e = absurd cc
names-nothing (true ∷ kinds) zero n e = cc
names-nothing (false ∷ kinds) zero n e = absurd cc
names-nothing (kind ∷ kinds) (suc j) n e = names-nothing kinds j n e

-- The objects and one more, which names nothing, and which no other names. No object is named 0.
pub record IsUnnamedBirth (objects now : List Object) (newborn : Object) : Type 0 where
  pub members : (o : Object) → IsIn o now → (o ≡ newborn) ⊎ IsIn o objects
  pub names : (o : Object) → IsIn o now → 0 < o.name
  pub empty : (slot name : ℕ) → slice_get newborn.slots slot ≡ Some (ref name) → name ≡ 0
  pub unnamed : (o : Object) (slot : ℕ) → IsIn o objects → slice_get o.slots slot ≡ Some (ref newborn.name) → ⊥

-- no reference to an object of a lower generation is new
pub younger-born : (rows : List TypeRow) (before after : Layout) (objects now : List Object) (newborn : Object)
    → HasSameBounds before after → IsUnnamedBirth objects now newborn → NamesNoMore rows before objects after now
younger-born rows before after objects now newborn bounds birth a y =
    elim (birth.members y.object y.present) [
      | inl new_one ↦
          let null : y.target.name ≡ 0 = birth.empty y.slot y.target.name
          (ap (λ (o : Object). slice_get o.slots y.slot) (sym new_one) ∙ y.named) in
          let named = birth.names y.target y.target_present in
          absurd (omega arith)
      | inr was ↦ elim (birth.members y.target y.target_present) [
        | inl target_new ↦
            absurd (birth.unnamed y.object y.slot was
            (y.named ∙ ap (λ (o : Object). Some (ref o.name)) target_new))
        | inr target_was ↦
            let low = generation-same before after bounds y.target.place in
            let high = generation-same before after bounds y.object.place in
            let younger = y.younger in
            record {
              object = y.object;
              present = was;
              slot = y.slot;
              target = y.target;
              target_present = target_was;
              named = y.named;
              address = y.address;
              younger = omega (arith, low, high, younger);
            }
      ]
    ]
