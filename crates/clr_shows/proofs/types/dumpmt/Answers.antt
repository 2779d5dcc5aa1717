-- A type has the word exactly where the definition finds it.
use Rattle.std.proofs.Common.{◌≡◌, ◌∙◌, ◌∷◌, ℕ, Result, Ok, Err, List, ap, ap₂, codes, refl, sym}
use Rattle.clr_nums.specs.Numbers.{hex16}
use Rattle.clr_model.specs.Looks.{defining_words}
use Rattle.clr_model.specs.Sos.{line}
use Rattle.clr_shows.proofs.TypeLines.{type-number}
use Rattle.std.proofs.lemmas.Bool.{both_ways}
use Rattle.std.proofs.lemmas.Result.{err_from_is_err_and}
use Rattle.clr_types.specs.Types.{name_of, TypeRow}
use Rattle.clr_model.specs.Checks.{has_mt}
use Rattle.clr_sos.specs.declared.fault.SosFault.{SosFault}
use Rattle.clr_sos.specs.declared.fault.SosFault.TheVariants.{NoMemory, UnknownType}
use Rattle.clr_sos.proofs.Wanting.{mt-known, mt-unknown}
use Rattle.clr_shows.proofs.types.dumpmt.Goals as goal

-- want of memory is no want of a type
memory-not_type : {X : Type 0} (r : Result X SosFault) (fault : SosFault) → r ≡ Err fault → fault ≡ NoMemory
    → r ≡ Err UnknownType → ⊥
memory-not_type r fault is memory type = cc

-- and a text is none
text-not_type : {X : Type 0} (x : X) → ◌≡◌ {A = Result X SosFault} (Ok x) (Err UnknownType) → ⊥
text-not_type x type = cc

pub returns-in_default-clause-unknown : goal.returns-in_default-clause-unknown
returns-in_default-clause-unknown c = λ m shows. (
  λ same. ap (λ (rows : List TypeRow). has_mt rows c.args.mt) shows.types
      ∙ mt-unknown c.args.view.now.types.now c.args.mt c.in_default.ensures,
  λ none. refl,
)

pub returns-in_err-text-clause-unknown : goal.returns-in_err-text-clause-unknown
returns-in_err-text-clause-unknown c = λ m shows.
    let fault = err_from_is_err_and c.from_residual.result c.from_residual.ensures.1 in
    let known = ap (λ (rows : List TypeRow). has_mt rows c.args.mt) shows.types
    ∙ mt-known c.args.view.now.types.now c.args.mt c.in-Some.t.0 c.in-Some.ensures.0 c.in-Some.ensures.1 in (
      λ same. absurd (memory-not_type c.from_residual.result fault.0 fault.1 fault.2 same),
      λ none. absurd (both_ways (has_mt m.types c.args.mt) none known),
    )

pub returns-clause-unknown : goal.returns-clause-unknown
returns-clause-unknown c = λ m shows.
    let known = ap (λ (rows : List TypeRow). has_mt rows c.args.mt) shows.types
    ∙ mt-known c.args.view.now.types.now c.args.mt c.in-Some.t.0 c.in-Some.ensures.0 c.in-Some.ensures.1 in
    (λ same. absurd (text-not_type _ same), λ none. absurd (both_ways (has_mt m.types c.args.mt) none known))

pub returns-clause-text : goal.returns-clause-text
returns-clause-text c = λ m shows.
    let number = type-number c.args.mt c.in-Some.t.0 c.in-Some.ensures.1 in
    c.in_ok-text.ensures
    ∙ ap₂ (λ (rows : List TypeRow) (t : ℕ).
    line (codes "mt" ∷ hex16 c.args.mt ∷ name_of rows t ∷ defining_words rows t))
    (sym shows.types) (sym number)
