-- What a line does that looks and has no command of its own, from what the call over what is seen promises.
use Rattle.std.proofs.Common.{◌≡◌, ◌≢◌, ◌⊎◌, ◌∙◌, ◌||◌, ℕ, Bool, true, false, not, List, [], ◌∷◌, Option, Some, None, Result, Ok}
use Rattle.std.proofs.Common.{Err, Vec, Global, refl, sym, ap, subst, inl, inr}
use Rattle.std.specs.Prelude.{◌↔◌, IfOk, is_none}
use Rattle.clr_model.specs.declared.Refusal.{Refusal}
use Rattle.clr_model.specs.declared.Refusal.TheVariants as refusal
use Rattle.clr_model.specs.declared.look.Look.{Look}
use Rattle.clr_model.specs.declared.look.Look.TheVariants.{DumpArray, DumpMt, GcRoots, PathTo, Retained}
use Rattle.clr_model.specs.Checks.{refusal as first_refusal, first_of_all, has_mt, refuse_if}
use Rattle.clr_model.specs.Instructions.{Instruction, look_at}
use Rattle.clr_model.specs.Lookups.{object_at}
use Rattle.clr_model.specs.Looks.{IsLookText}
use Rattle.clr_model.specs.Machine.{Machine, Object}
use Rattle.clr_model.specs.Outcomes.{Outcome, refused, shown}
use Rattle.clr_model.specs.Picture.{picture}
use Rattle.clr_model.specs.Step.{Does}
use Rattle.clr_model.specs.Run.{Follows, StandsFor}
use Rattle.clr_model.proofs.Carried.{follows}
use Rattle.clr_model.proofs.LineChecks.{obeys_done, obeys_refusal}
use Rattle.clr_sos.specs.declared.fault.SosFault.{SosFault}
use Rattle.clr_sos.specs.declared.fault.SosFault.TheVariants as fault
use Rattle.clr_lines.specs.Outcomes.{found_outcome, text_outcome}
use Rattle.clr_lines.proofs.LookChecks.{absent-picture, IsPlaceLine}
use Rattle.clr_lines.proofs.LookLines.{FindsObject, found_follows}

-- what is told of what is seen is so of the picture of each machine that this stands for
shows_look : (look : Look) (old m : Machine) (text : List ℕ) → StandsFor old m → IsLookText old look text
    → Does m (look_at look) (shown text) m
shows_look look old m text stands is =
    inl (text, subst (λ (s : Machine). IsLookText s look text) (sym stands.seen_is) is, refl, refl)

-- the places that a line asks for, one alone
pub array_place : (start count : Option ℕ) (a : ℕ) → IsPlaceLine (look_at (DumpArray start count a)) a
array_place start count a m = refl

pub roots_place : (a : ℕ) → IsPlaceLine (look_at (GcRoots a)) a
roots_place a m = refl

pub retained_place : (a : ℕ) → IsPlaceLine (look_at (Retained a)) a
retained_place a m = refl

module _ (Sees : Machine → Type 0) (old : Machine) (sees : Sees old) where
  -- ---- texts that need no object

  pub text_look : {E : Type 0} (look : Look) → ((m : Machine) → first_refusal m (look_at look) ≡ None)
      → (told : Result (Vec ℕ Global) E) → IfOk told (λ text. (m : Machine) → Sees m → IsLookText m look text.items)
      → Follows old (look_at look) (text_outcome told) old
  text_look look checks (Ok text) is = follows old (look_at look) _ _ (λ m stands. (
    m,
    obeys_done m (look_at look) _ _ (checks m) (shows_look look old m text.items stands (is old sees)),
    stands,
  ))
  text_look look checks (Err none) is = follows old (look_at look) _ _ (λ m stands. (
    m,
    obeys_done m (look_at look) _ _ (checks m) (inr (refl, refl)),
    stands,
  ))

  -- ---- texts of one object

  pub place_look : (look : Look) (a : ℕ) → IsPlaceLine (look_at look) a → (told : Result (Vec ℕ Global) SosFault)
      → FindsObject Sees old sees told a
      → IfOk told (λ text. (m : Machine) → Sees m → IsLookText m look text.items)
      → Follows old (look_at look) (found_outcome told) old
  place_look look a checks told finds is =
      found_follows Sees old sees (look_at look) a checks told finds (shows told is) (λ m. inr (refl, refl))
    where
      shows : (told : Result (Vec ℕ Global) SosFault)
          → IfOk told (λ text. (m : Machine) → Sees m → IsLookText m look text.items)
          → IfOk told (λ text. (m : Machine) → StandsFor old m → Does m (look_at look) (shown text.items) m)
      shows (Ok text) is = λ m stands. shows_look look old m text.items stands (is old sees)
      shows (Err fault) is = is

  -- ---- the text of two objects

  pub path_look : (a b : ℕ) (told : Result (Vec ℕ Global) SosFault)
      → ((m : Machine) → Sees m → (told ≡ Err fault.NoObject)
      ↔ ((object_at m.objects a ≡ None) ⊎ (object_at m.objects b ≡ None)))
      → told ≢ Err fault.UnknownType
      → IfOk told (λ text. (m : Machine) → Sees m → IsLookText m (PathTo a b) text.items)
      → Follows old (look_at (PathTo a b)) (found_outcome told) old
  path_look a b told finds known is = go told finds known is
    where
      i : Instruction
      i = look_at (PathTo a b)

      missing : List Object → Bool
      missing objects = is_none (object_at objects a) || is_none (object_at objects b)

      only : Bool → Option Refusal
      only b = first_of_all (refuse_if b refusal.NoObject ∷ None ∷ [])

      checked : (m : Machine) → StandsFor old m → first_refusal m i ≡ only (missing old.objects)
      checked m stands =
          ap (λ (c : Bool). only (c || is_none (object_at m.objects b))) (absent-picture m a)
          ∙ ap (λ (c : Bool). only (is_none (object_at (picture m).objects a) || c)) (absent-picture m b)
          ∙ ap (λ (s : Machine). only (missing s.objects)) stands.seen_is

      either : (o p : Option Object) → (o ≡ None) ⊎ (p ≡ None) → (is_none o || is_none p) ≡ true
      either None p e = refl
      either (Some o) None e = refl
      either (Some o) (Some p) (inl e) = absurd cc
      either (Some o) (Some p) (inr e) = absurd cc

      neither : (o p : Option Object) → ((o ≡ None) ⊎ (p ≡ None) → ⊥) → (is_none o || is_none p) ≡ false
      neither None p e = absurd (e (inl refl))
      neither (Some o) None e = absurd (e (inr refl))
      neither (Some o) (Some p) e = refl

      done : (outcome : Outcome) → ((object_at old.objects a ≡ None) ⊎ (object_at old.objects b ≡ None) → ⊥)
          → ((m : Machine) → StandsFor old m → Does m i outcome m) → Follows old i outcome old
      done outcome none does = follows old i _ _ (λ m stands. (
        m,
        obeys_done m i _ _ (checked m stands
            ∙ ap only (neither (object_at old.objects a) (object_at old.objects b) none)) (does m stands),
        stands,
      ))

      go : (told : Result (Vec ℕ Global) SosFault)
          → ((m : Machine) → Sees m → (told ≡ Err fault.NoObject)
          ↔ ((object_at m.objects a ≡ None) ⊎ (object_at m.objects b ≡ None)))
          → told ≢ Err fault.UnknownType
          → IfOk told (λ text. (m : Machine) → Sees m → IsLookText m (PathTo a b) text.items)
          → Follows old i (found_outcome told) old
      go (Ok text) finds known is =
          done _ (λ e. let same = (finds old sees).1 e in cc)
          (λ m stands. shows_look (PathTo a b) old m text.items stands (is old sees))
      go (Err fault.NoObject) finds known is = follows old i _ _ (λ m stands. (
        m,
        obeys_refusal m i refusal.NoObject (checked m stands
            ∙ ap only (either (object_at old.objects a) (object_at old.objects b) ((finds old sees).0 refl))),
        stands,
      ))
      go (Err fault.UnknownType) finds known is = absurd (known refl)
      go (Err fault.NoMemory) finds known is =
          done _ (λ e. let same = (finds old sees).1 e in cc) (λ m stands. inr (refl, refl))

  -- ---- the text of a type

  pub type_look : (mt : ℕ) (told : Result (Vec ℕ Global) SosFault)
      → ((m : Machine) → Sees m → (told ≡ Err fault.UnknownType) ↔ (has_mt m.types mt ≡ false))
      → told ≢ Err fault.NoObject
      → IfOk told (λ text. (m : Machine) → Sees m → IsLookText m (DumpMt mt) text.items)
      → Follows old (look_at (DumpMt mt)) (found_outcome told) old
  type_look mt told unknown known is = go told unknown known is
    where
      i : Instruction
      i = look_at (DumpMt mt)

      only : Bool → Option Refusal
      only b = first_of_all (refuse_if (not b) refusal.UnknownType ∷ None ∷ None ∷ None ∷ None ∷ None ∷ None ∷ None ∷ None
          ∷ None ∷ None ∷ None ∷ None ∷ None ∷ None ∷ [])

      checked : (m : Machine) → StandsFor old m → first_refusal m i ≡ only (has_mt old.types mt)
      checked m stands = ap (λ (s : Machine). only (has_mt s.types mt)) stands.seen_is

      some : (b : Bool) → b ≢ false → b ≡ true
      some true e = refl
      some false e = absurd (e refl)

      done : (outcome : Outcome) → has_mt old.types mt ≢ false
          → ((m : Machine) → StandsFor old m → Does m i outcome m) → Follows old i outcome old
      done outcome there does = follows old i _ _ (λ m stands. (
        m,
        obeys_done m i _ _ (checked m stands ∙ ap only (some (has_mt old.types mt) there)) (does m stands),
        stands,
      ))

      go : (told : Result (Vec ℕ Global) SosFault)
          → ((m : Machine) → Sees m → (told ≡ Err fault.UnknownType) ↔ (has_mt m.types mt ≡ false))
          → told ≢ Err fault.NoObject
          → IfOk told (λ text. (m : Machine) → Sees m → IsLookText m (DumpMt mt) text.items)
          → Follows old i (found_outcome told) old
      go (Ok text) unknown known is =
          done _ (λ e. let same = (unknown old sees).1 e in cc)
          (λ m stands. shows_look (DumpMt mt) old m text.items stands (is old sees))
      go (Err fault.UnknownType) unknown known is = follows old i _ _ (λ m stands. (
        m,
        obeys_refusal m i refusal.UnknownType (checked m stands ∙ ap only ((unknown old sees).0 refl)),
        stands,
      ))
      go (Err fault.NoObject) unknown known is = absurd (known refl)
      go (Err fault.NoMemory) unknown known is =
          done _ (λ e. let same = (unknown old sees).1 e in cc) (λ m stands. inr (refl, refl))
