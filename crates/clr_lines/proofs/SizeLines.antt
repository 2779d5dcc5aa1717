-- What the line `objsize` does, from what the command over what is seen promises.
use Rattle.std.proofs.Common.{◌≡◌, ◌≢◌, ℕ, None, Result, Ok, Err, refl, sym, ap₂, subst, inl, inr}
use Rattle.std.specs.Prelude.{◌↔◌, IfOk}
use Rattle.clr_model.specs.declared.Reply.TheVariants as reply
use Rattle.clr_model.specs.Instructions.{show_size}
use Rattle.clr_model.specs.Lookups.{object_at}
use Rattle.clr_model.specs.Machine.{Machine}
use Rattle.clr_model.specs.Outcomes.{answered}
use Rattle.clr_model.specs.Picture.{picture}
use Rattle.clr_model.specs.Run.{Follows}
use Rattle.clr_model.specs.Step.{Does}
use Rattle.clr_objsize.specs.Sizes.{IsSizeOf}
use Rattle.clr_objsize.specs.declared.sizes.Total.{Total}
use Rattle.clr_sos.specs.declared.fault.SosFault.{SosFault}
use Rattle.clr_sos.specs.declared.fault.SosFault.TheVariants as fault
use Rattle.clr_lines.specs.Outcomes.{size_outcome}
use Rattle.clr_lines.proofs.LookChecks.{absent_follows, IsPlaceLine, present_follows}

pub size_line : (a : ℕ) → IsPlaceLine (show_size a) a
size_line a m = refl

-- a machine of whose picture so much is told shows it
size_shown : (m : Machine) (a : ℕ) (total : Total) → IsSizeOf (picture m) a total
    → Does m (show_size a) (answered (reply.Size a total.objects total.bytes)) m
size_shown m a total is = inl (
  is.0,
  is.1,
  (ap₂ (λ (n b : ℕ). answered (reply.Size a n b)) is.2 is.3, refl),
)

-- A command promises of each machine that is seen so what it shows of it. The machine that is seen is one of these.
module _ (Sees : Machine → Type 0) (old : Machine) (sees : Sees old) where
  pub size_follows : (a : ℕ) (told : Result Total SosFault)
      → ((m : Machine) → Sees m → (told ≡ Err fault.NoObject) ↔ (object_at m.objects a ≡ None))
      → told ≢ Err fault.UnknownType
      → IfOk told (λ total. (m : Machine) → Sees m → IsSizeOf m a total)
      → Follows old (show_size a) (size_outcome a told) old
  size_follows a (Ok total) finds known is =
      present_follows (show_size a) a (size_line a) old _ (λ none. let e = (finds old sees).1 none in cc)
      (λ m stands. size_shown m a total
      (subst (λ (s : Machine). IsSizeOf s a total) (sym stands.seen_is) (is old sees)))
  size_follows a (Err fault.NoObject) finds known is =
      absent_follows (show_size a) a (size_line a) old ((finds old sees).0 refl)
  size_follows a (Err fault.UnknownType) finds known is = absurd (known refl)
  size_follows a (Err fault.NoMemory) finds known is =
      present_follows (show_size a) a (size_line a) old _ (λ none. let e = (finds old sees).1 none in cc)
      (λ m stands. inr (refl, refl))
