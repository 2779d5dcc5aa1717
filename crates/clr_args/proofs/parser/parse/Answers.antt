-- The command is simple, so what is found of the arguments is known.
use Rattle.std.proofs.Common.{◌≡◌, [], inl, inr, map, string_bytes, subst, sym, ◌∙◌}
use Rattle.clap.specs.Faults.{fault_of}
use Rattle.clap.specs.Kinds.{HasKind, IsAmong, Kinds}
use Rattle.clap.specs.Simple.{app_of}
use Rattle.clap.specs.Values.{kind_of}
use Rattle.clap.specs.declared.error.Error.{Error}
use Rattle.clap.specs.declared.error.kind.ErrorKind.TheVariants.{OutOfMemory}
use Rattle.clr_args.specs.Parser.{program}
use Rattle.clr_args.proofs.Filled.{fault_is, found_is, simple, simple_and_free}
use Rattle.clr_args.proofs.parser.parse.Goals as goal

-- an error that isn't for want of memory has one of the kinds
some_kind : (error : Error) (kinds : Kinds) → HasKind kinds error → (kind_of error ≡ OutOfMemory → ⊥) → kinds ≡ [] → ⊥
some_kind error kinds (inl memory) other none = other memory
some_kind error kinds (inr among) other none = subst (IsAmong (kind_of error)) none among

pub returns-in-Ok-try_get_matches_from : goal.returns-in-Ok-try_get_matches_from
returns-in-Ok-try_get_matches_from c =
    let arguments = map (λ w. string_bytes w) c.args.arguments.now in
    let made = app_of c.in-Ok.program in
    let are = c.in-Ok.ensures in (
      sym (fault_is made are arguments)
          ∙ c.in-Ok-try_get_matches_from.ensures.kinds (simple_and_free made are),
      (c.in-Ok-try_get_matches_from.ensures.matches (simple made are)).1 ∙ found_is made are arguments,
    )

pub returns : goal.returns
returns c =
    let arguments = map (λ w. string_bytes w) c.args.arguments.now in
    let made = app_of c.in-Ok.program in
    let are = c.in-Ok.ensures in
    λ none. some_kind c.in-Err.error (fault_of program arguments)
    (subst (λ (ks : Kinds). HasKind ks c.in-Err.error) (fault_is made are arguments)
    (c.in-Err.ensures.kinds (simple_and_free made are)))
    (λ memory. c.in_default-kind.not-OutOfMemory (c.kind.ensures ∙ memory)) none
