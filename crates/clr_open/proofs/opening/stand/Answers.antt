-- What stands of an image.
use Rattle.std.proofs.Common.{◌≤◌, ℕ, List, length, map, refl, ap, sym, ◌∙◌, subst}
use Rattle.std.specs.List.{AllByRecursion}
use Rattle.clr_ctx.specs.Contexts.{IsRelaid}
use Rattle.clr_sos.specs.declared.step.Step.{Step}
use Rattle.clr_load.specs.StepTests.{IsKnownStep}
use Rattle.clr_opened.specs.Opened.{opened_layout}
use Rattle.clr_safe.specs.Threads.{Threads}
use Rattle.clr_open.specs.Begun.{begun_of}
use Rattle.clr_open.proofs.ImageSteps.{image-alone, image-count, image-known}
use Rattle.clr_open.proofs.StandingImages.{stands-as}
use Rattle.clr_open.proofs.opening.stand.Goals as goal

pub open_fronts-requires-clause-alone : goal.open_fronts-requires-clause-alone
open_fronts-requires-clause-alone c = let (bytes, p, read) = c.requires in image-alone bytes c.args.image p read

pub open_fronts-requires-clause-count : goal.open_fronts-requires-clause-count
open_fronts-requires-clause-count c =
    let (bytes, p, read) = c.requires in
    ap (λ (ss : List Step). length ss) c.deref.ensures.value ∙ image-count bytes c.args.image p read

pub begun_again-safe-requires-clause-known : goal.begun_again-safe-requires-clause-known
begun_again-safe-requires-clause-known c =
    let (bytes, p, read) = c.requires in
    subst (AllByRecursion (IsKnownStep c.args.image.types)) (sym c.deref-2.ensures.value)
    (image-known bytes c.args.image p read)

pub returns : goal.returns
returns c = λ bytes p b read fit lawful.
    stands-as bytes c.args.image p b read fit lawful _ refl refl refl c.reserve.ensures.entries c.reserve.ensures.ready
    (c.begun_again-safe.ensures
    ∙ ap (λ (ss : List Step). let t : Threads = record {
      begun = map (begun_of c.args.image.types) ss;
      holder = c.args.image.holder;
    } in t) c.deref-2.ensures.value)
    refl
    (subst (λ (n : ℕ). n ≤ c.reserve.new.self.spare) c.births_owed.ensures.count c.in-Ok.ensures.ok)
    (subst (λ (ss : List Step). IsRelaid c.args.image.types c.args.image.heap c.open_fronts.new.heap
    (opened_layout c.args.image.types c.args.image.heap ss)) c.deref.ensures.value c.open_fronts.ensures)
