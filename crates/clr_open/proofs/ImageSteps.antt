-- What an image that was loaded says of its threads.
use Rattle.std.proofs.Common.{◌≡◌, ℕ, List, length, ap, sym, ◌∙◌, subst}
use Rattle.std.specs.List.{AllByRecursion}
use Rattle.clr_types.specs.Types.{TypeRow}
use Rattle.clr_heap.specs.View.{HeapView, no_rests}
use Rattle.clr_format.specs.Images.{Parts}
use Rattle.clr_sos.specs.declared.step.Step.{Step}
use Rattle.clr_load.specs.StepTests.{IsKnownStep}
use Rattle.clr_load.specs.declared.image.Image.{Image}
use Rattle.clr_load.proofs.ReadImages.{ArePartsFound, parts_found}
use Rattle.clr_open.specs.Read.{IsRead}
use Rattle.clr_open.proofs.ReadFields.{fields-of}

module _ (bytes : List ℕ) (image : Image) (p : Parts) (read : IsRead bytes image p) where
  parts : ArePartsFound bytes p (length bytes)
  parts = parts_found bytes p (length bytes) (fields-of bytes p read.is)

  -- none has a context
  pub image-alone : image.heap.rests ≡ no_rests
  image-alone = ap (λ (h : HeapView). h.rests) read.shows.heap ∙ parts.body.made.rests

  pub image-count : length image.steps.items ≡ 16
  image-count = ap (λ (ss : List Step). length ss) read.shows.steps ∙ parts.rest.tables.steps

  pub image-known : AllByRecursion (IsKnownStep image.types) image.steps.items
  image-known =
      subst (λ (rows : List TypeRow). AllByRecursion (IsKnownStep rows) image.steps.items) (sym read.shows.types)
      (subst (AllByRecursion (IsKnownStep p.types)) (sym read.shows.steps) parts.rest.tables.known)
