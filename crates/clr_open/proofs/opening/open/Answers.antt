-- What was loaded is gone on from where it is fit.
use Rattle.std.proofs.Common.{◌∙◌, ap, sym, Some}
use Rattle.clr_open.specs.Fit.{budgets_of}
use Rattle.clr_open.proofs.FitFields.{fit-image, unfit-at}
use Rattle.clr_open.proofs.OpenedRuntimes.{result-low, result-opened, result-stands, same-offset}
use Rattle.clr_open.proofs.opening.open.Goals as goal

pub returns-in-Some-clause-unfit : goal.returns-in-Some-clause-unfit
returns-in-Some-clause-unfit c = λ o e.
    let bytes = c.args.bytes.items in
    let (p, read) = c.in_ok-image.ensures.read in (
      p,
      read.is,
      unfit-at p o (sym (ap Some (same-offset c.in-Some.offset o e)) ∙ sym c.in-Some.is
          ∙ c.unfit_field.ensures bytes p read.is read.shows),
    )

pub go_on-requires-clause-fit : goal.go_on-requires-clause-fit
go_on-requires-clause-fit c =
    let bytes = c.args.bytes.items in
    let image = c.in_ok-image.image in
    let (p, read) = c.in_ok-image.ensures.read in (
      bytes,
      p,
      read,
      fit-image bytes image p read.is read.shows
          (sym c.in_default.is ∙ c.unfit_field.ensures bytes p read.is read.shows),
    )

pub returns-clause-opened : goal.returns-clause-opened
returns-clause-opened c =
    let bytes = c.args.bytes.items in
    let image = c.in_ok-image.image in
    let (p, read) = c.in_ok-image.ensures.read in
    let fit = fit-image bytes image p read.is read.shows
    (sym c.in_default.is ∙ c.unfit_field.ensures bytes p read.is read.shows) in
    result-opened bytes image p (budgets_of c.args.budgets) read fit c.requires c.go_on.result
    (c.go_on.ensures.opened bytes p read fit)

pub returns-clause-low : goal.returns-clause-low
returns-clause-low c =
    let bytes = c.args.bytes.items in
    let image = c.in_ok-image.image in
    let (p, read) = c.in_ok-image.ensures.read in
    let fit = fit-image bytes image p read.is read.shows
    (sym c.in_default.is ∙ c.unfit_field.ensures bytes p read.is read.shows) in
    result-low bytes image p (budgets_of c.args.budgets) read fit c.requires c.go_on.result
    (c.go_on.ensures.opened bytes p read fit)

pub returns-clause-stands : goal.returns-clause-stands
returns-clause-stands c =
    let bytes = c.args.bytes.items in
    let image = c.in_ok-image.image in
    let (p, read) = c.in_ok-image.ensures.read in
    let fit = fit-image bytes image p read.is read.shows
    (sym c.in_default.is ∙ c.unfit_field.ensures bytes p read.is read.shows) in
    result-stands bytes image p (budgets_of c.args.budgets) read fit c.requires c.go_on.result
    (c.go_on.ensures.opened bytes p read fit)
