-- Each option is read, or has its default.
use Rattle.std.specs.Prelude.{Some, None}
use Rattle.std.proofs.Common.{refl, sym, ap, ◌∙◌, ◌≡◌, ℕ, Option}
use Rattle.std.specs.Prelude.{codes}
use Rattle.clap.specs.Matches.{found_of}
use Rattle.clap.specs.Walk.{first_of, rows_of}
use Rattle.clr_model.specs.Machine.{Options}
use Rattle.clr_args.specs.Budgets.{budgets_of}
use Rattle.clr_args.proofs.Numbers.{none_read, some_read}
use Rattle.clr_args.proofs.options.read_numbers.Goals as goal

pub returns-in_err-limit-clause-none : goal.returns-in_err-limit-clause-none
returns-in_err-limit-clause-none c = λ none options read.
    none_read (first_of (codes "limit") (rows_of (found_of c.args.found.now))) _ _ options.limit
    (ap (λ (o : Options). o.limit) c.defaults-defaults.ensures) c.in_err-limit.ensures read.limit

pub returns-in_err-segment-clause-none : goal.returns-in_err-segment-clause-none
returns-in_err-segment-clause-none c = λ none options read.
    none_read (first_of (codes "segment") (rows_of (found_of c.args.found.now))) _ _ options.segment
    (ap (λ (o : Options). o.segment) c.defaults-defaults.ensures) c.in_err-segment.ensures read.segment

pub returns-in_err-budgets-clause-none : goal.returns-in_err-budgets-clause-none
returns-in_err-budgets-clause-none c =
    λ none options read. c.in_err-budgets.ensures.none refl (budgets_of options) read.budgets

pub returns-in_err-large-clause-none : goal.returns-in_err-large-clause-none
returns-in_err-large-clause-none c = λ none options read.
    none_read (first_of (codes "large") (rows_of (found_of c.args.found.now))) _ _ options.large
    (ap (λ (o : Options). o.large) c.defaults-defaults.ensures) c.in_err-large.ensures read.large

pub returns-clause-said : goal.returns-clause-said
returns-clause-said c = record {
  limit = some_read (first_of (codes "limit") (rows_of (found_of c.args.found.now))) _ _ _
      (ap (λ (o : Options). o.limit) c.defaults-defaults.ensures) c.in_ok-limit.ensures;
  segment = some_read (first_of (codes "segment") (rows_of (found_of c.args.found.now))) _ _ _
      (ap (λ (o : Options). o.segment) c.defaults-defaults.ensures) c.in_ok-segment.ensures;
  budgets = c.in_ok-budgets.ensures.said;
  large = some_read (first_of (codes "large") (rows_of (found_of c.args.found.now))) _ _ _
      (ap (λ (o : Options). o.large) c.defaults-defaults.ensures) c.in_ok-large.ensures;
}

pub returns-clause-none : goal.returns-clause-none
returns-clause-none c = λ none options read. absurd cc
