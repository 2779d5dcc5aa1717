-- Each budget is read, or has its default.
use Rattle.std.proofs.Common.{ap}
use Rattle.std.specs.Prelude.{codes}
use Rattle.clap.specs.Matches.{found_of}
use Rattle.clap.specs.Walk.{first_of, rows_of}
use Rattle.clr_model.specs.Machine.{Options}
use Rattle.clr_args.proofs.Numbers.{none_read, some_read}
use Rattle.clr_args.proofs.budgets.Budgets.read_numbers.Goals as goal

pub returns-in_err-b0-clause-none : goal.returns-in_err-b0-clause-none
returns-in_err-b0-clause-none c = λ none budgets read.
    none_read (first_of (codes "b0") (rows_of (found_of c.args.found.now))) _ _ budgets.b0
    (ap (λ (o : Options). o.b0) c.defaults-defaults.ensures) c.in_err-b0.ensures read.b0

pub returns-in_err-b1-clause-none : goal.returns-in_err-b1-clause-none
returns-in_err-b1-clause-none c = λ none budgets read.
    none_read (first_of (codes "b1") (rows_of (found_of c.args.found.now))) _ _ budgets.b1
    (ap (λ (o : Options). o.b1) c.defaults-defaults.ensures) c.in_err-b1.ensures read.b1

pub returns-in_err-b2-clause-none : goal.returns-in_err-b2-clause-none
returns-in_err-b2-clause-none c = λ none budgets read.
    none_read (first_of (codes "b2") (rows_of (found_of c.args.found.now))) _ _ budgets.b2
    (ap (λ (o : Options). o.b2) c.defaults-defaults.ensures) c.in_err-b2.ensures read.b2

pub returns-in_err-bl-clause-none : goal.returns-in_err-bl-clause-none
returns-in_err-bl-clause-none c = λ none budgets read.
    none_read (first_of (codes "bl") (rows_of (found_of c.args.found.now))) _ _ budgets.bl
    (ap (λ (o : Options). o.bl) c.defaults-defaults.ensures) c.in_err-bl.ensures read.bl

pub returns-in_err-compact-clause-none : goal.returns-in_err-compact-clause-none
returns-in_err-compact-clause-none c = λ none budgets read.
    none_read (first_of (codes "compact") (rows_of (found_of c.args.found.now))) _ _ budgets.compact
    (ap (λ (o : Options). o.compact) c.defaults-defaults.ensures) c.in_err-compact.ensures read.compact

pub returns-clause-said : goal.returns-clause-said
returns-clause-said c = record {
  b0 = some_read (first_of (codes "b0") (rows_of (found_of c.args.found.now))) _ _ _
      (ap (λ (o : Options). o.b0) c.defaults-defaults.ensures) c.in_ok-b0.ensures;
  b1 = some_read (first_of (codes "b1") (rows_of (found_of c.args.found.now))) _ _ _
      (ap (λ (o : Options). o.b1) c.defaults-defaults.ensures) c.in_ok-b1.ensures;
  b2 = some_read (first_of (codes "b2") (rows_of (found_of c.args.found.now))) _ _ _
      (ap (λ (o : Options). o.b2) c.defaults-defaults.ensures) c.in_ok-b2.ensures;
  bl = some_read (first_of (codes "bl") (rows_of (found_of c.args.found.now))) _ _ _
      (ap (λ (o : Options). o.bl) c.defaults-defaults.ensures) c.in_ok-bl.ensures;
  compact = some_read (first_of (codes "compact") (rows_of (found_of c.args.found.now))) _ _ _
      (ap (λ (o : Options). o.compact) c.defaults-defaults.ensures) c.in_ok-compact.ensures;
}

pub returns-clause-none : goal.returns-clause-none
returns-clause-none c = λ none budgets read. absurd cc
