-- The objects' addresses are all that a number tells.
use Rattle.std.proofs.Common.{List, ℕ, ◌∙◌, subst, sym}
use Rattle.clr_types.specs.Rising.{IsIn}
use Rattle.clr_sos.proofs.Seen.{numbered}
use Rattle.clr_paths.specs.Numbers.{AreNumbers}
use Rattle.clr_paths.proofs.HeapNumbers.{are_numbers}
use Rattle.clr_paths.proofs.numbers.Numbers.of.Goals as goal

pub set_guesses-requires : goal.set_guesses-requires
set_guesses-requires c = λ x l.
    let v = c.args.view.now in
    (numbered v c.requires x ((are_numbers v c.requires).stand x
    (subst (λ (xs : List ℕ). IsIn x xs) (c.deref.ensures.value ∙ c.in_ok-places.ensures) l))).word

pub returns : goal.returns
returns c = subst (AreNumbers c.args.view.now) (sym c.in_ok-places.ensures) (are_numbers c.args.view.now c.requires)
