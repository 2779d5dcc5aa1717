use Rattle.std.proofs.Common.{ℕ, MatchOption, Option, sym, subst}
use Rattle.clr_types.specs.Ranges.{Piece}
use Rattle.clr_evacuate.specs.Hints.{IsStartFor}
use Rattle.clr_evacuate.proofs.hints.Hints.learn_found.Goals as goal

pub returns-in-Some-clause-hints : goal.returns-in-Some-clause-hints
returns-in-Some-clause-hints c =
    let rows = c.args.types.now in
    let h = c.args.heap.now in
    c.learn.ensures rows h c.requires.hints
    (subst (λ (place : ℕ). IsStartFor rows h c.args.size place) (sym c.place.ensures)
    (subst (λ (o : Option Piece). MatchOption o (IsStartFor rows h c.args.size 18446744073709551615)
    (λ i. IsStartFor rows h c.args.size i.place)) c.in-Some.is c.requires.found))

pub narrow-requires-clause-none : goal.narrow-requires-clause-none
narrow-requires-clause-none c =
    let rows = c.args.types.now in
    let h = c.args.heap.now in
    subst (λ (o : Option Piece). MatchOption o (IsStartFor rows h c.args.size 18446744073709551615)
    (λ i. IsStartFor rows h c.args.size i.place)) c.in-None.is c.requires.found

pub narrow-requires-clause-hints : goal.narrow-requires-clause-hints
narrow-requires-clause-hints c =
    let rows = c.args.types.now in
    let h = c.args.heap.now in
    c.learn-in-None.ensures rows h c.requires.hints
    (subst (λ (o : Option Piece). MatchOption o (IsStartFor rows h c.args.size 18446744073709551615)
    (λ i. IsStartFor rows h c.args.size i.place)) c.in-None.is c.requires.found)

pub returns-in-None-clause-hints : goal.returns-in-None-clause-hints
returns-in-None-clause-hints c = c.narrow.ensures
