use Rattle.std.proofs.Common.{arith, get_or}
use Rattle.clr_evacuate.specs.declared.hints.Hint.{Hint}
use Rattle.clr_evacuate.proofs.HintFacts.{hint-at, starts-low, starts-more}
use Rattle.clr_evacuate.proofs.hints.Hints.start_for.Goals as goal

pub returns-then-saturating_sub-ge24 : goal.returns-then-saturating_sub-ge24
returns-then-saturating_sub-ge24 c = λ rows h are.
    let less : Hint = get_or c.args.self.now.hints 128 (record { size = 0; place = 0 }) in
    let left = c.saturating_sub.ensures in
    let test = c.if-saturating_sub-ge24.true in
    starts-more rows h less.size c.args.size less.place (omega (arith, left, test))
    (hint-at rows h c.args.self.now.hints 128 are)

pub returns-else-saturating_sub-ge24 : goal.returns-else-saturating_sub-ge24
returns-else-saturating_sub-ge24 c = λ rows h are. starts-low rows h c.args.size
