use Rattle.std.proofs.Common.{refl}
use Rattle.clr_reloc.proofs.clearing.clear_unless_partial.Goals as goal

pub returns-then-not-is_partial-clause-same : goal.returns-then-not-is_partial-clause-same
returns-then-not-is_partial-clause-same c young = absurd (c.is_partial.ensures.no c.if-not-is_partial.true young)

pub returns-then-not-is_partial-clause-cleared : goal.returns-then-not-is_partial-clause-cleared
returns-then-not-is_partial-clause-cleared c whole = c.clear_cards.ensures.cleared

pub returns-then-not-is_partial-clause-spans : goal.returns-then-not-is_partial-clause-spans
returns-then-not-is_partial-clause-spans c = c.clear_cards.ensures.spans

pub returns-else-not-is_partial-clause-same : goal.returns-else-not-is_partial-clause-same
returns-else-not-is_partial-clause-same c young = refl

pub returns-else-not-is_partial-clause-cleared : goal.returns-else-not-is_partial-clause-cleared
returns-else-not-is_partial-clause-cleared c whole =
    absurd (whole (c.is_partial.ensures.yes c.if-not-is_partial.false))

pub returns-else-not-is_partial-clause-spans : goal.returns-else-not-is_partial-clause-spans
returns-else-not-is_partial-clause-spans c = refl
