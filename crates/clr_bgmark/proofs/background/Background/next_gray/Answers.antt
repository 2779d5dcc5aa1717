use Rattle.std.proofs.Common.{subst}
use Rattle.std.specs.List.{AllByRecursion}
use Rattle.clr_bgmark.specs.Shades.{BackgroundView, IsShade}
use Rattle.clr_bgmark.proofs.background.Background.next_gray.Goals as goal

pub invariant_of-self : goal.invariant_of-self
invariant_of-self c = c.take_gray.ensures.watched

pub returns-clause-shades : goal.returns-clause-shades
returns-clause-shades c = subst (λ (v : BackgroundView). AllByRecursion IsShade v.shades) c.self.view_is
    c.self.invariant.background.shades

pub take_gray-requires : goal.take_gray-requires
take_gray-requires c = c.self.invariant
