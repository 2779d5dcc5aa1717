use Rattle.std.proofs.Common.{ap, find, sym, ◌∙◌}
use Rattle.clr_types.specs.Ranges.{fits, Piece}
use Rattle.clr_items.proofs.Sizes.{none-fits}
use Rattle.clr_items.proofs.stretches.Stretch.first_in.Goals as goal

pub returns-then-size-self : goal.returns-then-size-self
returns-then-size-self c =
    sym (none-fits c.args.size c.self.inside.most c.self.inside.items.items c.if-size-self.true c.self.invariant)
    ∙ ap (find (λ (p : Piece). fits c.args.size p.size)) c.self.view_is
