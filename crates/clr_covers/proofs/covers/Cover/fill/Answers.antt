use Rattle.std.proofs.Common.{◌+◌, ◌&&◌, cond, leb, ltb, get_or, ap, ◌∙◌, arith}
use Rattle.clr_covers.specs.Covers.{CoverView}
use Rattle.clr_covers.proofs.Filling.{filled-units}
use Rattle.clr_covers.proofs.covers.Cover.fill.Goals as goal

pub returns-clause-values : goal.returns-clause-values
returns-clause-values g c d i =
    let from = c.args.from in
    let past = c.args.past in
    let own = c.self.inside in
    let low = c.requires.first in
    let order = c.requires.order in
    let first = ap (λ (n : CoverView _). n.first) c.self.view_is in
    c.fill_part.ensures.values d i
    ∙ filled-units c.args.v (get_or own.values.items i d) own.first from past i (omega arith) (omega arith)
    ∙ ap (λ (n : CoverView _). cond (leb from (n.first + i) && ltb (n.first + i) past) c.args.v (get_or n.values i d))
    c.self.view_is
