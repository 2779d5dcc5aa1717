use Rattle.std.proofs.Common.{ap, sym, ◌∙◌, subst, drop}
use Rattle.std.proofs.lemmas.List.{take_rest}
use Rattle.clr_items.specs.Stretches.{HaveAtMost}
use Rattle.clr_items.proofs.Sizes.{at-most-drop}
use Rattle.clr_items.proofs.stretches.Stretch.upper.Goals as goal

pub invariant_of-result : goal.invariant_of-result
invariant_of-result c =
    let items = c.in-Ok.ensures.items ∙ take_rest c.deref.result.now 128 ∙ ap (drop 128) c.deref.ensures.value in
    subst (HaveAtMost c.self.inside.most) (sym items)
    (at-most-drop c.self.inside.most 128 c.self.inside.items.items c.self.invariant)

pub returns : goal.returns
returns c =
    c.in-Ok.ensures.items ∙ take_rest c.deref.result.now 128 ∙ ap (drop 128) (c.deref.ensures.value ∙ c.self.view_is)
