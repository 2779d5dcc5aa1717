use Rattle.std.proofs.Common.{sym, subst}
use Rattle.clr_items.specs.Stretches.{HaveAtMost}
use Rattle.clr_items.proofs.Sizes.{at-most-taken}
use Rattle.clr_items.proofs.stretches.Stretch.take_front.Goals as goal

pub invariant_of-self : goal.invariant_of-self
invariant_of-self c =
    let most = c.self.inside.most in
    let kept = at-most-taken most c.args.item.place c.args.taken c.self.inside.items.items c.self.invariant in
    subst (HaveAtMost c.most_after-self-inside.result) c.as_slice.ensures.value
    (c.most_after-self-inside.ensures (subst (HaveAtMost most) (sym c.as_slice.ensures.value)
    (subst (HaveAtMost most) (sym c.take_from.ensures) kept)))
