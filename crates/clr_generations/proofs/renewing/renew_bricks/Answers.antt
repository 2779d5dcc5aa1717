use Rattle.std.proofs.Common.{ℕ, ap, subst, sym}
use Rattle.clr_heap.specs.View.{frame}
use Rattle.clr_generations.specs.Renewing.{HasBorder}
use Rattle.clr_generations.proofs.renewing.renew_bricks.Goals as goal

pub renew_part-requires-clause-border : goal.renew_part-requires-clause-border
renew_part-requires-clause-border c =
    let start0 = ap (λ (p : ℕ × ℕ). p.1) c.boundaries-start0.ensures in
    subst (HasBorder c.args.types.now c.args.heap.now c.args.k) (sym start0) c.requires.young

pub renew_part-requires-clause-told : goal.renew_part-requires-clause-told
renew_part-requires-clause-told c = record {
  before = frame c.args.heap.now;
  start0 = sym (ap (λ (p : ℕ × ℕ). p.1) c.boundaries-start0.ensures);
  old = c.requires.old;
  law = c.requires.law;
}
