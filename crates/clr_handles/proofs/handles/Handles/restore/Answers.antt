use Rattle.std.proofs.Common.{◌≡◌, ◌∙◌, ◌+◌, ◌<◌, ◌/◌, ap, get_or, refl, set, sym, subst, arith, ℕ}
use Rattle.std.specs.FinMap as finmap
use Rattle.clr_types.specs.HandleCode.{number_of_kind}
use Rattle.clr_handles.specs.Tables.{Table}
use Rattle.clr_handles.specs.Tops.{AreCounts, AreTops, HasRaised, reach}
use Rattle.clr_handles.proofs.PinnedCounts.{counts-fit, counts-more}
use Rattle.clr_handles.proofs.TopSteps.{tops-grown, tops-put}
use Rattle.clr_handles.proofs.handles.Handles.restore.Goals as goal

pub overflow_add-self : goal.overflow_add-self
overflow_add-self c =
    let counts = c.self.inside.counts in
    let most = counts-fit c.self.inside.rows c.add_at.new.self counts c.args.h c.args.handle c.self.invariant.1
    (ap (λ (t : Table). finmap.get t c.args.h) c.self.view_is ∙ c.requires.free) c.in_ok-add_at.ensures.ok in
    let at : get_or counts c.number_of.result 0 ≡ get_or counts (number_of_kind c.args.handle.kind) 0 =
    ap (λ (n : ℕ). get_or counts n 0) c.number_of.ensures in
    let len : c.count.result ≡ finmap.len c.add_at.new.self = c.count.ensures in
    let fits : c.count.result < 18446744073709551616 = c.count.type_inv in
    omega (arith, most, at, len, fits)

pub invariant_of-self-2 : goal.invariant_of-self-2
invariant_of-self-2 c =
    let old = c.self.inside.tops.items in
    let grown = c.grow.new.tops.items in
    let new = c.raise.new.tops.items in
    let counts = c.self.inside.counts in
    let tops = tops-grown c.self.inside.rows old grown c.self.invariant.0 c.grow.ensures.grown in
    let raised : HasRaised grown new (c.args.h / 64) (reach c.args.handle) =
    subst (HasRaised grown new (c.args.h / 64)) c.reach_of.ensures c.raise.ensures in
    let put = tops-put c.self.inside.rows grown new c.args.h c.args.handle tops c.in_ok-grow.ensures.ok raised in (
      subst (λ (t : Table). AreTops t new) (sym c.in_ok-add_at.ensures.ok) put,
      subst (λ (n : ℕ). AreCounts c.add_at.new.self (set counts n (get_or counts n 0 + 1))) (sym c.number_of.ensures)
          (counts-more counts c.self.told c.args.handle (get_or counts (number_of_kind c.args.handle.kind) 0 + 1)
          c.self.inside.rows c.add_at.new.self c.args.h
          (ap (λ (t : Table). finmap.get t c.args.h) c.self.view_is ∙ c.requires.free) c.in_ok-add_at.ensures.ok
          c.self.invariant.1 refl),
    )
