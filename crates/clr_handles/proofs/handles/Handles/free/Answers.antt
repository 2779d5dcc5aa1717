use Rattle.std.proofs.Common.{◌≡◌, ◌∙◌, ◌-◌, ℕ, get_or, set, sym, ap, subst, arith}
use Rattle.clr_types.specs.HandleCode.{number_of_kind}
use Rattle.clr_handles.specs.Tables.{Table}
use Rattle.clr_handles.specs.Tops.{AreCounts, AreTops}
use Rattle.clr_handles.proofs.Lookups.{remove-absent}
use Rattle.clr_handles.proofs.PinnedCounts.{counts-fewer, counts-one}
use Rattle.clr_handles.proofs.TopSteps.{tops-removed}
use Rattle.clr_handles.proofs.handles.Handles.free.Goals as goal

pub invariant_of-self : goal.invariant_of-self
invariant_of-self c =
    let table = c.self.inside.rows in
    let absent = remove-absent table c.args.h (sym c.remove.ensures.value ∙ c.in_default.is) in
    let same : table ≡ c.remove.new.self = sym (c.remove.ensures.removed ∙ absent) in (
      subst (λ (t : Table). AreTops t c.self.inside.tops.items) same c.self.invariant.0,
      subst (λ (t : Table). AreCounts t c.self.inside.counts) same c.self.invariant.1,
    )

pub overflow_sub-self : goal.overflow_sub-self
overflow_sub-self c =
    let counts = c.self.inside.counts in
    let one = counts-one c.self.inside.rows counts c.args.h c.in-Some.handle c.self.invariant.1
    (sym c.remove.ensures.value ∙ c.in-Some.is) in
    let at : get_or counts c.number_of.result 0 ≡ get_or counts (number_of_kind c.in-Some.handle.kind) 0 =
    ap (λ (n : ℕ). get_or counts n 0) c.number_of.ensures in
    omega (arith, one, at)

pub invariant_of-self-2 : goal.invariant_of-self-2
invariant_of-self-2 c =
    let counts = c.self.inside.counts in
    let row = c.in-Some.handle in
    let here = sym c.remove.ensures.value ∙ c.in-Some.is in
    let one = counts-one c.self.inside.rows counts c.args.h row c.self.invariant.1 here in
    let tops = tops-removed c.self.inside.rows c.self.inside.tops.items c.args.h c.self.invariant.0 in (
      subst (λ (t : Table). AreTops t c.self.inside.tops.items) (sym c.remove.ensures.removed) tops,
      subst (λ (n : ℕ). AreCounts c.remove.new.self (set counts n (get_or counts n 0 - 1))) (sym c.number_of.ensures)
          (counts-fewer counts c.self.told row (get_or counts (number_of_kind row.kind) 0 - 1) c.self.inside.rows
          c.remove.new.self c.args.h here c.remove.ensures.removed c.self.invariant.1 (omega (arith, one))),
    )
