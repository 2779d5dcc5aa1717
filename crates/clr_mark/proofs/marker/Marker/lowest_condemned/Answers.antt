use Rattle.std.proofs.Common.{◌≡◌, ℕ, ◌≤◌, true, ap, sym, ◌∙◌, subst}
use Rattle.clr_mark.specs.Marks.{is_condemned_place}
use Rattle.clr_mark.specs.Waiting.{MarkerView}
use Rattle.clr_mark.proofs.HandleSteps.{above_start0, above_start1}
use Rattle.clr_mark.proofs.marker.Marker.lowest_condemned.Goals as goal

pub returns-in-0-clause-below : goal.returns-in-0-clause-below
returns-in-0-clause-below c =
    let oldest = sym (ap (λ (m : MarkerView). m.oldest) c.self.view_is) ∙ c.in-0.is in
    let start = ap (λ (b : ℕ × ℕ). b.1) c.boundaries-start1.ensures in
    λ x near. subst (λ (b : ℕ). b ≤ x) (sym start) (above_start0 c.args.heap.now x
    (subst (λ (b : ℕ). is_condemned_place c.args.heap.now b x ≡ true) oldest near))

pub returns-in-1-clause-below : goal.returns-in-1-clause-below
returns-in-1-clause-below c =
    let oldest = sym (ap (λ (m : MarkerView). m.oldest) c.self.view_is) ∙ c.in-1.is in
    let start = ap (λ (b : ℕ × ℕ). b.0) c.boundaries-start1.ensures in
    λ x near. subst (λ (b : ℕ). b ≤ x) (sym start) (above_start1 c.args.heap.now x
    (subst (λ (b : ℕ). is_condemned_place c.args.heap.now b x ≡ true) oldest near))
