use Rattle.std.proofs.Common.{inl, ap, subst, ℕ}
use Rattle.clr_mark.specs.Markings.{HasReached}
use Rattle.clr_mark.specs.Waiting.{MarkerView}
use Rattle.clr_mark.specs.Ties.{Draws}
use Rattle.clr_mark.proofs.Graying.{reached-refl}
use Rattle.clr_mark.proofs.Tying.{MarkedOrTied}
use Rattle.clr_mark.proofs.marker.Marker.drain_listed.Goals as goal

pub returns-in_default-clause-reached : goal.returns-in_default-clause-reached
returns-in_default-clause-reached c =
    let rows = c.args.types.now in
    let h = c.args.heap.now in
    let g = c.args.self.now.oldest in
    reached-refl rows (Draws rows h c.args.handles.now g) (MarkedOrTied rows h c.args.handles.now g) h (λ x s. inl s)

pub returns-clause-reached : goal.returns-clause-reached
returns-clause-reached c =
    let rows = c.args.types.now in
    let h = c.args.heap.now in
    let handles = c.args.handles.now in
    let P : ℕ → Type 0 = λ g. HasReached rows (Draws rows h handles g) (MarkedOrTied rows h handles g) h
    c.drain_with-listed.new.heap in
    subst P (ap (λ (m : MarkerView). m.oldest) c.self.view_is) c.drain_with-listed.ensures.reached
