use Rattle.std.proofs.Common.{◌≡◌, ℕ, ap, arith, get_or, subst}
use Rattle.std.proofs.lemmas.Bool.{ltb-false}
use Rattle.clr_types.specs.HandleCode.{number_of_kind}
use Rattle.clr_handles.specs.Tops.{HasNone}
use Rattle.clr_handles.proofs.PinnedCounts.{counts-none}
use Rattle.clr_handles.proofs.handles.Handles.has_kind.Goals as goal

pub returns : goal.returns
returns c = λ none.
    let counts = c.self.inside.counts in
    let few = ltb-false 0 (get_or counts c.number_of.result 0) none in
    let at : get_or counts c.number_of.result 0 ≡ get_or counts (number_of_kind c.args.kind) 0 =
    ap (λ (n : ℕ). get_or counts n 0) c.number_of.ensures in
    let zero : get_or counts (number_of_kind c.args.kind) 0 ≡ 0 = omega (arith, few, at) in
    subst (HasNone c.args.kind) c.self.view_is
    (counts-none c.self.inside.rows counts c.args.kind c.self.invariant.1 zero)
