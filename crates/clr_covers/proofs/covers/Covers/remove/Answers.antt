use Rattle.std.proofs.Common.{◌≡◌, ap, ◌∙◌, subst, List, true}
use Rattle.clr_covers.specs.Covers.{AreApart, CoverView, is_covered, spans, value_at, without_cover}
use Rattle.clr_covers.proofs.Changing.{value_at-without_cover}
use Rattle.clr_covers.proofs.Spans.{spans-without_cover}
use Rattle.clr_covers.proofs.covers.Covers.remove.Goals as goal

pub returns-clause-values : goal.returns-clause-values
returns-clause-values g c d i h =
    let cs = c.self.inside.covers.items in
    let is = c.take_out.ensures.value in
    let P : List (CoverView _) → Type 0 = λ ds. is_covered ds i ≡ true in
    ap (λ (ds : List (CoverView _)). value_at d ds i) is
    ∙ value_at-without_cover cs c.args.first i d c.self.invariant (subst P is h)
    ∙ ap (λ (ds : List (CoverView _)). value_at d ds i) c.self.view_is

pub returns-clause-spans : goal.returns-clause-spans
returns-clause-spans g c k h e =
    let P : List (CoverView _) → Type 0 = AreApart in
    ap spans (c.take_out.ensures.value ∙ ap (λ (cs : List (CoverView _)). without_cover c.args.first cs) c.self.view_is)
    ∙ spans-without_cover _ k c.args.first (subst P c.self.view_is c.self.invariant) h e
