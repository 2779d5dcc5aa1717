use Rattle.std.proofs.Common.{◌≡◌, ap, ◌∙◌, List}
use Rattle.clr_covers.specs.Covers.{CoverView, spans, value_at, with_value}
use Rattle.clr_covers.proofs.Values.{spans-with_value, value_at-with_value}
use Rattle.clr_covers.proofs.covers.Covers.set.Goals as goal

pub returns-clause-values : goal.returns-clause-values
returns-clause-values g c d j =
    let is : c.set_value_in.new.covers.items ≡ with_value c.args.self.now c.args.i c.args.v =
    c.set_value_in.ensures.value
    ∙ ap (λ (cs : List (CoverView _)). with_value cs c.args.i c.args.v) c.self.view_is
    in
    ap (λ (cs : List (CoverView _)). value_at d cs j) is
    ∙ value_at-with_value c.args.self.now c.args.i c.args.v d j c.requires

pub returns-clause-spans : goal.returns-clause-spans
returns-clause-spans g c =
    ap spans c.set_value_in.ensures.value ∙ spans-with_value _ c.args.i c.args.v ∙ ap spans c.self.view_is
