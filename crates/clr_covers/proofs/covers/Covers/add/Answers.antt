use Rattle.std.proofs.Common.{◌≡◌, ap, ◌∙◌, List}
use Rattle.std.proofs.lemmas.Result.{on_ok_weaker}
use Rattle.clr_covers.specs.Covers.{cover_of, CoverView, is_covered, same_values, value_at, with_cover}
use Rattle.clr_covers.proofs.Changing.{added_or_not, is_covered-with_cover, value_at-same_values}
use Rattle.clr_covers.proofs.covers.Covers.add.Goals as goal

pub returns-clause-covered : goal.returns-clause-covered
returns-clause-covered g c =
    let now = c.args.self.now in
    let new = cover_of c.args.first (same_values c.args.v c.args.count) in
    let values = c.in_ok-values.ensures.items in
    on_ok_weaker c.put_in.result
    (λ is i. (let grown : c.put_in.new.covers.items ≡ with_cover new now = is ∙ cc in
    ap (λ (cs : List (CoverView _)). is_covered cs i) grown ∙ is_covered-with_cover new now i))
    c.put_in.ensures.ok

pub returns-clause-values : goal.returns-clause-values
returns-clause-values g c i =
    let now = c.args.self.now in
    let new = cover_of c.args.first (same_values c.args.v c.args.count) in
    let values = c.in_ok-values.ensures.items in
    added_or_not c.put_in.result c.put_in.ensures.ok c.put_in.ensures.err
    (λ is. (let grown : c.put_in.new.covers.items ≡ with_cover new now = is ∙ cc in
    ap (λ (cs : List (CoverView _)). value_at c.args.v cs i) grown
    ∙ value_at-same_values now c.args.first c.args.count i c.args.v c.requires.free))
    (λ is. ap (λ (cs : List (CoverView _)). value_at c.args.v cs i) (is ∙ c.self.view_is))
