use Rattle.std.proofs.Common.{ℤ, pos, List, sym, subst}
use Rattle.clr_covers.specs.Covers.{CoverView, HasAll}
use Rattle.clr_covers.proofs.Spans.{HasAll-new_values, HasAll-with_cover}
use Rattle.clr_bricks.specs.Bricks.{new_bricks}
use Rattle.clr_low_tests.proofs.bricks.two_segments.Goals as goal

pub returns : goal.returns
returns c =
    let P : List (CoverView ℤ) → Type 0 = λ bs. HasAll bs 65536 65600 in
    let first = subst P (sym c.in_ok-add.ensures.ok) (HasAll-new_values {X = ℤ} (pos 0) c.new-bricks.result 65536 64) in
    subst P (sym c.in_ok-add-2.ensures.ok) (HasAll-with_cover (new_bricks 268369920 65536) _ 65536 65600 first)
