use Rattle.std.proofs.Common.{◌≡◌, ◌+◌, ℕ, ℤ, pos, List, ap, sym, subst}
use Rattle.clr_covers.specs.Covers.{CoverView, HasAll, past_last, with_cover}
use Rattle.clr_covers.proofs.Changing.{length-same_values}
use Rattle.clr_covers.proofs.Spans.{HasAll-new_cover}
use Rattle.clr_bricks.specs.Bricks.{new_bricks}
use Rattle.clr_heap_tests.proofs.plugs.started.Goals as goal

ends : past_last (new_bricks 268435456 262144) ≡ 65600
ends = ap (λ (n : ℕ). 65536 + n) (length-same_values {X = ℤ} (pos 0) 64)

pub returns : goal.returns
returns c =
    let new = new_bricks 268435456 262144 in
    let P : List (CoverView ℤ) → Type 0 = λ cs. HasAll cs 65536 65600 in
    let Q : ℕ → Type 0 = λ past. HasAll (with_cover new c.new-bricks.result) 65536 past in
    record { bricks = subst P (sym c.in_ok-add.ensures.ok) (subst Q ends (HasAll-new_cover new c.new-bricks.result)) }
