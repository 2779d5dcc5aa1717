-- The plans of parts that are written already stay, when a segment above them is.
use Rattle.std.proofs.Common.{◌≡◌, ℕ, ◌+◌, ◌-◌, ◌/◌, ◌%◌, ◌<◌, ◌≤◌, arith}
use Rattle.clr_types.specs.Rising.{IsIn}
use Rattle.clr_bricks.specs.Bricks.{entry_at}
use Rattle.clr_heap.specs.View.{HeapView, SameShape, word_of}
use Rattle.clr_plugs.specs.BrickEntries.{BricksView, IsCovered}
use Rattle.clr_plugs.specs.Plans.{IsPlanned, past_bricks, PlannedPart, plug_starts}
use Rattle.clr_plugs.proofs.Keeping.{planned-entries, planned-words}

pub plan-stays : (h now : HeapView) (bricks other : BricksView) (part : PlannedPart) (place : ℕ) → place % 4096 ≡ 0
    → part.high + 4096 ≤ place → SameShape h now → ((b : ℕ) → b % 8 ≡ 0 → b + 32 < place → word_of now b ≡ word_of h b)
    → ((i : ℕ) → (i + 1 < place / 4096) → entry_at other i ≡ entry_at bricks i)
    → ((i : ℕ) → IsCovered bricks i → IsCovered other i) → IsPlanned h bricks part → IsPlanned now other part
plan-stays h now bricks other part place round above shape words entries covers plan =
    planned-entries now bricks other part (past_bricks part) (λ i near has. covers i has)
    (λ i near below. entries i (let up = near.1 in omega (arith, up, above, round)))
    (planned-words h now bricks part (past_bricks part) shape keeps plan)
  where
    keeps : (x : ℕ) → IsIn x (plug_starts part.plugs) → (word_of now (x - 32) ≡ word_of h (x - 32))
        × (word_of now (x - 24) ≡ word_of h (x - 24)) × (word_of now (x - 16) ≡ word_of h (x - 16))
    keeps x i =
        let p = plan.lies.places x i in
        let z = p.aligned in
        let low = p.low in
        let high = p.high in
        let first_low = plan.lies.low in (
          words (x - 32) (omega (arith, z, low, first_low)) (omega (arith, high, above, low, first_low)),
          words (x - 24) (omega (arith, z, low, first_low)) (omega (arith, high, above, low, first_low)),
          words (x - 16) (omega (arith, z, low, first_low)) (omega (arith, high, above, low, first_low)),
        )
