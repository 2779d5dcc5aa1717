-- What a collection does to the queue where the answers are those of a function.
use Rattle.std.specs.Prelude.{◌≡◌, ℕ, ◌<◌, List, ◌++◌, map, filter}
use Rattle.std.specs.List.{AllZip}
use Rattle.clr_final.specs.declared.verdict.Verdict.{Verdict}
use Rattle.clr_final.specs.declared.verdict.Verdict.TheVariants.{Alive}
use Rattle.clr_final.specs.Queues.{ArePlacesJudged, is_alive, IsMoved, is_woken}

-- Where a function tells the verdicts, and all below `low` is alive, the lists afterwards are filters by it.
abbrev pub JudgingLaw : Type 0
JudgingLaw =
    (low : ℕ) (verdict : ℕ → Verdict) (old new ready ready' : List ℕ)
    → ArePlacesJudged (λ place v. v ≡ verdict place) low old new ready ready'
    → ((place : ℕ) → place < low → verdict place ≡ Alive)
    → (new ≡ filter (λ place. is_alive (verdict place)) old)
    × (ready' ≡ ready ++ filter (λ place. is_woken (verdict place)) old)

-- Where a function tells where places have moved, and all below `low` stays, the list afterwards is its map.
abbrev pub MovingLaw : Type 0
MovingLaw =
    (low : ℕ) (to : ℕ → ℕ) (old new : List ℕ) → AllZip (IsMoved (λ place moved. moved ≡ to place) low) old new
    → ((place : ℕ) → place < low → to place ≡ place) → new ≡ map to old
