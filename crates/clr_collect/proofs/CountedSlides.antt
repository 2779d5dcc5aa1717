-- A compaction is counted: the count grows by one at least, as far as a `u64` goes.
use Rattle.std.proofs.Common.{◌≡◌, ℕ, ◌+◌, ◌-◌, ◌^◌, ◌≤◌, Bool, true, false, List, min, arith, MatchBool}
use Rattle.clr_types.specs.Segments.{Layout}
use Rattle.clr_model.specs.Collection.{is_fit}
use Rattle.clr_model.specs.Compaction.{Move}
use Rattle.clr_model.specs.Sweep.{Survivor}
use Rattle.clr_model.specs.declared.Collected.{Collected}
use Rattle.clr_model.specs.declared.How.{How}
use Rattle.clr_moves.specs.Moves.{moved_bytes}
use Rattle.clr_survivors.specs.Survivors.{compaction_part}
use Rattle.clr_collect.specs.Collecting.{CountsSlides}

more : (top old new bytes : ℕ) → new ≡ min top (old + (1 + bytes)) → min top (old + 1) ≤ new
more top old new bytes is = omega (arith, is)

pub counted_slides : (how : How) (layout : Layout) (survive : List Survivor) (moves : List Move) (answer : Collected)
    (old new : ℕ) → CountsSlides how layout survive moves answer old new
    → MatchBool answer.compacted (min (2 ^ 64 - 1) (old + 1) ≤ new) (new ≡ old)
counted_slides how layout survive moves answer old new is = go answer.compacted is
  where
    bytes : ℕ
    bytes = moved_bytes (compaction_part (is_fit how) layout survive moves)

    go : (b : Bool) → MatchBool b (new ≡ min (2 ^ 64 - 1) (old + (1 + bytes))) (new ≡ old)
        → MatchBool b (min (2 ^ 64 - 1) (old + 1) ≤ new) (new ≡ old)
    go true e = more (2 ^ 64 - 1) old new bytes e
    go false e = e
