-- One entry of the bricks written.
use Rattle.std.proofs.Common.{◌≡◌, ◌≢◌, ℕ, ℤ, pos, ◌∙◌}
use Rattle.clr_bricks.specs.Bricks.{entry_at}
use Rattle.clr_covers.proofs.Values.{is_covered-with_value, value_at-other, value_at-same}
use Rattle.clr_covers.specs.Covers.{with_value}
use Rattle.clr_plugs.specs.BrickEntries.{BricksView, IsCovered}

-- the entry that was written
pub entry_written : (b : BricksView) (i : ℕ) (e : ℤ) → IsCovered b i → entry_at (with_value b i e) i ≡ e
entry_written b i e c = value_at-same b i e (pos 0) c

-- every other entry
pub entry_kept : (b : BricksView) (i j : ℕ) (e : ℤ) → IsCovered b i → j ≢ i
    → entry_at (with_value b i e) j ≡ entry_at b j
entry_kept b i j e c ne = value_at-other b i e (pos 0) j ne

-- no brick comes or goes
pub covered_kept : (b : BricksView) (i j : ℕ) (e : ℤ) → IsCovered b j → IsCovered (with_value b i e) j
covered_kept b i j e c = is_covered-with_value b i e j ∙ c
