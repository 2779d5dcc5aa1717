-- One plug whose end may lie under the information of the plug behind it.
use Rattle.std.specs.Prelude.{◌≡◌, ℕ, ◌+◌, ◌-◌, ◌%◌, ◌<◌, ◌≤◌, ◌⊎◌, List, None}
use Rattle.clr_model.specs.Compaction.{Move}
use Rattle.clr_moves.specs.Moves.{landing_end}
use Rattle.clr_compact.specs.Slides.{HasCells, IsFreeRange}
use Rattle.clr_pinq.specs.Queue.{logical, queue_word}
use Rattle.clr_pinq.specs.declared.entry.PinEntry.{PinEntry}
use Rattle.clr_pinq.specs.declared.entry.Saved.{Saved}

-- of a plug's cells no words are saved but the 24 bytes at its end
abbrev pub EndsUnderInfo : List PinEntry → Move → Type 0
EndsUnderInfo entries v =
    (b : ℕ) → b % 8 ≡ 0 → v.start ≤ b + 8 → b + 32 < v.start + v.size → queue_word entries b ≡ None

-- the three logical words that end 8 bytes before a place
abbrev pub three_before : List PinEntry → (ℕ → ℕ) → ℕ → Saved
three_before entries word place = record {
  at = place - 32;
  w0 = logical entries word (place - 32);
  w1 = logical entries word (place - 24);
  w2 = logical entries word (place - 16);
}

-- What placing a plug makes of the words `was`, where `whole` are those that its cells are to have: they stand where it
-- goes, what is left before it from `top` on is free, and all else stays.
pub record HasLandedWhole (v : Move) (top : ℕ) (whole was now : ℕ → ℕ) : Type 0 where
  pub cells : HasCells whole now v
  pub free : top < v.to → IsFreeRange now top (v.to - top)
  pub others : (b : ℕ) → b % 8 ≡ 0 → (b + 8 < top) ⊎ (landing_end v ≤ b + 8) → now b ≡ was b
