-- What the write barrier does to cards.
use Rattle.std.specs.Prelude.{ℕ, ◌/◌, ◌==◌, Bool, ◌&&◌, ◌||◌}
use Rattle.clr_types.specs.Segments.{ephemeral, Layout, stands_in}

-- Whether a card is set after the slot at the address got this value: as before, and the slot's own card also where the
-- value is a place of the ephemeral segment.
abbrev pub carded : Layout → ℕ → ℕ → (ℕ → Bool) → ℕ → Bool
carded layout address value is_set card =
    ((card == address / 2048) && stands_in (ephemeral layout) value) || is_set card
