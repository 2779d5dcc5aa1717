-- A pin that a walk over the entries of a queue has met.
use Rattle.std.specs.Prelude.{◌≡◌, ℕ, ◌-◌, ◌<◌, ◌≤◌, List, ◌∷◌, length}
use Rattle.clr_types.specs.Ranges.{Piece}
use Rattle.clr_pinq.specs.declared.entry.PinEntry.{PinEntry}
use Rattle.clr_plan.specs.Waiting.{ranges_from}
use Rattle.clr_plan.specs.declared.pin.Pin.{Pin}

abbrev pub piece_of_pin : Pin → Piece
piece_of_pin x = record { place = x.place; size = x.end - x.place }

-- the pin is the first one of the entries from number n on
pub record IsPinFrom (entries : List PinEntry) (n : ℕ) (x : Pin) : Type 0 where
  pub first : piece_of_pin x ∷ ranges_from x.behind entries ≡ ranges_from n entries
  pub some : x.place < x.end
  pub above : n < x.behind
  pub within : x.behind ≤ length entries
