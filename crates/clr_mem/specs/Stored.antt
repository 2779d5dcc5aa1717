-- Bytes that are zero at first, and of which only the front is stored.
use Rattle.std.specs.Prelude.{◌≡◌, ℕ, ◌-◌, ◌%◌, ◌≤◌, List, ◌++◌, length}
use Rattle.clr_mem.specs.Words.{zeros}

-- `size` bytes: those that are stored, and zeros behind them
unfoldable pub with_zeros : ℕ → List ℕ → List ℕ
with_zeros size stored = stored ++ zeros (size - length stored)

-- of `size` bytes `stored` are stored, which are whole words, and there is room for all of them
pub record IsReserved (size stored room : ℕ) : Type 0 where
  pub whole : size % 8 ≡ 0
  pub words : stored % 8 ≡ 0
  pub inside : stored ≤ size
  pub fits : size ≤ room
