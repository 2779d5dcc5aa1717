-- Stretches of a list of pieces, one behind the other.
use Rattle.std.specs.Prelude.{◌≡◌, ℕ, zero, suc, ◌<◌, ◌≤◌, List, [], ◌∷◌, ◌++◌, length}
use Rattle.std.specs.List.{AllByRecursion}
use Rattle.clr_types.specs.Ranges.{Piece}
use Rattle.clr_items.specs.Items.{lower_count}

-- the pieces of all stretches
abbrev pub all_of : List (List Piece) → List Piece
all_of [] = []
all_of (s ∷ ss) = s ++ all_of ss

-- none of the pieces has more bytes
abbrev pub HaveAtMost : ℕ → List Piece → Type 0
HaveAtMost most ps = AllByRecursion (λ (p : Piece). p.size ≤ most) ps

-- no stretch is without pieces
abbrev pub AreFilled : List (List Piece) → Type 0
AreFilled ss = AllByRecursion (λ (s : List Piece). 0 < length s) ss

-- of stretch k not all pieces stand below a place, and those of the stretches before it do: all do where it is the end
abbrev pub IsHome : ℕ → List (List Piece) → ℕ → Type 0
IsHome place [] k = k ≡ 0
IsHome place (s ∷ ss) zero = lower_count place s < length s
IsHome place (s ∷ ss) (suc k) = AllByRecursion (λ (p : Piece). p.place < place) s × IsHome place ss k
