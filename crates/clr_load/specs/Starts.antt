-- Where objects start: for each segment a bit for each word from its first place on.
use Rattle.std.specs.Prelude.{ℕ, ◌+◌, ◌*◌, ◌-◌, ◌/◌, ◌%◌, ◌≤◌, ◌==◌, nat_le, Bool, ◌&&◌, length, List, [], ◌∷◌}
use Rattle.std.specs.List.{AllByRecursion, list_any}
use Rattle.clr_sos.specs.Windows.{bit_of}
use Rattle.clr_load.specs.declared.starts.Range.{Range}

-- a place whose bit is set in a range
unfoldable pub has_place : Range → ℕ → Bool
has_place r x = (nat_le r.first x && ((x - r.first) % 8 == 0)) && bit_of r.bits.items ((x - r.first) / 8)

-- a place whose bit is set
unfoldable pub has_start : List Range → ℕ → Bool
has_start ranges x = list_any (λ r. has_place r x) ranges

-- the address behind the last word that has a bit
abbrev pub range_end : Range → ℕ
range_end r = r.first + 512 * length r.bits.items

-- no range has a bit for an address from here on
abbrev pub AreBelow : ℕ → List Range → Type 0
AreBelow a ranges = AllByRecursion (λ (r : Range). range_end r ≤ a) ranges

-- each range ends before the next begins
abbrev pub AreApart : List Range → Type 0
AreApart [] = Unit {0}
AreApart (r ∷ rs) = AllByRecursion (λ (q : Range). range_end r ≤ q.first) rs × AreApart rs
