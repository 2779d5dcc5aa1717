-- What a birth does to bricks.
use Rattle.std.specs.Prelude.{ℕ, zero, suc, ◌*◌, ◌/◌, ◌%◌, ◌==◌, Bool, true, ◌&&◌, nat_le, nat_lt, if◌then◌else◌}
use Rattle.std.specs.Prelude.{ℤ, pos, negsuc}
use Rattle.clr_types.specs.Segments.{Layout}
use Rattle.clr_bricks.specs.Bricks.{root_entry}

-- whether an entry names no offset up to this one
abbrev pub names_later : ℕ → ℤ → Bool
names_later offset (pos zero) = true
names_later offset (pos (suc other)) = nat_lt offset other
names_later offset (negsuc back) = true

-- whether the brick of a place in generation 0 is to name it: it may, and has named no place up to it
abbrev pub is_to_lead : Layout → (ℕ → ℤ) → ℕ → Bool
is_to_lead layout entry place =
    nat_le layout.start0 (4096 * (place / 4096)) && names_later (place % 4096) (entry (place / 4096))

-- the entries after the birth of an object at the place
abbrev pub with_place : Layout → (ℕ → ℤ) → ℕ → ℕ → ℤ
with_place layout entry place brick =
    if (brick == place / 4096) && is_to_lead layout entry place then root_entry (place % 4096) else entry brick

-- the entries where the brick of a place names it, which named no place up to it
abbrev pub with_named : (ℕ → ℤ) → ℕ → ℕ → ℤ
with_named entry place brick =
    if (brick == place / 4096) && names_later (place % 4096) (entry (place / 4096)) then root_entry (place % 4096)
    else entry brick
