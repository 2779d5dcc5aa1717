-- A walk that enters the bricks of a segment, step by step.
use Rattle.std.specs.Prelude.{ℕ, ◌+◌, ◌-◌, ◌/◌, ◌%◌, Bool, ◌&&◌, ◌==◌, nat_le, nat_lt, if◌then◌else◌, ℤ}
use Rattle.clr_types.specs.Segments.{Layout}
use Rattle.clr_types.specs.declared.item.Item.{Item}
use Rattle.clr_bricks.specs.Bricks.{back_entry, root_entry}
use Rattle.clr_view.specs.Items.{is_object}
use Rattle.clr_generations.specs.Laws.{may_lead}

-- how many bricks one back entry goes back of so many
abbrev pub hop : ℕ → ℕ
hop far = if nat_lt far 32767 then far else 32767

-- the entries when those of the bricks of [next, to) lead back to the brick below `next`
abbrev pub led_back : (ℕ → ℤ) → ℕ → ℕ → ℕ → ℤ
led_back entry next to brick =
    if nat_le next brick && nat_lt brick to then back_entry (hop (brick + 1 - next)) else entry brick

-- whether a brick from `next` on is to name the item
abbrev pub is_entered : Layout → Item → ℕ → Bool
is_entered layout item next = nat_le next (item.place / 4096) && (is_object item && may_lead layout item.place)

-- the first brick that isn't settled when the walk has gone over the item
abbrev pub next_after : Layout → Item → ℕ → ℕ
next_after layout item next = if is_entered layout item next then item.place / 4096 + 1 else next

-- the entries then
abbrev pub entered_after : Layout → Item → (ℕ → ℤ) → ℕ → ℕ → ℤ
entered_after layout item entry next brick =
    if is_entered layout item next
    then (if brick == item.place / 4096 then root_entry (item.place % 4096) else led_back entry next (item.place / 4096)
    brick)
    else entry brick
