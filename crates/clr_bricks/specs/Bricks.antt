-- Bricks: their entries, and where following back entries leads.
use Rattle.std.specs.Prelude.{◌≡◌, ℕ, suc, ◌+◌, ◌-◌, ◌/◌, ◌<◌, ◌≤◌, ◌⊎◌, ℤ, pos, negsuc, if◌then◌else◌, List, [], ◌∷◌}
use Rattle.std.specs.Prelude.{Option, MatchOption, ◌&&◌, nat_le, nat_lt}
use Rattle.clr_covers.specs.Covers.{cover_of, CoverView, has_unit, same_values, value_at}

-- the entry of a brick: 0 for none, one more than an offset, or less than 0 by how many bricks to go back
abbrev pub entry_at : List (CoverView ℤ) → ℕ → ℤ
entry_at bs brick = value_at (pos 0) bs brick

-- the entry of a root at this offset
abbrev pub root_entry : ℕ → ℤ
root_entry offset = pos (offset + 1)

-- the entry that leads this many bricks back
abbrev pub back_entry : ℕ → ℤ
back_entry back = negsuc (back - 1)

-- how many bricks one back entry goes back of so many
abbrev pub hop : ℕ → ℕ
hop far = if nat_lt far 32767 then far else 32767

-- the entries when those of the bricks of [next, to) lead back to the brick below `next`
abbrev pub led_back : (ℕ → ℤ) → ℕ → ℕ → ℕ → ℤ
led_back entry next to brick =
    if nat_le next brick && nat_lt brick to then back_entry (hop (brick + 1 - next)) else entry brick

-- the entries of the bricks of [next, to) lead back so already
abbrev pub AreLedBack : (ℕ → ℤ) → ℕ → ℕ → Type 0
AreLedBack entry next to = (i : ℕ) → next ≤ i → i < to → entry i ≡ back_entry (hop (i + 1 - next))

-- the bricks of [base, base + len), without entries
abbrev pub new_bricks : ℕ → ℕ → CoverView ℤ
new_bricks base len = cover_of (base / 4096) (same_values (pos 0) (len / 4096))

-- the first brick of the cover that has a brick
abbrev pub first_brick : List (CoverView ℤ) → ℕ → ℕ
first_brick [] brick = 0
first_brick (b ∷ bs) brick = if has_unit b brick then b.first else first_brick bs brick

-- n back entries, followed one after the other, lead from one brick to another, and none below the brick `first`
pub data LeadsBack (entry : ℕ → ℤ) (first : ℕ) : ℕ → ℕ → ℕ → Type 0 where
  here : {brick : ℕ} → LeadsBack entry first brick brick 0
  back : {brick to n : ℕ} (k : ℕ) → entry brick ≡ negsuc k → first + suc k ≤ brick
      → LeadsBack entry first (brick - suc k) to n → LeadsBack entry first brick to (suc n)

-- the entry names an offset
abbrev pub IsRoot : ℤ → Type 0
IsRoot e = (offset : ℕ) × (e ≡ root_entry offset)

-- nothing can be followed from the brick: it has no entry, or one that leads below the brick `first`
abbrev pub IsEnd : (ℕ → ℤ) → ℕ → ℕ → Type 0
IsEnd entry first brick = (entry brick ≡ pos 0) ⊎ ((k : ℕ) × (entry brick ≡ negsuc k) × (brick < first + suc k))

-- n back entries lead from one brick to another of its cover
abbrev pub LeadsTo : List (CoverView ℤ) → ℕ → ℕ → ℕ → Type 0
LeadsTo bs from to n = LeadsBack (entry_at bs) (first_brick bs from) from to n

-- from a brick of the cover that `from` has, nothing can be followed
abbrev pub IsLast : List (CoverView ℤ) → ℕ → ℕ → Type 0
IsLast bs from brick = IsEnd (entry_at bs) (first_brick bs from) brick

-- back entries lead from one brick to another, which names an offset
abbrev pub LeadsToRoot : List (CoverView ℤ) → ℕ → ℕ → Type 0
LeadsToRoot bs from to = (n : ℕ) × LeadsTo bs from to n × IsRoot (entry_at bs to)

-- back entries lead to a brick from which nothing can be followed
abbrev pub LeadsNowhere : List (CoverView ℤ) → ℕ → Type 0
LeadsNowhere bs from = (to : ℕ) × (n : ℕ) × LeadsTo bs from to n × IsLast bs from to

-- n back entries lead from one brick to another, and no further
abbrev pub StopsAt : List (CoverView ℤ) → ℕ → ℕ → ℕ → Type 0
StopsAt bs from to n = LeadsTo bs from to n × (IsRoot (entry_at bs to) ⊎ IsLast bs from to)

-- what a search from a brick found, and how many entries it read
pub record IsSearched (bs : List (CoverView ℤ)) (from : ℕ) (result : Option ℕ) (reads : ℕ) : Type 0 where
  pub last : ℕ
  pub count : ℕ
  pub path : LeadsTo bs from last count
  pub outcome : MatchOption result (IsLast bs from last) (λ b. (b ≡ last) × IsRoot (entry_at bs last))
  pub counted : reads ≡ count + 1
