-- Counts of lines that are no larger than items allow.
use Rattle.std.specs.Prelude.{ℕ, ◌<◌, ◌≤◌, List, get_or, length}
use Rattle.clr_types.specs.declared.item.Item.{Item}
use Rattle.clr_model.specs.Sos.{bytes_in}
use Rattle.clr_shows.specs.declared.stats.Stat.{Stat}
use Rattle.clr_shows.specs.Stats.{no_stat}

-- counts that are no larger than what items come to
pub record IsStatWithin (s : Stat) (items : List Item) : Type 0 where
  pub objects : s.objects ≤ length items
  pub bytes : s.bytes ≤ bytes_in items
  pub free : s.free ≤ bytes_in items
  pub dead : s.dead ≤ bytes_in items

-- the counts of six lines are no larger than what items come to
abbrev pub AreWithin : List Stat → List Item → Type 0
AreWithin stats items = (k : ℕ) → k < 6 → IsStatWithin (get_or stats k no_stat) items
