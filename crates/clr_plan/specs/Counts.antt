-- How many objects of the parts of a plan are marked, and how many aren't.
use Rattle.std.specs.Prelude.{◌≡◌, ℕ, zero, suc, ◌+◌, ◌<◌, ◌≤◌, List, length, if◌then◌else◌}
use Rattle.clr_types.specs.Types.{TypeRow}
use Rattle.clr_types.specs.declared.item.Item.{Item}
use Rattle.clr_heap.specs.View.{first_of, HeapView, items_between, last_of, segment_at, sight}
use Rattle.clr_moves.specs.Moves.{part_of, takes}
use Rattle.clr_moves.specs.declared.condemned.Condemned.{Condemned}
use Rattle.clr_sweep.specs.Passes.{item_tally}
use Rattle.clr_sweep.specs.SweptItems.{tally_among}
use Rattle.clr_sweep.specs.declared.tally.Tally.{Tally}
use Rattle.clr_plan.specs.declared.counts.Counts.{Counts}

-- what is counted before anything is
abbrev pub no_counts : Counts
no_counts = record { kept = 0; freed = 0 }

-- what two counts are together
abbrev pub plus : Counts → Counts → Counts
plus c d = record { kept = c.kept + d.kept; freed = c.freed + d.freed }

-- no count is above n
pub record IsAtMost (c : Counts) (n : ℕ) : Type 0 where
  pub kept : c.kept ≤ n
  pub freed : c.freed ≤ n

-- those of a sweep, without its bytes
abbrev pub counts_of : Tally → Counts
counts_of t = record { kept = t.kept; freed = t.freed }

-- of these items
abbrev pub counts_among : HeapView → List Item → Counts
counts_among h items = counts_of (tally_among h items)

-- what one item adds
abbrev pub item_counts : HeapView → Item → Counts
item_counts h i = counts_of (item_tally h i)

-- of segment k from p to e
abbrev pub counts_between : List TypeRow → HeapView → ℕ → ℕ → ℕ → Counts
counts_between rows h k p e = counts_among h (items_between (sight rows h k) p e)

-- of the parts of the k lowest segments
abbrev pub counts_in : List TypeRow → HeapView → Condemned → ℕ → Counts
counts_in rows h g zero = no_counts
counts_in rows h g (suc k) = plus (counts_in rows h g k)
    (if takes g (segment_at h k) then counts_between rows h k (part_of h g k) (last_of h k) else no_counts)

-- A walk over segment k has come from p to q, of the bytes up to e, and has counted what it met, no more than bytes.
pub record HasCounted (rows : List TypeRow) (h : HeapView) (k e p : ℕ) (before : Counts) (q : ℕ) (after : Counts)
    : Type 0 where
  pub counts : plus after (counts_between rows h k q e) ≡ plus before (counts_between rows h k p e)
  pub kept : after.kept + p ≤ before.kept + q
  pub freed : after.freed + p ≤ before.freed + q

-- those of the parts of the k lowest segments are counted
pub record HaveCounted (rows : List TypeRow) (h : HeapView) (g : Condemned) (k : ℕ) (c : Counts) : Type 0 where
  pub counts : c ≡ counts_in rows h g k
  pub most : (j : ℕ) → k ≤ j → j < length h.segments → IsAtMost c (first_of h j)
