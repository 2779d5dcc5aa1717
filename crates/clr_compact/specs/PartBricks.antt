-- The bricks of parts that are entered anew: two entries are given back, the others of the part are taken away.
use Rattle.std.specs.Prelude.{◌≡◌, ℕ, ◌-◌, ◌*◌, ◌/◌, ◌<◌, ◌≤◌, ◌==◌, nat_lt, List, length, if◌then◌else◌, ℤ, pos}
use Rattle.std.specs.Prelude.{negsuc, true}
use Rattle.clr_types.specs.Segments.{ephemeral, reserved_end}
use Rattle.clr_types.specs.Types.{TypeRow}
use Rattle.clr_bricks.specs.Bricks.{back_entry, entry_at, root_entry}
use Rattle.clr_heap.specs.View.{first_of, frame, HeapView, segment_at}
use Rattle.clr_moves.specs.Moves.{part_of, takes}
use Rattle.clr_moves.specs.declared.planned.Planned.{Planned}
use Rattle.clr_plugs.specs.BrickEntries.{BricksView}
use Rattle.clr_view.specs.View.{objects_in}
use Rattle.clr_compact.specs.Entered.{AreEnteredBelow, CanEnterFrom, forgotten}
use Rattle.clr_moves.specs.declared.condemned.Condemned.{Condemned}
use Rattle.clr_moves.specs.declared.condemned.Condemned.TheVariants.{Generations, LargeSegments}

-- an entry that is given back: one that led back leads to the brick below
abbrev pub restored : ℤ → ℤ
restored (pos n) = pos n
restored (negsuc n) = back_entry 1

-- the entries where one of them is given back
abbrev pub restored_at : (ℕ → ℤ) → ℕ → ℤ → ℕ → ℤ
restored_at entry brick e i = if i == brick then restored e else entry i

-- The entries where that of the brick below the one of the place `from` is given back, and that of its own brick, where
-- this begins below `room`.
abbrev pub both_restored : (ℕ → ℤ) → ℕ → ℕ → ℤ → ℤ → ℕ → ℤ
both_restored entry from room below first i =
    if nat_lt (4096 * (from / 4096)) room
    then restored_at (restored_at entry (from / 4096 - 1) below) (from / 4096) first i
    else restored_at entry (from / 4096 - 1) below i

-- an entry that names an offset names one in its brick
abbrev pub IsEntry : ℤ → Type 0
IsEntry e = (offset : ℕ) → e ≡ root_entry offset → offset < 4096

-- The part of segment k starts at `from`, and the segment ended at `end`. The two entries that were kept name offsets
-- in their bricks.
pub record IsYoungPart (h : HeapView) (k from end : ℕ) (planned : Planned) : Type 0 where
  pub low : first_of h k ≤ from
  pub order : from ≤ end
  pub high : end ≤ reserved_end (segment_at h k)
  pub below_entry : IsEntry planned.below
  pub first_entry : 4096 * (from / 4096) < reserved_end (segment_at h k) → IsEntry planned.first

-- The bricks of segment k can be entered anew from `from` on for the heap `final`: with two entries given back and the
-- others taken away they tell the objects below.
pub record CanEnterYoung (rows : List TypeRow) (now final : HeapView) (bricks : BricksView) (k from end : ℕ)
    (planned : Planned) : Type 0 where
  pub walked : CanEnterFrom rows now final k from
  pub entered : AreEnteredBelow rows (frame final) (objects_in rows final)
      (forgotten (both_restored (entry_at bricks) from (reserved_end (segment_at final k)) planned.below planned.first)
      from end) (segment_at final k) from

-- these parts are whole segments
abbrev pub AreWhole : Condemned → Type 0
AreWhole (Generations g) = g ≡ 2
AreWhole LargeSegments = Unit {0}

-- The bricks of all parts can be entered anew for the heap `final`.
pub record CanEnterParts (rows : List TypeRow) (now final : HeapView) (bricks : BricksView) (g from end : ℕ)
    (planned : Planned) : Type 0 where
  pub whole : g ≡ 2 → (t : ℕ) → t < length now.segments → takes (Generations 2) (segment_at now t) ≡ true
      → CanEnterFrom rows now final t (first_of now t)
  pub young : g < 2 → (e : ℕ) → e < length now.segments → segment_at now e ≡ ephemeral (frame now)
      → CanEnterYoung rows now final bricks e from end planned

-- The boundaries of generations have moved. Before, the part of the ephemeral segment started at `from`.
pub record HasMovedBounds (g from : ℕ) (was now : HeapView) : Type 0 where
  pub others : now ≡ record was { start1 = now.start1; start0 = now.start0 }
  pub young : (e : ℕ) → e < length was.segments → segment_at was e ≡ ephemeral (frame was)
      → from ≡ part_of was (Generations g) e
