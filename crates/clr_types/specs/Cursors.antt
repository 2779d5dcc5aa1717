-- Where an iterator over the offsets of references stands.
use Rattle.std.specs.Prelude.{ℕ, ◌+◌, ◌*◌, ◌/◌, ◌<◌, ◌≤◌, List, ◌++◌, map}
use Rattle.std.specs.List.{flat_map, AllByRecursion}
use Rattle.clr_types.specs.Descriptors.{offsets_from, run_bytes, run_offsets, moved, repeated}
use Rattle.clr_types.specs.declared.descriptors.Series.{Series}
use Rattle.clr_types.specs.declared.slots.Cursor.{Cursor}

-- a run has a slot in objects of this size, and ends within them
pub record IsInRange (size : ℕ) (series : Series) : Type 0 where
  pub some : 0 < run_bytes series.run_less_size size / 8
  pub bytes : run_bytes series.run_less_size size ≤ 1073741824
  pub start : series.start ≤ 4096

-- the offsets that are still to come
abbrev pub offsets_left : Cursor → List ℕ
offsets_left cursor = offsets_from cursor.place cursor.left
    ++ flat_map (run_offsets cursor.size)
    (map (moved cursor.shift) cursor.runs.now
    ++ repeated (cursor.shift + cursor.stride) cursor.stride cursor.elements cursor.series.now)

-- the runs are in range, and all offsets are small
pub record IsCursor (cursor : Cursor) : Type 0 where
  pub series : AllByRecursion (IsInRange cursor.size) cursor.series.now
  pub runs : AllByRecursion (IsInRange cursor.size) cursor.runs.now
  pub near : cursor.shift + cursor.stride * cursor.elements ≤ 1073741824
  pub low : cursor.place + 8 * cursor.left ≤ 4294967296
