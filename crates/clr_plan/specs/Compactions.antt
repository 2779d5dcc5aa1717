-- What a plan says of the compaction that it is for.
use Rattle.std.specs.Prelude.{ℕ, List}
use Rattle.std.specs.List.{flat_map}
use Rattle.clr_types.specs.Segments.{is_small_or_ephemeral, Layout}
use Rattle.clr_model.specs.Compaction.{compacted_end, compacted_free, Move, Plug, plugs_of, survivors_in}
use Rattle.clr_model.specs.Sweep.{free_after, segments_after, Survivor, taking_part}

-- the layout that a compaction leaves by these moves of plugs, with these boundaries
abbrev pub compacted_layout : Layout → ℕ → List Plug → List Move → ℕ → ℕ → Layout
compacted_layout layout g plugs moves start1 start0 = record layout {
  segments = segments_after is_small_or_ephemeral g (compacted_end start0 plugs moves) layout.segments;
  free = free_after is_small_or_ephemeral layout g (flat_map (compacted_free layout g start0 plugs moves)
      (taking_part is_small_or_ephemeral g layout));
  start1 = start1;
  start0 = start0;
}

-- the plugs of what survives in the small heap
abbrev pub small_heap_plugs : Layout → List Survivor → List Plug
small_heap_plugs layout kept = plugs_of (survivors_in is_small_or_ephemeral layout kept)
