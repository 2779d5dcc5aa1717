-- Places that are searched for side by side.
use Rattle.std.specs.Prelude.{◌≡◌, ℕ, ◌<◌, ◌≤◌, true, length}
use Rattle.clr_heap.specs.View.{HeapView, last_of, segment_at}
use Rattle.clr_plugs.specs.BrickEntries.{BricksView}
use Rattle.clr_plugs.specs.SideBySide.{HasBegun, IsSearching}
use Rattle.clr_plugs.specs.declared.plug_search.PlugSearch.{PlugSearch}
use Rattle.clr_moves.specs.Moves.{part_of, takes}
use Rattle.clr_moves.specs.declared.condemned.Condemned.{Condemned}

-- the place is in the part of segment t, below the segment's end
pub record IsUsedPlace (h : HeapView) (g : Condemned) (t place : ℕ) : Type 0 where
  pub in_range : t < length h.segments
  pub takes : takes g (segment_at h t) ≡ true
  pub low : part_of h g t ≤ place
  pub high : place < last_of h t

-- a search that has begun is on its way, for a place of a part
pub record IsSearchIn (h : HeapView) (bricks : BricksView) (g : Condemned) (s : PlugSearch) : Type 0 where
  pub searching : IsSearching h bricks s
  pub used : HasBegun s → IsUsedPlace h g s.segment s.place
