-- What stands in each generation.
use Rattle.std.specs.Prelude.{◌≡◌, ℕ, ◌+◌, ◌<◌, ◌^◌, Bool, ◌&&◌, ◌||◌, not, List, ◌∷◌, ◌++◌, codes, decimal, filter}
use Rattle.std.specs.Prelude.{get_or, length, set}
use Rattle.std.specs.Prelude.{if◌then◌else◌, ◌==◌}
use Rattle.clr_types.specs.Types.{TypeRow}
use Rattle.clr_types.specs.declared.item.Item.{Item}
use Rattle.clr_heap.specs.View.{HeapView}
use Rattle.clr_model.specs.Looks.{dead_words, objects_among, stat_row_in}
use Rattle.clr_model.specs.Sos.{bytes_in, is_free_item, line}
use Rattle.clr_view.specs.View.{layout_in}
use Rattle.clr_shows.specs.declared.stats.Stat.{Stat}

-- what items come to; `live` says which addresses hold objects that roots reach
abbrev pub stat_of : (ℕ → Bool) → List Item → Stat
stat_of live items = record {
  objects = length (objects_among items);
  bytes = bytes_in (objects_among items);
  free = bytes_in (filter is_free_item items);
  dead = bytes_in (filter (λ i. not (live i.place)) (objects_among items));
}

-- nothing counted
abbrev pub no_stat : Stat
no_stat = record { objects = 0; bytes = 0; free = 0; dead = 0 }

-- an object that no root reaches
abbrev pub is_dead : (ℕ → Bool) → Item → Bool
is_dead live i = not (is_free_item i) && not (live i.place)

-- the counts with one item more, and whether that is dead
abbrev pub counted : Stat → Item → Bool → Stat
counted s i dead =
    if is_free_item i then record s { free = s.free + i.size } else
    record {
      objects = s.objects + 1;
      bytes = s.bytes + i.size;
      free = s.free;
      dead = (if dead then s.dead + i.size else s.dead);
    }

-- none of the counts is too large for one item more
pub record CanCount (s : Stat) (i : Item) : Type 0 where
  pub objects : s.objects + 1 < 2 ^ 64
  pub bytes : s.bytes + i.size < 2 ^ 64
  pub free : s.free + i.size < 2 ^ 64
  pub dead : s.dead + i.size < 2 ^ 64

-- ---- all lines

-- line k counts an item: the last of the six counts all
abbrev pub in_line : List TypeRow → HeapView → ℕ → Item → Bool
in_line rows h k i = (k == 5) || (stat_row_in (layout_in rows h) h.segments i.place == k)

-- the counts of six lines are those of items
abbrev pub AreCounted : List TypeRow → HeapView → (ℕ → Bool) → List Stat → List Item → Type 0
AreCounted rows h live stats items =
    (k : ℕ) → k < 6 → get_or stats k no_stat ≡ stat_of live (filter (in_line rows h k) items)

-- line `row` and the last one with one item more
abbrev pub with_counted : List Stat → ℕ → Item → Bool → List Stat
with_counted stats row i dead =
    set (set stats row (counted (get_or stats row no_stat) i dead)) 5 (counted (get_or stats 5 no_stat) i dead)

-- ---- the text

-- the line of counts, behind the words that name them
abbrev pub stat_line : List ℕ → Bool → Stat → List ℕ
stat_line name unrooted s = line
    (name ∷ codes "objects" ∷ decimal s.objects ∷ codes "bytes" ∷ decimal s.bytes ∷ codes "free" ∷ decimal s.free
    ∷ dead_words unrooted s.dead)

-- the lines of all counts
abbrev pub stats_lines : Bool → List Stat → List ℕ
stats_lines unrooted stats =
    stat_line (codes "gen 0") unrooted (get_or stats 0 no_stat)
    ++ (stat_line (codes "gen 1") unrooted (get_or stats 1 no_stat)
    ++ (stat_line (codes "gen 2") unrooted (get_or stats 2 no_stat)
    ++ (stat_line (codes "large") unrooted (get_or stats 3 no_stat)
    ++ (stat_line (codes "pinned") unrooted (get_or stats 4 no_stat)
    ++ stat_line (codes "total") unrooted (get_or stats 5 no_stat)))))
