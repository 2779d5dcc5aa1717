-- What the first pause learns of the old part of each segment.
use Rattle.std.specs.Prelude.{◌≡◌, ℕ, ◌+◌, ◌*◌, ◌%◌, ◌<◌, ◌≤◌, true, false, if◌then◌else◌, List, [], length, get_or}
use Rattle.std.specs.Prelude.{set, nat_eq}
use Rattle.clr_types.specs.Types.{TypeRow}
use Rattle.clr_types.specs.declared.item.Item.{Item}
use Rattle.clr_heap.specs.Parts.{item_at}
use Rattle.clr_heap.specs.View.{HeapView, segment_at, word_of}
use Rattle.clr_bgmark.specs.Bits.{has_bit, with_bit}
use Rattle.clr_bgmark.specs.Pauses.{used_size}
use Rattle.clr_bgmark.specs.Shades.{cell_of, IsShade, PartView, ShadeView}
use Rattle.clr_bgmark.specs.Tiles.{IsEdge, IsPart}

-- what stands in the place of a segment that isn't there
abbrev pub no_shade : ShadeView
no_shade = record { base = 0; size = 0; taken = []; marked = []; scanned = []; logged = [] }

abbrev pub no_part : PartView
no_part = record { gaps = []; stop = 0 }

-- there is room for the gaps of a segment of so many bytes, and none is known
pub record IsUntold (size : ℕ) (p : PartView) : Type 0 where
  pub room : size ≤ 512 * length p.gaps
  pub none : (n : ℕ) → has_bit p.gaps n ≡ false

-- these are the old parts of the heap's segments, of which nothing is known
pub record AreUntold (h : HeapView) (ps : List PartView) : Type 0 where
  pub count : length ps ≡ length h.segments
  pub each : (k : ℕ) → k < length h.segments → IsUntold (used_size (segment_at h k)) (get_or ps k no_part)

-- nothing of a segment was taken, and nothing is known of its old part
pub record IsFresh (s : ShadeView) (p : PartView) : Type 0 where
  pub lawful : IsShade s
  pub bare : (n : ℕ) → has_bit s.taken n ≡ false
  pub untold : IsUntold s.size p

-- with the gap that begins at an item's place, where the item is free
abbrev pub gapped_one : ShadeView → PartView → Item → PartView
gapped_one s p i = if nat_eq i.type_id.0 0 then record p { gaps = with_bit p.gaps (cell_of s i.place) } else p

-- behind each object that was taken another one stands, or a gap, or the old part ended there
pub record IsTold (rows : List TypeRow) (h : HeapView) (s : ShadeView) (p : PartView) : Type 0 where
  pub part : IsPart s p
  pub whole : s.base % 8 ≡ 0
  pub edges : (n : ℕ) → has_bit s.taken n ≡ true
      → IsEdge s p (s.base + 8 * n + (item_at rows (word_of h) (s.base + 8 * n)).size)

-- that is known of segment k now, and nothing else changed
pub record HasTold (rows : List TypeRow) (h : HeapView) (k : ℕ) (ss new_ss : List ShadeView) (ps new_ps : List PartView)
    : Type 0 where
  pub shade : ShadeView
  pub part : PartView
  pub shades : new_ss ≡ set ss k shade
  pub parts : new_ps ≡ set ps k part
  pub told : IsTold rows h shade part
