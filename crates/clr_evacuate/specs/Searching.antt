-- The older free items, all of them and segment by segment.
use Rattle.std.specs.Prelude.{◌≡◌, ℕ, ◌<◌, false, ◌&&◌, List, filter, length, nat_le, nat_lt}
use Rattle.clr_types.specs.Rising.{IsIn}
use Rattle.clr_types.specs.Types.{TypeRow}
use Rattle.clr_types.specs.Ranges.{fits, Piece}
use Rattle.clr_types.specs.Segments.{Layout}
use Rattle.clr_types.specs.declared.item.Item.{Item}
use Rattle.clr_types.specs.declared.segment.SegKind.{SegKind}
use Rattle.clr_types.specs.declared.segment.SegKind.TheVariants.{Ephemeral, Large, Pinned, Small}
use Rattle.clr_heap.specs.View.{first_of, HeapView, last_of, listing, segment_at}
use Rattle.clr_model.specs.Fitting.{older_items}
use Rattle.clr_view.specs.View.{free_among}

-- ---- all of them

-- the older items from a place on
abbrev pub older_from : ℕ → Layout → List Piece
older_from low layout = filter (λ i. nat_le low i.place) (older_items layout)

-- the size fits in no older item below the place
abbrev pub HasNoRoomBelow : ℕ → ℕ → Layout → Type 0
HasNoRoomBelow size low layout =
    (i : Piece) → IsIn i (older_items layout) → i.place < low → fits size i.size ≡ false

-- ---- those of one segment

-- where the places of generation 2 end in a segment of a kind, by where it ends and where generation 1 begins
abbrev pub older_end_of : SegKind → ℕ → ℕ → ℕ
older_end_of Small end start1 = end
older_end_of Ephemeral end start1 = start1
older_end_of Large end start1 = 0
older_end_of Pinned end start1 = 0

abbrev pub older_end : HeapView → ℕ → ℕ
older_end h k = older_end_of (segment_at h k).kind (last_of h k) h.start1

-- the free items among items that stand from one place on and below another
abbrev pub free_between : ℕ → ℕ → List Item → List Piece
free_between low high items = filter (λ p. nat_lt p.place high && nat_le low p.place) (free_among items)

-- the older items of segment k from a place on
abbrev pub older_in : List TypeRow → HeapView → ℕ → ℕ → List Piece
older_in rows h k low = free_between low (older_end h k) (listing rows h k)

-- ---- where a search may begin

-- A search may begin at the place: where it is one of generation 2 in a segment of the small heap, and not below all
-- items of it, an item begins there.
abbrev pub CanSearchFrom : List TypeRow → HeapView → ℕ → Type 0
CanSearchFrom rows h from =
    (k : ℕ) → k < length h.segments → first_of h k < from → from < older_end h k
    → (i : Item) × IsIn i (listing rows h k) × (i.place ≡ from)
