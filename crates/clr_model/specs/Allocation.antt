-- Room for a new object: contexts, refills, the ladders of small, of large and of pinned objects.
use Rattle.std.specs.Prelude.{◌≡◌, ℕ, ◌+◌, max, [], ◌∷◌, ◌++◌, map, if◌then◌else◌, nat_le, Bool, false}
use Rattle.std.specs.Prelude.{◌&&◌, ◌||◌, ◌⊎◌, IsTrue, Option, Some, None, MatchOption, MatchBool}
use Rattle.std.specs.List.{list_any}
use Rattle.clr_types.specs.Rising.{IsIn}
use Rattle.clr_types.specs.Ranges.{Piece, piece_end, fits, rounded_up}
use Rattle.clr_model.specs.declared.How.TheVariants.{Decide, Compact}
use Rattle.clr_model.specs.declared.Collected.{Collected}
use Rattle.clr_model.specs.Machine.{Machine}
use Rattle.clr_model.specs.Lookups.{lowest_in_step}
use Rattle.clr_model.specs.Updates.{given_up, with_rest}
use Rattle.clr_model.specs.Collection.{Collects, generation_to_collect}
pub use Rattle.clr_model.specs.Fitting.{taken_from}
use Rattle.clr_types.specs.declared.segment.SegKind.{SegKind}
use Rattle.clr_types.specs.declared.segment.SegKind.TheVariants.{Ephemeral, Large, Pinned}
use Rattle.clr_types.specs.declared.segment.SegInfo.{SegInfo}
use Rattle.clr_types.specs.Segments.{Layout, fits_in_tail, with_end, opening_segment, sealed_segment, segments_of}
use Rattle.clr_types.specs.Segments.{stands_in, ephemeral, reserved_sum, rest_of}

-- what an attempt to make room comes to
pub data Attempt : Type 0 where
  roomed : Attempt
  waits : (thread : ℕ) → Attempt
  out_of_room : Attempt
  out_of_memory : Attempt

-- ---- room

-- a free item of generation 0
abbrev pub is_young_item : Layout → Piece → Bool
is_young_item layout p = stands_in (ephemeral layout) p.place && nat_le layout.start0 p.place

-- there is room without a new segment: in some free item of generation 0, or behind the end of the ephemeral segment
abbrev pub has_room : Layout → ℕ → Bool
has_room layout size =
    list_any (λ p. is_young_item layout p && fits size p.size) layout.free || fits_in_tail (ephemeral layout) size

abbrev pub stands_in_kind : SegKind → Layout → ℕ → Bool
stands_in_kind kind layout place = list_any (λ s. stands_in s place) (segments_of kind layout)

-- the size fits in a free item or in the tail of a segment of this kind
abbrev pub has_room_in : SegKind → Layout → ℕ → Bool
has_room_in kind layout size =
    list_any (λ p. stands_in_kind kind layout p.place && fits size p.size) layout.free
    || list_any (λ s. fits_in_tail s size) (segments_of kind layout)

abbrev pub rest_fits : Option Piece → ℕ → Bool
rest_fits None size = false
rest_fits (Some rest) size = fits size rest.size

-- the size fits at the front of the thread's context
abbrev pub own_fits : Layout → ℕ → ℕ → Bool
own_fits layout t size = rest_fits (rest_of layout t) size

-- ---- contexts

-- how many bytes a new context is to have
abbrev pub want : ℕ → ℕ
want size = if nat_le (size + 24) 8192 then 8192 else size

-- a context of this many bytes at the front of the free item
abbrev pub from_item : Layout → ℕ → Piece → ℕ → Layout
from_item layout t item taken =
    with_rest (record layout { free = taken_from item.place taken layout.free }) t item.place (item.place + taken)

-- a context of this many bytes from the tail of the ephemeral segment
abbrev pub from_tail : Layout → ℕ → ℕ → Layout
from_tail layout t taken =
    let s = ephemeral layout in
    with_rest (with_end layout s.base (s.end + taken)) t s.end (s.end + taken)

-- A new context for the thread, after what was left of the old one went back to the free items: it is cut from the
-- front of a free
-- item of generation 0 that is large enough, whichever that is, or from the tail.
abbrev pub IsRefilled : Layout → ℕ → ℕ → Layout → Type 0
IsRefilled layout t size new =
    let begun = given_up layout t in
    ((item : Piece) × IsIn item begun.free × IsTrue (is_young_item begun item) × IsTrue (fits size item.size)
    × (new ≡ from_item begun t item (if fits (want size) item.size then want size else item.size)))
    ⊎ (IsTrue (fits_in_tail (ephemeral begun) size)
    × (new ≡ from_tail begun t (if fits_in_tail (ephemeral begun) (want size) then want size else size)))

abbrev pub front_of : Option Piece → ℕ
front_of None = 0
front_of (Some rest) = rest.place

-- where the thread's context starts
abbrev pub context_front : Layout → ℕ → ℕ
context_front layout t = front_of (rest_of layout t)

abbrev pub rest_end : Option Piece → ℕ
rest_end None = 0
rest_end (Some rest) = piece_end rest

-- the front of the thread's context is taken
abbrev pub front_taken : Layout → ℕ → ℕ → Layout
front_taken layout t size = with_rest layout t (context_front layout t + size) (rest_end (rest_of layout t))

-- ---- segments

-- a new empty segment above all that ever were
abbrev pub with_segment : Layout → SegKind → ℕ → Layout
with_segment layout kind size =
    record layout { segments = layout.segments ++ (opening_segment layout.top kind size ∷ []); top = layout.top + size }

-- the ephemeral segment becomes a small one, and a new one takes its place
abbrev pub sealed : Layout → ℕ → Layout
sealed layout size =
    record (with_segment (record layout { segments = map sealed_segment layout.segments }) Ephemeral size) {
      start1 = layout.top + 0x1000;
      start0 = layout.top + 0x1000;
    }

-- the reserved size of a segment for an object of this size
abbrev pub segment_for : Machine → ℕ → ℕ
segment_for m size = max m.options.segment (4096 + rounded_up 4096 size)

-- the limit allows so many more reserved bytes
abbrev pub allows : Machine → ℕ → Bool
allows m size = nat_le (reserved_sum m.layout + size) m.options.limit

abbrev pub with_layout : Machine → Layout → Machine
with_layout m layout = record m { layout = layout }

-- ---- small objects

-- room by a refill
abbrev pub RoomedByRefill : Machine → ℕ → ℕ → Attempt → Machine → Type 0
RoomedByRefill m t size attempt new = (attempt ≡ roomed) × (layout : Layout) × IsRefilled m.layout t size layout
    × (new ≡ with_layout m layout)

-- after the full compacting collection: room, else a new segment where the limit allows one
abbrev pub SmallAfterFull : Machine → ℕ → ℕ → Attempt → Machine → Type 0
SmallAfterFull m t size attempt new =
    MatchBool (has_room m.layout size)
    (RoomedByRefill m t size attempt new)
    (MatchBool (allows m m.options.segment)
    (RoomedByRefill (with_layout m (sealed m.layout m.options.segment)) t size attempt new
    ⊎ ((attempt ≡ out_of_memory) × (new ≡ m)))
    ((attempt ≡ out_of_room) × (new ≡ m)))

-- after the first collection
abbrev pub SmallAfterFirst : Machine → ℕ → ℕ → Attempt → Machine → Type 0
SmallAfterFirst m t size attempt new =
    MatchBool (has_room m.layout size)
    (RoomedByRefill m t size attempt new)
    ((answer : Collected) × (full : Machine) × Collects m 2 Compact answer full
    × SmallAfterFull full t size attempt new)

abbrev pub SmallByCollection : Machine → ℕ → ℕ → Attempt → Machine → Type 0
SmallByCollection m t size attempt new =
    (answer : Collected) × (young : Machine) × Collects m (generation_to_collect m) Decide answer young
    × SmallAfterFirst young t size attempt new

-- Room for a small object at the front of the thread's context, by the first of these steps that serves: the context as
-- it
-- is, a refill within the budget, a wait, a collection, a full compacting collection, a new segment.
abbrev pub MakesRoom : Machine → ℕ → ℕ → Attempt → Machine → Type 0
MakesRoom m t size attempt new =
    MatchBool (own_fits m.layout t size)
    ((attempt ≡ roomed) × (new ≡ m))
    (MatchBool (nat_le (m.sums.spent0 + size) m.options.b0 && has_room m.layout size)
    (RoomedByRefill m t size attempt new)
    (MatchOption (lowest_in_step m) (SmallByCollection m t size attempt new) (λ k. (attempt ≡ waits k) × (new ≡ m))))

-- ---- large objects

-- in a segment of this kind the object takes the front of a free item that is large enough, or of the bytes behind the
-- segment's end
abbrev pub IsPlacedIn : SegKind → Layout → ℕ → ℕ → Layout → Type 0
IsPlacedIn kind layout size place new =
    ((item : Piece) × IsIn item layout.free × IsTrue (stands_in_kind kind layout item.place)
    × IsTrue (fits size item.size)
    × (place ≡ item.place) × (new ≡ record layout { free = taken_from item.place size layout.free }))
    ⊎ ((s : SegInfo) × IsIn s (segments_of kind layout) × IsTrue (fits_in_tail s size) × (place ≡ s.end)
    × (new ≡ with_end layout s.base (s.end + size)))

abbrev pub RoomedIn : SegKind → Machine → ℕ → ℕ → Attempt → Machine → Type 0
RoomedIn kind m size place attempt new =
    (attempt ≡ roomed) × (layout : Layout) × IsPlacedIn kind m.layout size place layout × (new ≡ with_layout m layout)

-- room, else a new segment where the limit allows one, else what is left to do
abbrev pub RoomedOrAcquired : SegKind → Machine → ℕ → ℕ → Attempt → Machine → Type 0 → Type 0
RoomedOrAcquired kind m size place attempt new otherwise =
    MatchBool (has_room_in kind m.layout size)
    (RoomedIn kind m size place attempt new)
    (MatchBool (allows m (segment_for m size))
    (RoomedIn kind (with_layout m (with_segment m.layout kind (segment_for m size))) size place attempt new
    ⊎ ((attempt ≡ out_of_memory) × (new ≡ m)))
    otherwise)

abbrev pub LargeAfterFirst : Machine → ℕ → ℕ → Attempt → Machine → Type 0
LargeAfterFirst m size place attempt new =
    MatchBool (has_room_in Large m.layout size)
    (RoomedIn Large m size place attempt new)
    ((answer : Collected) × (full : Machine) × Collects m 2 Compact answer full
    × RoomedOrAcquired Large full size place attempt new ((attempt ≡ out_of_room) × (new ≡ full)))

-- A large object gets its place by the first of these steps that serves: a place within the budget, a wait, a full
-- collection, a full compacting one, a new segment.
abbrev pub PlacesLarge : Machine → ℕ → ℕ → Attempt → Machine → Type 0
PlacesLarge m size place attempt new =
    MatchBool (nat_le (m.sums.spent_large + size) m.options.bl && has_room_in Large m.layout size)
    (RoomedIn Large m size place attempt new)
    (MatchOption (lowest_in_step m)
    ((answer : Collected) × (first : Machine) × Collects m 2 Decide answer first
    × LargeAfterFirst first size place attempt new)
    (λ k. (attempt ≡ waits k) × (new ≡ m)))

-- ---- pinned objects

abbrev pub PinnedAfterFull : Machine → ℕ → ℕ → Attempt → Machine → Type 0
PinnedAfterFull m size place attempt new =
    (answer : Collected) × (full : Machine) × Collects m 2 Compact answer full
    × RoomedOrAcquired Pinned full size place attempt new ((attempt ≡ out_of_room) × (new ≡ full))

-- A pinned object gets its place by the first of these steps that serves: a place, a new segment, a wait, a full
-- compacting collection and the first two again.
abbrev pub PlacesPinned : Machine → ℕ → ℕ → Attempt → Machine → Type 0
PlacesPinned m size place attempt new =
    RoomedOrAcquired Pinned m size place attempt new
    (MatchOption (lowest_in_step m) (PinnedAfterFull m size place attempt new)
    (λ k. (attempt ≡ waits k) × (new ≡ m)))
