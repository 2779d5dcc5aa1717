-- How the pointer stands in the heap when a plug is placed, and what placing it has found.
use Rattle.std.specs.Prelude.{◌≡◌, ℕ, ◌+◌, ◌<◌, ◌≤◌, Bool, true, false, List, [], ◌∷◌, ◌++◌, length, nat_eq}
use Rattle.std.specs.Prelude.{if◌then◌else◌, nat_le, ◌||◌}
use Rattle.clr_types.specs.Rising.{IsIn}
use Rattle.clr_types.specs.Ranges.{Piece}
use Rattle.clr_pinq.specs.declared.entry.PinEntry.{PinEntry}
use Rattle.clr_types.specs.Segments.{is_small_or_ephemeral, reserved_end, same_kind}
use Rattle.clr_types.specs.declared.segment.SegInfo.{SegInfo}
use Rattle.clr_types.specs.declared.segment.SegKind.{SegKind}
use Rattle.clr_heap.specs.View.{HeapView, IsHeap, segment_at}
use Rattle.clr_model.specs.Compaction.{IsDestination, Placed, Plug}
use Rattle.clr_model.proofs.PlugRoom.{ArePlugs}
use Rattle.clr_plan.specs.Pointing.{IsAt}
use Rattle.clr_plan.specs.Waiting.{move_to, ranges_from, with_pin}
use Rattle.clr_plan.specs.declared.pointer.Pointer.{Pointer}

-- the plugs of a collection in the segments that take part: those that were placed, the next one, and those to come
pub record Stage : Type 0 where
  pub segments : List SegInfo
  pub done : List Plug
  pub plug : Plug
  pub ahead : List Plug

abbrev pub all_plugs : Stage → List Plug
all_plugs w = w.done ++ w.plug ∷ w.ahead

-- whether what ends at `low` and what begins at `high` touch, or have room for a free item between them
abbrev pub is_gapped : ℕ → ℕ → Bool
is_gapped low high = nat_eq low high || nat_le (low + 24) high

-- the first of the pins begins behind the place
abbrev pub PinsBehind : ℕ → List Piece → Type 0
PinsBehind place [] = Unit {0}
PinsBehind place (x ∷ rest) = place ≤ x.place

-- whether segments of these kinds hold objects of one kind: small, large or pinned ones
abbrev pub hold_alike : SegKind → SegKind → Bool
hold_alike a b = if is_small_or_ephemeral a then is_small_or_ephemeral b else same_kind a b

-- whether segments i and j do
abbrev pub are_alike : HeapView → ℕ → ℕ → Bool
are_alike h i j = hold_alike (segment_at h i).kind (segment_at h j).kind

-- a segment of the heap that holds what segment `home` holds
pub record IsListed (h : HeapView) (home : ℕ) (s : SegInfo) : Type 0 where
  pub index : ℕ
  pub in_range : index < length h.segments
  pub is : s ≡ segment_at h index
  pub alike : are_alike h home index ≡ true

-- n is the next segment after k, up to `home`, that holds what this one holds
pub record IsNextAlike (h : HeapView) (k home n : ℕ) : Type 0 where
  pub above : k < n
  pub most : n ≤ home
  pub alike : are_alike h home n ≡ true
  pub between : (j : ℕ) → k < j → j < n → are_alike h home j ≡ false

-- the pointer among the segments: they are segments of the heap that hold what `home` holds, and from the pointer's on
-- all of these up to `home`
pub record IsAmong (h : HeapView) (segments : List SegInfo) (at : Pointer) (home : ℕ) : Type 0 where
  pub heap : IsHeap h
  pub in_range : home < length h.segments
  pub order : at.segment ≤ home
  pub high : at.high ≡ reserved_end (segment_at h at.segment)
  pub listed : (s : SegInfo) → IsIn s segments → IsListed h home s
  pub between : (j : ℕ) → at.segment ≤ j → j ≤ home → are_alike h home j ≡ true → IsIn (segment_at h j) segments

-- the next plug isn't pinned, has this size, and stands in segment `home`
pub record CanPlace (w : Stage) (h : HeapView) (entries : List PinEntry) (at : Pointer) (home size : ℕ) : Type 0 where
  pub among : IsAmong h w.segments at home
  pub plugs : ArePlugs w.segments (all_plugs w)
  pub unpinned : w.plug.pinned ≡ false
  pub sized : size ≡ w.plug.size
  pub of : w.plug.segment ≡ (segment_at h home).base
  pub behind : at.passed ≤ length entries
  pub stands : IsAt w.segments w.done (w.plug ∷ w.ahead) (segment_at h at.segment) at.place
      (ranges_from at.passed entries)

-- the pointer is where the plug goes, and behind it stands where the next plug is placed from
pub record HasFound (w : Stage) (h : HeapView) (entries : List PinEntry) (old : Pointer) (home : ℕ)
    (new : Pointer) : Type 0 where
  pub order : old.segment ≤ new.segment
  pub most : new.segment ≤ home
  pub high : new.high ≡ reserved_end (segment_at h new.segment)
  pub behind : new.passed ≤ length entries
  pub lands : IsDestination w.segments (all_plugs w) old.place w.plug.size new.place
  pub at : IsAt w.segments (w.done ++ w.plug ∷ []) w.ahead (segment_at h new.segment) (new.place + w.plug.size)
      (ranges_from new.passed entries)

-- the plug is the next one, and stands in segment `home`
pub record CanGo (w : Stage) (h : HeapView) (entries : List PinEntry) (at : Pointer) (home : ℕ) (plug : Plug) : Type
    0 where
  pub among : IsAmong h w.segments at home
  pub plugs : ArePlugs w.segments (all_plugs w)
  pub next : w.plug ≡ plug
  pub of : plug.segment ≡ (segment_at h home).base
  pub behind : at.passed ≤ length entries
  pub stands : IsAt w.segments w.done (w.plug ∷ w.ahead) (segment_at h at.segment) at.place
      (ranges_from at.passed entries)

-- the plug goes to the place `to`, and with its pin among the others the pointer stands behind it
pub record HasGone (w : Stage) (h : HeapView) (entries : List PinEntry) (before : Pointer) (home : ℕ) (plug : Plug)
    (to : ℕ) (after : Pointer) : Type 0 where
  pub placed : Placed w.segments (all_plugs w) before.place (w.plug ∷ []) (move_to plug to ∷ []) after.place
  pub among : IsAmong h w.segments after home
  pub behind : after.passed ≤ length entries
  pub stands : IsAt w.segments (w.done ++ w.plug ∷ []) w.ahead (segment_at h after.segment) after.place
      (with_pin (ranges_from after.passed entries) plug)
