-- Bricks whose entries are taken away before what they name may go, and are entered anew afterwards.
use Rattle.std.specs.Prelude.{◌≡◌, ℕ, suc, zero, ◌+◌, ◌*◌, ◌/◌, ◌<◌, ◌⊎◌, true, ◌||◌, nat_le, nat_lt, List}
use Rattle.std.specs.Prelude.{if◌then◌else◌, ℤ, pos, negsuc}
use Rattle.clr_types.specs.Segments.{Layout, stands_in}
use Rattle.clr_types.specs.Types.{TypeRow}
use Rattle.clr_types.specs.declared.segment.SegInfo.{SegInfo}
use Rattle.clr_bricks.specs.Bricks.{IsRoot, root_entry}
use Rattle.clr_heap.specs.View.{CanWalk, first_of, HeapView, IsHeap, items_between, last_of, SameShape, sight}
use Rattle.clr_model.specs.Machine.{Object}
use Rattle.clr_view.specs.View.{IsHeld}
use Rattle.clr_generations.specs.Laws.{IsBrickOf, LeadsBrick, LeadsToNearest, may_lead, ReachesInto, Stands}

-- a brick's entry, where it names an offset below this place, and else none
abbrev pub kept_below : ℕ → ℕ → ℤ → ℤ
kept_below from brick (pos zero) = pos 0
kept_below from brick (pos (suc offset)) = if nat_lt (4096 * brick + offset) from then pos (suc offset) else pos 0
kept_below from brick (negsuc back) = pos 0

-- The entries of all bricks when those of the bricks that have a place in [from, end) are taken away, but for one that
-- names a place below.
abbrev pub forgotten : (ℕ → ℤ) → ℕ → ℕ → ℕ → ℤ
forgotten entry from end brick =
    if nat_lt brick (from / 4096) || nat_le end (4096 * brick) then entry brick else kept_below from brick (entry brick)

-- What the entries of a segment's bricks say of the objects below a place, where they say nothing of others: as
-- `AreEntered` says, for these objects and for the bricks below that of the place.
pub record AreEnteredBelow (rows : List TypeRow) (layout : Layout) (objects : List Object) (entry : ℕ → ℤ) (s : SegInfo)
    (from : ℕ) : Type 0 where
  pub named : (brick offset : ℕ) → IsBrickOf s brick → entry brick ≡ root_entry offset
      → LeadsBrick layout objects brick (4096 * brick + offset) × (4096 * brick + offset < from)
  pub starts : (place : ℕ) → Stands objects place → stands_in s place ≡ true → place < from
      → may_lead layout place ≡ true → IsRoot (entry (place / 4096))
  pub reached : (brick : ℕ) → IsBrickOf s brick → brick < from / 4096 → ReachesInto rows layout objects brick
      → IsRoot (entry brick) ⊎ LeadsToNearest layout objects entry brick

-- A heap that one of the same shape is to become: no item of segment k reaches over `from` in it, and from there on the
-- same items stand.
pub record CanEnterFrom (rows : List TypeRow) (now final : HeapView) (k from : ℕ) : Type 0 where
  pub shape : SameShape now final
  pub heap : IsHeap final
  pub held : IsHeld rows final
  pub parted : CanWalk (sight rows final k) final.memories (first_of final k) from
  pub whole : CanWalk (sight rows final k) final.memories from (last_of final k)
  pub items : items_between (sight rows final k) from (last_of final k)
      ≡ items_between (sight rows now k) from (last_of now k)
