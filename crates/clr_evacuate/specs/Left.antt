-- Objects of which one is gone, and what bricks are told of that.
use Rattle.std.specs.Prelude.{◌≡◌, ◌≢◌, ◌⊎◌, ℕ, ◌+◌, ◌*◌, ◌/◌, ◌<◌, ◌≤◌, Bool, true, ℤ, negsuc, List}
use Rattle.clr_types.specs.Rising.{IsIn}
use Rattle.clr_types.specs.Segments.{ephemeral, generation, Layout, stands_in}
use Rattle.clr_types.specs.Types.{TypeRow}
use Rattle.clr_types.specs.declared.item.Item.{Item}
use Rattle.clr_types.specs.declared.segment.SegInfo.{SegInfo}
use Rattle.clr_bricks.specs.Bricks.{root_entry}
use Rattle.clr_heap.specs.View.{frame, heap_items, HeapView}
use Rattle.clr_model.specs.Lookups.{object_size}
use Rattle.clr_model.specs.Machine.{Object}
use Rattle.clr_generations.specs.Laws.{LeadsBrick, may_lead, Stands}

-- The objects but for the one that stood at the place. None of the others reaches over the place, and each stands in a
-- segment.
pub record HasLeft (rows : List TypeRow) (layout : Layout) (objects now : List Object) (place : ℕ) : Type 0 where
  pub there : Stands objects place
  pub members : (o : Object) → IsIn o now → IsIn o objects × (o.place ≢ place)
  pub stays : (o : Object) → IsIn o objects → o.place ≢ place → IsIn o now
  pub lower : (o : Object) → IsIn o objects → o.place < place → o.place + object_size rows o ≤ place
  pub homes : (o : Object) → IsIn o objects → (s : SegInfo) × IsIn s layout.segments × (stands_in s o.place ≡ true)

-- an item of the heap begins at a place of the ephemeral segment, below generation 0
pub record IsOldItemAt (rows : List TypeRow) (h : HeapView) (place : ℕ) : Type 0 where
  pub item : Item
  pub listed : IsIn item (heap_items rows h)
  pub at : item.place ≡ place
  pub inside : stands_in (ephemeral (frame h)) place ≡ true
  pub old : place < h.start0

-- a segment where a place stands, and whose places up to it are of generation 1 or 2
pub record IsOldHome (layout : Layout) (place : ℕ) : Type 0 where
  pub home : SegInfo
  pub listed : IsIn home layout.segments
  pub inside : stands_in home place ≡ true
  pub old : (p : ℕ) → stands_in home p ≡ true → p ≤ place → 0 < generation layout p

-- no object may be named by the brick that starts in it
abbrev pub HasNoLeader : Layout → List Object → ℕ → Type 0
HasNoLeader layout objects brick =
    (place : ℕ) → Stands objects place → place / 4096 ≡ brick → may_lead layout place ≡ true → ⊥

-- The brick names the first object that starts in it, or leads one brick back where it may name none. All other
-- entries are as before.
pub record IsTold (layout : Layout) (objects : List Object) (entry new : ℕ → ℤ) (brick : ℕ) : Type 0 where
  pub others : (i : ℕ) → i ≢ brick → new i ≡ entry i
  pub own : ((offset : ℕ) × (new brick ≡ root_entry offset) × LeadsBrick layout objects brick (4096 * brick + offset))
      ⊎ ((new brick ≡ negsuc 0) × HasNoLeader layout objects brick)

-- each object counts, whatever its method table word
abbrev pub is_any : ℕ → Bool
is_any mt = true
