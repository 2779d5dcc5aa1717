-- The laws of cards and of bricks, over the objects and the layout of a machine. A card stands for 2,048 bytes and a
-- brick for 4,096.
use Rattle.std.specs.Prelude.{◌≡◌, ℕ, ◌+◌, ◌*◌, ◌/◌, ◌<◌, ◌≤◌, ◌⊎◌, Bool, true, ◌||◌, nat_le, nat_lt, List, Some}
use Rattle.std.specs.Prelude.{slice_get}
use Rattle.std.specs.Prelude.{ℤ}
use Rattle.clr_types.specs.Rising.{IsIn}
use Rattle.clr_types.specs.Segments.{generation, Layout, reserved_end, stands_in}
use Rattle.clr_types.specs.Types.{form_at, slot_offset, TypeRow}
use Rattle.clr_types.specs.declared.segment.SegInfo.{SegInfo}
use Rattle.clr_bricks.specs.Bricks.{IsRoot, LeadsBack, root_entry}
use Rattle.clr_model.specs.Lookups.{object_size}
use Rattle.clr_model.specs.Machine.{Object, ref}

-- ---- cards

-- a slot of one of these objects stands at the address a and names another of them, of a lower generation
pub record NamesYounger (rows : List TypeRow) (layout : Layout) (objects : List Object) (a : ℕ) : Type 0 where
  pub object : Object
  pub present : IsIn object objects
  pub slot : ℕ
  pub target : Object
  pub target_present : IsIn target objects
  pub named : slice_get object.slots slot ≡ Some (ref target.name)
  pub address : a ≡ object.place + slot_offset (form_at rows object.type) slot
  pub younger : generation layout target.place < generation layout object.place

-- THE CARD LAW: where a slot names an object of a lower generation, the card of the slot's address is set
abbrev pub CardLaw : List TypeRow → Layout → List Object → (ℕ → Bool) → Type 0
CardLaw rows layout objects is_set =
    (a : ℕ) → NamesYounger rows layout objects a → is_set (a / 2048) ≡ true

-- a slot names an object of a lower generation only where one did before
abbrev pub NamesNoMore : List TypeRow → Layout → List Object → Layout → List Object → Type 0
NamesNoMore rows before old after new = (a : ℕ) → NamesYounger rows after new a → NamesYounger rows before old a

-- ---- bricks

-- one of the objects stands at the place
abbrev pub Stands : List Object → ℕ → Type 0
Stands objects place = (o : Object) × IsIn o objects × (o.place ≡ place)

-- the brick is one of the segment's
abbrev pub IsBrickOf : SegInfo → ℕ → Type 0
IsBrickOf s brick = (s.base / 4096 ≤ brick) × (brick < reserved_end s / 4096)

-- Whether a brick may name what stands at a place in it: the place is of generation 1 or 2, or no place of the brick
-- is. So where generation 0 begins inside a brick, and not at its first address, the brick names none of its objects.
abbrev pub may_lead : Layout → ℕ → Bool
may_lead layout place = nat_lt 0 (generation layout place) || nat_le layout.start0 (4096 * (place / 4096))

-- the first object that starts in the brick stands at the place, and the brick may name it
pub record LeadsBrick (layout : Layout) (objects : List Object) (brick place : ℕ) : Type 0 where
  pub stands : Stands objects place
  pub inside : place / 4096 ≡ brick
  pub first : (other : ℕ) → Stands objects other → other / 4096 ≡ brick → place ≤ other
  pub may : may_lead layout place ≡ true

-- an object of generation 1 or 2 reaches into the brick from one below
pub record ReachesInto (rows : List TypeRow) (layout : Layout) (objects : List Object) (brick : ℕ) : Type 0 where
  pub object : Object
  pub present : IsIn object objects
  pub old : 0 < generation layout object.place
  pub from : object.place / 4096 < brick
  pub to : 4096 * brick < object.place + object_size rows object

-- back entries lead from the brick to the nearest one below in which an object starts
pub record LeadsToNearest (layout : Layout) (objects : List Object) (entry : ℕ → ℤ) (brick : ℕ) : Type 0 where
  pub below : ℕ
  pub lower : below < brick
  pub place : ℕ
  pub leader : LeadsBrick layout objects below place
  pub count : ℕ
  pub path : LeadsBack entry 0 brick below count
  pub nearest : (other : ℕ) → Stands objects other → below < other / 4096 → other / 4096 < brick → ⊥

-- What the entries of a segment's bricks say: one that names an offset names the first object that starts in its brick,
-- each object that may be named by its brick starts in one that names an offset, and from any other brick that an
-- object of generation 1 or 2 reaches into, back entries lead to the nearest one below in which an object starts.
pub record AreEntered (rows : List TypeRow) (layout : Layout) (objects : List Object) (entry : ℕ → ℤ) (s : SegInfo)
    : Type 0 where
  pub named : (brick offset : ℕ) → IsBrickOf s brick → entry brick ≡ root_entry offset
      → LeadsBrick layout objects brick (4096 * brick + offset)
  pub starts : (place : ℕ) → Stands objects place → stands_in s place ≡ true → may_lead layout place ≡ true
      → IsRoot (entry (place / 4096))
  pub reached : (brick : ℕ) → IsBrickOf s brick → ReachesInto rows layout objects brick
      → IsRoot (entry brick) ⊎ LeadsToNearest layout objects entry brick

-- THE BRICK LAW: so it is with each segment
abbrev pub BrickLaw : List TypeRow → Layout → List Object → (ℕ → ℤ) → Type 0
BrickLaw rows layout objects entry =
    (s : SegInfo) → IsIn s layout.segments → AreEntered rows layout objects entry s
