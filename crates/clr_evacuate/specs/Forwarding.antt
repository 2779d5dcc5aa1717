-- What forwarding asks for, and what it makes of the heap and of names from outside.
use Rattle.std.specs.Prelude.{◌≡◌, ◌⊎◌, ℕ, ◌+◌, ◌-◌, ◌/◌, ◌%◌, ◌<◌, ◌≤◌, true, List, map, Some}
use Rattle.std.specs.FinMap as finmap
use Rattle.std.specs.FinMap.{FinMap}
use Rattle.std.specs.Ordering.{nat_cmp}
use Rattle.clr_types.specs.Maps.{map_values}
use Rattle.clr_types.specs.Rising.{IsIn}
use Rattle.clr_types.specs.LawfulLayout.{DoesNotCross}
use Rattle.clr_types.specs.Segments.{ephemeral, first_place, Layout, stands_in}
use Rattle.clr_types.specs.Types.{TypeRow}
use Rattle.clr_types.specs.declared.handle.Handle.{Handle}
use Rattle.clr_types.specs.declared.item.Item.{Item}
use Rattle.clr_cards.specs.Cards.{is_card_set}
use Rattle.clr_covers.specs.Covers as covers
use Rattle.clr_covers.specs.Covers.{CoverView}
use Rattle.clr_final.specs.Queues.{Queues}
use Rattle.clr_handles.specs.Laws.{relocated}
use Rattle.clr_heap.specs.Parts.{item_piece}
use Rattle.clr_heap.specs.View.{first_of, frame, heap_items, HeapView, last_of, listing, SameShape, word_of}
use Rattle.clr_mark.specs.Markings.{item_references}
use Rattle.clr_model.specs.Machine.{Object}
use Rattle.clr_model.specs.Picture.{renamed_value}
use Rattle.clr_view.specs.Clean.{AreClean}
use Rattle.clr_view.specs.SlotValues.{StandsAt}
use Rattle.clr_view.specs.View.{is_free, is_object, IsHeld, layout_in}
use Rattle.clr_evacuate.specs.Forwards.{HasForwards}

-- ---- one place

-- a free item begins at the place
pub record IsFreeAt (rows : List TypeRow) (h : HeapView) (place : ℕ) : Type 0 where
  pub item : Item
  pub listed : IsIn item (heap_items rows h)
  pub free : is_free item ≡ true
  pub at : item.place ≡ place

-- the place is null, or an object stands there, or a free item begins there
abbrev pub CanForward : List TypeRow → HeapView → ℕ → Type 0
CanForward rows h place = (place ≡ 0) ⊎ (StandsAt rows h place ⊎ IsFreeAt rows h place)

-- free items say where `go` leads, and to null it leads from null alone
pub record LeadsBy (rows : List TypeRow) (h : HeapView) (go : ℕ → ℕ) : Type 0 where
  pub forwards : HasForwards rows h go
  pub to_null : (place : ℕ) → go place ≡ 0 → place ≡ 0

-- ---- references

-- one of an item's references stands at an address
pub record IsOffsetOf (place : ℕ) (offsets : List ℕ) (a : ℕ) : Type 0 where
  pub offset : ℕ
  pub listed : IsIn offset offsets
  pub address : a ≡ place + offset

-- a reference of an object among the items stands at the address
pub record IsReferenceAt (rows : List TypeRow) (items : List Item) (a : ℕ) : Type 0 where
  pub item : Item
  pub listed : IsIn item items
  pub object : is_object item ≡ true
  pub reference : IsOffsetOf item.place (item_references rows item) a

-- a word of the cells of what stands from low on and ends at high
abbrev pub IsBetween : ℕ → ℕ → ℕ → Type 0
IsBetween low high a = (low ≤ a + 8) × (a + 8 < high)

-- the references at these addresses name what can be forwarded
abbrev pub AreForwardable : List TypeRow → HeapView → (ℕ → Type 0) → Type 0
AreForwardable rows h Here =
    (a : ℕ) → IsReferenceAt rows (heap_items rows h) a → Here a → CanForward rows h (word_of h a)

-- The old heap where the references at these addresses go where what they name went, by whatever function tells
-- that. The cards of those that name a place of the ephemeral segment now are set, and nothing else changed.
pub record IsForwarded (rows : List TypeRow) (old new : HeapView) (before after : List (CoverView ℕ))
    (Here : ℕ → Type 0) : Type 0 where
  pub shape : SameShape old new
  pub held : IsHeld rows new
  pub items : heap_items rows new ≡ heap_items rows old
  pub words : (a : ℕ) → a % 8 ≡ 0 → (word_of new a ≡ word_of old a)
      ⊎ (IsReferenceAt rows (heap_items rows old) a × Here a)
  pub gone : (go : ℕ → ℕ) → LeadsBy rows old go → (a : ℕ) → IsReferenceAt rows (heap_items rows old) a → Here a
      → word_of new a ≡ go (word_of old a)
  pub clean : AreClean rows old → AreClean rows new
  pub spans : covers.spans after ≡ covers.spans before
  pub kept : (card : ℕ) → is_card_set before card ≡ true → is_card_set after card ≡ true
  pub carded : (a : ℕ) → IsReferenceAt rows (heap_items rows old) a → Here a
      → stands_in (ephemeral (frame old)) (word_of new a) ≡ true → is_card_set after (a / 2048) ≡ true

-- ---- the heap

-- an object whose references go where what they name went
abbrev pub forwarded_object : (ℕ → ℕ) → Object → Object
forwarded_object go o = record o { slots = map (renamed_value go) o.slots }

-- All items are where they were, with the headers and the method table words that they had, so marks are as before.
pub record HaveStayed (rows : List TypeRow) (old new : HeapView) : Type 0 where
  pub shape : SameShape old new
  pub held : IsHeld rows new
  pub items : heap_items rows new ≡ heap_items rows old
  pub layout : layout_in rows new ≡ layout_in rows old
  pub heads : (i : Item) → IsIn i (heap_items rows old)
      → (word_of new (i.place - 8) ≡ word_of old (i.place - 8)) × (word_of new i.place ≡ word_of old i.place)
  pub clean : AreClean rows old → AreClean rows new

-- ---- names from outside

-- the place becomes `moved` by whatever function free items tell of
pub record HasFollowed (rows : List TypeRow) (h : HeapView) (place moved : ℕ) : Type 0 where
  pub by : (go : ℕ → ℕ) → LeadsBy rows h go → moved ≡ go place

-- all these places can be forwarded
abbrev pub AllCanForward : List TypeRow → HeapView → List ℕ → Type 0
AllCanForward rows h places = (x : ℕ) → IsIn x places → CanForward rows h x

-- and all that locals, handles, entries and the f-reachable queue name
pub record NamesCanForward (rows : List TypeRow) (h : HeapView) (locals : List ℕ) (table : FinMap nat_cmp Handle)
    (queues : Queues) : Type 0 where
  pub locals_can : AllCanForward rows h locals
  pub targets : (k : ℕ) (row : Handle) → finmap.get table k ≡ Some row → CanForward rows h row.target
  pub seconds : (k : ℕ) (row : Handle) → finmap.get table k ≡ Some row → CanForward rows h row.second
  pub entries_can : AllCanForward rows h queues.entries
  pub ready_can : AllCanForward rows h queues.ready

-- all of them have gone
pub record HaveFollowed (go : ℕ → ℕ) (locals locals_after : List ℕ) (table table_after : FinMap nat_cmp Handle)
    (queues queues_after : Queues) : Type 0 where
  pub locals_is : locals_after ≡ map go locals
  pub table_is : table_after ≡ map_values (relocated go) table
  pub entries_is : queues_after.entries ≡ map go queues.entries
  pub ready_is : queues_after.ready ≡ map go queues.ready
  pub spare : queues_after.spare ≡ queues.spare

-- ---- forwards taken away

-- places below the first bound, and from the second one on, go nowhere
abbrev pub IsUnmovedOutside : (ℕ → ℕ) → ℕ → ℕ → Type 0
IsUnmovedOutside go low high = (x : ℕ) → (x < low) ⊎ (high ≤ x) → go x ≡ x

-- no item of segment k reaches over the place
pub record IsBorderAt (rows : List TypeRow) (h : HeapView) (k place : ℕ) : Type 0 where
  pub aligned : place % 8 ≡ 0
  pub low : first_of h k ≤ place
  pub high : place ≤ last_of h k
  pub whole : (i : Item) → IsIn i (listing rows h k) → DoesNotCross place (item_piece i)

-- none of these items reaches over the start of generation 1, and that is where the layout says
pub record HasOlderBorder (layout : Layout) (items : List Item) : Type 0 where
  pub aligned : layout.start1 % 8 ≡ 0
  pub low : first_place (ephemeral layout) ≤ layout.start1
  pub order : layout.start1 ≤ layout.start0
  pub high : layout.start0 ≤ (ephemeral layout).end
  pub whole : (i : Item) → IsIn i items → DoesNotCross layout.start1 (item_piece i)

-- the header of a free item among the items stands at the address
pub record IsFreeHeader (items : List Item) (a : ℕ) : Type 0 where
  pub item : Item
  pub listed : IsIn item items
  pub free : is_free item ≡ true
  pub address : a ≡ item.place - 8

-- The old heap where the headers of free items at these addresses are clear. Nothing else changed.
pub record AreCleared (rows : List TypeRow) (old new : HeapView) (Here : ℕ → Type 0) : Type 0 where
  pub shape : SameShape old new
  pub held : IsHeld rows new
  pub items : heap_items rows new ≡ heap_items rows old
  pub words : (a : ℕ) → a % 8 ≡ 0 → (word_of new a ≡ word_of old a)
      ⊎ (IsFreeHeader (heap_items rows old) a × Here a)
  pub zero : (a : ℕ) → IsFreeHeader (heap_items rows old) a → Here a → word_of new a ≡ 0
