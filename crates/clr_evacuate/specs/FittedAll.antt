-- All runs that may go into older items, one after the other: what becomes of the heap, by the fit of their plugs.
use Rattle.std.specs.Prelude.{◌≡◌, ◌↔◌, ℕ, ◌+◌, ◌-◌, ◌<◌, ◌≤◌, false, not}
use Rattle.std.specs.Prelude.{if◌then◌else◌, List, [], ◌∷◌, ◌++◌, map, filter, sum_by}
use Rattle.clr_types.specs.Ranges.{by_place, Piece}
use Rattle.clr_types.specs.Rising.{IsIn, sorted_by}
use Rattle.clr_types.specs.Types.{TypeRow}
use Rattle.clr_types.specs.declared.item.Item.{Item}
use Rattle.clr_heap.specs.Parts.{item_piece}
use Rattle.clr_heap.specs.View.{heap_items, HeapView, IsHeap, items_between, SameShape, sight, word_of}
use Rattle.clr_model.specs.Compaction.{Move, moved_by, Plug}
use Rattle.clr_model.specs.Fitting.{Fit, is_moved, is_older_item, lowest_item, older_items}
use Rattle.clr_model.specs.Lookups.{object_piece}
use Rattle.clr_model.specs.Machine.{Object}
use Rattle.clr_view.specs.Memory.{is_marked}
use Rattle.clr_view.specs.View.{free_in, IsHeld, layout_in, objects_in}
use Rattle.clr_moves.specs.Objects.{moved_object}
use Rattle.clr_plan.specs.Scans.{CanScan}
use Rattle.clr_evacuate.specs.Carried.{ArePadded}
use Rattle.clr_evacuate.specs.FittedRun.{AreOlder, HasFitted, IsYoungRun}
use Rattle.clr_evacuate.specs.Forwards.{HasForwards}

-- nothing below a place went elsewhere
abbrev pub IsUnmovedBelow : (ℕ → ℕ) → ℕ → Type 0
IsUnmovedBelow go bound = (x : ℕ) → x < bound → go x ≡ x

-- where places go, and those that move, there, too
abbrev pub going_with : (ℕ → ℕ) → List Move → ℕ → ℕ
going_with go moves x = if is_moved moves x then moved_by moves x else go x

-- The old heap where a fit was made, of plugs from the place `low` on: objects are where its moves take them, with
-- their slots and headers as they were, the older items are what it left, and where each object stood that went is
-- free, and says where it went. None of these is marked any more, and all others are as they were. Padding stays zero.
pub record HasCarriedAll (rows : List TypeRow) (old new : HeapView) (low : ℕ) (f : Fit) (gone : List Item) : Type 0
  where
    pub objects : objects_in rows new ≡ sorted_by (λ o. o.name) (map (moved_object f.moves) (objects_in rows old))
    pub layout : layout_in rows new
        ≡ record (layout_in rows old) {
          free = by_place ((filter (λ i. not (is_older_item (layout_in rows old) i)) (free_in rows old) ++ f.left)
              ++ map item_piece gone);
        }
    pub marks : (o : Object) → IsIn o (objects_in rows old)
        → is_marked new (moved_object f.moves o) ≡ (if is_moved f.moves o.place then false else is_marked old o)
    pub from : (v : Move) → IsIn v f.moves → low ≤ v.start
    pub headers : (o : Object) → IsIn o (objects_in rows old)
        → word_of new ((moved_object f.moves o).place - 8) ≡ word_of old (o.place - 8)
    pub padding : ArePadded rows old → ArePadded rows new
    pub forwards : (go : ℕ → ℕ) → HasForwards rows old go → IsUnmovedBelow go old.start1
        → HasForwards rows new (going_with go f.moves)
    pub shape : SameShape old new
    pub held : IsHeld rows new

-- ---- plug by plug

-- the plugs lie one behind the other from a place on
abbrev pub AreInOrder : ℕ → List Plug → Type 0
AreInOrder low [] = Unit {0}
AreInOrder low (p ∷ ps) = (low ≤ p.start) × AreInOrder (p.start + p.size) ps

-- one plug is a run of objects, which went into the lowest older item in which it fits, where there is one
pub record HasPassed (rows : List TypeRow) (h mid : HeapView) (p : Plug) (bytes : ℕ) : Type 0 where
  pub next : IsHeap mid
  pub older : AreOlder (layout_in rows h)
  pub run : List Item
  pub is : IsYoungRun rows h run (record { place = p.start; size = p.size })
  pub fitted : HasFitted rows h mid run (record { place = p.start; size = p.size }) bytes
      (lowest_item p.size (older_items (layout_in rows h)))

-- and all of them did, one after the other
abbrev pub HavePassed : List TypeRow → HeapView → HeapView → List Plug → ℕ → Type 0
HavePassed rows h new [] bytes = (h ≡ new) × (bytes ≡ 0)
HavePassed rows h new (p ∷ ps) bytes =
    (mid : HeapView) × (some : ℕ) × (more : ℕ) × HasPassed rows h mid p some × HavePassed rows mid new ps more
    × (bytes ≡ some + more)

-- the ranges of the objects that go with these moves
abbrev pub moved_pieces : List TypeRow → HeapView → List Move → List Piece
moved_pieces rows h moves =
    map (object_piece rows) (filter (λ (o : Object). is_moved moves o.place) (objects_in rows h))

-- and these items have them
abbrev pub AreGone : List TypeRow → HeapView → List Move → List Item → Type 0
AreGone rows h moves gone = (p : Piece) → IsIn p (map item_piece gone) ↔ IsIn p (moved_pieces rows h moves)

-- the fit was made, the objects that went are these, and the bytes that did are those of its moves
pub record HasMade (rows : List TypeRow) (h new : HeapView) (low : ℕ) (f : Fit) (bytes : ℕ) : Type 0 where
  pub gone : List Item
  pub carried : HasCarriedAll rows h new low f gone
  pub gone_are : AreGone rows h f.moves gone
  pub counted : bytes ≡ sum_by (λ v. v.size) f.moves

-- a stretch of a segment can be read, its items are the heap's, it begins above the older items, and ends below
-- generation 0
pub record CanCarryBetween (rows : List TypeRow) (h : HeapView) (k p e : ℕ) : Type 0 where
  pub scan : CanScan rows h k p e
  pub listed : (i : Item) → IsIn i (items_between (sight rows h k) p e) → IsIn i (heap_items rows h)
  pub older : AreOlder (layout_in rows h)
  pub above : h.start1 ≤ p
  pub low : e ≤ h.start0
