-- What names objects from outside of the heap, and where a plan takes it.
use Rattle.std.specs.Prelude.{◌≡◌, ℕ, true, List, map, Some}
use Rattle.std.specs.FinMap as finmap
use Rattle.std.specs.FinMap.{FinMap}
use Rattle.std.specs.Ordering.{nat_cmp}
use Rattle.clr_types.specs.Kinds.{is_pinned_kind}
use Rattle.clr_types.specs.Maps.{map_values}
use Rattle.clr_types.specs.Rising.{IsIn}
use Rattle.clr_types.specs.Types.{TypeRow}
use Rattle.clr_types.specs.declared.handle.Handle.{Handle}
use Rattle.clr_handles.specs.Laws.{relocated}
use Rattle.clr_heap.specs.View.{HeapView}
use Rattle.clr_model.specs.Compaction.{Move, moved_by}
use Rattle.clr_pinq.specs.declared.entry.PinEntry.{PinEntry}
use Rattle.clr_plugs.specs.BrickEntries.{BricksView}
use Rattle.clr_moves.specs.Overlaid.{HoldsPlan, MayGo}
use Rattle.clr_moves.specs.declared.condemned.Condemned.{Condemned}
use Rattle.clr_survivors.specs.declared.roots.Roots.{Roots}

-- a plan: types, the heap with all its words, what is saved, the moves, and where generations 1 and 0 begin afterwards
pub record Plan : Type 0 where
  pub rows : List TypeRow
  pub view : HeapView
  pub entries : List PinEntry
  pub moves : List Move
  pub start1 : ℕ
  pub start0 : ℕ

-- a heap and bricks hold it
abbrev pub Guides : Plan → HeapView → BricksView → Condemned → Type 0
Guides p h bricks g = HoldsPlan p.rows p.view h bricks p.entries g p.moves p.start1 p.start0

-- one that they hold takes the place along, or leaves it
abbrev pub CanGo : HeapView → BricksView → Condemned → ℕ → Type 0
CanGo h bricks g place = (p : Plan) × Guides p h bricks g × MayGo p.view g p.moves place

-- the place becomes `moved` by every plan that they hold and that takes it along, or leaves it
pub record HasMoved (h : HeapView) (bricks : BricksView) (g : Condemned) (place moved : ℕ) : Type 0 where
  pub by : (p : Plan) → Guides p h bricks g → MayGo p.view g p.moves place
      → moved ≡ moved_by p.moves place

-- it takes each of these places along, or leaves it
abbrev pub AllGo : Plan → Condemned → List ℕ → Type 0
AllGo p g places = (x : ℕ) → IsIn x places → MayGo p.view g p.moves x

-- and all that handles name, of which the targets of pinned ones stay
pub record HandlesGo (p : Plan) (g : Condemned) (table : FinMap nat_cmp Handle) : Type 0 where
  pub targets : (k : ℕ) (row : Handle) → finmap.get table k ≡ Some row → MayGo p.view g p.moves row.target
  pub seconds : (k : ℕ) (row : Handle) → finmap.get table k ≡ Some row → MayGo p.view g p.moves row.second
  pub pinned : (k : ℕ) (row : Handle) → finmap.get table k ≡ Some row → is_pinned_kind row.kind ≡ true
      → moved_by p.moves row.target ≡ row.target

-- so it is with locals, handles, entries and the f-reachable queue
pub record NamesGo (p : Plan) (g : Condemned) (roots : Roots) : Type 0 where
  pub locals_go : AllGo p g roots.locals.items
  pub handles_go : HandlesGo p g roots.handles
  pub entries_go : AllGo p g roots.finals.entries
  pub ready_go : AllGo p g roots.finals.ready
  pub null : moved_by p.moves 0 ≡ 0

-- all these names have gone
pub record HaveGone (moves : List Move) (old new : Roots) : Type 0 where
  pub locals_is : new.locals.items ≡ map (moved_by moves) old.locals.items
  pub table_is : new.handles ≡ map_values (relocated (moved_by moves)) old.handles
  pub entries_is : new.finals.entries ≡ map (moved_by moves) old.finals.entries
  pub ready_is : new.finals.ready ≡ map (moved_by moves) old.finals.ready
  pub spare : new.finals.spare ≡ old.finals.spare
