-- What a compacting collection moves: what it leaves, and all that names it.
use Rattle.std.specs.Prelude.{◌≡◌, ℕ, ◌+◌, ◌-◌, ◌^◌, min, ◌<◌, ◌≤◌, ◌⊎◌, Bool, true, false, ◌&&◌, ◌==◌, List, map}
use Rattle.std.specs.Prelude.{drop, filter, length, MatchBool}
use Rattle.std.specs.Prelude.{if◌then◌else◌, slice_get, Some}
use Rattle.std.specs.List.{list_any}
use Rattle.std.specs.FinMap as finmap
use Rattle.std.specs.FinMap.{FinMap}
use Rattle.std.specs.Ordering.{nat_cmp}
use Rattle.clr_types.specs.Kinds.{is_pinned_kind}
use Rattle.clr_types.specs.Maps.{map_values}
use Rattle.clr_types.specs.Rising.{IsIn, sorted_by}
use Rattle.clr_types.specs.Segments.{first_place, Layout, same_kind, stands_in}
use Rattle.clr_types.specs.Types.{TypeRow}
use Rattle.clr_types.specs.declared.handle.Handle.{Handle}
use Rattle.clr_types.specs.declared.segment.SegInfo.{SegInfo}
use Rattle.clr_types.specs.declared.segment.SegKind.TheVariants.{Ephemeral, Large}
use Rattle.clr_final.specs.Queues.{Queues}
use Rattle.clr_handles.specs.Laws.{relocated}
use Rattle.clr_heap.specs.View.{HeapView}
use Rattle.clr_model.specs.Collection.{bytes_promoted}
use Rattle.clr_model.specs.Compaction.{IsCompacted, Move, moved_by}
use Rattle.clr_model.specs.Fitting.{fit_of, IsFitted}
use Rattle.clr_model.specs.Machine.{Machine, Object, ref}
use Rattle.clr_model.specs.Sweep.{Survivor, survivors, swept_others}
use Rattle.clr_view.specs.Memory.{is_left, IsLeft}
use Rattle.clr_view.specs.View.{layout_in, objects_in}
use Rattle.clr_view.specs.World.{World}
use Rattle.clr_survivors.specs.declared.roots.Roots.{Roots}
use Rattle.clr_moves.specs.Moves.{moved_bytes}
use Rattle.clr_moves.specs.Objects.{moved_object, relocated_object}

-- the world of these types, this heap, these locals and handles, and this finalisation queue
abbrev pub world_with : List TypeRow → HeapView → List ℕ → FinMap nat_cmp Handle → Queues → World
world_with rows heap locals handles queues = record {
  rows = rows;
  heap = heap;
  locals = locals;
  handles = handles;
  entries = queues.entries;
  ready = queues.ready;
}

-- the world of these types, this heap and these roots
abbrev pub world_of : List TypeRow → HeapView → Roots → World
world_of rows heap roots = world_with rows heap roots.locals.items roots.handles roots.finals

-- ---- what names what

-- null, or an object that a collection of generation g leaves
abbrev pub IsNullOrLeft : List TypeRow → HeapView → ℕ → ℕ → Type 0
IsNullOrLeft rows h g x = (x ≡ 0) ⊎ IsLeft rows h g x

-- what it leaves names nothing else
abbrev pub AreClosed : List TypeRow → HeapView → ℕ → Type 0
AreClosed rows h g =
    (o : Object) (j x : ℕ) → IsIn o (objects_in rows h) → is_left h g o ≡ true
    → slice_get o.slots j ≡ Some (ref x) → IsNullOrLeft rows h g x

-- and neither do locals, handles, entries and the f-reachable queue
pub record NameLeft (w : World) (g : ℕ) : Type 0 where
  pub locals : (x : ℕ) → IsIn x w.locals → IsNullOrLeft w.rows w.heap g x
  pub targets : (k : ℕ) (row : Handle) → finmap.get w.handles k ≡ Some row → IsNullOrLeft w.rows w.heap g row.target
  pub seconds : (k : ℕ) (row : Handle) → finmap.get w.handles k ≡ Some row → IsNullOrLeft w.rows w.heap g row.second
  pub entries : (x : ℕ) → IsIn x w.entries → IsLeft w.rows w.heap g x
  pub ready : (x : ℕ) → IsIn x w.ready → IsLeft w.rows w.heap g x

-- ---- pins

-- a pinned handle has the place as its target
abbrev pub pins_place : FinMap nat_cmp Handle → ℕ → Bool
pins_place table place = list_any (λ row. is_pinned_kind row.kind && (row.target == place)) (finmap.values table)

-- whatever isn't empty has an object in it, but for the ephemeral segment
abbrev pub HasObjects : List TypeRow → HeapView → Type 0
HasObjects rows h = (s : SegInfo) → IsIn s h.segments → same_kind Ephemeral s.kind ≡ false → first_place s < s.end
    → list_any (λ o. stands_in s o.place) (objects_in rows h) ≡ true

-- ---- what is left, where it goes

-- the objects that a collection of generation g leaves, at their new places, naming new places
abbrev pub left_objects : List TypeRow → HeapView → ℕ → List Move → List Object
left_objects rows h g vs =
    map (λ o. moved_object vs (relocated_object vs o)) (filter (is_left h g) (objects_in rows h))

-- these moves compact the survivors, or fit those of generation 1 into older items and compact the others
abbrev pub GoBy : Bool → Layout → ℕ → List Survivor → List Move → Layout → Type 0
GoBy fitted layout g kept moves after =
    MatchBool fitted (IsFitted layout kept moves after) (IsCompacted layout g kept moves after)

-- those of them that the compaction makes: all, or those behind the moves of the fit
abbrev pub compaction_part : Bool → Layout → List Survivor → List Move → List Move
compaction_part fitted layout kept moves = if fitted then drop (length (fit_of layout kept).moves) moves else moves

-- The old world after a compacting collection of generation g of a machine whose memory its heap is, with a fit or
-- without one: the marked objects of the small heap went where these moves take them, and all names went along. Large
-- objects stay or are swept. The compaction is counted, with the bytes that it moved.
pub record HaveMoved (fitted : Bool) (old new : World) (g : ℕ) (n : Machine) (kept : ℕ
    → Bool) (promoted1 promoted2 slides_before slides_after : ℕ) : Type 0 where
  pub moves : List Move
  pub after : Layout
  pub compacted : GoBy fitted n.layout g (survivors n g kept) moves after
  pub null : moved_by moves 0 ≡ 0
  pub objects : objects_in new.rows new.heap ≡ sorted_by (λ o. o.name) (left_objects old.rows old.heap g moves)
  pub layout : layout_in new.rows new.heap
      ≡ (if g == 2 then swept_others after 2 (survivors n g kept) else after)
  pub locals : new.locals ≡ map (moved_by moves) old.locals
  pub handles : new.handles ≡ map_values (relocated (moved_by moves)) old.handles
  pub entries : new.entries ≡ map (moved_by moves) old.entries
  pub ready : new.ready ≡ map (moved_by moves) old.ready
  pub promoted1_is : promoted1 ≡ bytes_promoted n (layout_in new.rows new.heap) kept moves 0
  pub promoted2_is : promoted2 ≡ bytes_promoted n (layout_in new.rows new.heap) kept moves 1
  pub slid : slides_after
      ≡ min (2 ^ 64 - 1) (slides_before + (1 + moved_bytes (compaction_part fitted n.layout (survivors n g kept) moves)))
