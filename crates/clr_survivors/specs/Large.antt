-- The slide of large segments: what its phases need and leave, and what it makes of a world.
use Rattle.std.specs.Prelude.{◌≡◌, ℕ, ◌||◌, true, List, map, ℤ}
use Rattle.clr_types.specs.Maps.{map_values}
use Rattle.clr_types.specs.Rising.{IsIn, sorted_by}
use Rattle.clr_types.specs.Segments.{Layout}
use Rattle.clr_types.specs.Types.{TypeRow}
use Rattle.clr_bricks.specs.Bricks.{entry_at}
use Rattle.clr_cards.specs.Cards.{is_card_set}
use Rattle.clr_covers.specs.Covers.{spans}
use Rattle.clr_handles.specs.Laws.{relocated}
use Rattle.clr_handles.specs.Tables.{Table}
use Rattle.clr_heap.specs.View.{frame, HeapView, IsHeap}
use Rattle.clr_model.specs.Compaction.{Move, moved_by}
use Rattle.clr_model.specs.Machine.{Machine, Object}
use Rattle.clr_model.specs.Slide.{all_survivors, IsLargeSlid}
use Rattle.clr_view.specs.Memory.{is_marked}
use Rattle.clr_view.specs.View.{layout_in, objects_in}
use Rattle.clr_view.specs.World.{World}
use Rattle.clr_compact.specs.Compacted.{HasCompacted}
use Rattle.clr_generations.specs.Laws.{BrickLaw, CardLaw}
use Rattle.clr_generations.specs.declared.space.Space.{Space}
use Rattle.clr_mark.specs.Marks.{IsRemarked}
use Rattle.clr_moves.specs.Objects.{is_in_parts, IsUntouched, moved_object, relocated_object}
use Rattle.clr_moves.specs.declared.condemned.Condemned.TheVariants.{LargeSegments}
use Rattle.clr_moves.specs.declared.planned.Planned.{Planned}
use Rattle.clr_pinq.specs.declared.entry.PinEntry.{PinEntry}
use Rattle.clr_plan.specs.Planned.{HasPlanned}
use Rattle.clr_reloc.specs.Relocated.{CanRelocate, HasRelocated, left_objects, rebounded}
use Rattle.clr_survivors.specs.Pins.{HasPins}
use Rattle.clr_survivors.specs.Roots.{HaveGone, NamesGo, Plan}
use Rattle.clr_survivors.specs.declared.roots.Roots.{Roots}

-- ---- the plan

-- All objects of large segments are marked, headers of what pinned handles name say so, and heap, bricks and queue tell
-- the plan of the slide of this machine. Cards, and entries that the plan hasn't overwritten, are those of before.
pub record HasPlannedSlide (rows : List TypeRow) (old new : Space) (entries : List PinEntry) (table : Table)
    (m : Machine) : Type 0 where
  pub marked : HeapView
  pub remarked : IsRemarked rows old.heap marked
  pub marks : (o : Object) → IsIn o (objects_in rows old.heap)
      → is_marked marked o ≡ (is_in_parts old.heap LargeSegments o.place || is_marked old.heap o)
  pub view : HeapView
  pub pins : HasPins rows marked view table 1 65536 true
  pub plan : HasPlanned rows view new.heap new.bricks entries LargeSegments m (is_in_parts old.heap LargeSegments)
      old.heap.start1 old.heap.start0
  pub others : (i : ℕ) → IsUntouched view LargeSegments i → entry_at new.bricks i ≡ entry_at old.bricks i
  pub cards_is : new.cards ≡ old.cards
  pub same_bricks : spans new.bricks ≡ spans old.bricks

-- ---- the moves

-- References can be relocated, and the plan takes along, or leaves, all that is named from outside of the heap. The
-- generations begin where they did, and the entries of bricks that the plan hasn't touched obey their law.
pub record CanSlide (p : Plan) (s : Space) (entry : ℕ → ℤ) (planned : Planned) (roots : Roots) : Type 0 where
  pub relocates : CanRelocate p.rows p.view s.heap s.cards s.bricks p.entries LargeSegments p.moves entry planned
  pub names : NamesGo p LargeSegments roots
  pub start1 : planned.start1 ≡ s.heap.start1
  pub start0 : planned.start0 ≡ s.heap.start0
  pub law : BrickLaw p.rows (frame p.view) (objects_in p.rows p.view) entry
  pub others : (i : ℕ) → IsUntouched p.view LargeSegments i → entry_at s.bricks i ≡ entry i

-- References and names have become the places where what they name goes, and there it is. Cards obey their law.
pub record HasSlidBy (p : Plan) (new : Space) (planned : Planned) (roots roots_after : Roots) : Type 0 where
  pub mid : HeapView
  pub heap : IsHeap new.heap
  pub relocated : HasRelocated p.rows p.view mid LargeSegments p.moves
  pub compacted : HasCompacted p.rows mid new.heap LargeSegments p.moves
  pub gone : HaveGone p.moves roots roots_after
  pub card_law : CardLaw p.rows (rebounded (frame p.view) planned) (left_objects p.rows p.view LargeSegments p.moves)
      (is_card_set new.cards)

-- ---- the world

-- The old world after a slide of the large heap of a machine whose memory its heap is: the objects of large segments
-- went where these moves take them, and all names went along.
pub record HaveSlid (old new : World) (n : Machine) : Type 0 where
  pub moves : List Move
  pub after : Layout
  pub slid : IsLargeSlid n.layout (all_survivors n) moves after
  pub null : moved_by moves 0 ≡ 0
  pub objects : objects_in new.rows new.heap
      ≡ sorted_by (λ o. o.name)
      (map (λ o. moved_object moves (relocated_object moves o)) (objects_in old.rows old.heap))
  pub layout : layout_in new.rows new.heap ≡ after
  pub locals : new.locals ≡ map (moved_by moves) old.locals
  pub handles : new.handles ≡ map_values (relocated (moved_by moves)) old.handles
  pub entries : new.entries ≡ map (moved_by moves) old.entries
  pub ready : new.ready ≡ map (moved_by moves) old.ready
