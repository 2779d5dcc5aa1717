-- What a fit makes of the heap of a machine, and of all that names its objects.
use Rattle.std.specs.Prelude.{◌≡◌, ℕ, ◌-◌, Bool, false, if◌then◌else◌, List, map, sum_by}
use Rattle.clr_types.specs.Maps.{map_values}
use Rattle.clr_types.specs.Rising.{IsIn, sorted_by}
use Rattle.clr_types.specs.Types.{TypeRow}
use Rattle.clr_handles.specs.Laws.{relocated}
use Rattle.clr_heap.specs.View.{HeapView, SameShape, word_of}
use Rattle.clr_model.specs.Compaction.{Move, moved_by}
use Rattle.clr_model.specs.Fitting.{is_moved}
use Rattle.clr_model.specs.Machine.{Machine, Object}
use Rattle.clr_fitting.specs.Steps.{fit_in, fitted}
use Rattle.clr_view.specs.Memory.{is_marked}
use Rattle.clr_view.specs.View.{IsHeld, layout_in, objects_in}
use Rattle.clr_view.specs.World.{World}
use Rattle.clr_moves.specs.Objects.{moved_object, relocated_object}
use Rattle.clr_evacuate.specs.Carried.{ArePadded}
use Rattle.clr_evacuate.specs.Forwards.{HasForwards}

-- where the survivors of generation 1 find room, in a machine that keeps what the test passes
abbrev pub moves_in : Machine → (ℕ → Bool) → List Move
moves_in n kept = (fit_in n kept).moves

-- The memory of a machine in which the fit was made of the survivors that a test passes. Objects are where its moves
-- take them, with their slots and headers as they were, and so is the layout. Free items say where each object went
-- that found room; it isn't marked any more, and all others are as they were. So many bytes went.
pub record HasMadeFit (rows : List TypeRow) (old new : HeapView) (n : Machine) (kept : ℕ → Bool) (bytes : ℕ)
    : Type 0 where
  pub objects : objects_in rows new
      ≡ sorted_by (λ o. o.name) (map (moved_object (moves_in n kept)) (objects_in rows old))
  pub layout : layout_in rows new ≡ (fitted n kept).layout
  pub marks : (o : Object) → IsIn o (objects_in rows old)
      → is_marked new (moved_object (moves_in n kept) o)
      ≡ (if is_moved (moves_in n kept) o.place then false else is_marked old o)
  pub headers : (o : Object) → IsIn o (objects_in rows old)
      → word_of new ((moved_object (moves_in n kept) o).place - 8) ≡ word_of old (o.place - 8)
  pub padding : ArePadded rows old → ArePadded rows new
  pub forwards : HasForwards rows new (moved_by (moves_in n kept))
  pub counted : bytes ≡ sum_by (λ v. v.size) (moves_in n kept)
  pub shape : SameShape old new
  pub held : IsHeld rows new

-- The old world where the fit was made of the survivors of a machine, whose memory its heap is, that a test passes: all
-- references, and all names from outside of the heap, name the new places. What found room isn't marked any more, and
-- all else is marked as it was. So many bytes went.
pub record HaveFitted (old new : World) (n : Machine) (kept : ℕ → Bool) (bytes : ℕ) : Type 0 where
  pub objects : objects_in new.rows new.heap
      ≡ sorted_by (λ o. o.name)
      (map (λ o. moved_object (moves_in n kept) (relocated_object (moves_in n kept) o)) (objects_in old.rows old.heap))
  pub layout : layout_in new.rows new.heap ≡ (fitted n kept).layout
  pub marks : (o : Object) → IsIn o (objects_in old.rows old.heap)
      → is_marked new.heap (moved_object (moves_in n kept) o)
      ≡ (if is_moved (moves_in n kept) o.place then false else is_marked old.heap o)
  pub locals : new.locals ≡ map (moved_by (moves_in n kept)) old.locals
  pub handles : new.handles ≡ map_values (relocated (moved_by (moves_in n kept))) old.handles
  pub entries : new.entries ≡ map (moved_by (moves_in n kept)) old.entries
  pub ready : new.ready ≡ map (moved_by (moves_in n kept)) old.ready
  pub counted : bytes ≡ sum_by (λ v. v.size) (moves_in n kept)
