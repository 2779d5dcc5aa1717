-- What threads of an image have begun goes on: a begun object's context is all of the free item at its front.
use Rattle.std.specs.Prelude.{◌≡◌, ℕ, ◌-◌, List, filter, find, nat_eq, not, None, slice_set}
use Rattle.clr_types.specs.Ranges.{Piece}
use Rattle.clr_types.specs.Rising.{IsIn}
use Rattle.clr_types.specs.Segments.{Layout, rest_of}
use Rattle.clr_types.specs.Types.{has_finalizer, type_row, TypeRow}
use Rattle.clr_ctx.specs.Contexts.{young_items}
use Rattle.clr_sos.specs.declared.step.Step.{Step}
use Rattle.clr_sos.specs.declared.step.Step.TheVariants.{Begun, Idle, Store}
use Rattle.clr_safe.specs.declared.begun.Begun as safe
use Rattle.clr_safe.specs.declared.begun.Begun.TheVariants as safe_step

-- as a runtime keeps it
abbrev pub begun_of : List TypeRow → Step → safe.Begun
begun_of rows Idle = safe_step.Nothing
begun_of rows (Store object slot) = safe_step.Store object slot
begun_of rows (Begun t len local front) = safe_step.Birth t len local (has_finalizer (type_row rows t.0))

-- ---- contexts

-- the free item at this front is the context of thread t
abbrev pub fronted : Layout → ℕ → ℕ → Layout
fronted layout t front = record layout {
  free = filter (λ (p : Piece). not (nat_eq p.place front)) layout.free;
  rests = slice_set layout.rests (t - 1) (find (λ (p : Piece). nat_eq p.place front) layout.free);
}

-- the layout where thread t has begun this
abbrev pub layout_with : Layout → ℕ → Step → Layout
layout_with layout t Idle = layout
layout_with layout t (Store object slot) = layout
layout_with layout t (Begun type len local front) = fronted layout t front

-- the thread has no context, and a free item of generation 0 begins at the front
pub record IsFrontOf (layout : Layout) (t front : ℕ) : Type 0 where
  pub none : rest_of layout t ≡ None
  pub item : Piece
  pub young : IsIn item (young_items layout)
  pub at : item.place ≡ front

abbrev pub HasFront : Layout → ℕ → Step → Type 0
HasFront layout t Idle = Unit {0}
HasFront layout t (Store object slot) = Unit {0}
HasFront layout t (Begun type len local front) = IsFrontOf layout t front
