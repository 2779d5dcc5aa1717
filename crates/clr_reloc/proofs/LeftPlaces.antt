-- What is left, by its place.
use Rattle.std.proofs.Common.{◌≡◌, ℕ, ap, Bool, false, not, refl, true, ◌||◌, nat_le}
use Rattle.clr_types.specs.Segments.{generation}
use Rattle.clr_heap.specs.View.{frame, HeapView, SameShape, segment_at}
use Rattle.clr_model.specs.Machine.{Object}
use Rattle.clr_view.specs.Memory.{is_marked}
use Rattle.clr_moves.specs.Moves.{takes}
use Rattle.clr_moves.specs.Objects.{is_in_parts, is_left_by}
use Rattle.clr_moves.specs.declared.condemned.Condemned.{Condemned}
use Rattle.clr_moves.specs.declared.condemned.Condemned.TheVariants.{Generations, LargeSegments}
use Rattle.clr_reloc.specs.Relocating.{is_gone_over_in, is_left_at}

pub or_swap : (a b : Bool) → (a || b) ≡ (b || a)
or_swap true true = refl
or_swap true false = refl
or_swap false true = refl
or_swap false false = refl

pub left_by : (h : HeapView) (g : Condemned) (o : Object) → is_left_by h g o ≡ is_left_at h g o.place
left_by h (Generations age) o = refl
left_by h LargeSegments o = or_swap (is_marked h o) (not (is_in_parts h LargeSegments o.place))

-- the words don't tell what a collection goes over
pub over_same : (view h : HeapView) → SameShape view h → (g : Condemned) (k x : ℕ)
    → is_gone_over_in h g k x ≡ is_gone_over_in view g k x
over_same view h shape (Generations age) k x =
    ap (λ (v : HeapView). nat_le (generation (frame v) x) age) shape.others
over_same view h shape LargeSegments k x = ap (λ (v : HeapView). takes LargeSegments (segment_at v k)) shape.others
