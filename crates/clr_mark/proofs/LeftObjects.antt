-- An object that a collection leaves is one on which a mark wouldn't be new.
use Rattle.std.proofs.Common.{◌≡◌, ℕ, ◌&&◌, ◌||◌, Bool, true, false, not, List, ap, sym, ◌∙◌, refl}
use Rattle.clr_types.specs.Types.{TypeRow}
use Rattle.clr_heap.specs.View.{HeapView, word_of}
use Rattle.clr_view.specs.Marks.{has_mark}
use Rattle.clr_view.specs.Memory.{is_left_name, is_reached_by}
use Rattle.clr_view.specs.SlotValues.{StandsAt}
use Rattle.clr_view.proofs.LeftNames.{left-name, name-is-place}
use Rattle.clr_mark.specs.Marks.{is_condemned_place, is_new}

not-and : (a b : Bool) → not (a && not b) ≡ (not a || b)
not-and true true = refl
not-and true false = refl
not-and false b = refl

pub left-new : (rows : List TypeRow) (h : HeapView) (g x : ℕ) → StandsAt rows h x
    → not (is_new h g x) ≡ is_left_name rows h g x
unfolding is_condemned_place
left-new rows h g x (o, i, at) =
    not-and (is_condemned_place h g x) (has_mark (word_of h x))
    ∙ ap (λ (p : ℕ). not (is_reached_by h g p) || has_mark (word_of h p)) (sym at)
    ∙ sym (left-name rows h g o i)
    ∙ ap (is_left_name rows h g) (name-is-place rows h o i ∙ at)
