-- What a collection leaves: what is older than all that it condemns, and what is marked.
use Rattle.std.proofs.Common.{◌≡◌, ◌⊎◌, inl, inr, ℕ, ◌||◌, true, false, not, nat_le, refl, ap, sym, ◌∙◌, List}
use Rattle.std.proofs.lemmas.Bool.{cases_Bool, leb-true}
use Rattle.clr_types.specs.Segments.{generation}
use Rattle.clr_types.specs.Types.{TypeRow}
use Rattle.clr_heap.specs.View.{frame, HeapView}
use Rattle.clr_view.specs.Marks.{Marked}
use Rattle.clr_view.specs.Memory.{is_left_name, is_marked}
use Rattle.clr_view.specs.SlotValues.{StandsAt}
use Rattle.clr_view.proofs.LeftNames.{left-marked, left-name, marked-left, name-is-place, tests_left}
use Rattle.clr_mark.specs.Marks.{is_condemned_place}
use Rattle.clr_survivors.proofs.LeftGoes.{condemned-is}

-- an object that isn't condemned stands at x
pub record IsOlder (rows : List TypeRow) (h : HeapView) (g x : ℕ) : Type 0 where
  pub stands : StandsAt rows h x
  pub old : is_condemned_place h g x ≡ false

module _ (rows : List TypeRow) (h : HeapView) (g x : ℕ) where
  -- an older object is left
  pub older-left : IsOlder rows h g x → is_left_name rows h g x ≡ true
  older-left o =
      let (object, i, at) = o.stands in
      ap (is_left_name rows h g) (sym (name-is-place rows h object i ∙ at))
      ∙ left-name rows h g object i
      ∙ ap (λ p. not (nat_le (generation (frame h) p) g) || is_marked h object) at
      ∙ ap (λ b. not b || is_marked h object) (sym (condemned-is h g x) ∙ o.old)

  -- one that is condemned and left is marked
  pub condemned-left : is_condemned_place h g x ≡ true → is_left_name rows h g x ≡ true → Marked rows h x
  condemned-left on = left-marked rows h g x (leb-true (generation (frame h) x) g (sym (condemned-is h g x) ∙ on))

  -- what is left is an older object, or marked
  pub left-cases : is_left_name rows h g x ≡ true → IsOlder rows h g x ⊎ Marked rows h x
  left-cases e =
      let left = (tests_left rows h g x).0 e in
      let at = sym (name-is-place rows h left.object left.present) ∙ left.named in
      elim (cases_Bool (is_condemned_place h g x)) [
        | inl on ↦ inr (condemned-left on e)
        | inr off ↦ inl (record { stands = (left.object, left.present, at); old = off })
      ]

  pub cases-left : IsOlder rows h g x ⊎ Marked rows h x → is_left_name rows h g x ≡ true
  cases-left (inl older) = older-left older
  cases-left (inr marked) = marked-left rows h g x marked
