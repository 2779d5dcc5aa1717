-- F-reachable places below all condemned objects start no marking.
use Rattle.std.proofs.Common.{◌≡◌, ◌↔◌, ◌⊎◌, inl, inr, ℕ, ◌+◌, ◌-◌, ◌≤◌, true, List, drop, get_or, ap, sym, ◌∙◌, subst}
use Rattle.std.proofs.Common.{arith}
use Rattle.std.proofs.lemmas.Bool.{cases_lt}
use Rattle.std.proofs.lemmas.List.{get_or-drop, length-drop}
use Rattle.std.specs.FinMap.{FinMap}
use Rattle.std.specs.Ordering.{nat_cmp}
use Rattle.clr_types.specs.Rising.{IsIn}
use Rattle.clr_types.specs.Types.{TypeRow}
use Rattle.clr_types.specs.declared.handle.Handle.{Handle}
use Rattle.clr_final.specs.Queues.{HasAllFrom}
use Rattle.clr_heap.specs.View.{HeapView}
use Rattle.clr_model.specs.Reach.{Reach}
use Rattle.clr_view.specs.Marks.{Marked}
use Rattle.clr_mark.specs.Marks.{is_condemned_place}
use Rattle.clr_mark.specs.Roots.{AreObjects}
use Rattle.clr_mark.specs.Ties.{IsCondemnedStart}
use Rattle.clr_mark.proofs.Graying.{reach_on}
use Rattle.clr_mark.proofs.Rooting.{at_in, in_at}
use Rattle.clr_collect.proofs.ClearedFlags.{behind-among}

-- where the condemned objects of a marking that has begun lie
pub lowest_begun : (h : HeapView) (g low oldest : ℕ) → oldest ≡ g
    → ((x : ℕ) → is_condemned_place h oldest x ≡ true → low ≤ x)
    → (x : ℕ) → is_condemned_place h g x ≡ true → low ≤ x
lowest_begun h g low oldest same lowest x near =
    lowest x (subst (λ (b : ℕ). is_condemned_place h b x ≡ true) (sym same) near)

module _ (rows : List TypeRow) (h : HeapView) (g low : ℕ)
    (lowest : (x : ℕ) → is_condemned_place h g x ≡ true → low ≤ x) (ready rest : List ℕ)
    (from : HasAllFrom low ready rest) where
  in_ready : (x : ℕ) → IsIn x rest → IsIn x ready
  in_ready x i = behind-among from.first ready x (subst (λ (xs : List ℕ). IsIn x xs) from.rest_is i)

  pub rest_stands : AreObjects rows h ready → AreObjects rows h rest
  rest_stands stand x r = stand x (record { listed = in_ready x r.listed; not_null = r.not_null })

  -- a condemned one is among the rest
  in_rest : (x : ℕ) → IsIn x ready → is_condemned_place h g x ≡ true → IsIn x rest
  in_rest x i near =
      let (j, inside, is) = in_at ready x 0 i in
      elim (cases_lt j from.first) [
        | inl early ↦
            let less = from.below j early in
            let least = lowest x near in
            absurd (omega (arith, less, least, is))
        | inr late ↦
            let at : from.first + (j - from.first) ≡ j = omega (arith, late) in
            let read : get_or (drop from.first ready) (j - from.first) 0 ≡ x =
            get_or-drop from.first ready (j - from.first) 0 ∙ ap (λ (k : ℕ). get_or ready k 0) at ∙ is in
            let count = length-drop from.first ready in
            subst (λ (xs : List ℕ). IsIn x xs) (sym from.rest_is)
            (subst (λ (y : ℕ). IsIn y (drop from.first ready)) read
            (at_in (drop from.first ready) (j - from.first) 0 (omega (arith, count, inside, late))))
      ]

  module _ (handles : FinMap nat_cmp Handle) (locals : List ℕ) where
    abbrev Begins : List ℕ → ℕ → Type 0
    Begins = IsCondemnedStart rows h handles g locals

    of_ready : (x : ℕ) → Begins rest x → Begins ready x
    of_ready x (inl (inl r)) = inl (inl r)
    of_ready x (inl (inr r)) =
        inl (inr (record {
          root = record { listed = in_ready x r.root.listed; not_null = r.root.not_null };
          condemned = r.condemned;
        }))
    of_ready x (inr tied) = inr tied

    of_rest : (x : ℕ) → Begins ready x → Begins rest x
    of_rest x (inl (inl r)) = inl (inl r)
    of_rest x (inl (inr r)) =
        inl (inr (record {
          root = record { listed = in_rest x r.root.listed r.condemned; not_null = r.root.not_null };
          condemned = r.condemned;
        }))
    of_rest x (inr tied) = inr tied

    -- WHAT IS MARKED from the rest is what is marked from all f-reachable places
    pub marked_from_all : (new : HeapView) (edge : ℕ → ℕ → Type 0) (Older : ℕ → Type 0)
        → ((x : ℕ) → Marked rows new x ↔ Reach edge (λ y. Begins rest y ⊎ Older y) x)
        → (x : ℕ) → Marked rows new x ↔ Reach edge (λ y. Begins ready y ⊎ Older y) x
    marked_from_all new edge Older marked x = (
      λ m. reach_on edge edge (λ y. Begins ready y ⊎ Older y) (λ y. Begins rest y ⊎ Older y) x (λ y z e. e)
          (λ y s. elim s [ inl begins ↦ inl (of_ready y begins) | inr older ↦ inr older ]) ((marked x).0 m),
      λ r. (marked x).1 (reach_on edge edge (λ y. Begins rest y ⊎ Older y) (λ y. Begins ready y ⊎ Older y) x
          (λ y z e. e) (λ y s. elim s [ inl begins ↦ inl (of_rest y begins) | inr older ↦ inr older ]) r),
    )
