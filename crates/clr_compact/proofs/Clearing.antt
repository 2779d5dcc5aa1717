-- One step of a walk that clears marks.
use Rattle.std.proofs.Common.{◌≡◌, inl, inr, ℕ, ◌+◌, ◌<◌, List, ap, sym, ◌∙◌, arith, None}
use Rattle.std.proofs.lemmas.Bool.{cases_eq}
use Rattle.clr_types.specs.Types.{TypeRow}
use Rattle.clr_types.specs.declared.item.Item.{Item}
use Rattle.clr_heap.specs.Parts.{hole_from, item_at, items_in, item_part, Part, Spells, unmarked}
use Rattle.clr_compact.specs.Rewrites.{cleared, IsRewriting}
use Rattle.clr_heap.specs.View.{HeapView, holes_of, sight, stored, word_of}
use Rattle.clr_heap.proofs.Spelling.{place-item_at}
use Rattle.clr_heap.proofs.Storing.{word_in-store_in_same, word_in-store_in_other}
use Rattle.clr_compact.proofs.Rewriting.{cleared_at, cleared_inside}
use Rattle.clr_compact.proofs.Rewalking.{rewriting_ahead, rewriting_at, rewriting_item}
use Rattle.clr_heap.proofs.Rewrite.{SameShape-stored}

module _ (rows : List TypeRow) (k : ℕ) (all : List Part) (old now : HeapView) (first last p e : ℕ)
    (spelled : Spells (sight rows old k) first all last)
    (r : IsRewriting (cleared (items_in all)) rows k all old now p e) (below : p < e) where
  pub clear_step : hole_from (holes_of now k) p ≡ None
      → IsRewriting (cleared (items_in all)) rows k all old (stored now p (unmarked (word_of now p)))
      (p + (item_at rows (word_of now) p).size) e
  clear_step none =
      let here = rewriting_at (cleared (items_in all)) rows k all old now p e r below none in
      let s = sight rows old k in
      let new = stored now p (unmarked (word_of now p)) in
      let size = ap (λ (i : Item). i.size) here.same in
      let place = place-item_at rows (word_of old) p in
      rw here.same (rewriting_item (cleared (items_in all)) rows k all old now new p e r below none
      (SameShape-stored old now p (unmarked (word_of now p)) r.shape)
      (λ a z low high. elim (cases_eq a p) [
        | inl same ↦ rw same (word_in-store_in_same now.memories p (unmarked (word_of now p)) here.mt.inside
            ∙ ap unmarked (rewriting_ahead _ rows k all old now p e p r r.walk.start (omega arith))
            ∙ sym (ap (λ (q : ℕ). cleared (items_in all) q (word_of old p)) (sym place)
            ∙ cleared_at all (item_at rows (word_of old) p) (word_of old p) here.among))
        | inr apart ↦ word_in-store_in_other now.memories p (unmarked (word_of now p)) a r.walk.start z apart
            ∙ rewriting_ahead _ rows k all old now p e a r z low
            ∙ sym (cleared_inside s all (item_part (item_at rows (word_of old) p)) first last a (word_of old a)
            spelled here.among (rw place low) (rw place high) (rw place apart))
      ])
      (λ a z out. word_in-store_in_other now.memories p (unmarked (word_of now p)) a r.walk.start z
      (λ same. elim out [ inl l ↦ omega arith | inr l ↦ let least = here.old_names.least in omega arith ])))
