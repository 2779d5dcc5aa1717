-- The line of each kind, and how many draws it takes.
use Rattle.std.proofs.Common.{◌≡◌, ◌∙◌, ℕ, zero, suc, ◌<◌, ◌≤◌, refl, sym, ap, arith, Some, None, codes, inl, inr}
use Rattle.std.proofs.lemmas.Bool.{cases_eq, ne_eqb}
use Rattle.clr_model.specs.declared.How.TheVariants.{Decide}
use Rattle.clr_model.specs.Instructions.{new_object, set_slot, clear_local, collect_heap}
use Rattle.clr_script.specs.Made.{next_state, drawn, state_after, draw, IsChoice, made_use, draws_of, use_from}
use Rattle.clr_script.specs.Made.{state_behind}

-- ---- lines

-- the line, by what was drawn for it
use_chosen : {x t a k j : ℕ} → IsChoice x t a k j → use_from x ≡ made_use a t k j (draw 2000 5 x) (draw 3 5 x)
use_chosen d = rw (d.thread, d.kind, d.local, d.other) refl

pub node_chosen : {x t a k j : ℕ} → IsChoice x t a k j → a < 2 → use_from x ≡ new_object t k (codes "Node") None
node_chosen {x} {t} {a} {k} {j} d low = use_chosen d ∙ go a low
  where
    go : (i : ℕ) → i < 2 → made_use i t k j (draw 2000 5 x) (draw 3 5 x) ≡ new_object t k (codes "Node") None
    go zero _ = refl
    go (suc zero) _ = refl
    go (suc (suc i)) h = absurd (omega arith)

pub bytes_chosen : {x t a k j mid last len : ℕ} → IsChoice x t a k j → a ≡ 2 → mid ≡ state_after 4 x
    → last ≡ next_state mid → len ≡ drawn 2000 last → use_from x ≡ new_object t k (codes "byte[]") (Some len)
bytes_chosen d kind four fifth drawn_so = use_chosen d
    ∙ rw (kind, drawn_so, fifth, four) refl

pub file_chosen : {x t a k j : ℕ} → IsChoice x t a k j → a ≡ 3 → use_from x ≡ new_object t k (codes "File") None
file_chosen d kind = use_chosen d ∙ rw kind refl

pub set_chosen : {x t a k j : ℕ} → IsChoice x t a k j → 4 ≤ a → a ≤ 5 → use_from x ≡ set_slot t k 0 j
set_chosen {x} {t} {a} d low high = use_chosen d
    ∙ elim (cases_eq a 4) [
      | inl four ↦ rw four refl
      | inr other ↦ let five : a ≡ 5 = omega arith in rw five refl
    ]

pub null_chosen : {x t a k j : ℕ} → IsChoice x t a k j → a ≡ 6 → use_from x ≡ clear_local t k
null_chosen d kind = use_chosen d ∙ rw kind refl

pub collect_chosen : {x t a k j mid last g : ℕ} → IsChoice x t a k j → a ≡ 7 → mid ≡ state_after 4 x
    → last ≡ next_state mid → g ≡ drawn 3 last → use_from x ≡ collect_heap t g Decide
collect_chosen d kind four fifth drawn_so = use_chosen d
    ∙ rw (kind, drawn_so, fifth, four) refl

-- ---- states

pub four_drawn : {x t a k j mid : ℕ} → IsChoice x t a k j → (a ≡ 2 → ⊥) → (a ≡ 7 → ⊥) → mid ≡ state_after 4 x
    → mid ≡ state_behind x
four_drawn {x} {t} {a} d no_bytes no_collect four =
    let count : draws_of a ≡ 4 = rw (ne_eqb a 2 no_bytes, ne_eqb a 7 no_collect) refl in
    four ∙ (ap (λ (n : ℕ). state_after n x) (sym count) ∙ ap (λ (i : ℕ). state_after (draws_of i) x) d.kind)

pub bytes_drawn : {x t a k j mid last : ℕ} → IsChoice x t a k j → a ≡ 2 → mid ≡ state_after 4 x
    → last ≡ next_state mid → last ≡ state_behind x
bytes_drawn {x} d kind four fifth =
    fifth ∙ (ap next_state four ∙ ap (λ (i : ℕ). state_after (draws_of i) x) (sym kind ∙ d.kind))

pub collect_drawn : {x t a k j mid last : ℕ} → IsChoice x t a k j → a ≡ 7 → mid ≡ state_after 4 x
    → last ≡ next_state mid → last ≡ state_behind x
collect_drawn {x} d kind four fifth =
    fifth ∙ (ap next_state four ∙ ap (λ (i : ℕ). state_after (draws_of i) x) (sym kind ∙ d.kind))
