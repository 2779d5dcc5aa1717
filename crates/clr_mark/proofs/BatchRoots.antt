-- Many roots marked at once.
use Rattle.std.proofs.Common.{◌≡◌, ◌⊎◌, ◌↔◌, inl, inr, ℕ, ◌+◌, ◌<◌, ◌≤◌, true, List, length, get_or, refl, ap, sym, ◌∙◌}
use Rattle.std.proofs.Common.{subst, arith}
use Rattle.std.proofs.lemmas.Bool.{cases_eq}
use Rattle.clr_types.specs.Rising.{IsIn}
use Rattle.clr_types.specs.Types.{TypeRow}
use Rattle.clr_heap.specs.Memories.{HasWord}
use Rattle.clr_heap.specs.View.{HeapView, word_of}
use Rattle.clr_view.specs.Marks.{has_mark, Marked}
use Rattle.clr_view.specs.SlotValues.{StandsAt}
use Rattle.clr_mark.specs.Marks.{is_condemned_place, IsRemarked, with_mark}
use Rattle.clr_mark.specs.Waiting.{IsGray, MarkerView, with_waiting}
use Rattle.clr_mark.proofs.Graying.{object_word, same_condemned}
use Rattle.clr_mark.proofs.Held.{remarked-refl, remarked-trans}
use Rattle.clr_mark.proofs.Laws.{after_root, waiting_keeps}
use Rattle.clr_mark.proofs.Remarking.{keeps_stands}
use Rattle.clr_mark.proofs.Rooting.{at_in, in_at}

-- the first i of the targets are marked, where they are condemned
pub record IsRootingAll (rows : List TypeRow) (h now : HeapView) (m n : MarkerView) (targets : List ℕ)
    (i : ℕ) : Type 0 where
  pub gray : IsGray rows now n
  pub words : IsRemarked rows h now
  pub kept : (x : ℕ) → Marked rows h x → Marked rows now x
  pub only : (x : ℕ) → Marked rows now x
      → (IsIn x targets × (is_condemned_place h m.oldest x ≡ true)) ⊎ Marked rows h x
  pub done : (j : ℕ) → j < i → is_condemned_place h m.oldest (get_or targets j 0) ≡ true
      → Marked rows now (get_or targets j 0)
  pub capacity : n.capacity ≡ m.capacity
  pub oldest : n.oldest ≡ m.oldest

pub rooting_all_starts : (rows : List TypeRow) (h : HeapView) (m : MarkerView) (targets : List ℕ) → IsGray rows h m
    → IsRootingAll rows h h m m targets 0
rooting_all_starts rows h m targets gray = record {
  gray = gray;
  words = remarked-refl rows h;
  kept = λ x k. k;
  only = λ x k. inr k;
  done = λ j l. absurd (omega arith);
  capacity = refl;
  oldest = refl;
}

module _ (rows : List TypeRow) (h : HeapView) (m : MarkerView) (targets : List ℕ) (gray : IsGray rows h m)
    (stands : (y : ℕ) → IsIn y targets → StandsAt rows h y) where
  -- each target can be read
  pub root_word : (y : ℕ) → IsIn y targets → HasWord h.memories y
  root_word y i = object_word rows h m.oldest y gray.closed.heap gray.closed.held (stands y i)

  -- all targets were marked
  pub roots_marked_before : ((y : ℕ) → IsIn y targets → has_mark (word_of h y) ≡ true) → (x : ℕ)
      → Marked rows h x ↔ ((IsIn x targets × (is_condemned_place h m.oldest x ≡ true)) ⊎ Marked rows h x)
  roots_marked_before on x = (
    λ k. inr k,
    λ t. elim t [ inl is ↦ record { stands = stands x is.0; mark = on x is.0 } | inr was ↦ was ],
  )

  module _ (now : HeapView) (n : MarkerView) (i : ℕ) (s : IsRootingAll rows h now m n targets i) where
    -- all targets are marked
    pub roots_marked : length targets ≤ i → (x : ℕ)
        → Marked rows now x ↔ ((IsIn x targets × (is_condemned_place h m.oldest x ≡ true)) ⊎ Marked rows h x)
    roots_marked past x = (
      s.only x,
      λ t. elim t [
        | inl is ↦
            let f = in_at targets x 0 is.0 in
            let below = f.1 in
            let P : ℕ → Type 0 = λ z. is_condemned_place h m.oldest z ≡ true → Marked rows now z in
            subst P f.2 (s.done f.0 (omega arith)) is.1
        | inr was ↦ s.kept x was
      ],
    )

    module _ (inside : i < length targets) where
      abbrev y : ℕ
      y = get_or targets i 0

      stands_now : StandsAt rows now y
      stands_now = keeps_stands rows h now gray.closed.heap gray.closed.held s.words y
          (stands y (at_in targets i 0 inside))

      pub next_root_word : HasWord now.memories y
      next_root_word = object_word rows now n.oldest y s.gray.closed.heap s.gray.closed.held stands_now

      near : (x : ℕ) → is_condemned_place now n.oldest x ≡ is_condemned_place h m.oldest x
      near x = ap (λ (b : ℕ). is_condemned_place now b x) s.oldest ∙ same_condemned rows h now m.oldest x s.words

      -- one target more
      pub rooting_all_next : (new : HeapView) (after : MarkerView) → new ≡ with_mark now n.oldest y
          → after ≡ with_waiting now n y → IsRootingAll rows h new m after targets (i + 1)
      rooting_all_next new after e f =
          let a = after_root rows now new n after y e f s.gray stands_now in
          let keeps = waiting_keeps now n y in
          let P : ℕ → Type 0 = λ b. IsIn b targets × (is_condemned_place h m.oldest b ≡ true) in
          let Q : ℕ → Type 0 =
          λ j. is_condemned_place h m.oldest (get_or targets j 0) ≡ true → Marked rows new (get_or targets j 0) in
          record {
            gray = a.gray;
            words = remarked-trans rows h now new gray.closed.heap gray.closed.held s.words a.words;
            kept = λ x k. (a.marked x).1 (inr (s.kept x k));
            only = λ x k. elim ((a.marked x).0 k) [
              | inl is ↦ inl (subst P (sym is.0) (at_in targets i 0 inside, sym (near y) ∙ is.1))
              | inr was ↦ s.only x was
            ];
            done = λ j l. elim (cases_eq j i) [
              | inl same ↦ subst Q (sym same) (λ c. (a.marked y).1 (inl (refl, near y ∙ c)))
              | inr apart ↦ λ c. (a.marked (get_or targets j 0)).1 (inr (s.done j (omega arith) c))
            ];
            capacity = ap (λ (k : MarkerView). k.capacity) f ∙ keeps.1 ∙ s.capacity;
            oldest = ap (λ (k : MarkerView). k.oldest) f ∙ keeps.0 ∙ s.oldest;
          }
