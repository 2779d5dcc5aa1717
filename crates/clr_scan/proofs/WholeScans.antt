-- Markings in parts, of which one starts at what older objects name.
use Rattle.std.proofs.Common.{◌≡◌, ◌⊎◌, ◌↔◌, inl, inr, ℕ, ◌≤◌, List, sym, ◌∙◌, subst}
use Rattle.std.proofs.lemmas.Bool.{true≢false}
use Rattle.clr_types.specs.Types.{TypeRow}
use Rattle.clr_handles.specs.Tables.{Table}
use Rattle.clr_heap.specs.View.{HeapView, IsHeap}
use Rattle.clr_model.specs.Reach.{Reach, starts}
use Rattle.clr_view.specs.Marks.{Marked}
use Rattle.clr_view.specs.View.{IsHeld}
use Rattle.clr_mark.specs.Marks.{IsRemarked, LeadsTo}
use Rattle.clr_mark.specs.Roots.{IsCondemnedRoot}
use Rattle.clr_mark.specs.Ties.{Draws, IsCondemnedStart, IsCondemnedTarget, IsTiedToOld}
use Rattle.clr_mark.specs.Waiting.{IsGray, IsIdle, MarkerView}
use Rattle.clr_mark.proofs.Graying.{leads_on, reach_in, same_condemned}
use Rattle.clr_mark.proofs.Laws.{settled_marked}
use Rattle.clr_mark.proofs.ReachParts.{either_iff, iff_refl, iff_trans, reach_iff, reached_more, reached_then}
use Rattle.clr_mark.proofs.Rooting.{all_condemned}
use Rattle.clr_mark.proofs.TiedMarks.{draws_same, leads_draws, leads_same, root_same, target_same, tied_same}
use Rattle.clr_scan.specs.References.{IsNamedByOlder}
use Rattle.clr_scan.proofs.CardScans.{older-back}

-- where all generations are condemned no object is older
pub no_older : (rows : List TypeRow) (h : HeapView) (g y : ℕ) → 2 ≤ g → IsNamedByOlder rows h g y → ⊥
no_older rows h g y all named = true≢false (sym (all_condemned h g named.by all) ∙ named.older)

-- so what is marked and followed is all that is reached
pub none_older : (rows : List TypeRow) (h : HeapView) (m : MarkerView) → IsGray rows h m → IsIdle m → 2 ≤ m.oldest
    → (x : ℕ) → Marked rows h x
    ↔ Reach (LeadsTo rows h m.oldest) (λ y. Marked rows h y ⊎ IsNamedByOlder rows h m.oldest y) x
none_older rows h m gray idle all x = (
  λ s. starts (inl s),
  reach_in (LeadsTo rows h m.oldest) (λ y. Marked rows h y ⊎ IsNamedByOlder rows h m.oldest y) (Marked rows h) x
      (λ y t. elim t [
        | inl was ↦ was
        | inr named ↦ absurd (no_older rows h m.oldest y all named)
      ])
      (λ y z s e. settled_marked rows h m y z gray idle s e),
)

-- what older objects name is the same under other marks
older_same : (rows : List TypeRow) (old new : HeapView) → IsHeap old → IsHeld rows old → IsRemarked rows old new
    → (g y : ℕ) → IsNamedByOlder rows new g y ↔ IsNamedByOlder rows old g y
older_same rows old new heap held r g y = (
  older-back rows old new g y heap held r,
  λ n. record {
    by = n.by;
    older = same_condemned rows old new g n.by r ∙ n.older;
    leads = leads_on rows old new heap held r g n.by y n.leads;
  },
)

-- A whole marking, over any sets and edges: by locals, by targets, by what older objects name, and by the queue with
-- what is tied to older objects. Nothing was marked before.
module _ (edge near : ℕ → ℕ → Type 0) (m0 m1 m2 m3 m4 locals targets older ready tied : ℕ → Type 0)
    (es : (y z : ℕ) → near y z → edge y z) (clear : (x : ℕ) → m0 x → ⊥)
    (first : (x : ℕ) → m1 x ↔ Reach near (λ y. m0 y ⊎ locals y) x)
    (second : (x : ℕ) → m2 x ↔ Reach near (λ y. m1 y ⊎ targets y) x)
    (third : (x : ℕ) → m3 x ↔ Reach near (λ y. m2 y ⊎ older y) x)
    (fourth : (x : ℕ) → m4 x ↔ Reach edge (λ y. m3 y ⊎ (ready y ⊎ tied y)) x) where
  abbrev parts : ℕ → Type 0
  parts y = m0 y ⊎ (((locals y ⊎ targets y) ⊎ older y) ⊎ (ready y ⊎ tied y))

  abbrev whole : ℕ → Type 0
  whole y = ((locals y ⊎ ready y) ⊎ (targets y ⊎ tied y)) ⊎ older y

  to_whole : (y : ℕ) → parts y → whole y
  to_whole y s = elim s [
    | inl was ↦ absurd (clear y was)
    | inr is ↦ elim is [
      | inl early ↦ elim early [
        | inl root ↦ elim root [
          | inl local ↦ inl (inl (inl local))
          | inr target ↦ inl (inr (inl target))
        ]
        | inr named ↦ inr named
      ]
      | inr late ↦ elim late [ inl queued ↦ inl (inl (inr queued)) | inr old ↦ inl (inr (inr old)) ]
    ]
  ]

  to_parts : (y : ℕ) → whole y → parts y
  to_parts y s = elim s [
    | inl start ↦ elim start [
      | inl root ↦ elim root [ inl local ↦ inr (inl (inl (inl local))) | inr queued ↦ inr (inr (inl queued)) ]
      | inr other ↦ elim other [ inl target ↦ inr (inl (inl (inr target))) | inr old ↦ inr (inr (inr old)) ]
    ]
    | inr named ↦ inr (inl (inr named))
  ]

  pub reached_with_older : (x : ℕ) → m4 x
      ↔ Reach edge (λ y. ((locals y ⊎ ready y) ⊎ (targets y ⊎ tied y)) ⊎ older y) x
  reached_with_older =
      let roots : ℕ → Type 0 = λ y. locals y ⊎ targets y in
      let to_targets = reached_more near near m0 m1 m2 locals targets (λ y z e. e) first second in
      let to_older = reached_more near near m0 m2 m3 roots older (λ y z e. e) to_targets third in
      iff_trans m4 (Reach edge parts) (Reach edge whole)
      (reached_more edge near m0 m3 m4 (λ y. roots y ⊎ older y) (λ y. ready y ⊎ tied y) es to_older fourth)
      (reach_iff edge edge whole parts (λ y z. iff_refl (edge y z)) (λ y. (to_whole y, to_parts y)))

-- `h` is the heap at the start, where nothing is marked, `a` that after the locals, `b` that after the targets of
-- handles, `c` that after what older objects name, and `new` that at the end
module _ (rows : List TypeRow) (h a b c new : HeapView) (handles : Table) (heap : IsHeap h) (held : IsHeld rows h)
    (to_a : IsRemarked rows h a) (to_b : IsRemarked rows h b) (to_c : IsRemarked rows h c)
    (clear : (x : ℕ) → Marked rows h x → ⊥) (g : ℕ) (locals ready : List ℕ) where
  by_targets : (j : ℕ) → j ≡ g
      → ((x : ℕ) → Marked rows b x
      ↔ Reach (LeadsTo rows a j) (λ y. Marked rows a y ⊎ IsCondemnedTarget handles a j y) x)
      → (x : ℕ) → Marked rows b x
      ↔ Reach (LeadsTo rows h g) (λ y. Marked rows a y ⊎ IsCondemnedTarget handles h g y) x
  by_targets j same second =
      let P : ℕ → Type 0 = λ j. (x : ℕ) → Marked rows b x
      ↔ Reach (LeadsTo rows a j) (λ y. Marked rows a y ⊎ IsCondemnedTarget handles a j y) x in
      reached_then (LeadsTo rows h g) (LeadsTo rows a g) (Marked rows b) (Marked rows a)
      (IsCondemnedTarget handles a g) (IsCondemnedTarget handles h g) (leads_same rows h a heap held to_a g)
      (target_same rows h a heap held to_a handles g) (subst P same second)

  by_older : (j : ℕ) → j ≡ g
      → ((x : ℕ) → Marked rows c x ↔ Reach (LeadsTo rows b j) (λ y. Marked rows b y ⊎ IsNamedByOlder rows b j y) x)
      → (x : ℕ) → Marked rows c x ↔ Reach (LeadsTo rows h g) (λ y. Marked rows b y ⊎ IsNamedByOlder rows h g y) x
  by_older j same third =
      let P : ℕ → Type 0 = λ j. (x : ℕ) → Marked rows c x
      ↔ Reach (LeadsTo rows b j) (λ y. Marked rows b y ⊎ IsNamedByOlder rows b j y) x in
      reached_then (LeadsTo rows h g) (LeadsTo rows b g) (Marked rows c) (Marked rows b) (IsNamedByOlder rows b g)
      (IsNamedByOlder rows h g) (leads_same rows h b heap held to_b g) (older_same rows h b heap held to_b g)
      (subst P same third)

  by_ready : (k : ℕ) → k ≡ g
      → ((x : ℕ) → Marked rows new x ↔ Reach (Draws rows c handles k)
      (λ y. Marked rows c y ⊎ (IsCondemnedRoot ready c k y ⊎ IsTiedToOld rows c handles k y)) x)
      → (x : ℕ) → Marked rows new x ↔ Reach (Draws rows h handles g)
      (λ y. Marked rows c y ⊎ (IsCondemnedRoot ready h g y ⊎ IsTiedToOld rows h handles g y)) x
  by_ready k same fourth =
      let more : HeapView → ℕ → ℕ → Type 0 = λ w i y. IsCondemnedRoot ready w i y ⊎ IsTiedToOld rows w handles i y in
      let P : ℕ → Type 0 = λ k. (x : ℕ) → Marked rows new x
      ↔ Reach (Draws rows c handles k) (λ y. Marked rows c y ⊎ more c k y) x in
      reached_then (Draws rows h handles g) (Draws rows c handles g) (Marked rows new) (Marked rows c) (more c g)
      (more h g) (draws_same rows h c heap held to_c handles g)
      (either_iff (IsCondemnedRoot ready c g) (IsCondemnedRoot ready h g) (IsTiedToOld rows c handles g)
      (IsTiedToOld rows h handles g) (root_same rows h c heap held to_c ready g)
      (tied_same rows h c heap held to_c handles g)) (subst P same fourth)

  -- THE MARKS OF A COLLECTION OF ANY GENERATION
  pub marked_with_older : (i j k l : ℕ) → i ≡ g → j ≡ g → k ≡ g → l ≡ g
      → ((x : ℕ) → Marked rows a x
      ↔ Reach (LeadsTo rows h i) (λ y. Marked rows h y ⊎ IsCondemnedRoot locals h i y) x)
      → ((x : ℕ) → Marked rows b x
      ↔ Reach (LeadsTo rows a j) (λ y. Marked rows a y ⊎ IsCondemnedTarget handles a j y) x)
      → ((x : ℕ) → Marked rows c x ↔ Reach (LeadsTo rows b k) (λ y. Marked rows b y ⊎ IsNamedByOlder rows b k y) x)
      → ((x : ℕ) → Marked rows new x ↔ Reach (Draws rows c handles l)
      (λ y. Marked rows c y ⊎ (IsCondemnedRoot ready c l y ⊎ IsTiedToOld rows c handles l y)) x)
      → (x : ℕ) → Marked rows new x ↔ Reach (Draws rows h handles g)
      (λ y. IsCondemnedStart rows h handles g locals ready y ⊎ IsNamedByOlder rows h g y) x
  marked_with_older i j k l e f d same first second third fourth =
      let P : ℕ → Type 0 = λ i. (x : ℕ) → Marked rows a x
      ↔ Reach (LeadsTo rows h i) (λ y. Marked rows h y ⊎ IsCondemnedRoot locals h i y) x in
      reached_with_older (Draws rows h handles g) (LeadsTo rows h g) (Marked rows h) (Marked rows a) (Marked rows b)
      (Marked rows c) (Marked rows new) (IsCondemnedRoot locals h g) (IsCondemnedTarget handles h g)
      (IsNamedByOlder rows h g) (IsCondemnedRoot ready h g) (IsTiedToOld rows h handles g)
      (leads_draws rows h handles g) clear (subst P e first) (by_targets j f second) (by_older k d third)
      (by_ready l same fourth)
