-- Markings after one another, over any sets and edges.
use Rattle.std.proofs.Common.{◌⊎◌, ◌↔◌, inl, inr, ℕ}
use Rattle.clr_model.specs.Reach.{Reach}
use Rattle.clr_mark.proofs.Graying.{reach_again, reach_on}

-- edges and nodes of a start that come to the same
pub reach_iff : (edge near : ℕ → ℕ → Type 0) (start first : ℕ → Type 0) → ((y z : ℕ) → near y z ↔ edge y z)
    → ((y : ℕ) → first y ↔ start y) → (x : ℕ) → Reach near first x ↔ Reach edge start x
reach_iff edge near start first es ss x = (
  reach_on edge near start first x (λ y z. (es y z).0) (λ y. (ss y).0),
  reach_on near edge first start x (λ y z. (es y z).1) (λ y. (ss y).1),
)

pub either_iff : (A B C D : ℕ → Type 0) → ((x : ℕ) → A x ↔ B x) → ((x : ℕ) → C x ↔ D x)
    → (x : ℕ) → (A x ⊎ C x) ↔ (B x ⊎ D x)
either_iff A B C D p q x = (
  λ s. elim s [ inl a ↦ inl ((p x).0 a) | inr c ↦ inr ((q x).0 c) ],
  λ s. elim s [ inl b ↦ inl ((p x).1 b) | inr d ↦ inr ((q x).1 d) ],
)

pub iff_trans : (A B C : ℕ → Type 0) → ((x : ℕ) → A x ↔ B x) → ((x : ℕ) → B x ↔ C x) → (x : ℕ) → A x ↔ C x
iff_trans A B C p q x = (λ a. (q x).0 ((p x).0 a), λ c. (p x).1 ((q x).1 c))

pub iff_refl : (A : Type 0) → A ↔ A
iff_refl A = (λ a. a, λ a. a)

-- what was added to a start comes to the same in other words
pub reached_then : (edge near : ℕ → ℕ → Type 0) (marked was here there : ℕ → Type 0)
    → ((y z : ℕ) → near y z ↔ edge y z) → ((y : ℕ) → here y ↔ there y)
    → ((x : ℕ) → marked x ↔ Reach near (λ y. was y ⊎ here y) x)
    → (x : ℕ) → marked x ↔ Reach edge (λ y. was y ⊎ there y) x
reached_then edge near marked was here there es ss exact =
    iff_trans marked (Reach near (λ y. was y ⊎ here y)) (Reach edge (λ y. was y ⊎ there y)) exact
    (reach_iff edge near (λ y. was y ⊎ there y) (λ y. was y ⊎ here y) es
    (either_iff was was here there (λ y. iff_refl (was y)) ss))

-- Roots and what handles tie to older objects, one after the other: `m0` was marked, then `m1` by the roots, then
-- `m2`.
module _ (edge near : ℕ → ℕ → Type 0) (m0 m1 m2 roots tied : ℕ → Type 0) (es : (y z : ℕ) → near y z → edge y z)
    (first : (x : ℕ) → m1 x ↔ Reach near (λ y. m0 y ⊎ roots y) x)
    (second : (x : ℕ) → m2 x ↔ Reach edge (λ y. m1 y ⊎ tied y) x) where
  pub reached_more : (x : ℕ) → m2 x ↔ Reach edge (λ y. m0 y ⊎ (roots y ⊎ tied y)) x
  reached_more =
      let split : ℕ → Type 0 = λ y. (m0 y ⊎ roots y) ⊎ tied y in
      let joined : ℕ → Type 0 = λ y. m0 y ⊎ (roots y ⊎ tied y) in
      iff_trans m2 (Reach edge (λ y. m1 y ⊎ tied y)) (Reach edge joined) second
      (iff_trans (Reach edge (λ y. m1 y ⊎ tied y)) (Reach edge split) (Reach edge joined)
      (reach_again edge near (λ y. m0 y ⊎ roots y) m1 tied es first)
      (reach_iff edge edge joined split (λ y z. iff_refl (edge y z)) (λ y. (
        λ s. elim s [
          | inl before ↦ elim before [ inl was ↦ inl was | inr root ↦ inr (inl root) ]
          | inr is ↦ inr (inr is)
        ],
        λ s. elim s [
          | inl was ↦ inl (inl was)
          | inr more ↦ elim more [ inl root ↦ inl (inr root) | inr is ↦ inr is ]
        ],
      ))))

-- A whole marking: by locals, by targets, and by the queue with what is tied to older objects. Nothing was marked
-- before.
module _ (edge near : ℕ → ℕ → Type 0) (m0 m1 m2 m3 locals targets ready tied : ℕ → Type 0)
    (es : (y z : ℕ) → near y z → edge y z) (clear : (x : ℕ) → m0 x → ⊥)
    (first : (x : ℕ) → m1 x ↔ Reach near (λ y. m0 y ⊎ locals y) x)
    (second : (x : ℕ) → m2 x ↔ Reach near (λ y. m1 y ⊎ targets y) x)
    (third : (x : ℕ) → m3 x ↔ Reach edge (λ y. m2 y ⊎ (ready y ⊎ tied y)) x) where
  pub reached_whole : (x : ℕ) → m3 x ↔ Reach edge (λ y. (locals y ⊎ ready y) ⊎ (targets y ⊎ tied y)) x
  reached_whole =
      let parts : ℕ → Type 0 = λ y. m0 y ⊎ ((locals y ⊎ targets y) ⊎ (ready y ⊎ tied y)) in
      let whole : ℕ → Type 0 = λ y. (locals y ⊎ ready y) ⊎ (targets y ⊎ tied y) in
      let to_targets = reached_more near near m0 m1 m2 locals targets (λ y z e. e) first second in
      let all = reached_more edge near m0 m2 m3 (λ y. locals y ⊎ targets y) (λ y. ready y ⊎ tied y) es to_targets third
      in
      iff_trans m3 (Reach edge parts) (Reach edge whole) all
      (reach_iff edge edge whole parts (λ y z. iff_refl (edge y z)) (λ y. (
        λ s. elim s [
          | inl was ↦ absurd (clear y was)
          | inr is ↦ elim is [
            | inl early ↦ elim early [ inl local ↦ inl (inl local) | inr target ↦ inr (inl target) ]
            | inr late ↦ elim late [ inl queued ↦ inl (inr queued) | inr old ↦ inr (inr old) ]
          ]
        ],
        λ s. elim s [
          | inl root ↦ elim root [ inl local ↦ inr (inl (inl local)) | inr queued ↦ inr (inr (inl queued)) ]
          | inr other ↦ elim other [ inl target ↦ inr (inl (inr target)) | inr old ↦ inr (inr (inr old)) ]
        ],
      )))
