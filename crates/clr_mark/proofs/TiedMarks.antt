-- What handles add to a marking is the same under other marks, and where all is condemned it is all that they tie.
use Rattle.std.proofs.Common.{◌⊎◌, ◌↔◌, inl, inr, ℕ, ◌≤◌, List, sym, ◌∙◌, subst}
use Rattle.std.specs.FinMap.{FinMap}
use Rattle.std.specs.Ordering.{nat_cmp}
use Rattle.std.proofs.lemmas.Bool.{true≢false}
use Rattle.clr_types.specs.Types.{TypeRow}
use Rattle.clr_types.specs.declared.handle.Handle.{Handle}
use Rattle.clr_heap.specs.View.{HeapView, IsHeap}
use Rattle.clr_heap.proofs.Rewrite.{shaped_heap}
use Rattle.clr_model.specs.Machine.{Object}
use Rattle.clr_model.specs.Reach.{Reach, SlotNames}
use Rattle.clr_view.specs.View.{IsHeld}
use Rattle.clr_view.specs.World.{HandlesStand, IsNullOrStands}
use Rattle.clr_mark.specs.Marks.{IsRemarked, LeadsTo}
use Rattle.clr_mark.specs.Roots.{AreObjects, IsCondemnedRoot, IsRoot}
use Rattle.clr_mark.specs.Ties.{Draws, IsCondemnedStart, IsCondemnedTarget, IsStart, IsTarget, IsTiedToOld, Joins}
use Rattle.clr_mark.proofs.Graying.{leads_back, leads_on, same_condemned}
use Rattle.clr_mark.proofs.Held.{keeps_held, remarked_back}
use Rattle.clr_mark.proofs.ReachParts.{reach_iff}
use Rattle.clr_mark.proofs.Remarking.{keeps_objects, keeps_stands}
use Rattle.clr_mark.proofs.Rooting.{all_condemned}

-- ---- one step

module _ (rows : List TypeRow) (old new : HeapView) (heap : IsHeap old) (held : IsHeld rows old)
    (r : IsRemarked rows old new) where
  null_on : (x : ℕ) → IsNullOrStands rows old x → IsNullOrStands rows new x
  null_on x s = elim s [ inl null ↦ inl null | inr stands ↦ inr (keeps_stands rows old new heap held r x stands) ]

  -- what handles name still stands
  pub handles_on : (handles : FinMap nat_cmp Handle) → HandlesStand rows old handles → HandlesStand rows new handles
  handles_on handles stand k row e =
      let s = stand k row e in
      record { target = null_on row.target s.target; second = null_on row.second s.second; owned = s.owned }

  -- so do roots
  pub roots_on : (roots : List ℕ) → AreObjects rows old roots → AreObjects rows new roots
  roots_on roots objects x root = keeps_stands rows old new heap held r x (objects x root)

  module _ (handles : FinMap nat_cmp Handle) (g : ℕ) where
    draws_on : (x y : ℕ) → Draws rows old handles g x y → Draws rows new handles g x y
    draws_on x y e = record {
      joined = elim e.joined [
        | inl named ↦ inl (subst (λ (os : List Object). SlotNames os x y) (sym (keeps_objects rows old new heap held r))
            named)
        | inr tied ↦ inr tied
      ];
      condemned = same_condemned rows old new g y r ∙ e.condemned;
    }

    tied_on : (y : ℕ) → IsTiedToOld rows old handles g y → IsTiedToOld rows new handles g y
    tied_on y t = record {
      by = t.by;
      stands = keeps_stands rows old new heap held r t.by t.stands;
      old = same_condemned rows old new g t.by r ∙ t.old;
      tied = t.tied;
      condemned = same_condemned rows old new g y r ∙ t.condemned;
    }

    target_on : (y : ℕ) → IsCondemnedTarget handles old g y → IsCondemnedTarget handles new g y
    target_on y t = record { target = t.target; condemned = same_condemned rows old new g y r ∙ t.condemned }

  root_on : (roots : List ℕ) (g y : ℕ) → IsCondemnedRoot roots old g y → IsCondemnedRoot roots new g y
  root_on roots g y t = record { root = t.root; condemned = same_condemned rows old new g y r ∙ t.condemned }

-- ---- and back

module _ (rows : List TypeRow) (old new : HeapView) (heap : IsHeap old) (held : IsHeld rows old)
    (r : IsRemarked rows old new) where
  back_heap : IsHeap new
  back_heap = shaped_heap old new r.shape heap

  back_held : IsHeld rows new
  back_held = keeps_held rows old new heap held r

  back : IsRemarked rows new old
  back = remarked_back rows old new heap held r

  pub leads_same : (g x y : ℕ) → LeadsTo rows new g x y ↔ LeadsTo rows old g x y
  leads_same g x y = (leads_back rows old new heap held r g x y, leads_on rows old new heap held r g x y)

  pub root_same : (roots : List ℕ) (g y : ℕ) → IsCondemnedRoot roots new g y ↔ IsCondemnedRoot roots old g y
  root_same roots g y =
      (root_on rows new old back_heap back_held back roots g y, root_on rows old new heap held r roots g y)

  module _ (handles : FinMap nat_cmp Handle) (g : ℕ) where
    pub draws_same : (x y : ℕ) → Draws rows new handles g x y ↔ Draws rows old handles g x y
    draws_same x y =
        (draws_on rows new old back_heap back_held back handles g x y, draws_on rows old new heap held r handles g x y)

    pub tied_same : (y : ℕ) → IsTiedToOld rows new handles g y ↔ IsTiedToOld rows old handles g y
    tied_same y =
        (tied_on rows new old back_heap back_held back handles g y, tied_on rows old new heap held r handles g y)

    pub target_same : (y : ℕ) → IsCondemnedTarget handles new g y ↔ IsCondemnedTarget handles old g y
    target_same y =
        (target_on rows new old back_heap back_held back handles g y, target_on rows old new heap held r handles g y)

-- what a slot leads to is drawn
pub leads_draws : (rows : List TypeRow) (h : HeapView) (handles : FinMap nat_cmp Handle) (g x y : ℕ)
    → LeadsTo rows h g x y → Draws rows h handles g x y
leads_draws rows h handles g x y e = record { joined = inl e.named; condemned = e.condemned }

-- ---- where all is condemned

module _ (rows : List TypeRow) (h : HeapView) (handles : FinMap nat_cmp Handle) (g : ℕ) (all : 2 ≤ g) where
  pub draws_all : (x y : ℕ) → Draws rows h handles g x y ↔ Joins rows h handles x y
  draws_all x y = (λ e. e.joined, λ e. record { joined = e; condemned = all_condemned h g y all })

  pub none_old : (y : ℕ) → IsTiedToOld rows h handles g y → ⊥
  none_old y t = true≢false (sym (all_condemned h g t.by all) ∙ t.old)

  pub root_all : (roots : List ℕ) (y : ℕ) → IsCondemnedRoot roots h g y ↔ IsRoot roots y
  root_all roots y = (λ s. s.root, λ s. record { root = s; condemned = all_condemned h g y all })

  pub target_all : (y : ℕ) → IsCondemnedTarget handles h g y ↔ IsTarget handles y
  target_all y = (λ s. s.target, λ s. record { target = s; condemned = all_condemned h g y all })

  -- what a full collection reaches
  pub reach_all : (locals ready : List ℕ) (x : ℕ)
      → Reach (Draws rows h handles g) (IsCondemnedStart rows h handles g locals ready) x
      ↔ Reach (Joins rows h handles) (IsStart handles locals ready) x
  reach_all locals ready =
      reach_iff (Joins rows h handles) (Draws rows h handles g) (IsStart handles locals ready)
      (IsCondemnedStart rows h handles g locals ready) draws_all (λ y. (
        λ s. elim s [
          | inl root ↦ elim root [
            | inl local ↦ inl (inl local.root)
            | inr queued ↦ inl (inr queued.root)
          ]
          | inr other ↦ elim other [ inl target ↦ inr target.target | inr old ↦ absurd (none_old y old) ]
        ],
        λ s. elim s [
          | inl root ↦ elim root [
            | inl local ↦ inl (inl ((root_all locals y).1 local))
            | inr queued ↦ inl (inr ((root_all ready y).1 queued))
          ]
          | inr target ↦ inr (inl ((target_all y).1 target))
        ],
      ))

  -- and what it reaches from what is marked and from more roots
  pub more_all : (marked : ℕ → Type 0) (roots : List ℕ) (x : ℕ)
      → Reach (Draws rows h handles g)
      (λ y. marked y ⊎ (IsCondemnedRoot roots h g y ⊎ IsTiedToOld rows h handles g y)) x
      ↔ Reach (Joins rows h handles) (λ y. marked y ⊎ IsRoot roots y) x
  more_all marked roots =
      reach_iff (Joins rows h handles) (Draws rows h handles g) (λ y. marked y ⊎ IsRoot roots y)
      (λ y. marked y ⊎ (IsCondemnedRoot roots h g y ⊎ IsTiedToOld rows h handles g y)) draws_all (λ y. (
        λ s. elim s [
          | inl was ↦ inl was
          | inr is ↦ elim is [ inl root ↦ inr root.root | inr old ↦ absurd (none_old y old) ]
        ],
        λ s. elim s [ inl was ↦ inl was | inr root ↦ inr (inl ((root_all roots y).1 root)) ],
      ))
