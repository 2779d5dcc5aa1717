-- What all of a move leaves: objects, layout, marks.
use Rattle.std.proofs.Common.{◌≡◌, ℕ, ◌≤◌, ◌==◌, Bool, true, false, MatchBool, refl, ap, ◌∙◌}
use Rattle.std.proofs.Common.{subst, arith}
use Rattle.std.proofs.Common.{if◌then◌else◌}
use Rattle.std.proofs.lemmas.Bool.{eqb-false, eqb-true}
use Rattle.clr_types.specs.Rising.{sorted_by}
use Rattle.clr_types.specs.Segments.{Layout}
use Rattle.clr_types.specs.declared.segment.SegKind.TheVariants.{Large}
use Rattle.clr_heap.specs.View.{HeapView}
use Rattle.clr_model.specs.Machine.{Machine}
use Rattle.clr_model.specs.Sweep.{survivors, swept_others}
use Rattle.clr_view.specs.Marks.{Marked}
use Rattle.clr_view.specs.View.{layout_in, objects_in}
use Rattle.clr_sweep.specs.SweptLarge.{HasSweptLarge}
use Rattle.clr_survivors.specs.Phases.{HasSettled}
use Rattle.clr_survivors.specs.Survivors.{left_objects}
use Rattle.clr_survivors.proofs.Course.{IsCourse, layout-moved, Stages}
use Rattle.clr_survivors.proofs.FullObjects.{objects-full, unmarked-full}
use Rattle.clr_survivors.proofs.LargeTold.{tells-large}
use Rattle.clr_survivors.proofs.MovedList.{objects-young, unmarked-young}

module _ (s : Stages) (m : Machine) (kept : ℕ → Bool) (c : IsCourse s m kept) (new : HeapView)
    (e : HasSettled s.rows s.moved.heap new s.roots_after.handles s.low s.g) where
  -- a young collection sweeps nothing, a full one large segments
  pub by-kind : (P : Type 0) → (s.g ≤ 1 → new ≡ e.bare → P)
      → (s.g ≡ 2 → HasSweptLarge s.rows e.bare new → P) → P
  by-kind P young full = go (s.g == 2) refl e.swept
    where
      go : (b : Bool) → (s.g == 2) ≡ b → MatchBool b (HasSweptLarge s.rows e.bare new) (new ≡ e.bare) → P
      go true is swept = full (eqb-true s.g 2 is) swept
      go false is same =
          let apart = eqb-false s.g 2 is in
          let least = c.run.given.generation in
          young (omega (arith, apart, least)) same

  pub objects-ended : objects_in s.rows new
      ≡ sorted_by (λ o. o.name) (left_objects s.rows s.old.heap s.g c.begun.plan.moves)
  objects-ended = by-kind
      (objects_in s.rows new ≡ sorted_by (λ o. o.name) (left_objects s.rows s.old.heap s.g c.begun.plan.moves))
      (λ young same. ap (objects_in s.rows) same ∙ e.pins.objects ∙ objects-young s m kept c young)
      (λ full swept. objects-full s m kept c full e.bare e.pins new swept)

  pub unmarked-ended : (x : ℕ) → Marked s.rows new x → ⊥
  unmarked-ended x marked = by-kind ⊥
      (λ young same. unmarked-young s m kept c young x
      ((e.pins.marks x).0 (subst (λ (h : HeapView). Marked s.rows h x) same marked)))
      (λ full swept. unmarked-full s m kept c full e.bare e.pins new swept x marked)

  pub layout-ended : layout_in s.rows new
      ≡ (if s.g == 2 then swept_others c.begun.plan.after 2 (survivors m s.g kept) else c.begun.plan.after)
  layout-ended = go (s.g == 2) refl e.swept
    where
      go : (b : Bool) → (s.g == 2) ≡ b → MatchBool b (HasSweptLarge s.rows e.bare new) (new ≡ e.bare)
          → layout_in s.rows new
          ≡ (if b then swept_others c.begun.plan.after 2 (survivors m s.g kept) else c.begun.plan.after)
      go true is swept =
          swept.layout (survivors m s.g kept) (tells-large s m kept c (eqb-true s.g 2 is) e.bare e.pins)
          ∙ ap (λ (l : Layout). swept_others l 2 (survivors m s.g kept))
          (e.pins.layout ∙ layout-moved s m kept c)
      go false is same = ap (layout_in s.rows) same ∙ e.pins.layout ∙ layout-moved s m kept c
