-- A slide by its plan, once references are relocated.
use Rattle.std.proofs.Common.{◌≡◌, ℕ, List, refl, ap, sym, ◌∙◌, subst}
use Rattle.std.specs.Prelude.{ℤ}
use Rattle.clr_types.specs.Types.{TypeRow}
use Rattle.clr_generations.specs.Tables.{AreBricksOf}
use Rattle.clr_generations.specs.declared.space.Space.{Space}
use Rattle.clr_heap.specs.View.{frame, HeapView}
use Rattle.clr_model.specs.Compaction.{Move}
use Rattle.clr_compact.specs.Large.{CanSlideLarge}
use Rattle.clr_moves.specs.Objects.{IsUntouched}
use Rattle.clr_moves.specs.Overlaid.{HoldsPlan}
use Rattle.clr_moves.specs.declared.condemned.Condemned.TheVariants.{LargeSegments}
use Rattle.clr_moves.specs.declared.planned.Planned.{Planned}
use Rattle.clr_pinq.specs.declared.entry.PinEntry.{PinEntry}
use Rattle.clr_reloc.specs.Relocated.{HasRelocated}
use Rattle.clr_survivors.specs.Large.{CanSlide}
use Rattle.clr_survivors.specs.Phases.{plan_of}
use Rattle.clr_survivors.specs.Roots.{NamesGo}
use Rattle.clr_survivors.specs.declared.roots.Roots.{Roots}
use Rattle.clr_survivors.proofs.NamesGone.{names-on}
use Rattle.clr_survivors.proofs.RelocatedPlan.{frame-between, law-on, may-go-on}

module _ (rows : List TypeRow) (view : HeapView) (s : Space) (entries : List PinEntry) (vs : List Move)
    (entry : ℕ → ℤ) (planned : Planned) (roots : Roots)
    (can : CanSlide (plan_of rows view entries vs planned) s entry planned roots) (mid gone : HeapView)
    (now : List PinEntry) (r : HasRelocated rows view mid LargeSegments vs)
    (holds : HoldsPlan rows mid gone s.bricks now LargeSegments vs planned.start1 planned.start0) where
  abbrev shape : gone ≡ record view { memories = gone.memories }
  shape = holds.overlaid.shape.others ∙ ap (λ (g : HeapView). record g { memories = gone.memories }) r.others

  -- generations begin where they did
  pub start1-gone : gone.start1 ≡ planned.start1
  start1-gone =
      ap (λ (g : HeapView). g.start1) shape
      ∙ sym (can.start1 ∙ ap (λ (g : HeapView). g.start1) can.relocates.plan.overlaid.shape.others)

  pub start0-gone : gone.start0 ≡ planned.start0
  start0-gone =
      ap (λ (g : HeapView). g.start0) shape
      ∙ sym (can.start0 ∙ ap (λ (g : HeapView). g.start0) can.relocates.plan.overlaid.shape.others)

  pub holds-gone : HoldsPlan rows mid gone s.bricks now LargeSegments vs gone.start1 gone.start0
  holds-gone =
      subst (λ (n : ℕ). HoldsPlan rows mid gone s.bricks now LargeSegments vs n gone.start0) (sym start1-gone)
      (subst (λ (n : ℕ). HoldsPlan rows mid gone s.bricks now LargeSegments vs planned.start1 n) (sym start0-gone)
      holds)

  pub names-gone : NamesGo (plan_of rows mid now vs planned) LargeSegments roots
  names-gone =
      names-on (plan_of rows view entries vs planned) (plan_of rows mid now vs planned) LargeSegments refl
      (may-go-on rows view mid LargeSegments vs r) roots can.names

  pub can-slide-large : CanSlideLarge rows gone s.bricks now
  can-slide-large = record {
    view = mid;
    moves = vs;
    entry = entry;
    plan = holds-gone;
    law = law-on rows view mid LargeSegments vs r entry can.law;
    others = λ i untouched.
        can.others i (subst (λ (g : HeapView). IsUntouched g LargeSegments i) r.others untouched);
    bricks_of = subst (λ l. AreBricksOf l s.bricks)
        (sym (ap frame holds.overlaid.shape.others ∙ frame-between rows view mid LargeSegments vs r))
        can.relocates.bricks_of;
  }
