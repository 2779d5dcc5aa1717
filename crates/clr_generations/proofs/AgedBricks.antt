-- The bricks of a segment, all of which is of generation 1 or 2 now, renewed for all objects.
use Rattle.std.proofs.Common.{◌≡◌, ℕ, ◌<◌, Bool, true, List, [], ◌∷◌, filter, refl, subst, ℤ}
use Rattle.clr_types.specs.Segments.{generation, Layout, stands_in}
use Rattle.clr_types.specs.Types.{TypeRow}
use Rattle.clr_bricks.specs.Bricks.{entry_at}
use Rattle.clr_covers.specs.Covers.{CoverView}
use Rattle.clr_heap.specs.View.{frame, HeapView, segment_at}
use Rattle.clr_model.specs.Machine.{Object}
use Rattle.clr_view.specs.View.{objects_in}
use Rattle.clr_generations.specs.Laws.{AreEntered}
use Rattle.clr_generations.specs.Renewing as renewing
use Rattle.clr_generations.specs.Renewing.{AreKept, left_in}
use Rattle.clr_generations.specs.declared.renewing.Counted.TheVariants.{All}
use Rattle.clr_generations.proofs.Homes.{old-may_lead}

-- a filter that all pass leaves all
filter-true : {X : Type 0} (xs : List X) → filter (λ x. true) xs ≡ xs
filter-true [] = refl
filter-true (x ∷ xs) = let ih = filter-true xs in λ i. x ∷ ih i

module _ (rows : List TypeRow) (h : HeapView) (k young : ℕ)
    (aged : (place : ℕ) → stands_in (segment_at h k) place ≡ true → 0 < generation (frame h) place) where
  -- all are kept, and each may be named
  all-kept : AreKept rows h (renewing.passes All) k young (frame h) (λ o. true)
  all-kept = record {
    below = λ o l in_s low. refl;
    above = λ o l in_s high. refl;
    old = λ place in_s low. aged place in_s;
    may = λ o l in_s keeps. old-may_lead (frame h) o.place (aged o.place in_s);
  }

  -- WHAT IS RENEWED tells of all objects
  pub aged_entered : (bricks : List (CoverView ℤ)) → ((after : Layout) (keep : Object → Bool)
      → AreKept rows h (renewing.passes All) k young after keep
      → AreEntered rows after (left_in rows h keep) (entry_at bricks) (segment_at h k))
      → AreEntered rows (frame h) (objects_in rows h) (entry_at bricks) (segment_at h k)
  aged_entered bricks renewed =
      subst (λ (os : List Object). AreEntered rows (frame h) os (entry_at bricks) (segment_at h k))
      (filter-true (objects_in rows h)) (renewed (frame h) (λ o. true) all-kept)
