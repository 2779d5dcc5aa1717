-- A fit, and a usual compaction of what it leaves, are a fitting collection.
use Rattle.std.proofs.Common.{◌≡◌, ℕ, List, [], ◌++◌, refl, sym, subst, Bool, true, false, ◌&&◌, not, count_by}
use Rattle.std.proofs.Common.{length, None, Option, Some}
use Rattle.clr_types.specs.Rising.{Tests}
use Rattle.clr_types.specs.Segments.{Layout, rest_pieces}
use Rattle.clr_model.specs.declared.How.TheVariants.{Fit}
use Rattle.clr_model.specs.declared.Collected.{Collected}
use Rattle.clr_model.specs.Machine.{Machine, Marking}
use Rattle.clr_model.specs.Reach.{IsAlive, Kept, StartOf}
use Rattle.clr_model.specs.Sweep.{is_condemned, survivors}
use Rattle.clr_model.specs.Compaction.{Move}
use Rattle.clr_model.specs.Collection.{begun, Collects, IsCollected, marking_after, SlidesIf}
use Rattle.clr_model.specs.Lawful.{IsLaid, IsLawful}
use Rattle.clr_model.proofs.FitLawful.{never}
use Rattle.clr_model.proofs.GivenUp.{given_up_laid, no_rests}
use Rattle.clr_fitting.specs.Laws.{Compacts, IsPromotedTwice, two_steps_answer, two_steps_leave}
use Rattle.clr_fitting.specs.Steps.{fit_in, fitted}
use Rattle.clr_fitting.proofs.PromotedTwice.{promoted_twice}
use Rattle.clr_fitting.proofs.TwoSteps.{two_steps}

same-marking : (r : Option Marking) → r ≡ marking_after false r
same-marking None = refl
same-marking (Some k) = refl

same-flag : (b : Bool) → (b && true) ≡ b
same-flag true = refl
same-flag false = refl

module _ (m : Machine) (first kept : ℕ → Bool) (h : IsLawful m)
    (first_is : Tests first (IsAlive (begun m) (StartOf (begun m) 1)))
    (kept_is : Tests kept (Kept (begun m) (StartOf (begun m) 1) first)) (others : List Move) (new : Layout)
    (c : Compacts (fitted (begun m) kept) kept others new)
  where
    laid : IsLaid (begun m)
    laid = given_up_laid m h.laid

    bare : rest_pieces (begun m).layout.rests ≡ []
    bare = no_rests (length m.layout.rests)

    bytes : IsPromotedTwice (begun m) kept others new
    bytes = promoted_twice (begun m) kept laid bare others new c

    abbrev answer : Collected
    answer = two_steps_answer (begun m) kept others new

    abbrev left : Machine
    left = two_steps_leave (begun m) first kept others new

    collected : IsCollected (begun m) 1 Fit false (StartOf (begun m) 1) answer left
    collected = record {
      first = first;
      kept = kept;
      first_is = first_is;
      kept_is = kept_is;
      survive = survivors (begun m) 1 kept;
      survive_are = refl;
      small = new;
      moves = (fit_in (begun m) kept).moves ++ others;
      small_laid = two_steps (begun m) kept laid bare others new c;
      laid = new;
      large_laid = refl;
      answered = let to1 = bytes.to1 in let to2 = bytes.to2 in λ i. record {
        generation = 1;
        compacted = true;
        fitted = true;
        background = false;
        kept = count_by (λ o. is_condemned (begun m) 1 o && kept o.name) m.objects;
        freed = count_by (λ o. is_condemned (begun m) 1 o && not (kept o.name)) m.objects;
        promoted1 = sym to1 i;
        promoted2 = sym to2 i;
      };
      state = let marking = same-marking m.background in λ i. record left { background = marking i };
    }

    -- the two steps are a fitting collection
    pub both_collect : Collects m 1 Fit (two_steps_answer (begun m) kept others new)
        (two_steps_leave (begun m) first kept others new)
    both_collect = record {
      collected = left;
      slid = left;
      collects = collected;
      slides = subst (λ b. SlidesIf b left left) (sym (never m.compacts_large)) refl;
      ends = let flag = same-flag m.compacts_large in λ i. record left { compacts_large = sym flag i };
    }
