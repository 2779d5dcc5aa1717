-- The plugs of a machine that may go into older items are those of generation 1 of the heap's ephemeral segment.
use Rattle.std.proofs.Common.{◌≡◌, ℕ, ◌<◌, Bool, not, ◌==◌, List, [], ◌++◌, length, ap, ap₂, ◌∙◌}
use Rattle.std.proofs.Common.{subst, arith}
use Rattle.std.proofs.lemmas.Bool.{and_right, ne_eqb}
use Rattle.std.proofs.lemmas.List.{append-nil}
use Rattle.std.proofs.lemmas.List.Elements.{filter-append}
use Rattle.clr_types.specs.Segments.{ephemeral, is_small_or_ephemeral}
use Rattle.clr_types.specs.Types.{TypeRow}
use Rattle.clr_heap.specs.View.{HeapView, IsHeap, no_rests, segment_at}
use Rattle.clr_model.specs.Compaction.{Plug, plugs_of, survivors_in}
use Rattle.clr_model.specs.Fitting.{fitting_plugs}
use Rattle.clr_model.specs.Lawful.{IsLaid}
use Rattle.clr_model.specs.Machine.{Machine}
use Rattle.clr_model.specs.Sweep.{survivors}
use Rattle.clr_view.specs.Memory.{TestsMarks}
use Rattle.clr_view.specs.View.{IsHeld, layout_in}
use Rattle.clr_sweep.proofs.Filters.{filter-none}
use Rattle.clr_sweep.proofs.SurvivorsSwept.{seen}
use Rattle.clr_plan.specs.Pinned.{TellsPins}
use Rattle.clr_plan.specs.Plans.{older_plugs, young_plugs}
use Rattle.clr_plan.specs.Scans.{CanScan, plugs_between}
use Rattle.clr_plan.proofs.HeapPlugs.{plugs-are, young-ages}
use Rattle.clr_plan.proofs.YoungParts.{at-young, start-at}
use Rattle.clr_evacuate.specs.Fittings.{fitting_between}
use Rattle.clr_evacuate.proofs.FittingRuns.{is_fitting}

module _ (rows : List TypeRow) (h : HeapView) (base : Machine) (heap : IsHeap h) (held : IsHeld rows h) (none : h.rests
    ≡ no_rests) (laid : IsLaid (seen rows h base)) (e : ℕ) (inside : e < length h.segments)
    (young : segment_at h e ≡ ephemeral (layout_in rows h)) where
  -- generation 1 can be read
  pub fitting-scan : CanScan rows h e h.start1 h.start0
  fitting-scan =
      subst (λ (n : ℕ). CanScan rows h e n h.start0)
      (start-at rows h base heap held none laid 1 (omega arith) e inside young)
      (at-young rows h base heap held none laid 1 (omega arith) e inside young).below

  module _ (keep : ℕ → Bool) (tests : TestsMarks rows h 1 keep) (pins : TellsPins rows h base) where
    -- none of generation 0 may
    young-none : fitting_plugs (young_plugs rows h e) ≡ []
    young-none = filter-none is_fitting (young_plugs rows h e) (λ p i.
        let age = young-ages rows h base heap held none laid 1 (omega arith) keep tests pins e inside young p i in
        and_right (not p.pinned) (p.generation == 1) (ne_eqb p.generation 1 (λ q. absurd (omega (arith, age, q)))))

    -- THE FITTING PLUGS
    pub fitting-are :
        fitting_plugs (plugs_of (survivors_in is_small_or_ephemeral (layout_in rows h)
        (survivors (seen rows h base) 1 keep)))
        ≡ fitting_between rows h e h.start1 h.start0
    fitting-are =
        ap fitting_plugs (plugs-are rows h base heap held none laid 1 (omega arith) keep tests pins e inside young)
        ∙ filter-append is_fitting (older_plugs rows h 1 e) (young_plugs rows h e)
        ∙ ap₂ (λ (ps qs : List Plug). ps ++ qs)
        (ap (λ (n : ℕ). fitting_plugs (plugs_between rows h e n h.start0))
        (start-at rows h base heap held none laid 1 (omega arith) e inside young))
        young-none
        ∙ append-nil (fitting_between rows h e h.start1 h.start0)
