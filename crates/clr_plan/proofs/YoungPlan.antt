-- The plan of generation 0, and where the ephemeral segment ends.
use Rattle.std.proofs.lemmas.List.{append-nil}
use Rattle.std.proofs.Common.{◌≡◌, ℕ, inr, List, [], ◌++◌}
use Rattle.std.proofs.Common.{refl, sym, ap, subst, ◌∙◌, arith}
use Rattle.clr_types.specs.Types.{TypeRow}
use Rattle.clr_types.specs.declared.segment.SegInfo.{SegInfo}
use Rattle.clr_heap.specs.View.{HeapView, last_of, segment_at}
use Rattle.clr_model.specs.Compaction.{Plug}
use Rattle.clr_model.proofs.PlugRoom.{ArePlugs}
use Rattle.clr_plan.specs.Pointing.{IsAt}
use Rattle.clr_pinq.specs.declared.entry.PinEntry.{PinEntry}
use Rattle.clr_plan.specs.Waiting.{ranges_from}
use Rattle.clr_plan.specs.Parts.{Around, CanPlan, HasPlacedPart}
use Rattle.clr_plan.specs.Raises.{CanRaise}
use Rattle.clr_plan.specs.Plans.{CanPlanHeap, condemned_plugs, HasReached, IsBetween, older_plugs, parts_in}
use Rattle.clr_plan.specs.Plans.{young_plugs}
use Rattle.clr_plan.specs.declared.pointer.Pointer.{Pointer}
use Rattle.clr_plan.proofs.Beginning.{among-at, plugs-lie, young-small}
use Rattle.clr_plan.proofs.Reaching.{around, can-plan, part-reached}

module _ (rows : List TypeRow) (h : HeapView) (g e : ℕ) (can : CanPlanHeap rows h g e) where
  abbrev parts : List SegInfo
  parts = parts_in rows h g

  abbrev all : List Plug
  all = condemned_plugs rows h g e

  abbrev older : List Plug
  older = older_plugs rows h g e

  abbrev young : List Plug
  young = young_plugs rows h e

  module _ (entries : List PinEntry) (from : Pointer) (s : IsBetween rows h g e entries from) (in_e : from.segment
      ≡ e) where
    pub young-starts : HasReached h parts all entries from.place older [] (young ++ []) [] from
    young-starts = record {
      split = sym (ap (λ ps. ps ++ (young ++ [])) (append-nil older) ∙ ap (λ ps. older ++ ps) (append-nil young));
      placed = refl;
      high = s.high;
      behind = s.behind;
      stands = subst (λ ps. IsAt parts ps (young ++ []) (segment_at h from.segment) from.place
          (ranges_from from.passed entries)) (sym (append-nil older))
          (subst (λ ps. IsAt parts older ps (segment_at h from.segment) from.place (ranges_from from.passed entries))
          (sym (append-nil young)) s.stands);
    }

    abbrev pub young_around : Around
    young_around = around rows h parts all (plugs-lie rows h g e can) entries from.place older [] [] from e h.start0
        (last_of h e) [] young-starts

    pub young_can : CanPlan young_around rows h entries from e h.start0 (last_of h e)
    young_can =
        can-plan rows h parts all (plugs-lie rows h g e can) entries from.place older [] [] from e h.start0
        (last_of h e) [] young-starts
        (among-at rows h g e can from e (omega arith) (young-small rows h g e can) s.order s.high (inr in_e))
        can.young_scan

    module _ (new : List PinEntry) (placed : Pointer) (told : HasPlacedPart young_around rows h new from e h.start0
        (last_of h e) placed) where
      pub reached : HasReached h parts all new from.place older young [] told.moves placed
      reached = part-reached rows h parts all (plugs-lie rows h g e can) entries from.place older [] [] from e h.start0
          (last_of h e) [] young-starts new placed told

      abbrev pub around_all : Around
      around_all = record { segments = parts; done = all; ahead = [] }

      pub ready : CanRaise around_all h new placed
      ready = record {
        plugs = subst (ArePlugs parts) (sym (append-nil all)) (plugs-lie rows h g e can);
        high = told.among.high;
        behind = told.behind;
        stands = reached.stands;
      }
