-- What a collection that compacts comes to, of every machine whose world it began with: what counts and moves tell
-- makes its answer.
use Rattle.std.proofs.Common.{◌≡◌, ℕ, ◌+◌, ◌-◌, ◌^◌, ◌≤◌, ◌&&◌, Bool, true, not, List, false}
use Rattle.std.proofs.Common.{count_by}
use Rattle.std.proofs.Common.{min, refl, ap, sym, ◌∙◌, subst, None}
use Rattle.std.specs.Prelude.{MatchBool}
use Rattle.std.specs.FinMap.{FinMap}
use Rattle.std.specs.Ordering.{nat_cmp}
use Rattle.clr_types.specs.declared.handle.Handle.{Handle}
use Rattle.clr_final.specs.Queues.{Queues}
use Rattle.clr_heap.specs.View.{HeapView}
use Rattle.clr_model.specs.declared.Collected.{Collected}
use Rattle.clr_model.specs.declared.How.{How}
use Rattle.clr_model.specs.declared.How.TheVariants.{Compact, Decide, Fit, Sweep}
use Rattle.clr_model.specs.Collection.{begun, compacts, decides_to_compact, is_fit, IsCollected}
use Rattle.clr_model.specs.Compaction.{Move}
use Rattle.clr_moves.specs.Moves.{moved_bytes}
use Rattle.clr_model.specs.Lawful.{IsLaid, IsPlaceNamed}
use Rattle.clr_model.specs.Laws.{IsUsual}
use Rattle.clr_model.specs.Lookups.{lowest_in_step}
use Rattle.clr_model.specs.Machine.{Machine}
use Rattle.clr_model.specs.Picture.{picture}
use Rattle.clr_model.specs.Reach.{StartOf}
use Rattle.clr_model.specs.Sweep.{is_condemned, Survivor, survivors}
use Rattle.clr_view.specs.Memory.{is_marked, is_reached_by, IsMemoryOf, TestsMarks}
use Rattle.clr_view.specs.World.{IsWorldOf, World}
use Rattle.clr_sweep.specs.Swept.{is_kept, tally_of}
use Rattle.clr_sweep.specs.declared.tally.Tally.{Tally}
use Rattle.clr_survivors.specs.Survivors.{compaction_part, HaveMoved}
use Rattle.clr_collect.specs.Collecting.{BlockingStart, HasMarkedKept, world_with}
use Rattle.clr_collect.proofs.BeforeSlide.{comes_seen, ComesTo}
use Rattle.clr_collect.proofs.SweepCollects.{counted, freed-is, kept-is, survive-plain}
use Rattle.clr_collect.proofs.MovedCollects.{survive-turned}
use Rattle.clr_collect.proofs.WholeCollection.{begun_laid, due, due_laid, due_memory, older_kept}
use Rattle.clr_collect.proofs.WholeMoved.{left, move_comes, ready_laid, ready_machine, ready_memory}

module _ (w : World) (marked : HeapView) (handles : FinMap nat_cmp Handle) (queues : Queues)
    (g : ℕ) (least : g ≤ 2) (k : HasMarkedKept w (BlockingStart g) marked handles queues g) (gone : HeapView)
    (locals : List ℕ) (table : FinMap nat_cmp Handle) (after_queues : Queues)
    (promoted1 promoted2 before_count after_count : ℕ) (fitted : Bool)
    (moves : (n : Machine) (kept : ℕ → Bool) → IsMemoryOf w.rows marked n → IsLaid n → n.handles ≡ handles
    → TestsMarks w.rows marked g kept
    → HaveMoved fitted (world_with w.rows marked w.locals handles queues)
    (world_with w.rows gone locals table after_queues) g n kept promoted1 promoted2 before_count after_count)
    (tally : Tally) (counts : tally ≡ tally_of w.rows marked g) (answer : Collected)
    (told : answer ≡ record {
      generation = g;
      compacted = true;
      fitted = fitted;
      background = false;
      kept = tally.kept;
      freed = tally.freed;
      promoted1 = promoted1;
      promoted2 = promoted2;
    }) where
  abbrev pub world : World
  world = world_with w.rows gone locals table after_queues

  module _ (m : Machine) (is : IsWorldOf w m) (named : IsPlaceNamed m) where
    moved : HaveMoved fitted (world_with w.rows marked w.locals handles queues)
        (world_with w.rows gone locals table after_queues) g (ready_machine w marked handles queues g least k m)
        (left w marked handles queues g least k) promoted1 promoted2 before_count after_count
    moved =
        moves (ready_machine w marked handles queues g least k m) (left w marked handles queues g least k)
        (ready_memory w marked handles queues g least k m is named)
        (ready_laid w marked handles queues g least k m named) (sym (k.leaves m is named).handles) k.marks

    answered : answer ≡ record {
      generation = g;
      compacted = true;
      fitted = fitted;
      background = false;
      kept = count_by (λ o. is_condemned (begun m) g o && left w marked handles queues g least k o.name) m.objects;
      freed = count_by (λ o. is_condemned (begun m) g o && not (left w marked handles queues g least k o.name))
          m.objects;
      promoted1 = promoted1;
      promoted2 = promoted2;
    }
    answered =
        told
        ∙ ap (λ (t : Tally). record {
          generation = g;
          compacted = true;
          fitted = fitted;
          background = false;
          kept = t.kept;
          freed = t.freed;
          promoted1 = promoted1;
          promoted2 = promoted2;
        }) counts
        ∙ (λ t. record {
          generation = g;
          compacted = true;
          fitted = fitted;
          background = false;
          kept =
              counted (begun m) (begun_laid w marked handles queues g least k m named) g least k.first
              (left w marked handles queues g least k) (older_kept w marked handles queues g least k m is named)
              w.rows marked
              (due_memory w marked handles queues g least k m is named) k.marks (is_kept marked g)
              (λ o. is_condemned (begun m) g o && left w marked handles queues g least k o.name)
              (kept-is (begun m) (begun_laid w marked handles queues g least k m named) g least k.first
              (left w marked handles queues g least k) (older_kept w marked handles queues g least k m is named)
              w.rows marked
              (due_memory w marked handles queues g least k m is named) k.marks) t;
          freed =
              counted (begun m) (begun_laid w marked handles queues g least k m named) g least k.first
              (left w marked handles queues g least k) (older_kept w marked handles queues g least k m is named)
              w.rows marked
              (due_memory w marked handles queues g least k m is named) k.marks
              (λ o. is_reached_by marked g o.place && not (is_marked marked o))
              (λ o. is_condemned (begun m) g o && not (left w marked handles queues g least k o.name))
              (freed-is (begun m) (begun_laid w marked handles queues g least k m named) g least k.first
              (left w marked handles queues g least k) (older_kept w marked handles queues g least k m is named)
              w.rows marked
              (due_memory w marked handles queues g least k m is named) k.marks) t;
          promoted1 = promoted1;
          promoted2 = promoted2;
        })

    -- of one machine
    one_comes : (how : How) → IsUsual g how → is_fit how ≡ fitted
        → compacts how (decides_to_compact (begun m) g (survivors (begun m) g (left w marked handles queues g least k)))
        ≡ true
        → lowest_in_step m ≡ None
        → (mid : Machine) × (d : IsCollected (begun m) g how false (StartOf (begun m) g) answer mid)
        × IsWorldOf world (picture mid) × (d.moves ≡ moved.moves)
        × (d.survive ≡ survivors (begun m) g (left w marked handles queues g least k))
    one_comes how usual same decided idle =
        move_comes w marked handles queues g least k gone locals table after_queues m is named promoted1 promoted2
        before_count after_count fitted moved how usual same decided answer answered idle

  -- WHAT IT COMES TO
  pub moved_comes : (how : How) → IsUsual g how → is_fit how ≡ fitted → (threshold : ℕ)
      → ((m : Machine) (kept : ℕ → Bool) → IsMemoryOf w.rows marked m → IsLaid m
      → TestsMarks w.rows marked g kept → m.options.compact ≡ threshold
      → true ≡ compacts how (decides_to_compact m g (survivors m g kept)))
      → ComesTo w g how threshold answer world before_count after_count
  moved_comes how usual fits threshold decides m is named idle option =
      let decided : compacts how (decides_to_compact (begun m) g
      (survivors (begun m) g (left w marked handles queues g least k))) ≡ true =
      ap (λ (ss : List Survivor). compacts how (decides_to_compact (begun m) g ss))
      (sym (survive-plain (begun m) (begun_laid w marked handles queues g least k m named) g least k.first
      (left w marked handles queues g least k) (older_kept w marked handles queues g least k m is named)))
      ∙ sym (decides (due w marked handles queues g least k m) (left w marked handles queues g least k)
      (due_memory w marked handles queues g least k m is named) (due_laid w marked handles queues g least k m named)
      k.marks option) in
      let (mid, d, seen, same, survive) = one_comes m is named how usual fits decided idle in
      let turned = survive-turned (begun m) g k.first (left w marked handles queues g least k) ∙ sym survive in (
        mid,
        d,
        seen,
        subst (λ (b : Bool). MatchBool b
            (after_count ≡ min (2 ^ 64 - 1) (before_count
            + (1 + moved_bytes (compaction_part (is_fit how) (begun m).layout d.survive d.moves))))
            (after_count ≡ before_count))
            (sym (ap (λ (a : Collected). a.compacted) told))
            ((moved m is named).slid
            ∙ (λ j. min (2 ^ 64 - 1) (before_count
            + (1 + moved_bytes (compaction_part (sym fits j) (begun m).layout (turned j) (sym same j)))))),
      )

  -- what is left of one machine, by a kind that always compacts
  one_left : (m : Machine) → IsWorldOf w m → IsPlaceNamed m → lowest_in_step m ≡ None → (how : How) → IsUsual g how
      → is_fit how ≡ fitted
      → ((decision : Bool) → compacts how decision ≡ true) → (n : Machine) × IsWorldOf world n × IsPlaceNamed n
  one_left m is named idle how usual fits always =
      let (mid, d, seen, same, survive) = one_comes m is named how usual fits (always _) idle in
      (picture mid, seen, comes_seen m named idle g how usual answer mid d)

  -- THE WORLD of what is left, whatever its kind: it is that of a compaction, or of a fit
  pub known_moved : (how : How) → IsUsual g how → is_fit how ≡ fitted
      → (m : Machine) × IsWorldOf w m × IsPlaceNamed m × (lowest_in_step m ≡ None)
      → (n : Machine) × IsWorldOf world n × IsPlaceNamed n
  known_moved Decide usual fits (m, is, named, idle) = one_left m is named idle Compact usual fits (λ d. refl)
  known_moved Compact usual fits (m, is, named, idle) = one_left m is named idle Compact usual fits (λ d. refl)
  known_moved Sweep usual fits (m, is, named, idle) = one_left m is named idle Compact usual fits (λ d. refl)
  known_moved Fit usual fits (m, is, named, idle) = one_left m is named idle Fit usual fits (λ d. refl)
