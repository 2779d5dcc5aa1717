-- What a collection that sweeps comes to: the world of the swept heap.
use Rattle.std.proofs.Common.{◌≡◌, ℕ, ◌+◌, ◌^◌, ◌≤◌, Bool, false, [], min, refl, ap, sym, ◌∙◌, subst, filter, None}
use Rattle.std.proofs.Common.{◌-◌, List}
use Rattle.std.specs.Prelude.{MatchBool}
use Rattle.std.specs.FinMap.{FinMap}
use Rattle.std.specs.Ordering.{nat_cmp}
use Rattle.clr_types.specs.Segments.{ephemeral, Layout}
use Rattle.clr_types.specs.declared.handle.Handle.{Handle}
use Rattle.clr_types.proofs.ChangedLists.{all_members, out_of_filter}
use Rattle.clr_types.proofs.ListMembers.{from-map}
use Rattle.clr_types.proofs.RisingLists.{all_at}
use Rattle.clr_final.specs.Queues.{Queues}
use Rattle.clr_heap.specs.View.{HeapView}
use Rattle.clr_model.specs.declared.Collected.{Collected}
use Rattle.clr_model.specs.declared.How.{How}
use Rattle.clr_model.specs.declared.How.TheVariants.{Compact, Decide, Fit, Sweep}
use Rattle.clr_model.specs.Collection.{begun, compacts, decides_to_compact, is_fit, IsCollected, object_after}
use Rattle.clr_model.specs.Collection.{objects_after}
use Rattle.clr_model.specs.Lawful.{IsLaid, IsLawful, IsPlaceNamed}
use Rattle.clr_model.specs.Laws.{IsUsual}
use Rattle.clr_model.specs.Lookups.{lowest_in_step}
use Rattle.clr_model.specs.Machine.{Machine, Object}
use Rattle.clr_model.specs.Picture.{picture}
use Rattle.clr_model.specs.Reach.{StartOf}
use Rattle.clr_model.specs.Sweep.{Survivor, survivors}
use Rattle.clr_model.proofs.PlainCollections.{before_release, plain_back, PlainlyCollects}
use Rattle.clr_model.proofs.SeenStands.{picture_still}
use Rattle.clr_view.specs.Memory.{IsMemoryOf, TestsMarks}
use Rattle.clr_view.specs.View.{layout_in, objects_in, tail_of}
use Rattle.clr_view.specs.World.{IsWorldOf, World}
use Rattle.clr_moves.specs.Moves.{moved_bytes}
use Rattle.clr_sweep.specs.Swept.{HasSwept, tally_of}
use Rattle.clr_sweep.specs.declared.tally.Tally.{Tally}
use Rattle.clr_collect.specs.Collecting.{BlockingStart, HasMarkedKept, LeavesKept, world_with}
use Rattle.clr_collect.proofs.BeforeSlide.{comes_lawful, comes_seen, ComesTo}
use Rattle.clr_collect.proofs.SweepCollects.{laid, layout-swept, objects-after, survive-plain, sweep_collects_as}
use Rattle.clr_collect.proofs.SweepCollects.{sweep_laid, swept_full, swept_machine, told}
use Rattle.clr_collect.proofs.SweptLayouts.{unreleased_tail}
use Rattle.clr_collect.proofs.WholeCollection.{begun_laid, due, due_laid, due_memory, left, older_kept}
use Rattle.clr_survivors.specs.Survivors.{compaction_part, HasObjects}

-- what doesn't compact is no fit
swept_plain : (how : How) (decision : Bool) → compacts how decision ≡ false → is_fit how ≡ false
swept_plain Decide decision swept = refl
swept_plain Compact decision swept = refl
swept_plain Sweep decision swept = refl
swept_plain Fit decision swept = absurd cc

module _ (w : World) (marked : HeapView) (handles : FinMap nat_cmp Handle) (queues : Queues)
    (g : ℕ) (least : g ≤ 2) (k : HasMarkedKept w (BlockingStart g) marked handles queues g) (swept : HeapView)
    (s : HasSwept w.rows marked swept g) where
  abbrev pub world : World
  world = world_with w.rows swept w.locals handles queues

  module _ (m : Machine) (is : IsWorldOf w m) (named : IsPlaceNamed m) where
    abbrev leaves : LeavesKept (begun m) (StartOf (begun m) g) k.first (left w marked handles queues g least k)
        (objects_in w.rows marked)
        handles queues
    leaves = k.leaves m is named

    abbrev whole : Layout
    whole = laid (begun m) (begun_laid w marked handles queues g least k m named) g least k.first
        (left w marked handles queues g least k) (older_kept w marked handles queues g least k m is named)

    layout-is : layout_in w.rows swept ≡ whole
    layout-is =
        layout-swept (begun m) (begun_laid w marked handles queues g least k m named) g least k.first
        (left w marked handles queues g least k) (older_kept w marked handles queues g least k m is named)
        w.rows marked
        (due_memory w marked handles queues g least k m is named) k.marks swept s

    -- after a full sweep a segment that isn't empty has an object
    pub full_swept : g ≡ 2 → HasObjects w.rows swept
    full_swept =
        swept_full (begun m) (begun_laid w marked handles queues g least k m named) g least k.first
        (left w marked handles queues g least k) (older_kept w marked handles queues g least k m is named)
        w.rows marked
        (due_memory w marked handles queues g least k m is named) k.marks swept s

    -- and generation 0 begins where the ephemeral segment ends
    pub tail_swept : swept.start0 ≡ tail_of swept
    tail_swept =
        ap (λ (l : Layout). l.start0) layout-is
        ∙ unreleased_tail (begun m) (begun_laid w marked handles queues g least k m named) g least
        (left w marked handles queues g least k) []
        ∙ sym (ap (λ (l : Layout). (ephemeral l).end) layout-is)

    module _ (how : How) (usual : IsUsual g how) (plain : is_fit how ≡ false)
        (decided : compacts how (decides_to_compact (begun m) g (survivors (begun m) g
        (left w marked handles queues g least k))) ≡ false)
        (answer : Collected)
        (same : answer ≡ told (begun m) (begun_laid w marked handles queues g least k m named) g least k.first
        (left w marked handles queues g least k) (older_kept w marked handles queues g least k m is named) false
        (tally_of w.rows marked g)) where
      abbrev end : Machine
      end = swept_machine (begun m) (begun_laid w marked handles queues g least k m named) g least k.first
          (left w marked handles queues g least k) (older_kept w marked handles queues g least k m is named) answer

      sweeps : PlainlyCollects m g how answer end
      sweeps =
          sweep_collects_as (begun m) (begun_laid w marked handles queues g least k m named) g least k.first
          (left w marked handles queues g least k) (older_kept w marked handles queues g least k m is named)
          w.rows marked
          (due_memory w marked handles queues g least k m is named) k.marks (StartOf (begun m) g) leaves.tests false how
          decided answer same

      laid-is : sweeps.laid ≡ whole
      unfolding sweeps
      laid-is =
          sweep_laid (begun m) (begun_laid w marked handles queues g least k m named) g least k.first
          (left w marked handles queues g least k) (older_kept w marked handles queues g least k m is named)
          w.rows marked
          (due_memory w marked handles queues g least k m is named) k.marks (StartOf (begun m) g) leaves.tests false how
          decided answer same

      abbrev mid : Machine
      mid = before_release (begun m) g how false (StartOf (begun m) g) answer plain end sweeps

      collected : IsCollected (begun m) g how false (StartOf (begun m) g) answer mid
      collected = (plain_back (begun m) g how false (StartOf (begun m) g) answer plain end sweeps).1

      -- the machine before segments are released
      abbrev kept : Machine
      kept = record end { layout = whole }

      mid-is : mid ≡ kept
      mid-is =
          ap (λ (n : Machine). record n { layout = sweeps.laid }) (sym sweeps.state)
          ∙ ap (λ (l : Layout). record end { layout = l }) laid-is

      world-kept : IsWorldOf world kept
      world-kept = record {
        memory = record {
          types = is.memory.types;
          objects = objects-after (begun m) (begun_laid w marked handles queues g least k m named) g least k.first
              (left w marked handles queues g least k) (older_kept w marked handles queues g least k m is named)
              w.rows marked
              (due_memory w marked handles queues g least k m is named) k.marks swept s;
          layout = sym layout-is;
        };
        locals = is.locals;
        handles = sym leaves.handles;
        entries = sym leaves.entries;
        ready = sym leaves.ready;
      }

      module _ (idle : lowest_in_step m ≡ None) where
        sound : IsPlaceNamed kept
        sound = record {
          lawful = subst IsLawful mid-is (comes_lawful m named idle g how usual answer mid collected).0;
          places = all_members (λ (o : Object). o.name ≡ o.place)
              (objects_after (begun m) k.first (left w marked handles queues g least k) []) (λ o i.
              let (q, e, j) = from-map (object_after (begun m) k.first []) o
              (filter (λ (o : Object). left w marked handles queues g least k o.name) m.objects) i in
              subst (λ (p : Object). p.name ≡ p.place) (sym e)
              (all_at (λ (o : Object). o.name ≡ o.place)
              (out_of_filter (λ (o : Object). left w marked handles queues g least k o.name) q m.objects j).1
              named.places));
          uncounted = named.uncounted;
        }

        -- WHAT A SWEEP COMES TO, of one machine
        pub sweep_comes : (mid : Machine) × (d : IsCollected (begun m) g how false (StartOf (begun m) g) answer mid)
            × IsWorldOf world (picture mid)
        sweep_comes = (
          mid,
          collected,
          subst (λ (n : Machine). IsWorldOf world (picture n)) (sym mid-is)
              (subst (IsWorldOf world) (sym (picture_still kept sound)) world-kept),
        )

  -- WHAT IT COMES TO, of every machine whose world it began with
  pub swept_comes : (how : How) → IsUsual g how → (threshold : ℕ)
      → ((m : Machine) (kept : ℕ → Bool) → IsMemoryOf w.rows marked m → IsLaid m → TestsMarks w.rows marked g kept
      → m.options.compact ≡ threshold → false ≡ compacts how (decides_to_compact m g (survivors m g kept)))
      → (tally : Tally) → tally ≡ tally_of w.rows marked g → (answer : Collected)
      → answer ≡ record {
        generation = g;
        compacted = false;
        fitted = false;
        background = false;
        kept = tally.kept;
        freed = tally.freed;
        promoted1 = tally.promoted1;
        promoted2 = tally.promoted2;
      }
      → (slides : ℕ) → ComesTo w g how threshold answer world slides slides
  swept_comes how usual threshold decides tally counts answer same slides m is named idle option =
      let decided : compacts how (decides_to_compact (begun m) g (survivors (begun m) g
      (left w marked handles queues g least k))) ≡ false =
      ap (λ (ss : List Survivor). compacts how (decides_to_compact (begun m) g ss))
      (sym (survive-plain (begun m) (begun_laid w marked handles queues g least k m named) g least k.first
      (left w marked handles queues g least k) (older_kept w marked handles queues g least k m is named)))
      ∙ sym (decides (due w marked handles queues g least k m) (left w marked handles queues g least k)
      (due_memory w marked handles queues g least k m is named) (due_laid w marked handles queues g least k m named)
      k.marks option) in
      let (mid, d, seen) =
      sweep_comes m is named how usual (swept_plain how _ decided) decided answer
      (same ∙ ap (told (begun m) (begun_laid w marked handles queues g least k m named) g least k.first
      (left w marked handles queues g least k) (older_kept w marked handles queues g least k m is named) false)
      counts) idle in (
        mid,
        d,
        seen,
        subst (λ (b : Bool). MatchBool b (slides ≡ min (2 ^ 64 - 1) (slides
            + (1 + moved_bytes (compaction_part (is_fit how) (begun m).layout d.survive d.moves))))
            (slides ≡ slides)) (sym (ap (λ (a : Collected). a.compacted) same)) refl,
      )

  -- THE WORLD of what is left
  pub known_swept : (m : Machine) × IsWorldOf w m × IsPlaceNamed m × (lowest_in_step m ≡ None)
      → (n : Machine) × IsWorldOf world n × IsPlaceNamed n
  known_swept (m, is, named, idle) =
      let answer : Collected = told (begun m) (begun_laid w marked handles queues g least k m named) g least k.first
      (left w marked handles queues g least k) (older_kept w marked handles queues g least k m is named) false
      (tally_of w.rows marked g) in
      let (mid, d, seen) = sweep_comes m is named Sweep least refl refl answer refl idle in
      (picture mid, seen, comes_seen m named idle g Sweep least answer mid d)
