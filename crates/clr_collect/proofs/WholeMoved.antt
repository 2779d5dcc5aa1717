-- What a collection that compacts comes to: the parts make the collection of every machine whose world it is, before
-- the large heap slides and segments are released.
use Rattle.std.proofs.Common.{◌≡◌, inr, ℕ, ◌≤◌, ◌==◌, Bool, true, false, not, ◌&&◌, if◌then◌else◌, List, []}
use Rattle.std.proofs.Common.{map, filter, count_by, refl, ap, sym, ◌∙◌, subst, None}
use Rattle.std.specs.FinMap.{FinMap}
use Rattle.std.specs.Ordering.{nat_cmp}
use Rattle.clr_types.specs.Rising.{IsIn, sorted_by}
use Rattle.clr_types.specs.Segments.{Layout}
use Rattle.clr_types.specs.declared.handle.Handle.{Handle}
use Rattle.clr_types.specs.Maps.{map_values}
use Rattle.clr_types.proofs.ListMembers.{filter-map, filter-on}
use Rattle.clr_types.proofs.RisingLists.{all_at}
use Rattle.clr_final.specs.Queues.{Queues}
use Rattle.clr_heap.specs.View.{HeapView}
use Rattle.clr_model.specs.declared.Collected.{Collected}
use Rattle.clr_model.specs.declared.How.{How}
use Rattle.clr_model.specs.Collection.{begun, bytes_promoted, compacts, decides_to_compact, is_fit, IsCollected}
use Rattle.clr_model.specs.Collection.{object_after}
use Rattle.clr_model.specs.Compaction.{moved_by}
use Rattle.clr_model.specs.Lawful.{IsLaid, IsPlaceNamed}
use Rattle.clr_model.specs.Laws.{IsUsual}
use Rattle.clr_model.specs.Lookups.{lowest_in_step}
use Rattle.clr_model.specs.Machine.{Machine, Object}
use Rattle.clr_model.specs.Picture.{picture}
use Rattle.clr_model.specs.Reach.{StartOf}
use Rattle.clr_model.specs.Sweep.{is_condemned, Survivor, survivors, swept_others}
use Rattle.clr_model.proofs.NamedWell.{AreNamed, lawful-named}
use Rattle.clr_view.specs.Memory.{is_left, is_left_name, IsMemoryOf}
use Rattle.clr_view.specs.View.{layout_in, objects_in}
use Rattle.clr_view.specs.World.{IsWorldOf, World}
use Rattle.clr_handles.specs.Laws.{relocated}
use Rattle.clr_moves.specs.Objects.{moved_object, relocated_object}
use Rattle.clr_survivors.specs.Survivors.{GoBy, HaveMoved}
use Rattle.clr_collect.specs.Collecting.{BlockingStart, HasMarkedKept, LeavesKept, world_with}
use Rattle.clr_collect.proofs.BeforeSlide.{comes_lawful}
use Rattle.clr_collect.proofs.MovedCollects.{compaction_collects, compaction_moves, compaction_survivors, moved_answer}
use Rattle.clr_collect.proofs.MovedCollects.{moved_machine}
use Rattle.clr_collect.proofs.MovedCollects.{promoted-turned, survive-turned, turned}
use Rattle.clr_collect.proofs.MovedNames.{names-go, objects-go, rows-go}
use Rattle.clr_collect.proofs.SweepCollects.{left-is}
use Rattle.clr_collect.proofs.WholeCollection.{begun_laid, due_laid, due_memory, older_kept}

-- The heap of a world before its collection, and when what is kept is marked.
module _ (w : World) (marked : HeapView) (handles : FinMap nat_cmp Handle) (queues : Queues)
    (g : ℕ) (least : g ≤ 2) (k : HasMarkedKept w (BlockingStart g) marked handles queues g) where
  abbrev pub left : ℕ → Bool
  left = is_left_name w.rows marked g

  -- the machine when it is to be compacted: its contexts are given up, handles were cleared, and objects have lost the
  -- flags of entries that are dropped
  abbrev pub ready_machine : Machine → Machine
  ready_machine m = turned (begun m) g k.first left

  pub ready_memory : (m : Machine) → IsWorldOf w m → IsPlaceNamed m → IsMemoryOf w.rows marked (ready_machine m)
  ready_memory m is named =
      let d = due_memory w marked handles queues g least k m is named in
      record { types = d.types; objects = d.objects; layout = d.layout }

  pub ready_laid : (m : Machine) → IsPlaceNamed m → IsLaid (ready_machine m)
  ready_laid m named =
      let d = due_laid w marked handles queues g least k m named in
      record { layout = d.layout; housed = d.housed; tiled = d.tiled; whole1 = d.whole1; whole0 = d.whole0 }

  -- ---- the heap when all has moved

  module _ (gone : HeapView) (locals : List ℕ) (table : FinMap nat_cmp Handle) (after_queues : Queues) where
    abbrev pub world : World
    world = world_with w.rows gone locals table after_queues

    module _ (m : Machine) (is : IsWorldOf w m) (named : IsPlaceNamed m)
        (promoted1 promoted2 before_count after_count : ℕ)
        (fitted : Bool) (moved : HaveMoved fitted (world_with w.rows marked w.locals handles queues)
        (world_with w.rows gone locals table after_queues) g (ready_machine m) left promoted1 promoted2
        before_count after_count)
        (how : How) (usual : IsUsual g how) (same : is_fit how ≡ fitted)
        (decided : compacts how (decides_to_compact (begun m) g (survivors (begun m) g left)) ≡ true) where
      abbrev leaves : LeavesKept (begun m) (StartOf (begun m) g) k.first left (objects_in w.rows marked) handles queues
      leaves = k.leaves m is named

      pub survive : survivors (ready_machine m) g left ≡ survivors (begun m) g left
      survive = survive-turned (begun m) g k.first left

      pub went : GoBy fitted (begun m).layout g (survivors (begun m) g left) moved.moves moved.after
      went =
          subst (λ (ss : List Survivor). GoBy fitted (begun m).layout g ss moved.moves moved.after) survive
          moved.compacted

      abbrev pub next : Collected → Machine
      next =
          moved_machine (begun m) g k.first left leaves.tests how fitted same moved.moves moved.after decided went

      -- ---- the answer

      abbrev whole : Layout
      whole = if g == 2 then swept_others moved.after 2 (survivors (begun m) g left) else moved.after

      laid-is : layout_in w.rows gone ≡ whole
      laid-is =
          moved.layout
          ∙ ap (λ (ss : List Survivor). if g == 2 then swept_others moved.after 2 ss else moved.after) survive

      promoted-is : (e : ℕ) → bytes_promoted (ready_machine m) (layout_in w.rows gone) left moved.moves e
          ≡ bytes_promoted (begun m) whole left moved.moves e
      promoted-is e =
          promoted-turned (begun m) g k.first left (layout_in w.rows gone) moved.moves e
          ∙ ap (λ (l : Layout). bytes_promoted (begun m) l left moved.moves e) laid-is

      -- what is answered
      abbrev told : Collected
      told = record {
        generation = g;
        compacted = true;
        fitted = fitted;
        background = false;
        kept = count_by (λ o. is_condemned (begun m) g o && left o.name) m.objects;
        freed = count_by (λ o. is_condemned (begun m) g o && not (left o.name)) m.objects;
        promoted1 = promoted1;
        promoted2 = promoted2;
      }

      told-is : told
          ≡ moved_answer (begun m) g k.first left leaves.tests how fitted same moved.moves moved.after decided went true
          fitted
      told-is t = record told {
        promoted1 = (moved.promoted1_is ∙ promoted-is 0) t;
        promoted2 = (moved.promoted2_is ∙ promoted-is 1) t;
      }

      pub collects : (answer : Collected) → answer ≡ told
          → IsCollected (begun m) g how false (StartOf (begun m) g) answer (next answer)
      collects answer is =
          compaction_collects (begun m) g k.first left leaves.tests how fitted same moved.moves moved.after decided went
          answer (is ∙ told-is)

      module _ (answer : Collected) (is_told : answer ≡ told) where
        moves-are : (collects answer is_told).moves ≡ moved.moves
        unfolding collects
        moves-are =
            compaction_moves (begun m) g k.first left leaves.tests how fitted same moved.moves moved.after decided went
            answer _

        survive-are : (collects answer is_told).survive ≡ survivors (begun m) g left
        unfolding collects
        survive-are =
            compaction_survivors (begun m) g k.first left leaves.tests how fitted same moved.moves moved.after decided
            went answer _

        abbrev mid : Machine
        mid = next answer

        -- ---- names

        module _ (idle : lowest_in_step m ≡ None) where
          sound : AreNamed mid
          sound = lawful-named mid (comes_lawful m named idle g how usual answer mid (collects answer is_told)).0

          placed : (o : Object) → IsIn o m.objects → o.name ≡ o.place
          placed o i = all_at (λ (q : Object). q.name ≡ q.place) i named.places

          -- the objects of the heap are those that the machine shows
          filtered : filter (is_left marked g) (objects_in w.rows marked)
              ≡ map (object_after (begun m) k.first []) (filter (λ o. left o.name) m.objects)
          filtered =
              ap (filter (is_left marked g)) leaves.objects
              ∙ filter-map (object_after (begun m) k.first []) (is_left marked g) m.objects
              ∙ ap (map (object_after (begun m) k.first []))
              (filter-on _ _ m.objects
              (left-is (begun m) (begun_laid w marked handles queues g least k m named) g least k.first left
              (older_kept w marked handles queues g least k m is named) w.rows marked
              (due_memory w marked handles queues g least k m is named) k.marks))

          objects-are : (picture mid).objects ≡ objects_in w.rows gone
          objects-are =
              ap (sorted_by (λ (o : Object). o.name))
              (objects-go (begun m) placed k.first left moved.moves mid refl sound moved.null
              ∙ ap (map (λ o. moved_object moved.moves (relocated_object moved.moves o))) (sym filtered))
              ∙ sym moved.objects

          -- THE WORLD of what comes after
          world-is : IsWorldOf world (picture mid)
          world-is = record {
            memory = record { types = is.memory.types; objects = objects-are; layout = sym laid-is };
            locals =
                names-go (begun m) placed k.first left moved.moves mid refl sound moved.null m.locals sound.locals
                ∙ ap (map (moved_by moved.moves)) is.locals ∙ sym moved.locals;
            handles =
                rows-go (begun m) placed k.first left moved.moves mid refl sound moved.null mid.handles sound.handles
                ∙ ap (map_values (relocated (moved_by moved.moves))) (sym leaves.handles) ∙ sym moved.handles;
            entries =
                names-go (begun m) placed k.first left moved.moves mid refl sound moved.null mid.entries
                (λ x i. inr (sound.entries x i))
                ∙ ap (map (moved_by moved.moves)) (sym leaves.entries) ∙ sym moved.entries;
            ready =
                names-go (begun m) placed k.first left moved.moves mid refl sound moved.null mid.ready sound.ready
                ∙ ap (map (moved_by moved.moves)) (sym leaves.ready) ∙ sym moved.ready;
          }

          -- WHAT A COMPACTION COMES TO, of one machine
          pub move_comes : (mid : Machine)
              × (d : IsCollected (begun m) g how false (StartOf (begun m) g) answer mid)
              × IsWorldOf world (picture mid) × (d.moves ≡ moved.moves) × (d.survive ≡ survivors (begun m) g left)
          move_comes = (mid, collects answer is_told, world-is, moves-are, survive-are)
