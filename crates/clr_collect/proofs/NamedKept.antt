-- What is kept of a world names nothing else, and as many handles are pinned.
use Rattle.std.proofs.Common.{◌≡◌, ℕ, ◌<◌, ◌≤◌, [], ap, sym, ◌∙◌, subst, None, Some}
use Rattle.std.proofs.Common.{arith, inl, inr}
use Rattle.std.specs.FinMap as finmap
use Rattle.std.specs.FinMap.{FinMap}
use Rattle.std.specs.Ordering.{nat_cmp}
use Rattle.clr_types.specs.Rising.{IsIn}
use Rattle.clr_types.specs.declared.handle.Handle.{Handle}
use Rattle.clr_types.proofs.ChangedLists.{IsIn-map}
use Rattle.clr_types.proofs.ListMembers.{from-map}
use Rattle.clr_types.proofs.RisingLists.{all_at}
use Rattle.clr_final.specs.Queues.{Queues}
use Rattle.clr_handles.specs.Tops.{pinned_in}
use Rattle.clr_heap.specs.View.{HeapView}
use Rattle.clr_model.specs.Collection.{begun, object_after}
use Rattle.clr_model.specs.Lawful.{HasItsSecond, IsPlaceNamed, IsPresent, IsShaped}
use Rattle.clr_model.specs.Lookups.{lowest_in_step}
use Rattle.clr_model.specs.Machine.{Machine, Object, ref}
use Rattle.clr_model.specs.Reach.{SlotNames, StartOf}
use Rattle.clr_model.proofs.HandleTables.{value_at}
use Rattle.clr_model.proofs.Joined.{IsNullOrNamed}
use Rattle.clr_model.proofs.NamedWell.{found_named, lawful-named}
use Rattle.clr_view.specs.Memory.{is_left_name}
use Rattle.clr_view.specs.SlotValues.{StandsAt}
use Rattle.clr_view.specs.View.{objects_in}
use Rattle.clr_view.specs.World.{IsWorldOf, World}
use Rattle.clr_survivors.specs.Moving.{IsMarkedFor}
use Rattle.clr_survivors.specs.Survivors.{AreClosed, IsNullOrLeft, NameLeft}
use Rattle.clr_collect.specs.Collecting.{BlockingStart, HasMarkedKept, LeavesKept, world_with}
use Rattle.clr_collect.proofs.AfterRelease.{pinned-after}
use Rattle.clr_collect.proofs.LeftNamed.{entries-left, locals-left, objects-closed, ready-left, rows-left}
use Rattle.clr_collect.proofs.SweepCollects.{left-is}
use Rattle.clr_collect.proofs.WholeCollection.{begun_laid, due_memory, memory_laid, older_kept}
use Rattle.clr_collect.proofs.WholeMoved.{left}

-- ---- for every start

module _ {start : Machine → ℕ → Type 0} (w : World) (marked : HeapView) (handles : FinMap nat_cmp Handle)
    (queues : Queues) (g : ℕ) (least : g ≤ 2) (k : HasMarkedKept w start marked handles queues g)
    (known : (m : Machine) × IsWorldOf w m × IsPlaceNamed m × (lowest_in_step m ≡ None)) where
  pub pinned_kept : pinned_in handles ≡ pinned_in w.handles
  pinned_kept =
      ap pinned_in (k.leaves known.0 known.1 known.2).handles
      ∙ pinned-after k.first (is_left_name w.rows marked g) (known.0).handles
      ∙ ap pinned_in known.1.handles

-- ---- in a blocking collection

module _ (w : World) (marked : HeapView) (handles : FinMap nat_cmp Handle) (queues : Queues)
    (g : ℕ) (least : g ≤ 2) (k : HasMarkedKept w (BlockingStart g) marked handles queues g)
    (known : (m : Machine) × IsWorldOf w m × IsPlaceNamed m × (lowest_in_step m ≡ None)) where
  abbrev m : Machine
  m = known.0

  leaves : LeavesKept (begun known.0) (StartOf (begun known.0) g) k.first (left w marked handles queues g least k)
      (objects_in w.rows marked) handles queues
  leaves = k.leaves known.0 known.1 known.2

  closed_kept : AreClosed w.rows marked g
  closed_kept =
      objects-closed (begun known.0) g k.first w.rows marked leaves.tests leaves.objects
      (left-is (begun known.0) (begun_laid w marked handles queues g least k known.0 known.2) g least k.first
      (left w marked handles queues g least k)
      (older_kept w marked handles queues g least k known.0 known.1 known.2) w.rows marked
      (due_memory w marked handles queues g least k known.0 known.1 known.2) k.marks)

  owned : (number : ℕ) (row : Handle) → finmap.get (begun known.0).handles number ≡ Some row → HasItsSecond row
  owned number row found = value_at HasItsSecond (known.0).handles known.2.lawful.seconds number row found

  rows_named : (number : ℕ) (row : Handle) → finmap.get handles number ≡ Some row
      → IsNullOrLeft w.rows marked g row.target × IsNullOrLeft w.rows marked g row.second
  rows_named number row found =
      rows-left (begun known.0) g k.first w.rows marked leaves.tests owned number row
      (subst (λ (t : FinMap nat_cmp Handle). finmap.get t number ≡ Some row) leaves.handles found)

  ready_some : (x : ℕ) → IsIn x (begun known.0).ready → 0 < x
  ready_some x i =
      let (o, there, is) = found_named (known.0).objects x
      (all_at (IsPresent known.0) i known.2.lawful.names.ready) in
      subst (λ (n : ℕ). 0 < n) is (all_at (IsShaped known.0) there known.2.lawful.shapes).named

  named_kept : NameLeft (world_with w.rows marked w.locals handles queues) g
  named_kept = record {
    locals = λ x i. locals-left (begun known.0) g k.first w.rows marked leaves.tests x
        (subst (IsIn x) (sym known.1.locals) i);
    targets = λ number row found. (rows_named number row found).0;
    seconds = λ number row found. (rows_named number row found).1;
    entries = λ x i. entries-left (begun known.0) g k.first w.rows marked leaves.tests x
        (subst (IsIn x) leaves.entries i);
    ready = λ x i. ready-left (begun known.0) g k.first w.rows marked leaves.tests ready_some x
        (subst (IsIn x) leaves.ready i);
  }

  -- whatever a slot names stands
  slots_kept : (x y : ℕ) → SlotNames (objects_in w.rows marked) x y → StandsAt w.rows marked y
  slots_kept x y e =
      let (q, is, there) = from-map after e.object (known.0).objects
      (subst (IsIn e.object) leaves.objects e.present) in
      stands ((lawful-named known.0 known.2.lawful).slots q there y
      (subst (λ (o : Object). IsIn (ref y) o.slots) is e.slot))
    where
      after : Object → Object
      after = object_after (begun known.0) k.first []

      stands : IsNullOrNamed (known.0).objects y → StandsAt w.rows marked y
      stands (inl null) = absurd (omega (arith, null, e.not_null))
      stands (inr (o, there, name)) = (
        after o,
        subst (IsIn (after o)) (sym leaves.objects) (IsIn-map after there),
        sym (all_at (λ (q : Object). q.name ≡ q.place) there known.2.places) ∙ name,
      )

  -- WHAT IS MARKED for the moves
  pub marked_kept : IsMarkedFor (world_with w.rows marked w.locals handles queues) g
  marked_kept = record {
    no_contexts = k.no_contexts;
    laid = memory_laid w marked handles queues g least k known;
    young = k.young;
    closed = closed_kept;
    stands = slots_kept;
    named = named_kept;
  }
