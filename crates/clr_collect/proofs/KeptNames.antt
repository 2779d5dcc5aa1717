-- What names objects still does while a collection marks: entries, handles and woken places.
use Rattle.std.proofs.Common.{◌≡◌, ℕ, List, drop, filter, length, ap, sym, ◌∙◌, subst}
use Rattle.std.specs.FinMap.{FinMap}
use Rattle.std.specs.Ordering.{nat_cmp}
use Rattle.std.proofs.Math.Seq.{drop-append_seam}
use Rattle.clr_types.specs.Maps.{map_values}
use Rattle.clr_types.specs.Rising.{IsIn}
use Rattle.clr_types.specs.Types.{TypeRow}
use Rattle.clr_types.specs.declared.handle.Handle.{Handle}
use Rattle.clr_types.specs.declared.handle.Kind.TheVariants.{Weak}
use Rattle.clr_types.proofs.ChangedLists.{out_of_filter}
use Rattle.clr_final.specs.Queues.{Queues}
use Rattle.clr_handles.specs.Laws.{cleared}
use Rattle.clr_heap.specs.View.{HeapView}
use Rattle.clr_model.specs.Lawful.{IsPlaceNamed}
use Rattle.clr_model.specs.Machine.{Machine, Object}
use Rattle.clr_view.specs.Memory.{is_left_name}
use Rattle.clr_view.specs.SlotValues.{StandsAt}
use Rattle.clr_view.specs.View.{objects_in}
use Rattle.clr_view.specs.World.{HandlesStand, IsWorldOf, World}
use Rattle.clr_view.proofs.Worlds.{handles_stand as still_stand}
use Rattle.clr_mark.specs.Roots.{AreObjects}
use Rattle.clr_collect.specs.Collecting.{AllStand, HasMarkedAlive, HasUnflagged, HaveBeenJudged, is_woken_at}
use Rattle.clr_collect.proofs.ClearedFlags.{stands_unflagged}
use Rattle.clr_collect.proofs.HandlesAfter.{cleared_stand}
use Rattle.clr_collect.proofs.WorldNames.{entries_stand, handles_stand}

-- Before the collection, and with what is alive marked.
module _ {start : Machine → ℕ → Type 0} (w : World) (some : (m : Machine) × IsWorldOf w m × IsPlaceNamed m) (g : ℕ)
    (alive : HeapView) (a : HasMarkedAlive w start alive g) where
  stands-alive : (x : ℕ) → StandsAt w.rows w.heap x → StandsAt w.rows alive x
  stands-alive x s = subst (λ (os : List Object). (o : Object) × IsIn o os × (o.place ≡ x)) (sym a.objects) s

  pub alive_entries : AllStand w.rows alive w.entries
  alive_entries x i = stands-alive x (entries_stand w some.0 some.1 some.2 x i)

  pub alive_handles : HandlesStand w.rows alive w.handles
  alive_handles = still_stand w.rows w.rows w.heap alive stands-alive w.handles
      (handles_stand w some.0 some.1 some.2)

-- With what is alive marked, and with flags cleared.
module _ (rows : List TypeRow) (handles : FinMap nat_cmp Handle) (queues : Queues) (g : ℕ) (alive : HeapView)
    (entries : AllStand rows alive queues.entries) (targets : HandlesStand rows alive handles) (flat : HeapView)
    (f : HasUnflagged rows alive flat g queues.entries) where
  stands-flat : (x : ℕ) → StandsAt rows alive x → StandsAt rows flat x
  stands-flat = stands_unflagged rows alive flat g queues.entries f

  pub flat_handles : HandlesStand rows flat handles
  flat_handles = still_stand rows rows alive flat stands-flat handles targets

  -- the woken places are entries
  pub woken_stand : (judged : Queues) → HaveBeenJudged rows alive g queues judged
      → AreObjects rows flat (drop (length queues.ready) judged.ready)
  woken_stand judged j x r =
      let among : IsIn x (filter (is_woken_at rows alive g) queues.entries) =
      subst (IsIn x) (ap (drop (length queues.ready)) j.ready
      ∙ drop-append_seam queues.ready (filter (is_woken_at rows alive g) queues.entries)) r.listed in
      let entry = out_of_filter (is_woken_at rows alive g) x queues.entries among in
      stands-flat x (entries x entry.1)

  module _ (short : FinMap nat_cmp Handle)
      (is : short ≡ map_values (cleared Weak (is_left_name rows flat g)) handles) where
    pub short_handles : HandlesStand rows flat short
    short_handles = subst (HandlesStand rows flat) (sym is)
        (cleared_stand rows flat Weak (is_left_name rows flat g) handles flat_handles)

    pub new_handles : (new : HeapView) → objects_in rows new ≡ objects_in rows flat → HandlesStand rows new short
    new_handles new same = still_stand rows rows flat new
        (λ x s. subst (λ (os : List Object). (o : Object) × IsIn o os × (o.place ≡ x)) (sym same) s) short
        short_handles
