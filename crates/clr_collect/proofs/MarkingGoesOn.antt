-- A marking that goes on from what is alive keeps what one from the start does.
use Rattle.std.proofs.Common.{◌≡◌, ℕ, subst}
use Rattle.std.specs.FinMap.{FinMap}
use Rattle.std.specs.Ordering.{nat_cmp}
use Rattle.clr_types.specs.Rising.{IsIn}
use Rattle.clr_types.specs.declared.handle.Handle.{Handle}
use Rattle.clr_final.specs.Queues.{Queues}
use Rattle.clr_heap.specs.View.{HeapView}
use Rattle.clr_model.specs.Collection.{begun}
use Rattle.clr_model.specs.Lawful.{IsPlaceNamed}
use Rattle.clr_model.specs.Machine.{Machine}
use Rattle.clr_model.specs.Reach.{Edge, starts, woken}
use Rattle.clr_view.specs.Memory.{is_left_name}
use Rattle.clr_view.specs.World.{IsWorldOf, World}
use Rattle.clr_view.specs.View.{objects_in}
use Rattle.clr_mark.proofs.Graying.{reach_again, reach_bind}
use Rattle.clr_collect.specs.Collecting.{HasMarkedAlive, HasMarkedKept, LeavesKept, LeftStart}

module _ {start : Machine → ℕ → Type 0} (w : World) (mid : HeapView) (g : ℕ) (a : HasMarkedAlive w start mid g) where
  -- what is alive reaches nothing else
  left_alive : HasMarkedAlive w (LeftStart w.rows mid g) mid g
  left_alive = record {
    heap = a.heap;
    held = a.held;
    objects = a.objects;
    layout = a.layout;
    no_contexts = a.no_contexts;
    alive = λ m is named x. (
      λ e. starts e,
      λ r. (a.alive m is named x).1 (reach_bind (Edge (begun m)) (Edge (begun m)) (start m) (LeftStart w.rows mid g m)
          x (λ y z e. e) (λ y s. (a.alive m is named y).0 s) r),
    );
    young = a.young;
    clean = a.clean;
    free_heads = a.free_heads;
    limit = a.limit;
  }

  module _ (new : HeapView) (handles : FinMap nat_cmp Handle) (queues : Queues)
      (k : HasMarkedKept w (LeftStart w.rows mid g) new handles queues g) where
    -- for one machine
    module _ (m : Machine) (is : IsWorldOf w m) (named : IsPlaceNamed m) where
      abbrev edge : ℕ → ℕ → Type 0
      edge = Edge (begun m)

      abbrev left : ℕ → Type 0
      left = LeftStart w.rows mid g m

      go : LeavesKept (begun m) left k.first (is_left_name w.rows new g) (objects_in w.rows new) handles queues
      go = k.leaves m is named

      leaves-on : LeavesKept (begun m) (start m) k.first (is_left_name w.rows new g) (objects_in w.rows new) handles
          queues
      leaves-on = record {
        tests = record {
          first_is = λ x. (
            λ e. reach_bind edge edge (start m) left x (λ y z e. e) (λ y s. (a.alive m is named y).0 s)
                ((go.tests.first_is x).0 e),
            λ r. (go.tests.first_is x).1 (starts ((a.alive m is named x).1 r)),
          );
          kept_is = λ x.
              let both =
              reach_again edge edge (start m) left (λ y. IsIn y (woken (begun m) k.first)) (λ y z e. e)
              (a.alive m is named) x in (
                λ e. both.0 ((go.tests.kept_is x).0 e),
                λ r. (go.tests.kept_is x).1 (both.1 r),
              );
        };
        objects = go.objects;
        handles = go.handles;
        entries = go.entries;
        ready = go.ready;
      }

    kept_from : HasMarkedKept w start new handles queues g
    kept_from = record {
      heap = k.heap;
      held = k.held;
      layout = k.layout;
      no_contexts = k.no_contexts;
      first = k.first;
      leaves = leaves-on;
      marks = k.marks;
      young = k.young;
      clean = k.clean;
      free_heads = k.free_heads;
      limit = k.limit;
    }

-- WHAT IS KEPT, where the marking went on from what is alive
pub kept_on : {start : Machine → ℕ → Type 0} (w : World) (mid new : HeapView) (handles : FinMap nat_cmp Handle)
    (queues : Queues) (g oldest : ℕ) → oldest ≡ g → HasMarkedAlive w start mid g
    → (HasMarkedAlive w (LeftStart w.rows mid oldest) mid oldest
    → HasMarkedKept w (LeftStart w.rows mid oldest) new handles queues oldest)
    → HasMarkedKept w start new handles queues g
kept_on w mid new handles queues g oldest same a goes_on =
    kept_from w mid g a new handles queues
    (subst (λ (n : ℕ). HasMarkedAlive w (LeftStart w.rows mid n) mid n
    → HasMarkedKept w (LeftStart w.rows mid n) new handles queues n) same goes_on (left_alive w mid g a))
