-- A last pause that starts from what a marking found later keeps what it would have kept.
use Rattle.std.proofs.Common.{◌≡◌, ◌↔◌, ◌⊎◌, inl, inr, ℕ, List, subst, sym}
use Rattle.std.specs.FinMap.{FinMap}
use Rattle.std.specs.Ordering.{nat_cmp}
use Rattle.clr_types.specs.Rising.{IsIn}
use Rattle.clr_types.specs.declared.handle.Handle.{Handle}
use Rattle.clr_final.specs.Queues.{Queues}
use Rattle.clr_heap.specs.View.{HeapView, IsHeap}
use Rattle.clr_model.specs.Collection.{begun}
use Rattle.clr_model.specs.Lawful.{IsPlaceNamed}
use Rattle.clr_model.specs.Machine.{Machine, Object}
use Rattle.clr_model.specs.Reach.{Edge, follows, HeldBy, Reach, SecondOf, SlotNames, StartOfBackground, starts, woken}
use Rattle.clr_view.specs.Memory.{is_left_name}
use Rattle.clr_view.specs.View.{IsHeld, objects_in}
use Rattle.clr_view.specs.World.{IsWorldOf, World}
use Rattle.clr_mark.specs.Ties.{IsStart, Joins}
use Rattle.clr_mark.proofs.Graying.{reach_again, reach_bind}
use Rattle.clr_bgmark.specs.Pauses.{IsFound}
use Rattle.clr_bgmark.specs.Scanning.{AreObjects, marking_in}
use Rattle.clr_bgmark.specs.Shades.{ShadeView}
use Rattle.clr_bgmark.proofs.FoundMarked.{found_is_marked}
use Rattle.clr_generations.specs.declared.space.Space.{Space}
use Rattle.clr_sweep.specs.declared.tally.Tally.{Tally}
use Rattle.clr_collect.specs.Collecting.{HasMarkedKept, LastPauseStart, LeavesKept}
use Rattle.clr_collect.specs.Ending.{HasSweptRest}

-- where the same is reached from two starts, the same is kept
pub kept_again : (one two : Machine → ℕ → Type 0) (w : World) (new : HeapView) (handles : FinMap nat_cmp Handle)
    (queues : Queues) (g : ℕ)
    → ((m : Machine) → IsWorldOf w m → IsPlaceNamed m → (x : ℕ)
    → Reach (Edge (begun m)) (one m) x ↔ Reach (Edge (begun m)) (two m) x)
    → HasMarkedKept w one new handles queues g → HasMarkedKept w two new handles queues g
kept_again one two w new handles queues g same k = record {
  heap = k.heap;
  held = k.held;
  layout = k.layout;
  no_contexts = k.no_contexts;
  first = k.first;
  leaves = leaves;
  marks = k.marks;
  young = k.young;
  clean = k.clean;
  free_heads = k.free_heads;
  limit = k.limit;
}
  where
    leaves : (m : Machine) → IsWorldOf w m → IsPlaceNamed m
        → LeavesKept (begun m) (two m) k.first (is_left_name w.rows new g) (objects_in w.rows new) handles queues
    leaves m is named =
        let go = k.leaves m is named in
        let edge = Edge (begun m) in
        let more : ℕ → Type 0 = (λ y. IsIn y (woken (begun m) k.first)) in
        record {
          tests = record {
            first_is = λ x. (
              λ e. (same m is named x).0 ((go.tests.first_is x).0 e),
              λ r. (go.tests.first_is x).1 ((same m is named x).1 r),
            );
            kept_is = λ x.
                let from = reach_again edge edge (one m) (Reach edge (one m)) more (λ y z e. e)
                (λ y. (λ r. r, λ r. r)) x in
                let to = reach_again edge edge (two m) (Reach edge (one m)) more (λ y z e. e) (same m is named) x in (
                  λ e. to.0 (from.1 ((go.tests.kept_is x).0 e)),
                  λ r. (go.tests.kept_is x).1 (from.0 (to.1 r)),
                );
          };
          objects = go.objects;
          handles = go.handles;
          entries = go.entries;
          ready = go.ready;
        }

-- ---- the last pause

module _ (w : World) (heap : IsHeap w.heap) (held : IsHeld w.rows w.heap) (ss fs : List ShadeView)
    (known : AreObjects w.rows w.heap ss) (later : AreObjects w.rows w.heap fs)
    (kept : (x : ℕ) → IsFound ss x → IsFound fs x)
    (reached : (x : ℕ) → IsFound fs x
    → Reach (Joins w.rows w.heap w.handles) (λ y. IsStart w.handles w.locals w.ready y ⊎ IsFound ss y) x) where
  module _ (m : Machine) (is : IsWorldOf w m) where
    abbrev edge : ℕ → ℕ → Type 0
    edge = Edge (begun m)

    abbrev now : ℕ → Type 0
    now = StartOfBackground (begun m) (marking_in (objects_in w.rows w.heap) fs)

    abbrev was : ℕ → Type 0
    was = StartOfBackground (begun m) (marking_in (objects_in w.rows w.heap) ss)

    edge_here : (x y : ℕ) → Joins w.rows w.heap w.handles x y → edge x y
    edge_here x y (inl e) = inl (subst (λ (os : List Object). SlotNames os x y) (sym is.memory.objects) e)
    edge_here x y (inr e) = inr (subst (λ (hs : FinMap nat_cmp Handle). SecondOf hs x y) (sym is.handles) e)

    start_here : (x : ℕ) → IsStart w.handles w.locals w.ready x ⊎ IsFound ss x → was x
    start_here x (inl (inl (inl r))) =
        inl (r.not_null, inl (inl (subst (λ (ls : List ℕ). IsIn x ls) (sym is.locals) r.listed)))
    start_here x (inl (inl (inr r))) =
        inl (r.not_null, inr (subst (λ (ls : List ℕ). IsIn x ls) (sym is.ready) r.listed))
    start_here x (inl (inr t)) =
        inl (t.not_null, inl (inr (subst (λ (hs : FinMap nat_cmp Handle). HeldBy hs x) (sym is.handles) t.held)))
    start_here x (inr found) = inr ((found_is_marked w.rows w.heap heap held ss known x).0 found)

    reach_here : (x : ℕ)
        → Reach (Joins w.rows w.heap w.handles) (λ y. IsStart w.handles w.locals w.ready y ⊎ IsFound ss y) x
        → Reach edge was x
    reach_here x (starts s) = starts (start_here x s)
    reach_here x (follows {x = z} r e) = follows (reach_here z r) (edge_here z x e)

    begins : (x : ℕ) → now x → Reach edge was x
    begins x (inl root) = starts (inl root)
    begins x (inr marked) =
        reach_here x (reached x ((found_is_marked w.rows w.heap heap held fs later x).1 marked))

    began : (x : ℕ) → was x → Reach edge now x
    began x (inl root) = starts (inl root)
    began x (inr marked) =
        starts (inr ((found_is_marked w.rows w.heap heap held fs later x).0
        (kept x ((found_is_marked w.rows w.heap heap held ss known x).1 marked))))

    same_reach : (x : ℕ) → Reach edge now x ↔ Reach edge was x
    same_reach x = (
      reach_bind edge edge was now x (λ y z e. e) begins,
      reach_bind edge edge now was x (λ y z e. e) began,
    )

  -- what is swept then is what would have been
  pub swept_again : (old new : Space) (handles : FinMap nat_cmp Handle) (queues : Queues) (tally : Tally)
      → HasSweptRest w (marking_in (objects_in w.rows w.heap) fs) old new handles queues tally
      → HasSweptRest w (marking_in (objects_in w.rows w.heap) ss) old new handles queues tally
  swept_again old new handles queues tally e = record {
    marked = e.marked;
    kept = kept_again (LastPauseStart (marking_in (objects_in w.rows w.heap) fs))
        (LastPauseStart (marking_in (objects_in w.rows w.heap) ss)) w e.marked handles queues 2
        (λ m is named. same_reach m is) e.kept;
    swept = e.swept;
    counted = e.counted;
    tidy = e.tidy;
  }
