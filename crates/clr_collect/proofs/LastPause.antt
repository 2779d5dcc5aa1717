-- The whole last pause of a background collection: the parts make its end in every machine whose world it is.
use Rattle.std.proofs.Common.{◌≡◌, ℕ, ◌≤◌, inl, inr, refl, ap, sym, ◌∙◌, subst, arith, None, true, false}
use Rattle.std.specs.FinMap.{FinMap}
use Rattle.std.specs.Ordering.{nat_cmp}
use Rattle.clr_types.specs.declared.handle.Handle.{Handle}
use Rattle.clr_types.proofs.RisingLists.{all_at}
use Rattle.clr_final.specs.Queues.{Queues}
use Rattle.clr_heap.specs.View.{HeapView}
use Rattle.clr_model.specs.declared.Collected.{Collected}
use Rattle.clr_model.specs.declared.How.TheVariants.{Sweep}
use Rattle.clr_model.specs.Collection.{begun, EndsBackground}
use Rattle.clr_model.specs.Compaction.{moved_by}
use Rattle.clr_model.specs.Lawful.{IsPlaceNamed}
use Rattle.clr_model.specs.Lookups.{lowest_in_step}
use Rattle.clr_model.specs.Machine.{Machine, Marking, Object}
use Rattle.clr_model.specs.Picture.{picture}
use Rattle.clr_model.specs.Reach.{StartOf, StartOfBackground}
use Rattle.clr_model.proofs.BackgroundLawful.{background_stays_lawful}
use Rattle.clr_model.proofs.CollectedLawful.{plain_objects}
use Rattle.clr_model.proofs.CollectionKeeps.{last_pause_keeps}
use Rattle.clr_model.proofs.LawfulSurvivors.{generation-least}
use Rattle.clr_model.proofs.PlainCollections.{IsPlainlyCollected, plain_back, plain_from}
use Rattle.clr_model.proofs.SeenStands.{picture_still}
use Rattle.clr_view.specs.World.{IsWorldOf, World}
use Rattle.clr_sweep.specs.Swept.{HasSwept, tally_of}
use Rattle.clr_sweep.specs.declared.tally.Tally.{Tally}
use Rattle.clr_collect.specs.Collecting.{HasMarkedKept, LastPauseStart, world_with}
use Rattle.clr_collect.specs.Released.{HasReleased}
use Rattle.clr_collect.proofs.SweepCollects.{sweep_collects, told}
use Rattle.clr_collect.proofs.WholeCollection.{after, begun_laid, due_memory, left, older_kept, world-after}

-- ---- the machine

module _ (m : Machine) (marking : Marking) (answer : Collected) (new : Machine) where
  -- a sweep of all generations from this start, up to its end, is the end of the collection
  ends_from : IsPlainlyCollected (begun m) 2 Sweep true (StartOfBackground (begun m) marking) answer new
      → EndsBackground m marking answer new
  ends_from c =
      let back = plain_back (begun m) 2 Sweep true (StartOfBackground (begun m) marking) answer refl new c in
      record { collected = back.0; collects = back.1; ends = back.2 }

  -- it moves nothing, so objects that are named by their places still are
  ended_is_sound : IsPlaceNamed m → lowest_in_step m ≡ None → EndsBackground m marking answer new → IsPlaceNamed new
  ended_is_sound h idle c = record {
    lawful = background_stays_lawful m h.lawful idle marking answer new c;
    places =
        plain_objects m h.lawful idle 2 (omega arith) Sweep answer new plain covers
        (λ (o : Object). o.name ≡ o.place)
        (λ q i. all_at (λ (o : Object). o.name ≡ o.place) i h.places
        ∙ sym (ap (λ vs. moved_by vs q.place) plain.small_laid.0));
    uncounted = (last_pause_keeps m marking answer new c).born ∙ h.uncounted;
  }
    where
      plain : IsPlainlyCollected (begun m) 2 Sweep true (StartOfBackground (begun m) marking) answer new
      plain =
          plain_from (begun m) 2 Sweep true (StartOfBackground (begun m) marking) answer refl c.collected new
          c.collects c.ends

      -- no object is older than generation 2
      covers : (x : ℕ) → StartOf (begun m) 2 x → StartOfBackground (begun m) marking x
      covers x (inl root) = inl root
      covers x (inr old) =
          let above = old.above in
          let top = generation-least (begun m).layout old.object.place in
          absurd (omega (arith, above, top))

-- ---- the heap

-- The heap of a world before the last pause, and before its sweep, with what is kept marked; then when it was swept,
-- and when empty segments were given back.
module _ (w : World) (marking : Marking) (marked : HeapView) (handles : FinMap nat_cmp Handle) (queues : Queues)
    (least : 2 ≤ 2) (k : HasMarkedKept w (LastPauseStart marking) marked handles queues 2) (swept : HeapView)
    (s : HasSwept w.rows marked swept 2) (new : HeapView) (ended : HasReleased w.rows swept new) where
  -- THE END of the background collection, in every machine whose world it is
  pub last_pause_ends : (tally : Tally) → tally ≡ tally_of w.rows marked 2 → (answer : Collected)
      → answer ≡ record {
        generation = 2;
        compacted = false;
        fitted = false;
        background = true;
        kept = tally.kept;
        freed = tally.freed;
        promoted1 = tally.promoted1;
        promoted2 = tally.promoted2;
      }
      → (m : Machine) → IsWorldOf w m → IsPlaceNamed m → lowest_in_step m ≡ None
      → (next : Machine) × EndsBackground m marking answer next
      × IsWorldOf (world_with w.rows new w.locals handles queues) (picture next)
  last_pause_ends tally counted answer same m is named idle =
      let next : Machine = after w marked handles queues 2 least k swept s new ended m is named answer in
      let c : EndsBackground m marking answer next =
      ends_from m marking answer next
      (sweep_collects (begun m) (begun_laid w marked handles queues 2 least k m named) 2 least k.first
      (left w marked handles queues 2 least k) (older_kept w marked handles queues 2 least k m is named) w.rows marked
      (due_memory w marked handles queues 2 least k m is named) k.marks (StartOfBackground (begun m) marking)
      (k.leaves m is named).tests true answer
      (same
      ∙ ap (told (begun m) (begun_laid w marked handles queues 2 least k m named) 2 least k.first
      (left w marked handles queues 2 least k) (older_kept w marked handles queues 2 least k m is named) true)
      counted)) in
      let still = picture_still next (ended_is_sound m marking answer next named idle c) in (
        next,
        c,
        subst (IsWorldOf (world_with w.rows new w.locals handles queues)) (sym still)
            (world-after w marked handles queues 2 least k swept s new ended m is named answer),
      )
