-- Bricks obey their law where all items stay, whatever their words say.
use Rattle.std.proofs.Common.{◌≡◌, ℕ, ℤ, List, filter, refl, ap, sym, subst}
use Rattle.clr_types.specs.Rising.{IsIn}
use Rattle.clr_types.specs.Segments.{Layout}
use Rattle.clr_types.specs.Types.{form_at, TypeRow}
use Rattle.clr_types.specs.declared.item.Item.{Item}
use Rattle.clr_types.proofs.ChangedLists.{IsIn-map}
use Rattle.clr_generations.specs.Laws.{BrickLaw}
use Rattle.clr_generations.proofs.KeptLaws.{brick_law-kept, HasSamePlaces}
use Rattle.clr_generations.proofs.SameBounds.{HasSameBounds}
use Rattle.clr_heap.specs.View.{frame, heap_items, HeapView, SameShape, word_of}
use Rattle.clr_mark.proofs.Remarking.{same_frame}
use Rattle.clr_model.specs.Machine.{Object}
use Rattle.clr_view.specs.View.{is_object, object_in, objects_in}
use Rattle.clr_view.proofs.ObjectItems.{in_map}
use Rattle.clr_view.proofs.Unmarked.{stands-kept}

module _ (rows : List TypeRow) (old new : HeapView) (shape : SameShape old new)
    (items : heap_items rows new ≡ heap_items rows old) where
  -- objects of the same types and lengths stand at the same places
  places_kept : HasSamePlaces rows rows (objects_in rows old) (objects_in rows new)
  places_kept = record {
    were = λ o l.
        let (i, passed, is) =
        in_map (object_in rows (word_of new)) o (filter is_object (heap_items rows new)) l in
        record {
          object = object_in rows (word_of old) i;
          present = IsIn-map (object_in rows (word_of old))
              (subst (λ (js : List Item). IsIn i (filter is_object js)) items passed);
          name = ap (λ (p : Object). p.name) (sym is);
          place = ap (λ (p : Object). p.place) (sym is);
          form = ap (λ (p : Object). form_at rows p.type) (sym is);
          len = ap (λ (p : Object). p.len) (sym is);
        };
    stay = λ place s. stands-kept rows old new items place s;
  }

  bounds_kept : HasSameBounds (frame old) (frame new)
  bounds_kept = subst (λ (l : Layout). HasSameBounds (frame old) l) (sym (same_frame old new shape))
      (record { segments = refl; start1 = refl; start0 = refl })

  pub bricks_kept : (entry : ℕ → ℤ) → BrickLaw rows (frame old) (objects_in rows old) entry
      → BrickLaw rows (frame new) (objects_in rows new) entry
  bricks_kept = brick_law-kept rows rows (frame old) (frame new) (objects_in rows old) (objects_in rows new) bounds_kept
      places_kept
