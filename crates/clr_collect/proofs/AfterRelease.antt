-- What holds of a heap still holds when segments in which nothing stands were given back.
use Rattle.std.proofs.Common.{◌≡◌, ℕ, ◌==◌, Bool, true, false, List, if◌then◌else◌, refl, ap}
use Rattle.std.proofs.Common.{sym}
use Rattle.std.proofs.Common.{◌∙◌, subst, count_by}
use Rattle.std.specs.Prelude.{MatchBool}
use Rattle.std.specs.FinMap as finmap
use Rattle.std.specs.FinMap.{FinMap}
use Rattle.std.specs.Ordering.{nat_cmp}
use Rattle.clr_types.specs.Kinds.{is_pinned_kind}
use Rattle.clr_types.specs.Maps.{map_values}
use Rattle.clr_types.specs.Types.{TypeRow}
use Rattle.clr_types.specs.declared.handle.Handle.{Handle}
use Rattle.clr_types.specs.declared.handle.Kind.{Kind}
use Rattle.clr_types.specs.declared.handle.Kind.TheVariants.{Dependent, Pinned, Strong, Weak, WeakLong}
use Rattle.clr_types.proofs.MapValues.{values-map_values}
use Rattle.clr_handles.specs.Tops.{pinned_in}
use Rattle.clr_heap.specs.View.{HeapView, IsHeap}
use Rattle.clr_model.specs.Collection.{row_after, row_of_kind}
use Rattle.clr_view.specs.Clean.{AreClean}
use Rattle.clr_view.specs.Marks.{IsUnmarked}
use Rattle.clr_view.specs.View.{AreFreeHeads, IsHeld}
use Rattle.clr_collect.specs.Released.{HasLost, HasReleased}
use Rattle.clr_collect.proofs.SweepCollects.{count-map, count-on}
use Rattle.clr_generations.proofs.KeptItems.{kept_clean, kept_heads, kept_unmarked, KeepsItems}
use Rattle.clr_collect.proofs.SegmentsLost.{lost-refl, lost_kept}

module _ (rows : List TypeRow) (gone : HeapView) (gone_heap : IsHeap gone) (gone_held : IsHeld rows gone)
    (new : HeapView) (g : ℕ) (ended : MatchBool (g == 2) (HasReleased rows gone new) (new ≡ gone)) where
  -- whether or not segments were given back, all items stay
  pub lost : HasLost rows gone new
  lost = go (g == 2) ended
    where
      go : (b : Bool) → MatchBool b (HasReleased rows gone new) (new ≡ gone) → HasLost rows gone new
      go true r = r.lost
      go false same = subst (HasLost rows gone) (sym same) (lost-refl rows gone gone_heap gone_held)

  kept : KeepsItems rows gone new
  kept = lost_kept rows gone new lost

  pub unmarked_still : IsUnmarked rows gone → IsUnmarked rows new
  unmarked_still = kept_unmarked rows gone new gone_heap gone_held kept

  pub heads_still : AreFreeHeads rows gone → AreFreeHeads rows new
  heads_still = kept_heads rows gone new gone_heap gone_held kept

  pub clean_still : AreClean rows gone → AreClean rows new
  clean_still = kept_clean rows gone new gone_heap gone_held kept

-- ---- handles

-- as many handles are pinned as before
module _ (first kept : ℕ → Bool) where
  kind-after : (row : Handle) → (row_after first kept row).kind ≡ row.kind
  kind-after row = go row.kind
    where
      go : (kind : Kind) → (row_of_kind first kept kind row).kind ≡ row.kind
      go Strong = refl
      go Pinned = refl
      go Weak = refl
      go WeakLong = refl
      go Dependent = dependent (kept row.target)
        where
          dependent : (b : Bool) → (if b then row else record row { target = 0; second = 0 }).kind ≡ row.kind
          dependent true = refl
          dependent false = refl

  pub pinned-after : (table : FinMap nat_cmp Handle) → pinned_in (map_values (row_after first kept) table)
      ≡ pinned_in table
  pinned-after table =
      ap (count_by (λ (row : Handle). is_pinned_kind row.kind)) (values-map_values (row_after first kept) table)
      ∙ count-map (row_after first kept) (λ row. is_pinned_kind row.kind) (finmap.values table)
      ∙ count-on (λ row. is_pinned_kind (row_after first kept row).kind) (λ row. is_pinned_kind row.kind)
      (finmap.values table) (λ row i. ap is_pinned_kind (kind-after row))
