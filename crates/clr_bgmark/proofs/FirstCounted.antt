-- The first pause counts what it makes gray.
use Rattle.std.proofs.Common.{◌≡◌, ◌≢◌, ℕ, zero, suc, ◌%◌, ◌<◌, ◌≤◌, ◌^◌, inl, inr, List, length, get_or, ap, arith}
use Rattle.std.proofs.Common.{refl, sym}
use Rattle.std.proofs.Common.{subst, ◌∙◌, Bool, true, false, if◌then◌else◌, ◌&&◌, not, Option, Some, None}
use Rattle.std.specs.FinMap as finmap
use Rattle.std.specs.Ordering.{nat_cmp}
use Rattle.clr_types.specs.Kinds.{is_root_kind}
use Rattle.clr_types.specs.Types.{TypeRow}
use Rattle.clr_types.specs.declared.handle.Handle.{Handle}
use Rattle.clr_heap.specs.View.{heap_items, HeapView, IsHeap}
use Rattle.clr_view.specs.SlotValues.{StandsAt}
use Rattle.clr_view.specs.View.{IsHeld, objects_in}
use Rattle.clr_view.specs.World.{HandlesStand}
use Rattle.clr_view.proofs.Headers.{header-high}
use Rattle.clr_mark.specs.Roots.{IsRoot}
use Rattle.clr_mark.proofs.Rooting.{at_in}
use Rattle.clr_sweep.specs.declared.behind.Front.{Front}
use Rattle.clr_bgmark.specs.Pauses.{root_grayed, roots_grayed, target_grayed, targets_grayed}
use Rattle.clr_bgmark.specs.Scanning.{is_gray_place, IsCounted}
use Rattle.clr_bgmark.specs.Shades.{BackgroundView, colour_at, grayed, is_marked, is_scanned, is_white, PartView}
use Rattle.clr_bgmark.specs.Shades.{ShadeView}
use Rattle.clr_bgmark.proofs.Counted.{grayed_counted}
use Rattle.clr_bgmark.proofs.FirstColours.{first_objects, IsInFirstPause, roots_first, targets_first}
use Rattle.clr_bgmark.proofs.Meeting.{white_is, white_parts}
use Rattle.clr_bgmark.proofs.ScannedLists.{names, none_passes, stands_named}

module _ (rows : List TypeRow) (h : HeapView) (heap : IsHeap h) (held : IsHeld rows h) (bare : List ShadeView) where
  -- where nothing is marked, none is gray
  pub none_counted : (ss : List ShadeView) → ((b : ℕ) → is_marked ss b ≡ false)
      → (ps : List PartView) (fronts : List Front)
      → IsCounted (objects_in rows h)
      (record { running = true; shades = ss; gray = 0; parts = ps; fronts = fronts })
  none_counted ss unmarked ps fronts = sym (ap length (none_passes (is_gray_place ss) (names rows h heap held)
      (λ b. ap (λ (m : Bool). m && not (is_scanned ss b)) (unmarked b))))

  root_counted : (v : BackgroundView) (y : ℕ) → IsInFirstPause h (heap_items rows h) bare v.shades
      → (y ≢ 0 → StandsAt rows h y)
      → IsCounted (objects_in rows h) v → IsCounted (objects_in rows h) (root_grayed v y)
  root_counted v y f there k = go (is_white (colour_at v.shades y)) refl
    where
      some : is_white (colour_at v.shades y) ≡ true → y ≢ 0
      some e z =
          let even : y % 8 ≡ 0 = ap (λ (n : ℕ). n % 8) z in
          let stands : StandsAt rows h 0 = subst (StandsAt rows h) z
          ((first_objects rows h heap held bare v.shades f).taken y even
          (white_parts v.shades y (sym (white_is v.shades y) ∙ e)).taken) in
          let high = header-high rows h 0 heap held stands in
          absurd (omega (arith, high))

      go : (w : Bool) → is_white (colour_at v.shades y) ≡ w
          → IsCounted (objects_in rows h) (if w then grayed v y else v)
      go true e =
          grayed_counted rows h heap held v y f.shades k (stands_named rows h heap held y (there (some e)))
          (sym (white_is v.shades y) ∙ e)
      go false e = k

  pub roots_counted : (roots : List ℕ) → ((x : ℕ) → IsRoot roots x → StandsAt rows h x) → (n : ℕ) → n ≤ length roots
      → (v : BackgroundView) → IsInFirstPause h (heap_items rows h) bare v.shades → IsCounted (objects_in rows h) v
      → IsCounted (objects_in rows h) (roots_grayed roots n v)
  unfolding roots_grayed
  roots_counted roots stand zero l v f k = k
  roots_counted roots stand (suc n) l v f k =
      let y = get_or roots n 0 in
      root_counted (roots_grayed roots n v) y (roots_first h (heap_items rows h) bare roots n v f)
      (λ some. stand y (record { listed = at_in roots n 0 (omega (arith, l)); not_null = omega (arith, some) }))
      (roots_counted roots stand n (omega (arith, l)) v f k)

  target_counted : (handles : finmap.FinMap nat_cmp Handle) → HandlesStand rows h handles → (n : ℕ) (v : BackgroundView)
      → IsInFirstPause h (heap_items rows h) bare v.shades → IsCounted (objects_in rows h) v
      → IsCounted (objects_in rows h) (target_grayed (finmap.get handles n) v)
  target_counted handles stand n v f k = go (finmap.get handles n) refl
    where
      row_counted : (row : Handle) → finmap.get handles n ≡ Some row → (r : Bool)
          → IsCounted (objects_in rows h) (if r then root_grayed v row.target else v)
      row_counted row e true =
          root_counted v row.target f (λ some. elim (stand n row e).target [
            | inl null ↦ absurd (some null)
            | inr there ↦ there
          ]) k
      row_counted row e false = k

      go : (o : Option Handle) → finmap.get handles n ≡ o → IsCounted (objects_in rows h) (target_grayed o v)
      go None e = k
      go (Some row) e = row_counted row e (is_root_kind row.kind)

  pub targets_counted : (handles : finmap.FinMap nat_cmp Handle) → HandlesStand rows h handles → (n : ℕ)
      → (v : BackgroundView) → IsInFirstPause h (heap_items rows h) bare v.shades → IsCounted (objects_in rows h) v
      → IsCounted (objects_in rows h) (targets_grayed handles n v)
  unfolding targets_grayed
  targets_counted handles stand zero v f k = k
  targets_counted handles stand (suc n) v f k =
      target_counted handles stand n (targets_grayed handles n v)
      (targets_first h (heap_items rows h) bare handles n v f) (targets_counted handles stand n v f k)
