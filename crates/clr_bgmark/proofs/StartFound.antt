-- What an end by bits alone starts at becomes gray, where it is white.
use Rattle.std.proofs.Common.{◌≡◌, ◌≢◌, ℕ, zero, suc, ◌<◌, ◌≤◌, inl, inr, List, length, get_or, refl, arith, Bool}
use Rattle.std.proofs.Common.{true, false, if◌then◌else◌, Option, Some, None}
use Rattle.std.specs.List.{AllByRecursion}
use Rattle.std.specs.FinMap as finmap
use Rattle.std.specs.Ordering.{nat_cmp}
use Rattle.clr_types.specs.Kinds.{is_root_kind}
use Rattle.clr_types.specs.Types.{TypeRow}
use Rattle.clr_types.specs.declared.handle.Handle.{Handle}
use Rattle.clr_heap.specs.View.{HeapView, IsHeap}
use Rattle.clr_view.specs.View.{IsHeld}
use Rattle.clr_view.specs.World.{HandlesStand}
use Rattle.clr_mark.specs.Roots.{AreObjects, IsRoot}
use Rattle.clr_mark.specs.Ties.{IsStart, IsTarget}
use Rattle.clr_mark.proofs.Rooting.{at_in}
use Rattle.clr_bgmark.specs.Closing.{IsAtWork}
use Rattle.clr_bgmark.specs.Pauses.{root_grayed, roots_grayed, target_grayed, targets_grayed}
use Rattle.clr_bgmark.specs.Shades.{BackgroundView, IsShade}
use Rattle.clr_bgmark.proofs.FoundMore.{goes_after, goes_none, GoesOn, root_on}

positive : (b : ℕ) → b ≢ 0 → 0 < b
positive zero some = absurd (some refl)
positive (suc b) some = omega arith

module _ (rows : List TypeRow) (h : HeapView) (heap : IsHeap h) (held : IsHeld rows h) where
  pub roots_on : (roots : List ℕ) → AreObjects rows h roots → (n : ℕ) → n ≤ length roots → (v : BackgroundView)
      → AllByRecursion IsShade v.shades → IsAtWork rows h v
      → GoesOn rows h (IsRoot roots) v (roots_grayed roots n v)
  unfolding roots_grayed
  roots_on roots stand zero l v all work = goes_none rows h (IsRoot roots) v all work
  roots_on roots stand (suc n) l v all work =
      let y = get_or roots n 0 in
      let mid = roots_grayed roots n v in
      let before = roots_on roots stand n (omega (arith, l)) v all work in
      let root : y ≢ 0 → IsRoot roots y =
      λ some. record { listed = at_in roots n 0 (omega (arith, l)); not_null = positive y some } in
      goes_after rows h (IsRoot roots) (IsRoot roots) (IsRoot roots) v mid (root_grayed mid y) before
      (root_on rows h heap held (IsRoot roots) mid y before.shades before.work (λ some. stand y (root some)) root)
      (λ x r. r) (λ x r. r)

  pub target_on : (handles : finmap.FinMap nat_cmp Handle) → HandlesStand rows h handles → (n : ℕ) (v : BackgroundView)
      → AllByRecursion IsShade v.shades → IsAtWork rows h v
      → GoesOn rows h (IsTarget handles) v (target_grayed (finmap.get handles n) v)
  target_on handles stand n v all work = go (finmap.get handles n) refl
    where
      row_on : (row : Handle) → finmap.get handles n ≡ Some row → (r : Bool) → is_root_kind row.kind ≡ r
          → GoesOn rows h (IsTarget handles) v (if r then root_grayed v row.target else v)
      row_on row e false k = goes_none rows h (IsTarget handles) v all work
      row_on row e true k =
          root_on rows h heap held (IsTarget handles) v row.target all work
          (λ some. elim (stand n row e).target [ inl null ↦ absurd (some null) | inr there ↦ there ])
          (λ some. record {
            held = record { handle = n; row = row; in_use = e; holds = k; target = refl };
            not_null = positive row.target some;
          })

      go : (o : Option Handle) → finmap.get handles n ≡ o
          → GoesOn rows h (IsTarget handles) v (target_grayed o v)
      go None e = goes_none rows h (IsTarget handles) v all work
      go (Some row) e = row_on row e (is_root_kind row.kind) refl

  pub targets_on : (handles : finmap.FinMap nat_cmp Handle) → HandlesStand rows h handles → (n : ℕ)
      → (v : BackgroundView) → AllByRecursion IsShade v.shades → IsAtWork rows h v
      → GoesOn rows h (IsTarget handles) v (targets_grayed handles n v)
  unfolding targets_grayed
  targets_on handles stand zero v all work = goes_none rows h (IsTarget handles) v all work
  targets_on handles stand (suc n) v all work =
      let mid = targets_grayed handles n v in
      let before = targets_on handles stand n v all work in
      goes_after rows h (IsTarget handles) (IsTarget handles) (IsTarget handles) v mid
      (target_grayed (finmap.get handles n) mid) before
      (target_on handles stand n mid before.shades before.work) (λ x t. t) (λ x t. t)

  -- locals, the queue, and targets, of which there are fewer than `last`
  pub start_on : (handles : finmap.FinMap nat_cmp Handle) → HandlesStand rows h handles → (locals ready : List ℕ)
      → AreObjects rows h locals → AreObjects rows h ready → (last : ℕ) (v : BackgroundView)
      → AllByRecursion IsShade v.shades → IsAtWork rows h v
      → GoesOn rows h (IsStart handles locals ready) v
      (targets_grayed handles last (roots_grayed ready (length ready) (roots_grayed locals (length locals) v)))
  start_on handles stand locals ready some_locals some_ready last v all work =
      let start = IsStart handles locals ready in
      let a = roots_grayed locals (length locals) v in
      let b = roots_grayed ready (length ready) a in
      let one = roots_on locals some_locals (length locals) (omega arith) v all work in
      let two = roots_on ready some_ready (length ready) (omega arith) a one.shades one.work in
      let three = targets_on handles stand last b two.shades two.work in
      goes_after rows h start (IsTarget handles) start v b (targets_grayed handles last b)
      (goes_after rows h (IsRoot locals) (IsRoot ready) start v a b one two (λ x r. inl (inl r)) (λ x r. inl (inr r)))
      three (λ x s. s) (λ x t. inr t)
