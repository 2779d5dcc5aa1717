-- Handles that are cleared by a test of what is left.
use Rattle.std.proofs.Common.{◌≡◌, inl, inr, ℕ, ◌<◌, ◌≤◌, ◌==◌, ◌&&◌, ◌||◌, Bool, true, false, not, List, if◌then◌else◌}
use Rattle.std.proofs.Common.{nat_lt, refl, ap, sym, ◌∙◌, Option, Some, None, arith}
use Rattle.std.specs.Option.{option_map}
use Rattle.std.specs.FinMap as finmap
use Rattle.std.specs.FinMap.{FinMap}
use Rattle.std.specs.Ordering.{nat_cmp}
use Rattle.std.proofs.lemmas.Bool.{eq-eqb, le-ltb, lt-ltb, ltb-true}
use Rattle.clr_types.specs.Maps.{map_values}
use Rattle.clr_types.specs.Types.{TypeRow}
use Rattle.clr_types.specs.declared.handle.Handle.{Handle}
use Rattle.clr_types.specs.declared.handle.Kind.{Kind}
use Rattle.clr_types.proofs.MapValues.{get-map_values, map_values-same}
use Rattle.clr_handles.specs.Changes.{EachBecomes}
use Rattle.clr_handles.specs.Laws.{cleared, is_kind}
use Rattle.clr_handles.specs.Places.{IsCleared, nulled}
use Rattle.clr_handles.proofs.MapLaws.{cleared-is_map}
use Rattle.clr_heap.specs.View.{HeapView}
use Rattle.clr_view.specs.Memory.{is_left_name}
use Rattle.clr_view.specs.SlotValues.{StandsAt}
use Rattle.clr_view.specs.World.{HandlesStand, HandleStands, IsNullOrStands}
use Rattle.clr_mark.specs.Marks.{is_condemned_place}
use Rattle.clr_collect.proofs.LeftBelow.{left_below}

module _ (rows : List TypeRow) (h : HeapView) (low : ℕ) (left : ℕ → Bool)
    (below : (x : ℕ) → x < low → StandsAt rows h x → left x ≡ true) where
  -- what lies below passes, whatever stands there
  abbrev settled : ℕ → Bool
  settled x = nat_lt x low || left x

  or-first : (a b : Bool) → a ≡ true → (a || b) ≡ true
  or-first true b e = refl
  or-first false b e = absurd cc

  either : (a b : Bool) → (a ≡ true → b ≡ true) → (a || b) ≡ b
  either true b both = sym (both refl)
  either false b both = refl

  -- at what handles name both tests are one
  alike : (x : ℕ) → IsNullOrStands rows h x → (not (x == 0) && settled x) ≡ (not (x == 0) && left x)
  alike x (inl null) = ap (λ (b : Bool). not b && settled x) (eq-eqb x 0 null)
      ∙ ap (λ (b : Bool). not b && left x) (sym (eq-eqb x 0 null))
  alike x (inr stands) = ap (λ (b : Bool). not (x == 0) && b)
      (either (nat_lt x low) (left x) (λ e. below x (ltb-true x low e) stands))

  module _ (kind : Kind) (handles : FinMap nat_cmp Handle) (stand : HandlesStand rows h handles) where
    one-test : map_values (cleared kind settled) handles ≡ map_values (cleared kind left) handles
    one-test = map_values-same _ _ (λ k.
        get-map_values (cleared kind settled) handles k
        ∙ each (finmap.get handles k) (λ row found. (stand k row found).target)
        ∙ sym (get-map_values (cleared kind left) handles k))
      where
        each : (found : Option Handle) → ((row : Handle) → found ≡ Some row → IsNullOrStands rows h row.target)
            → option_map (cleared kind settled) found ≡ option_map (cleared kind left) found
        each None stands = refl
        each (Some row) stands = ap (λ (b : Bool). Some (if is_kind row.kind kind && not b then nulled row else row))
            (alike row.target (stands row refl))

    -- HANDLES are cleared by what is left, where that is what was answered
    cleared_by : (answers : ℕ → Bool → Type 0) (new : FinMap nat_cmp Handle)
        → EachBecomes (IsCleared kind answers low) handles new
        → ((x : ℕ) (kept : Bool) → answers x kept → kept ≡ left x) → new ≡ map_values (cleared kind left) handles
    cleared_by answers new each told =
        cleared-is_map kind answers low settled handles new each
        (λ k row kept found same high answer.
        told row.target kept answer ∙ sym (high-alike row.target high))
        (λ place some under. or-first (nat_lt place low) (left place) (lt-ltb place low under))
        ∙ one-test
      where
        high-alike : (x : ℕ) → low ≤ x → settled x ≡ left x
        high-alike x high = ap (λ (b : Bool). b || left x) (le-ltb x low high)

-- what a handle names, where that isn't null
pub target_stands : (rows : List TypeRow) (h : HeapView) (row : Handle) → 0 < row.target → HandleStands rows h row
    → StandsAt rows h row.target
target_stands rows h row some s = elim s.target [
  | inl null ↦ absurd (omega (arith, some, null))
  | inr stands ↦ stands
]

module _ (rows : List TypeRow) (h : HeapView) (g low : ℕ)
    (lowest : (x : ℕ) → is_condemned_place h g x ≡ true → low ≤ x) where
  -- HANDLES are cleared by what a collection leaves
  pub cleared_left : (kind : Kind) (handles : FinMap nat_cmp Handle) → HandlesStand rows h handles
      → (answers : ℕ → Bool → Type 0) (new : FinMap nat_cmp Handle)
      → EachBecomes (IsCleared kind answers low) handles new
      → ((x : ℕ) (kept : Bool) → answers x kept → kept ≡ is_left_name rows h g x)
      → new ≡ map_values (cleared kind (is_left_name rows h g)) handles
  cleared_left = cleared_by rows h low (is_left_name rows h g) (left_below rows h g low lowest)
