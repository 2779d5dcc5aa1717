-- The targets of strong and pinned handles as roots of a marking.
use Rattle.std.proofs.Common.{◌≡◌, ◌⊎◌, ◌↔◌, inl, inr, ℕ, ◌<◌, ◌≤◌, true, false, List, Some, IsTrue, refl, ap, sym, ◌∙◌}
use Rattle.std.proofs.Common.{subst, arith}
use Rattle.std.specs.FinMap as finmap
use Rattle.std.proofs.lemmas.Bool.{and_cases, and_parts, both_ways, eqb-false, leb-false, not-false, not-true}
use Rattle.std.proofs.lemmas.Bool.{eqb-true, or_parts, true≢false}
use Rattle.std.proofs.lemmas.Option.{same_Some}
use Rattle.clr_types.specs.Types.{TypeRow}
use Rattle.clr_types.specs.declared.handle.Handle.{Handle}
use Rattle.clr_heap.specs.View.{HeapView}
use Rattle.clr_handles.specs.Places.{names_from}
use Rattle.clr_handles.specs.Tables.{Table}
use Rattle.clr_handles.specs.Tops.{HasNone}
use Rattle.clr_types.specs.Kinds.{is_root_kind}
use Rattle.clr_types.specs.declared.handle.Kind.{Kind}
use Rattle.clr_types.specs.declared.handle.Kind.TheVariants.{Dependent, Pinned, Strong, Weak, WeakLong}
use Rattle.clr_model.specs.Reach.{HeldBy, Reach}
use Rattle.clr_view.specs.Marks.{Marked}
use Rattle.clr_view.specs.SlotValues.{StandsAt}
use Rattle.clr_view.specs.World.{HandlesStand}
use Rattle.clr_mark.specs.declared.marker.ahead.Ahead.{Ahead}
use Rattle.clr_mark.specs.HandlePasses.{AllArePassed, HasTaken, IsBehind}
use Rattle.clr_mark.specs.Marks.{is_condemned_place, LeadsTo}
use Rattle.clr_mark.specs.Ties.{is_root_handle, IsCondemnedTarget, IsTarget}
use Rattle.clr_mark.proofs.ReachParts.{iff_refl, iff_trans, reach_iff}

-- the handle of a number is one
pub same_row : (handles : Table) (j k : ℕ) (row other : Handle) → finmap.get handles j ≡ Some row
    → finmap.get handles k ≡ Some other → j ≡ k → row ≡ other
same_row handles j k row other e f same = same_Some row other (sym e ∙ ap (finmap.get handles) same ∙ f)

-- a strong or pinned handle with this target was passed
pub record IsVisited (handles : Table) (ahead : Ahead) (y : ℕ) : Type 0 where
  pub number : ℕ
  pub row : Handle
  pub in_use : finmap.get handles number ≡ Some row
  pub holds : IsTrue (is_root_kind row.kind)
  pub target : row.target ≡ y
  pub behind : IsBehind ahead number

-- a handle that names no place from `low` on has no target that is condemned
pub names_below : (low : ℕ) (row : Handle) → names_from low row ≡ false → (row.target < low) × (row.second < low)
names_below low row e =
    let parts = or_parts _ _ e in
    (leb-false low row.target parts.0, leb-false low row.second parts.1)

module _ (h : HeapView) (handles : Table) (g low : ℕ)
    (lowest : (x : ℕ) → is_condemned_place h g x ≡ true → low ≤ x) where
  -- a target that was visited with the next handle was visited before, or is that handle's
  pub target_visits : (old new : Ahead) (row : Handle) → HasTaken handles low old new row → (y : ℕ)
      → IsCondemnedTarget handles h g y → IsVisited handles new y
      → IsVisited handles old y ⊎ (IsTrue (is_root_kind row.kind) × (row.target ≡ y))
  target_visits old new row t y start v = elim (t.passed v.number v.row v.in_use v.behind) [
    | inl same ↦
        let is = same_row handles v.number t.number v.row row v.in_use t.in_use same in
        let P : Handle → Type 0 = λ r. IsTrue (is_root_kind r.kind) × (r.target ≡ y) in
        inr (subst P is (v.holds, v.target))
    | inr passed ↦ elim passed [
      | inl before ↦ inl (record {
        number = v.number;
        row = v.row;
        in_use = v.in_use;
        holds = v.holds;
        target = v.target;
        behind = before;
      })
      | inr far ↦
          let below = (names_below low v.row far).0 in
          let least = lowest y start.condemned in
          let at = v.target in
          absurd (omega arith)
    ]
  ]

  -- in the end all were visited
  pub target_all_visited : (ahead : Ahead) → AllArePassed handles low ahead → (y : ℕ) → IsCondemnedTarget handles h g y
      → IsVisited handles ahead y
  target_all_visited ahead all y start =
      let held = start.target.held in
      elim (all held.handle held.row held.in_use) [
        | inl behind ↦ record {
          number = held.handle;
          row = held.row;
          in_use = held.in_use;
          holds = held.holds;
          target = held.target;
          behind = behind;
        }
        | inr far ↦
            let below = (names_below low held.row far).0 in
            let least = lowest y start.condemned in
            let at = held.target in
            absurd (omega arith)
      ]

-- a root handle's target is one, and stands
pub root_target : (handles : Table) (k : ℕ) (row : Handle) → finmap.get handles k ≡ Some row
    → is_root_handle row ≡ true → IsTarget handles row.target
root_target handles k row e root =
    let parts = and_parts (is_root_kind row.kind) _ root in
    let some = eqb-false row.target 0 (not-true _ parts.1) in
    record {
      held = record { handle = k; row = row; in_use = e; holds = parts.0; target = refl };
      not_null = omega (arith, some);
    }

pub target_stands : (rows : List TypeRow) (h : HeapView) (handles : Table) → HandlesStand rows h handles → (x : ℕ)
    → IsTarget handles x → StandsAt rows h x
target_stands rows h handles stand x t =
    let held = t.held in
    let at = held.target in
    elim (stand held.handle held.row held.in_use).target [
      | inl null ↦ let some = t.not_null in absurd (omega arith)
      | inr stands ↦ subst (StandsAt rows h) at stands
    ]

-- another handle has no target that is a root
pub no_root_target : (row : Handle) (y : ℕ) → is_root_handle row ≡ false → IsTrue (is_root_kind row.kind)
    → row.target ≡ y → 0 < y → ⊥
no_root_target row y none holds at some = elim (and_cases (is_root_kind row.kind) _ none) [
  | inl other ↦ both_ways _ other holds
  | inr null ↦ let zero = eqb-true row.target 0 (not-false _ null) in omega arith
]

-- where there is neither a strong nor a pinned handle, none holds anything
pub none_held : (handles : Table) → HasNone Strong handles → HasNone Pinned handles → (x : ℕ) → HeldBy handles x → ⊥
none_held handles no_strong no_pinned x held = go held.row.kind refl held.holds
  where
    go : (k : Kind) → held.row.kind ≡ k → IsTrue (is_root_kind k) → ⊥
    go Strong is holds = no_strong held.handle held.row held.in_use is
    go Pinned is holds = no_pinned held.handle held.row held.in_use is
    go Weak is holds = absurd (true≢false (sym holds))
    go WeakLong is holds = absurd (true≢false (sym holds))
    go Dependent is holds = absurd (true≢false (sym holds))

-- and handles add nothing to what is reached
pub none_added : (rows : List TypeRow) (h new : HeapView) (handles : Table) (g : ℕ) → HasNone Strong handles
    → HasNone Pinned handles → ((x : ℕ) → Marked rows new x ↔ Reach (LeadsTo rows h g) (Marked rows h) x)
    → (x : ℕ) → Marked rows new x
    ↔ Reach (LeadsTo rows h g) (λ y. Marked rows h y ⊎ IsCondemnedTarget handles h g y) x
none_added rows h new handles g no_strong no_pinned exact =
    let start : ℕ → Type 0 = λ y. Marked rows h y ⊎ IsCondemnedTarget handles h g y in
    iff_trans (Marked rows new) (Reach (LeadsTo rows h g) (Marked rows h)) (Reach (LeadsTo rows h g) start) exact
    (reach_iff (LeadsTo rows h g) (LeadsTo rows h g) start (Marked rows h) (λ y z. iff_refl (LeadsTo rows h g y z))
    (λ y. (
      λ s. inl s,
      λ s. elim s [
        | inl was ↦ was
        | inr t ↦ absurd (none_held handles no_strong no_pinned y t.target.held)
      ],
    )))
