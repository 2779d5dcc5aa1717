-- Handles without what they name below a place: what they pin from there on.
use Rattle.std.proofs.Common.{◌≡◌, inl, inr, ℕ, ◌+◌, ◌<◌, ◌≤◌, ◌==◌, nat_le, Bool, true, false, ◌&&◌, List, [], ◌∷◌}
use Rattle.std.proofs.Common.{if◌then◌else◌, refl, ap, sym, ◌∙◌, arith, map, cond}
use Rattle.std.specs.FinMap as finmap
use Rattle.std.specs.FinMap.{FinMap}
use Rattle.std.specs.List.{count_by, list_any}
use Rattle.std.specs.Ordering.{nat_cmp}
use Rattle.std.proofs.lemmas.Bool.{and_parts, both_ways, cases_Bool, le-leb, leb-true, ne_eqb}
use Rattle.std.proofs.lemmas.List.Sums.{sum_by-cons}
use Rattle.clr_types.specs.Kinds.{is_pinned_kind}
use Rattle.clr_types.specs.Maps.{map_values}
use Rattle.clr_types.specs.declared.handle.Handle.{Handle}
use Rattle.clr_types.proofs.ListMembers.{any-in, any-map, any-on}
use Rattle.clr_types.proofs.MapValues.{values-map_values}
use Rattle.clr_handles.specs.Laws.{relocated}
use Rattle.clr_handles.specs.Tops.{pinned_in}
use Rattle.clr_survivors.specs.Survivors.{pins_place}

-- ---- as many are pinned

count-map : {X Y : Type 0} (f : X → Y) (p : Y → Bool) (xs : List X)
    → count_by p (map f xs) ≡ count_by (λ x. p (f x)) xs
count-map f p [] = refl
count-map f p (x ∷ xs) =
    sum_by-cons (λ y. cond (p y) 1 0) (f x) (map f xs)
    ∙ ap (λ n. cond (p (f x)) 1 0 + n) (count-map f p xs)
    ∙ sym (sum_by-cons (λ y. cond (p (f y)) 1 0) x xs)

pub pinned-relocated : (to : ℕ → ℕ) (table : FinMap nat_cmp Handle)
    → pinned_in (map_values (relocated to) table) ≡ pinned_in table
pinned-relocated to table =
    ap (count_by (λ (row : Handle). is_pinned_kind row.kind)) (values-map_values (relocated to) table)
    ∙ count-map (relocated to) (λ row. is_pinned_kind row.kind) (finmap.values table)

-- ---- what is named below a place becomes null

abbrev pub or_null : ℕ → ℕ → ℕ
or_null low place = if nat_le low place then place else 0

abbrev pub table_from : ℕ → FinMap nat_cmp Handle → FinMap nat_cmp Handle
table_from low table = map_values (relocated (or_null low)) table

module _ (low x : ℕ) (some : 0 < x) where
  above_test : low ≤ x → (t : ℕ) → (or_null low t == x) ≡ (t == x)
  above_test high t = go (nat_le low t) refl
    where
      go : (b : Bool) → nat_le low t ≡ b → ((if b then t else 0) == x) ≡ (t == x)
      go true e = refl
      go false e =
          ne_eqb 0 x (λ same. omega (arith, same, some))
          ∙ sym (ne_eqb t x (λ same. both_ways (nat_le low t) e (le-leb low t (omega (arith, same, high)))))

  under_test : x < low → (t : ℕ) → (or_null low t == x) ≡ false
  under_test under t = go (nat_le low t) refl
    where
      go : (b : Bool) → nat_le low t ≡ b → ((if b then t else 0) == x) ≡ false
      go true e = let above = leb-true low t e in ne_eqb t x (λ same. omega (arith, same, above, under))
      go false e = ne_eqb 0 x (λ same. omega (arith, same, some))

  pins-mapped : (table : FinMap nat_cmp Handle) → pins_place (table_from low table) x
      ≡ list_any (λ row. is_pinned_kind row.kind && (or_null low row.target == x)) (finmap.values table)
  pins-mapped table =
      ap (list_any (λ (row : Handle). is_pinned_kind row.kind && (row.target == x)))
      (values-map_values (relocated (or_null low)) table)
      ∙ any-map (relocated (or_null low)) (λ row. is_pinned_kind row.kind && (row.target == x)) (finmap.values table)

  -- from there on the same is pinned
  pub pins-above : low ≤ x → (table : FinMap nat_cmp Handle) → pins_place (table_from low table) x ≡ pins_place table x
  pins-above high table =
      pins-mapped table
      ∙ any-on (λ row. is_pinned_kind row.kind && (or_null low row.target == x))
      (λ row. is_pinned_kind row.kind && (row.target == x)) (finmap.values table)
      (λ row i. ap (λ (b : Bool). is_pinned_kind row.kind && b) (above_test high row.target))

  -- and nothing below
  pub pins-under : x < low → (table : FinMap nat_cmp Handle) → pins_place (table_from low table) x ≡ false
  pins-under under table = elim (cases_Bool (pins_place (table_from low table) x)) [
    | inl pinned ↦
        let (row, i, passes) =
        any-in (λ (r : Handle). is_pinned_kind r.kind && (or_null low r.target == x)) (finmap.values table)
        (sym (pins-mapped table) ∙ pinned) in
        let at = (and_parts (is_pinned_kind row.kind) (or_null low row.target == x) passes).1 in
        absurd (both_ways (or_null low row.target == x) (under_test under row.target) at)
    | inr none ↦ none
  ]
