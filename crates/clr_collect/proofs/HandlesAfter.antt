-- Handles whose targets aren't left: clearing the three kinds in turn makes of each handle what a collection makes of
-- it.
use Rattle.std.proofs.Common.{◌≡◌, inl, ℕ, ◌==◌, ◌&&◌, Bool, true, false, not, if◌then◌else◌, refl, ap, sym, ◌∙◌}
use Rattle.std.proofs.Common.{subst, List, Option, Some, None}
use Rattle.std.specs.Option.{option_map}
use Rattle.std.specs.FinMap as finmap
use Rattle.std.specs.FinMap.{FinMap}
use Rattle.std.specs.Ordering.{nat_cmp}
use Rattle.std.proofs.lemmas.Bool.{eqb-true}
use Rattle.clr_types.specs.Maps.{map_values}
use Rattle.clr_types.specs.Types.{TypeRow}
use Rattle.clr_types.specs.declared.handle.Handle.{Handle}
use Rattle.clr_types.specs.declared.handle.Kind.{Kind}
use Rattle.clr_types.specs.declared.handle.Kind.TheVariants.{Dependent, Pinned, Strong, Weak, WeakLong}
use Rattle.clr_types.proofs.MapValues.{get-map_values, map_values-same}
use Rattle.clr_handles.specs.Laws.{cleared, is_kind}
use Rattle.clr_handles.specs.Places.{nulled_of}
use Rattle.clr_heap.specs.View.{HeapView}
use Rattle.clr_model.specs.Collection.{row_after}
use Rattle.clr_types.specs.Kinds.{is_dependent}
use Rattle.clr_model.specs.Reach.{SecondOf}
use Rattle.clr_model.proofs.Joined.{before_change}
use Rattle.clr_view.specs.World.{HandlesStand, HandleStands}

-- ---- one handle

module _ (first kept : ℕ → Bool) where
  -- the three clearings in turn
  abbrev thrice : Handle → Handle
  thrice row = cleared Dependent kept (cleared WeakLong kept (cleared Weak first row))

  abbrev row_of : Kind → ℕ → ℕ → Handle
  row_of kind target second = record { kind = kind; target = target; second = second }

  -- a weak handle: its target is null already, or passes, or goes
  short : (t s : ℕ) (z : Bool) → (t == 0) ≡ z → (c : Bool)
      → cleared Dependent kept (cleared WeakLong kept (if not (not z && c) then row_of Weak 0 s else row_of Weak t s))
      ≡ row_of Weak (if c then t else 0) s
  short t s true e true = ap (λ n. row_of Weak n s) (sym (eqb-true t 0 e))
  short t s true e false = refl
  short t s false e true = refl
  short t s false e false = refl

  long : (t s : ℕ) (z : Bool) → (t == 0) ≡ z → (c : Bool)
      → cleared Dependent kept (if not (not z && c) then row_of WeakLong 0 s else row_of WeakLong t s)
      ≡ row_of WeakLong (if c then t else 0) s
  long t s true e true = ap (λ n. row_of WeakLong n s) (sym (eqb-true t 0 e))
  long t s true e false = refl
  long t s false e true = refl
  long t s false e false = refl

  -- a dependent one without a primary has no second
  tied : (t s : ℕ) → (t ≡ 0 → s ≡ 0) → (z : Bool) → (t == 0) ≡ z → (c : Bool)
      → (if not (not z && c) then row_of Dependent 0 0 else row_of Dependent t s)
      ≡ (if c then row_of Dependent t s else row_of Dependent 0 0)
  tied t s none true e true =
      let at : t ≡ 0 = eqb-true t 0 e in
      let second : s ≡ 0 = none at in
      λ k. row_of Dependent (sym at k) (sym second k)
  tied t s none true e false = refl
  tied t s none false e true = refl
  tied t s none false e false = refl

  one : (kind : Kind) (t s : ℕ) → (t ≡ 0 → s ≡ 0) → thrice (row_of kind t s) ≡ row_after first kept (row_of kind t s)
  one Strong t s none = refl
  one Pinned t s none = refl
  one Weak t s none = short t s (t == 0) refl (first t)
  one WeakLong t s none = long t s (t == 0) refl (kept t)
  one Dependent t s none = tied t s none (t == 0) refl (kept t)

  -- ALL HANDLES of a table whose handles stand
  pub rows_after : (rows : List TypeRow) (h : HeapView) (handles : FinMap nat_cmp Handle) → HandlesStand rows h handles
      → map_values (cleared Dependent kept) (map_values (cleared WeakLong kept)
      (map_values (cleared Weak first) handles))
      ≡ map_values (row_after first kept) handles
  rows_after rows h handles stand = map_values-same _ _ (λ k.
      get-map_values (cleared Dependent kept) (map_values (cleared WeakLong kept) weak) k
      ∙ ap (option_map (cleared Dependent kept)) (get-map_values (cleared WeakLong kept) weak k
      ∙ ap (option_map (cleared WeakLong kept)) (get-map_values (cleared Weak first) handles k))
      ∙ each (finmap.get handles k) (λ row found. (stand k row found).owned.primary)
      ∙ sym (get-map_values (row_after first kept) handles k))
    where
      weak : FinMap nat_cmp Handle
      weak = map_values (cleared Weak first) handles

      each : (found : Option Handle) → ((row : Handle) → found ≡ Some row → row.target ≡ 0 → row.second ≡ 0)
          → option_map (cleared Dependent kept) (option_map (cleared WeakLong kept)
          (option_map (cleared Weak first) found))
          ≡ option_map (row_after first kept) found
      each None none = refl
      each (Some row) none = ap (λ (r : Handle). Some r) (one row.kind row.target row.second (none row refl))

-- ---- ties

dependent-is : (kind : Kind) → is_dependent kind ≡ true → kind ≡ Dependent
dependent-is Strong e = absurd cc
dependent-is Pinned e = absurd cc
dependent-is Weak e = absurd cc
dependent-is WeakLong e = absurd cc
dependent-is Dependent e = refl

module _ (test : ℕ → Bool) where
  -- clearing short weak handles leaves dependent ones alone
  stays : (row : Handle) → is_dependent row.kind ≡ true → cleared Weak test row ≡ row
  stays row e = go row.kind (dependent-is row.kind e)
    where
      go : (kind : Kind) → kind ≡ Dependent
          → cleared Weak test (record row { kind = kind }) ≡ record row { kind = kind }
      go kind e = subst (λ (k : Kind). cleared Weak test (record row { kind = k }) ≡ record row { kind = k }) (sym e)
          refl

  same-kind : (row : Handle) → (cleared Weak test row).kind ≡ row.kind
  same-kind row = go row.kind (not (not (row.target == 0) && test row.target))
    where
      go : (kind : Kind) (b : Bool)
          → (if is_kind kind Weak
          && b then nulled_of kind (record row { kind = kind }) else record row { kind = kind }).kind
          ≡ kind
      go Strong b = refl
      go Pinned b = refl
      go Weak true = refl
      go Weak false = refl
      go WeakLong b = refl
      go Dependent b = refl

  pub second_cleared : (handles : FinMap nat_cmp Handle) (x y : ℕ) → SecondOf handles x y
      → SecondOf (map_values (cleared Weak test) handles) x y
  second_cleared handles x y e = record {
    handle = e.handle;
    row = e.row;
    in_use = get-map_values (cleared Weak test) handles e.handle
        ∙ ap (option_map (cleared Weak test)) e.in_use ∙ ap (λ (r : Handle). Some r) (stays e.row e.dependent);
    dependent = e.dependent;
    primary = e.primary;
    secondary = e.secondary;
    not_null = e.not_null;
  }

  pub second_was : (handles : FinMap nat_cmp Handle) (x y : ℕ) → SecondOf (map_values (cleared Weak test) handles) x y
      → SecondOf handles x y
  second_was handles x y e =
      let (row, found, is) = before_change (cleared Weak test) (finmap.get handles e.handle) e.row
      (sym (get-map_values (cleared Weak test) handles e.handle) ∙ e.in_use) in
      let kind : e.row.kind ≡ row.kind = ap (λ (r : Handle). r.kind) is ∙ same-kind row in
      let dependent : is_dependent row.kind ≡ true = ap is_dependent (sym kind) ∙ e.dependent in
      let same : e.row ≡ row = is ∙ stays row dependent in
      record {
        handle = e.handle;
        row = row;
        in_use = found;
        dependent = dependent;
        primary = ap (λ (r : Handle). r.target) (sym same) ∙ e.primary;
        secondary = ap (λ (r : Handle). r.second) (sym same) ∙ e.secondary;
        not_null = e.not_null;
      }

-- ---- handles that stand

module _ (rows : List TypeRow) (h : HeapView) where
  -- one that isn't dependent has no second
  lone : (row : Handle) → HandleStands rows h row → is_dependent row.kind ≡ false
      → HandleStands rows h (record row { target = 0 })
  lone row s other = record {
    target = inl refl;
    second = s.second;
    owned = record { dependent = s.owned.dependent; primary = λ f. s.owned.dependent other };
  }

  nulled-stands : (kind : Kind) (row : Handle) → row.kind ≡ kind → HandleStands rows h row
      → HandleStands rows h (nulled_of kind row)
  nulled-stands Strong row e s = lone row s (ap is_dependent e)
  nulled-stands Pinned row e s = lone row s (ap is_dependent e)
  nulled-stands Weak row e s = lone row s (ap is_dependent e)
  nulled-stands WeakLong row e s = lone row s (ap is_dependent e)
  nulled-stands Dependent row e s = record {
    target = inl refl;
    second = inl refl;
    owned = record { dependent = λ f. refl; primary = λ f. refl };
  }

  -- handles that stand still do when some were cleared
  pub cleared_stand : (kind : Kind) (test : ℕ → Bool) (handles : FinMap nat_cmp Handle) → HandlesStand rows h handles
      → HandlesStand rows h (map_values (cleared kind test) handles)
  cleared_stand kind test handles stand k new found =
      let (row, was, is) = before_change (cleared kind test) (finmap.get handles k) new
      (sym (get-map_values (cleared kind test) handles k) ∙ found) in
      subst (HandleStands rows h) (sym is)
      (go row (stand k row was) (is_kind row.kind kind && not (not (row.target == 0) && test row.target)))
    where
      go : (row : Handle) → HandleStands rows h row → (b : Bool)
          → HandleStands rows h (if b then nulled_of row.kind row else row)
      go row s true = nulled-stands row.kind row refl s
      go row s false = s
