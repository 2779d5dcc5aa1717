-- What is reached by names is reached by places, and the other way round.
use Rattle.std.proofs.Common.{◌≡◌, ℕ, ◌<◌, ◌⊎◌, inl, inr, List, map, refl, sym, ap, ◌∙◌, subst, lt_irrefl, zero, suc}
use Rattle.std.proofs.Common.{zero-lt-suc, true≢false, Option, Some, None, IsTrue, is_some}
use Rattle.std.specs.FinMap as finmap
use Rattle.std.specs.Option.{option_map, unwrap_or}
use Rattle.clr_types.specs.Rising.{IsIn}
use Rattle.clr_types.proofs.RisingLists.{all_at}
use Rattle.clr_types.proofs.SortedLists.{into_sorted_by, out_of_sorted_by, same_by_key}
use Rattle.clr_types.specs.declared.handle.Handle.{Handle}
use Rattle.clr_model.specs.Machine.{Value, ref, num, Object, Machine}
use Rattle.clr_model.specs.Lookups.{place_of}
use Rattle.clr_types.specs.Kinds.{is_dependent}
use Rattle.clr_model.specs.Picture.{picture, renamed_object, renamed_value, renamed_row}
use Rattle.clr_model.specs.Lawful.{is_reference_value}
use Rattle.clr_model.specs.Reach.{SlotNames, SecondOf, Edge}
use Rattle.clr_types.proofs.MapValues.{get-map_values}
use Rattle.clr_model.proofs.Apart.{AreApart, place_of-member}
use Rattle.clr_types.proofs.ChangedLists.{IsIn-map}
use Rattle.clr_types.proofs.ListMembers.{from-map}

abbrev name_in_value : Value → ℕ
name_in_value (ref n) = n
name_in_value (num n) = 0

module _ (m : Machine) (shown : (x y : ℕ) → Edge m x y → 0 < place_of m.objects y) where
  -- an edge, by places
  pub edge-picture : (x y : ℕ) → Edge m x y → Edge (picture m) (place_of m.objects x) (place_of m.objects y)
  edge-picture x y (inl e) =
      inl (record {
        object = renamed_object (place_of m.objects) e.object;
        present = into_sorted_by (λ (o : Object). o.name) (renamed_object (place_of m.objects) e.object)
            (map (renamed_object (place_of m.objects)) m.objects)
            (IsIn-map (renamed_object (place_of m.objects)) e.present);
        named = ap (place_of m.objects) e.named;
        slot = IsIn-map (renamed_value (place_of m.objects)) e.slot;
        not_null = shown x y (inl e);
      })
  edge-picture x y (inr e) =
      inr (record {
        handle = e.handle;
        row = renamed_row (place_of m.objects) e.row;
        in_use = get-map_values (renamed_row (place_of m.objects)) m.handles e.handle
            ∙ ap (option_map (renamed_row (place_of m.objects))) e.in_use;
        dependent = e.dependent;
        primary = ap (place_of m.objects) e.primary;
        secondary = ap (place_of m.objects) e.secondary;
        not_null = shown x y (inr e);
      })

-- a slot that is a reference after the change of names was one before
renamed_ref : (to : ℕ → ℕ) (z : ℕ) (v : Value) → ref z ≡ renamed_value to v → (y : ℕ) × (v ≡ ref y) × (z ≡ to y)
renamed_ref to z (ref y) e = (y, refl, ap name_in_value e)
renamed_ref to z (num n) e = absurd (true≢false (ap is_reference_value e))

module _ (m : Machine) (h : AreApart m.objects) where
  -- an edge by places, from the place of an object, is one by names
  pub edge-from_picture : (x : Object) → IsIn x m.objects → (z : ℕ)
      → SlotNames (picture m).objects (place_of m.objects x.name) z
      → (y : ℕ) × (z ≡ place_of m.objects y) × SlotNames m.objects x.name y
  edge-from_picture x i z e =
      let to : ℕ → ℕ = place_of m.objects in
      let (o, is, j) = from-map (renamed_object to) e.object m.objects
      (out_of_sorted_by (λ (w : Object). w.name) e.object (map (renamed_object to) m.objects) e.present) in
      let place : o.place ≡ x.place = sym (place_of-member m.objects h o j) ∙ sym (ap (λ (w : Object). w.name) is)
      ∙ e.named ∙ place_of-member m.objects h x i in
      let same : o ≡ x = same_by_key (λ (w : Object). w.place) m.objects o x h.places j i place in
      let (v, value, k) = from-map (renamed_value to) (ref z) o.slots
      (subst (λ (w : Object). IsIn (ref z) w.slots) is e.slot) in
      let (y, is_ref, shown) = renamed_ref to z v value in (
        y,
        shown,
        record {
          object = o;
          present = j;
          named = ap (λ (w : Object). w.name) same;
          slot = subst (λ (w : Value). IsIn w o.slots) is_ref k;
          not_null = above_null y (subst (λ n. 0 < n) shown e.not_null);
        },
      )
    where
      above_null : (y : ℕ) → 0 < place_of m.objects y → 0 < y
      above_null zero a = absurd (lt_irrefl 0 a)
      above_null (suc y) a = zero-lt-suc y

-- a value found after a change was found before it
pub before_change : {X Y : Type 0} (f : X → Y) (o : Option X) (y : Y) → option_map f o ≡ Some y
    → (x : X) × (o ≡ Some x) × (y ≡ f x)
before_change f None y e = absurd (true≢false (sym (ap is_some e)))
before_change f (Some x) y e = (x, refl, sym (ap (λ o. unwrap_or o y) e))

-- null, or the name of an object of the list
abbrev pub IsNullOrNamed : List Object → ℕ → Type 0
IsNullOrNamed objects name = (name ≡ 0) ⊎ ((p : Object) × IsIn p objects × (p.name ≡ name))

module _ (m : Machine) (h : AreApart m.objects)
    (targets : (handle : ℕ) (row : Handle) → finmap.get m.handles handle ≡ Some row
    → IsNullOrNamed m.objects row.target)
  where
    same_target : (x : Object) → IsIn x m.objects → (name : ℕ) → IsNullOrNamed m.objects name
        → place_of m.objects name ≡ place_of m.objects x.name → name ≡ x.name
    same_target x i name (inl null) e =
        absurd (lt_irrefl 0 (subst (λ n. 0 < n)
        (sym (place_of-member m.objects h x i) ∙ sym e ∙ ap (place_of m.objects) null)
        (all_at (λ (w : Object). 0 < w.place) i h.placed)))
    same_target x i name (inr named) e =
        let (p, j, is) = named in
        let place : p.place ≡ x.place = sym (place_of-member m.objects h p j) ∙ ap (place_of m.objects) is ∙ e
        ∙ place_of-member m.objects h x i in
        sym is ∙ ap (λ (w : Object). w.name) (same_by_key (λ (w : Object). w.place) m.objects p x h.places j i place)

    above : (y : ℕ) → 0 < place_of m.objects y → 0 < y
    above zero a = absurd (lt_irrefl 0 a)
    above (suc y) a = zero-lt-suc y

    -- and so for the secondary of a dependent handle
    pub second-from_picture : (x : Object) → IsIn x m.objects → (z : ℕ)
        → SecondOf (picture m).handles (place_of m.objects x.name) z
        → (y : ℕ) × (z ≡ place_of m.objects y) × SecondOf m.handles x.name y
    second-from_picture x i z e =
        let to : ℕ → ℕ = place_of m.objects in
        let (row, found, is) = before_change (renamed_row to) (finmap.get m.handles e.handle) e.row
        (sym (get-map_values (renamed_row to) m.handles e.handle) ∙ e.in_use) in
        let shown : z ≡ to row.second = sym e.secondary ∙ ap (λ (r : Handle). r.second) is in (
          row.second,
          shown,
          record {
            handle = e.handle;
            row = row;
            in_use = found;
            dependent = subst (λ (r : Handle). IsTrue (is_dependent r.kind)) is e.dependent;
            primary = same_target x i row.target (targets e.handle row found)
                (sym (ap (λ (r : Handle). r.target) is) ∙ e.primary);
            secondary = refl;
            not_null = above row.second (subst (λ n. 0 < n) shown e.not_null);
          },
        )
