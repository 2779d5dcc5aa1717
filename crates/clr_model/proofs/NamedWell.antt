-- A machine whose names are sound: what its picture reaches, it reaches, and the other way round.
use Rattle.std.proofs.Common.{◌≡◌, ℕ, ◌≤◌, ◌<◌, ◌⊎◌, inl, inr, List, [], ◌∷◌, map, refl, sym, ap, subst, ◌∙◌, arith}
use Rattle.std.proofs.Common.{Bool, true, false, if◌then◌else◌, ◌==◌, Option, Some, None, IsTrue, is_some, true≢false}
use Rattle.std.proofs.Common.{lt_irrefl}
use Rattle.std.proofs.lemmas.Bool.{eqb-true, eq-eqb, ne_eqb, cases_eq}
use Rattle.std.specs.Option.{option_map}
use Rattle.std.specs.List.{AllByRecursion}
use Rattle.std.specs.FinMap as finmap
use Rattle.clr_types.specs.Rising.{IsIn, first, later, Tests}
use Rattle.clr_types.proofs.RisingLists.{in_cons, all_at}
use Rattle.clr_types.proofs.SortedLists.{find_by-member, into_sorted_by, out_of_sorted_by}
use Rattle.clr_types.specs.declared.handle.Handle.{Handle}
use Rattle.clr_model.specs.Machine.{ref, Object, Machine}
use Rattle.clr_model.specs.Lookups.{place_of, place_or_null, object_named, object_piece}
use Rattle.clr_types.specs.Kinds.{is_root_kind}
use Rattle.clr_model.specs.Picture.{picture, renamed_object, renamed_row}
use Rattle.clr_model.specs.Reach.{Reach, starts, follows, SlotNames, SecondOf, Edge, Roots, StartOf}
use Rattle.clr_model.specs.Lawful.{IsLawful, IsPresent, IsNullOrPresent, SlotIsPresent, IsShaped}
use Rattle.clr_types.specs.Segments.{generation, first_place}
use Rattle.clr_model.proofs.Reaching.{reach_renamed, reach_from_renamed}
use Rattle.clr_types.proofs.MapValues.{get-map_values}
use Rattle.clr_model.proofs.Apart.{AreApart, place_of-member, places_keep_apart, places_keep_null}
use Rattle.clr_model.proofs.HandleTables.{value_at}
use Rattle.clr_model.proofs.Naming.{KeepsApart, object_named-picture}
use Rattle.clr_types.proofs.ChangedLists.{IsIn-map, all_members, rising-distinct}
use Rattle.clr_types.proofs.ListMembers.{from-map}
use Rattle.clr_model.proofs.Joined.{edge-picture, edge-from_picture, second-from_picture, IsNullOrNamed, before_change}
use Rattle.clr_model.proofs.LawfulPieces.{HasHome, places-distinct, object-in-pieces, piece-home}

-- the object of a name
abbrev pub HasObject : List Object → ℕ → Type 0
HasObject objects x = (o : Object) × IsIn o objects × (o.name ≡ x)

-- names and places are apart, and each name in the state is null or an object's
pub record AreNamed (m : Machine) : Type 0 where
  pub apart : AreApart m.objects
  pub slots : (o : Object) → IsIn o m.objects → (y : ℕ) → IsIn (ref y) o.slots → IsNullOrNamed m.objects y
  pub locals : (x : ℕ) → IsIn x m.locals → IsNullOrNamed m.objects x
  pub handles : (k : ℕ) (row : Handle) → finmap.get m.handles k ≡ Some row
      → IsNullOrNamed m.objects row.target × IsNullOrNamed m.objects row.second
  pub entries : (x : ℕ) → IsIn x m.entries → HasObject m.objects x
  pub ready : (x : ℕ) → IsIn x m.ready → IsNullOrNamed m.objects x

pub found_named : (objects : List Object) (x : ℕ) → is_some (object_named objects x) ≡ true → HasObject objects x
found_named [] x e = absurd (true≢false (sym e))
found_named (o ∷ os) x e = go (o.name == x) refl e (found_named os x)
  where
    go : (b : Bool) → (o.name == x) ≡ b → is_some (if b then Some o else object_named os x) ≡ true
        → (is_some (object_named os x) ≡ true → HasObject os x) → HasObject (o ∷ os) x
    go true f e more = (o, first, eqb-true o.name x f)
    go false f e more = let (p, i, n) = more e in (p, later i, n)

-- a lawful machine's names are sound
pub lawful-named : (m : Machine) → IsLawful m → AreNamed m
lawful-named m h = record {
  apart = record {
    names = rising-distinct (λ (o : Object). o.name) m.objects h.names_rise;
    places = places-distinct m h.laid;
    named = all_members (λ (o : Object). 0 < o.name) m.objects (λ o i. (all_at (IsShaped m) i h.shapes).named);
    placed = all_members (λ (o : Object). 0 < o.place) m.objects
        (λ o i. let k : HasHome m.layout o.place =
        piece-home m h.laid (object_piece m.types o) (object-in-pieces m h.laid o i) in
        let l : first_place k.home ≤ o.place = k.low in omega arith);
  };
  slots = λ o i y j. null_or (all_at (SlotIsPresent m) j
      (all_at (λ (o : Object). AllByRecursion (SlotIsPresent m) o.slots) i h.names.slots));
  locals = λ x i. null_or (all_at (IsNullOrPresent m) i h.names.locals);
  handles = λ k row e. let both =
      value_at (λ (row : Handle). IsNullOrPresent m row.target × IsNullOrPresent m row.second) m.handles
      h.names.handles k row e in
      (null_or both.0, null_or both.1);
  entries = λ x i. found_named m.objects x (all_at (IsPresent m) i h.names.entries);
  ready = λ x i. inr (found_named m.objects x (all_at (IsPresent m) i h.names.ready));
}
  where
    null_or : {x : ℕ} → IsNullOrPresent m x → IsNullOrNamed m.objects x
    null_or (inl e) = inl e
    null_or (inr e) = inr (found_named m.objects _ e)

pub eqb_sym : (a b : ℕ) → (a == b) ≡ (b == a)
eqb_sym a b = go (cases_eq a b)
  where
    go : (a ≡ b) ⊎ (a ≡ b → ⊥) → (a == b) ≡ (b == a)
    go (inl e) = eq-eqb a b e ∙ sym (eq-eqb b a (sym e))
    go (inr e) = ne_eqb a b e ∙ sym (ne_eqb b a (λ f. e (sym f)))

-- a name is null, an object's, or no object's
pub name-cases : (objects : List Object) (x : ℕ) → (x ≡ 0) ⊎ (HasObject objects x ⊎ (object_named objects x ≡ None))
name-cases objects x = go (object_named objects x) refl
  where
    go : (r : Option Object) → object_named objects x ≡ r
        → (x ≡ 0) ⊎ (HasObject objects x ⊎ (object_named objects x ≡ None))
    go None e = inr (inr e)
    go (Some o) e = inr (inl (found_named objects x (ap is_some e)))

pub not-named : (objects : List Object) (x : ℕ) → object_named objects x ≡ None → (o : Object) → IsIn o objects
    → (o.name == x) ≡ false
not-named objects x e o i = go (o.name == x) refl
  where
    none : (os : List Object) → IsIn o os → o.name ≡ x → object_named os x ≡ None → ⊥
    none [] i e n = elim i [ ]
    none (p ∷ os) i e n = by (p.name == x) refl n (in_cons i) (none os)
      where
        by : (b : Bool) → (p.name == x) ≡ b → (if b then Some p else object_named os x) ≡ None → (o ≡ p) ⊎ IsIn o os
            → (IsIn o os → o.name ≡ x → object_named os x ≡ None → ⊥) → ⊥
        by true f n j more = absurd cc
        by false f n (inl same) more = true≢false
            (sym (eq-eqb p.name x (sym (ap (λ (w : Object). w.name) same) ∙ e)) ∙ f)
        by false f n (inr j) more = more j e n

    go : (b : Bool) → (o.name == x) ≡ b → (o.name == x) ≡ false
    go true f = absurd (none objects i (eqb-true o.name x f) e)
    go false f = f

module _ (m : Machine) (h : AreNamed m) where
  abbrev to : ℕ → ℕ
  to = place_of m.objects

  pub place-above : (o : Object) → IsIn o m.objects → 0 < to o.name
  place-above o i = subst (λ n. 0 < n) (sym (place_of-member m.objects h.apart o i))
      (all_at (λ (o : Object). 0 < o.place) i h.apart.placed)

  pub name-above : (o : Object) → IsIn o m.objects → 0 < o.name
  name-above o i = all_at (λ (o : Object). 0 < o.name) i h.apart.named

  -- places keep any two names apart, one of them an object's
  pub keeps_apart : (x : ℕ) → KeepsApart to x m.objects
  keeps_apart x = go (name-cases m.objects x)
    where
      go : (x ≡ 0) ⊎ (HasObject m.objects x ⊎ (object_named m.objects x ≡ None)) → KeepsApart to x m.objects
      go (inl e) = subst (λ n. KeepsApart to n m.objects) (sym e) (places_keep_null m.objects h.apart)
      go (inr (inl (p, i, e))) = subst (λ n. KeepsApart to n m.objects) e (places_keep_apart m.objects h.apart p i)
      go (inr (inr e)) =
          all_members (λ (o : Object). (to o.name == to x) ≡ (o.name == x)) m.objects
          (λ o i. ne_eqb (to o.name) (to x) (λ f. lt_irrefl 0 (subst (λ n. 0 < n) (f ∙ gone) (place-above o i)))
          ∙ sym (not-named m.objects x e o i))
        where
          null_either : (b : Bool) → ◌≡◌ {A = ℕ} (if b then 0 else 0) 0
          null_either true = refl
          null_either false = refl

          gone : to x ≡ 0
          gone = ap (λ r. if x == 0 then 0 else place_or_null r) e ∙ null_either (x == 0)

  pub apart-at : (x : ℕ) (o : Object) → IsIn o m.objects → (to o.name == to x) ≡ (o.name == x)
  apart-at x o i = all_at (λ (o : Object). (to o.name == to x) ≡ (o.name == x)) i (keeps_apart x)

  pub apart-to : (x : ℕ) (o : Object) → IsIn o m.objects → (to x == to o.name) ≡ (x == o.name)
  apart-to x o i = eqb_sym (to x) (to o.name) ∙ apart-at x o i ∙ eqb_sym o.name x

  -- a name at an object's place is the object's
  pub name-of-place : (x : ℕ) (o : Object) → IsIn o m.objects → to x ≡ to o.name → x ≡ o.name
  name-of-place x o i e = eqb-true x o.name (sym (apart-to x o i) ∙ eq-eqb (to x) (to o.name) e)

  -- the place of what is seen at an object's place is that place
  pub place-shown : (x : ℕ) → HasObject m.objects x → place_of (picture m).objects (to x) ≡ to x
  place-shown x (o, i, n) =
      let above : 0 < to x = subst (λ k. 0 < to k) n (place-above o i) in
      let found : object_named m.objects x ≡ Some o =
      ap (object_named m.objects) (sym n) ∙ find_by-member (λ (o : Object). o.name) o m.objects h.apart.names i in
      ap (λ b. if b then 0 else place_or_null (object_named (picture m).objects (to x)))
      (ne_eqb (to x) 0 (λ e. lt_irrefl 0 (subst (λ k. 0 < k) e above)))
      ∙ ap place_or_null (object_named-picture m x (keeps_apart x) ∙ ap (option_map (renamed_object to)) found)
      ∙ sym (ap to (sym n) ∙ place_of-member m.objects h.apart o i)

  present-above : (x : ℕ) → IsNullOrNamed m.objects x → 0 < x → HasObject m.objects x
  present-above x (inl e) l = absurd (lt_irrefl 0 (subst (λ n. 0 < n) e l))
  present-above x (inr p) l = p

  -- what an edge leads to is an object
  edge-named : (x y : ℕ) → Edge m x y → HasObject m.objects y
  edge-named x y (inl e) = present-above y (h.slots e.object e.present y e.slot) e.not_null
  edge-named x y (inr e) = present-above y
      (subst (IsNullOrNamed m.objects) e.secondary (h.handles e.handle e.row e.in_use).1) e.not_null

  shown : (x y : ℕ) → Edge m x y → 0 < to y
  shown x y e = let (o, i, n) = edge-named x y e in subst (λ k. 0 < to k) n (place-above o i)

  roots-named : (x : ℕ) → Roots m x → HasObject m.objects x
  roots-named x (l, inl (inl i)) = present-above x (h.locals x i) l
  roots-named x (l, inl (inr e)) =
      present-above x (subst (IsNullOrNamed m.objects) e.target (h.handles e.handle e.row e.in_use).0) l
  roots-named x (l, inr i) = present-above x (h.ready x i) l

  pub start-named : (g x : ℕ) → StartOf m g x → HasObject m.objects x
  start-named g x (inl r) = roots-named x r
  start-named g x (inr e) = (e.object, e.present, e.named)

  pub reach-named : (start : ℕ → Type 0) → ((x : ℕ) → start x → HasObject m.objects x) → (x : ℕ)
      → Reach (Edge m) start x → HasObject m.objects x
  reach-named start known x (starts s) = known x s
  reach-named start known y (follows {x = x} r e) = edge-named x y e

  edges-come : (start : ℕ → Type 0) → ((x : ℕ) → start x → HasObject m.objects x) → (x z : ℕ) → Reach (Edge m) start x
      → Edge (picture m) (to x) z → (y : ℕ) × (z ≡ to y) × Edge m x y
  edges-come start known x z r e = go (reach-named start known x r) e
    where
      go : HasObject m.objects x → Edge (picture m) (to x) z → (y : ℕ) × (z ≡ to y) × Edge m x y
      go (o, i, n) (inl e) = let (y, f, s) =
          edge-from_picture m h.apart o i z (subst (λ k. SlotNames (picture m).objects (to k) z) (sym n) e) in
          (y, f, inl (subst (λ k. SlotNames m.objects k y) n s))
      go (o, i, n) (inr e) = let (y, f, s) =
          second-from_picture m h.apart (λ k row q. (h.handles k row q).0) o i z
          (subst (λ k. SecondOf (picture m).handles (to k) z) (sym n) e) in
          (y, f, inr (subst (λ k. SecondOf m.handles k y) n s))

  -- tests by place: what the picture reaches from its start
  pub tests-carried : (start start' : ℕ → Type 0) → ((x : ℕ) → start x → HasObject m.objects x)
      → ((x : ℕ) → start x → start' (to x)) → ((z : ℕ) → start' z → (x : ℕ) × (z ≡ to x) × start x)
      → (test : ℕ → Bool) → Tests test (Reach (Edge (picture m)) start')
      → Tests (λ x. test (to x)) (Reach (Edge m) start)
  tests-carried start start' known goes comes test is x = (
    λ e. back (reach_from_renamed to (Edge m) (Edge (picture m)) start start' comes (edges-come start known) (to x)
        ((is (to x)).0 e)),
    λ r. (is (to x)).1
        (reach_renamed to (Edge m) (Edge (picture m)) start start' goes (edge-picture m shown) x r),
  )
    where
      back : (y : ℕ) × (to x ≡ to y) × Reach (Edge m) start y → Reach (Edge m) start x
      back (y, e, r) = let (o, i, n) = reach-named start known y r in
          subst (Reach (Edge m) start) (sym (name-of-place x o i (e ∙ ap to (sym n)) ∙ n)) r

  -- ---- where a collection starts

  pub start-goes : (g x : ℕ) → StartOf m g x → StartOf (picture m) g (to x)
  start-goes g x s = go s (start-named g x s)
    where
      go : StartOf m g x → HasObject m.objects x → StartOf (picture m) g (to x)
      go (inl (l, inl (inl i))) (o, j, n) = inl (subst (λ k. 0 < to k) n (place-above o j), inl (inl (IsIn-map to i)))
      go (inl (l, inl (inr e))) (o, j, n) =
          inl (
            subst (λ k. 0 < to k) n (place-above o j),
            inl
                (inr (record {
                  handle = e.handle;
                  row = renamed_row to e.row;
                  in_use = get-map_values (renamed_row to) m.handles e.handle
                      ∙ ap (option_map (renamed_row to)) e.in_use;
                  holds = e.holds;
                  target = ap to e.target;
                })),
          )
      go (inl (l, inr i)) (o, j, n) = inl (subst (λ k. 0 < to k) n (place-above o j), inr (IsIn-map to i))
      go (inr e) p = inr (record {
        object = renamed_object to e.object;
        present = into_sorted_by (λ (o : Object). o.name) (renamed_object to e.object)
            (map (renamed_object to) m.objects) (IsIn-map (renamed_object to) e.present);
        named = ap to e.named;
        above = e.above;
      })

  above-null : (x : ℕ) → 0 < to x → 0 < x
  above-null x l = go (cases_eq x 0)
    where
      go : (x ≡ 0) ⊎ (x ≡ 0 → ⊥) → 0 < x
      go (inl e) = absurd (lt_irrefl 0 (subst (λ n. 0 < to n) e l))
      go (inr e) = omega (arith, e)

  pub start-comes : (g z : ℕ) → StartOf (picture m) g z → (x : ℕ) × (z ≡ to x) × StartOf m g x
  start-comes g z (inl (l, inl (inl i))) = let (x, e, j) = from-map to z m.locals i in
      (x, e, inl (above-null x (subst (λ n. 0 < n) e l), inl (inl j)))
  start-comes g z (inl (l, inl (inr e))) =
      let (row, found, is) = before_change (renamed_row to) (finmap.get m.handles e.handle) e.row
      (sym (get-map_values (renamed_row to) m.handles e.handle) ∙ e.in_use) in
      let shown : z ≡ to row.target = sym e.target ∙ ap (λ (r : Handle). r.target) is in (
        row.target,
        shown,
        inl (
          above-null row.target (subst (λ n. 0 < n) shown l),
          inl
              (inr (record {
                handle = e.handle;
                row = row;
                in_use = found;
                holds = subst (λ (r : Handle). IsTrue (is_root_kind r.kind)) is e.holds;
                target = refl;
              })),
        ),
      )
  start-comes g z (inl (l, inr i)) = let (x, e, j) = from-map to z m.ready i in
      (x, e, inl (above-null x (subst (λ n. 0 < n) e l), inr j))
  start-comes g z (inr e) =
      let (o, q, j) = from-map (renamed_object to) e.object m.objects
      (out_of_sorted_by (λ (w : Object). w.name) e.object (map (renamed_object to) m.objects) e.present) in (
        o.name,
        sym e.named ∙ ap (λ (w : Object). w.name) q,
        inr
            (record {
              object = o;
              present = j;
              named = refl;
              above = subst (λ n. g < n) (ap (λ (w : Object). generation m.layout w.place) q) e.above;
            }),
      )
