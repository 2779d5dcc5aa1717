-- What a collection leaves names nothing else: objects, locals, handles and queues.
use Rattle.std.proofs.Common.{◌≡◌, ◌⊎◌, inl, inr, ℕ, ◌<◌, Bool, true, false, ◌&&◌, ◌==◌, List, [], ◌++◌}
use Rattle.std.proofs.Common.{filter, if◌then◌else◌, refl, ap, sym, ◌∙◌, subst, arith, Some, None, Option}
use Rattle.std.specs.FinMap as finmap
use Rattle.std.specs.Option.{option_map}
use Rattle.std.proofs.lemmas.Bool.{and_parts, cases_eq, eqb-true}
use Rattle.clr_types.specs.Kinds.{is_dependent, is_root_kind}
use Rattle.clr_types.specs.Rising.{IsIn}
use Rattle.clr_types.specs.Maps.{map_values}
use Rattle.clr_types.specs.Types.{TypeRow}
use Rattle.clr_types.specs.declared.handle.Handle.{Handle}
use Rattle.clr_types.specs.declared.handle.Kind.{Kind}
use Rattle.clr_types.specs.declared.handle.Kind.TheVariants.{Dependent, Pinned, Strong, Weak, WeakLong}
use Rattle.clr_types.proofs.ChangedLists.{out_of_filter}
use Rattle.clr_types.proofs.ListMembers.{any-in, from-map, ImageOf, in_append}
use Rattle.clr_types.proofs.MapValues.{get-map_values}
use Rattle.clr_heap.specs.View.{HeapView}
use Rattle.clr_model.specs.Collection.{kept_or_null, object_after, row_after, row_of_kind}
use Rattle.clr_model.specs.Lawful.{HasItsSecond}
use Rattle.clr_model.specs.Machine.{Machine, Object, ref}
use Rattle.clr_model.specs.Reach.{IsAlive, follows, HeldBy, Kept, starts}
use Rattle.clr_model.specs.Reach.{StartOf, woken}
use Rattle.clr_view.specs.Memory.{is_left, is_left_name, IsLeft}
use Rattle.clr_view.specs.View.{objects_in}
use Rattle.clr_survivors.specs.Survivors.{AreClosed, IsNullOrLeft}
use Rattle.clr_collect.proofs.InLists.{in_got}
use Rattle.clr_collect.specs.Collecting.{objects_unflagged, TestsKept}

-- what is alive before finalisation is kept
more-reached : (m : Machine) (start : ℕ → Type 0) (first : ℕ → Bool) (x : ℕ) → IsAlive m start x → Kept m start first x
more-reached m start first x (starts s) = starts (inl s)
more-reached m start first x (follows {x = y} r e) = follows (more-reached m start first y r) e

-- the row that was found
abbrev or_row : Handle → Option Handle → Handle
or_row other None = other
or_row other (Some row) = row

-- null, or something
null_or : (x : ℕ) → (x ≡ 0) ⊎ (0 < x)
null_or x = elim (cases_eq x 0) [ inl zero ↦ inl zero | inr some ↦ inr (omega arith) ]

module _ (m : Machine) (g : ℕ) (first : ℕ → Bool) (rows : List TypeRow) (marked : HeapView)
    (tests : TestsKept m (StartOf m g) first (is_left_name rows marked g)) where
  abbrev left : ℕ → Bool
  left = is_left_name rows marked g

  told-left : (x : ℕ) → is_left_name rows marked g x ≡ true → IsLeft rows marked g x
  told-left x on =
      let (o, i, both) = any-in (λ (o : Object). (o.name == x) && is_left marked g o) (objects_in rows marked) on in
      let parts = and_parts (o.name == x) (is_left marked g o) both in
      record { object = o; present = i; named = eqb-true o.name x parts.0; left = parts.1 }

  kept-left : (x : ℕ) → Kept m (StartOf m g) first x → IsLeft rows marked g x
  kept-left x k = told-left x ((tests.kept_is x).1 k)

  first-left : (x : ℕ) → first x ≡ true → IsLeft rows marked g x
  first-left x on = kept-left x (more-reached m (StartOf m g) first x ((tests.first_is x).0 on))

  root-left : (x : ℕ) → (0 < x → (IsIn x m.locals ⊎ HeldBy m.handles x) ⊎ IsIn x m.ready) → IsNullOrLeft rows marked g x
  root-left x root = elim (null_or x) [
    | inl zero ↦ inl zero
    | inr some ↦ inr (kept-left x (starts (inl (inl (some, root some)))))
  ]

  -- LOCALS
  pub locals-left : (x : ℕ) → IsIn x m.locals → IsNullOrLeft rows marked g x
  locals-left x i = root-left x (λ some. inl (inl i))

  -- OBJECTS
  pub objects-closed : objects_in rows marked ≡ objects_unflagged m first
      → ((o : Object) → IsIn o m.objects → is_left marked g (object_after m first [] o) ≡ left o.name)
      → AreClosed rows marked g
  objects-closed are same o j x i on slot = elim (null_or x) [
    | inl zero ↦ inl zero
    | inr some ↦
        inr (go (from-map (object_after m first []) o m.objects (subst (λ (os : List Object). IsIn o os) are i)) some)
  ]
    where
      go : ImageOf (object_after m first []) m.objects o → 0 < x → IsLeft rows marked g x
      go (q, is, there) some =
          let kept : left q.name ≡ true =
          sym (same q there) ∙ ap (is_left marked g) (sym is) ∙ on in
          let named : IsIn (ref x) q.slots =
          subst (λ (p : Object). IsIn (ref x) p.slots) is (in_got o.slots j (ref x) slot) in
          kept-left x (follows ((tests.kept_is q.name).0 kept) (inl (record {
            object = q;
            present = there;
            named = refl;
            slot = named;
            not_null = some;
          })))

  -- HANDLES
  module _ (owned : (k : ℕ) (row : Handle) → finmap.get m.handles k ≡ Some row → HasItsSecond row) where
    row-left : (k : ℕ) (row : Handle) → finmap.get m.handles k ≡ Some row
        → IsNullOrLeft rows marked g (row_after first left row).target
        × IsNullOrLeft rows marked g (row_after first left row).second
    row-left k row found = go row.kind refl
      where
        no_second : is_dependent row.kind ≡ false → IsNullOrLeft rows marked g row.second
        no_second other = inl ((owned k row found).dependent other)

        held : is_root_kind row.kind ≡ true → IsNullOrLeft rows marked g row.target
        held on =
            root-left row.target (λ some. inl (inr (record {
              handle = k;
              row = row;
              in_use = found;
              holds = on;
              target = refl;
            })))

        cleared : (test : ℕ → Bool) → ((x : ℕ) → test x ≡ true → IsLeft rows marked g x)
            → IsNullOrLeft rows marked g (kept_or_null test row.target)
        cleared test told = both (test row.target) refl
          where
            both : (b : Bool) → test row.target ≡ b
                → IsNullOrLeft rows marked g (if b then row.target else 0)
            both true e = inr (told row.target e)
            both false e = inl refl

        go : (kind : Kind) → row.kind ≡ kind
            → IsNullOrLeft rows marked g (row_of_kind first left kind row).target
            × IsNullOrLeft rows marked g (row_of_kind first left kind row).second
        go Strong e = (held (ap is_root_kind e), no_second (ap is_dependent e))
        go Pinned e = (held (ap is_root_kind e), no_second (ap is_dependent e))
        go Weak e = (cleared first first-left, no_second (ap is_dependent e))
        go WeakLong e = (cleared left told-left, no_second (ap is_dependent e))
        go Dependent e = dependent (left row.target) refl
          where
            dependent : (b : Bool) → left row.target ≡ b
                → IsNullOrLeft rows marked g (if b then row else record row { target = 0; second = 0 }).target
                × IsNullOrLeft rows marked g (if b then row else record row { target = 0; second = 0 }).second
            dependent true on = (
              inr (told-left row.target on),
              elim (null_or row.second) [
                | inl zero ↦ inl zero
                | inr some ↦
                    inr (kept-left row.second (follows ((tests.kept_is row.target).0 on) (inr (record {
                      handle = k;
                      row = row;
                      in_use = found;
                      dependent = ap is_dependent e;
                      primary = refl;
                      secondary = refl;
                      not_null = some;
                    }))))
              ],
            )
            dependent false off = (inl refl, inl refl)

    pub rows-left : (k : ℕ) (row : Handle) → finmap.get (map_values (row_after first left) m.handles) k ≡ Some row
        → IsNullOrLeft rows marked g row.target × IsNullOrLeft rows marked g row.second
    rows-left k row found = go (finmap.get m.handles k) refl
        (sym (get-map_values (row_after first left) m.handles k) ∙ found)
      where
        go : (was : Option Handle) → finmap.get m.handles k ≡ was → option_map (row_after first left) was ≡ Some row
            → IsNullOrLeft rows marked g row.target × IsNullOrLeft rows marked g row.second
        go None e is = absurd cc
        go (Some old) e is =
            subst (λ (r : Handle). IsNullOrLeft rows marked g r.target × IsNullOrLeft rows marked g r.second)
            (ap (or_row old) is) (row-left k old e)

  -- QUEUES
  pub entries-left : (x : ℕ) → IsIn x (filter first m.entries) → IsLeft rows marked g x
  entries-left x i = first-left x (out_of_filter first x m.entries i).0

  pub ready-left : ((x : ℕ) → IsIn x m.ready → 0 < x) → (x : ℕ) → IsIn x (m.ready ++ woken m first)
      → IsLeft rows marked g x
  ready-left some x i = elim (in_append m.ready i) [
    | inl waits ↦ kept-left x (starts (inl (inl (some x waits, inr waits))))
    | inr wakes ↦ kept-left x (starts (inr wakes))
  ]
