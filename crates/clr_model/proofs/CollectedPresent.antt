-- After a collection every name in the state is null or an object's: what an object that stays names, stays.
use Rattle.std.proofs.Common.{◌≡◌, ℕ, ◌+◌, ◌<◌, inl, inr, List, [], ◌∷◌, ◌++◌, map, refl, sym, ap, subst, Bool, true}
use Rattle.std.proofs.Common.{false, if◌then◌else◌, filter, not, ◌&&◌, ◌==◌, ◌∙◌, Some, None, Option}
use Rattle.std.proofs.lemmas.Bool.{eqb-true}
use Rattle.std.specs.List.{AllByRecursion}
use Rattle.std.specs.FinMap as finmap
use Rattle.clr_types.specs.Rising.{IsIn, Tests}
use Rattle.clr_types.specs.Types.{has_finalizer, type_row}
use Rattle.clr_types.specs.Segments.{Layout}
use Rattle.clr_types.specs.declared.handle.Kind.{Kind}
use Rattle.clr_types.specs.declared.handle.Kind.TheVariants.{Strong, Pinned, Weak, WeakLong, Dependent}
use Rattle.clr_types.proofs.RisingLists.{all_at}
use Rattle.clr_types.proofs.ChangedLists.{all_members, IsIn-map, into_filter, out_of_filter}
use Rattle.clr_types.proofs.ListMembers.{from-map, in_append}
use Rattle.clr_types.specs.declared.handle.Handle.{Handle}
use Rattle.clr_model.specs.Machine.{Value, ref, num, Object, ThreadStep, no_step, begun_store, begun_new, Sums}
use Rattle.clr_model.specs.Machine.{Marking, Machine}
use Rattle.clr_model.specs.Lookups.{lowest_step_from, object_named, type_of_object}
use Rattle.clr_types.specs.Kinds.{is_dependent, is_root_kind}
use Rattle.clr_types.specs.Maps.{map_values}
use Rattle.clr_model.specs.Reach.{starts, follows, Edge, StartOf, IsAlive, Kept, woken, is_suppressed}
use Rattle.clr_model.specs.Compaction.{Move}
use Rattle.clr_model.specs.Collection.{kept_or_null, row_of_kind, row_after, object_after, objects_after}
use Rattle.clr_model.specs.Lawful.{IsFinal, IsShaped, IsPresent, IsNullOrPresent, SlotIsPresent, StepIsPresent}
use Rattle.clr_model.specs.Lawful.{NamesArePresent, HasItsSecond, HasItsRoom, AllFrom}
use Rattle.clr_model.proofs.Reaching.{reach_grows}
use Rattle.clr_types.proofs.MapValues.{values-map_values, value-in_use}
use Rattle.clr_model.proofs.NamedWell.{HasObject, found_named}
use Rattle.clr_model.proofs.BirthSeen.{member-present}

-- ---- threads that began nothing

-- where no thread is between the halves of a step, all have begun nothing
pub all_idle : (t : ℕ) (steps : List ThreadStep) → lowest_step_from t steps ≡ None
    → AllByRecursion (λ (s : ThreadStep). s ≡ no_step) steps
all_idle t [] none = tt
all_idle t (no_step ∷ ss) none = (refl, all_idle (t + 1) ss none)
all_idle t (begun_store object slot ∷ ss) none = absurd cc
all_idle t (begun_new type len local ∷ ss) none = absurd cc

-- and need no room
pub idle_rooms : (m : Machine) (t : ℕ) (steps : List ThreadStep)
    → AllByRecursion (λ (s : ThreadStep). s ≡ no_step) steps → AllFrom (HasItsRoom m) t steps
idle_rooms m t [] idle = tt
idle_rooms m t (s ∷ ss) idle = (subst (HasItsRoom m t) (sym idle.0) tt, idle_rooms m (t + 1) ss idle.1)

-- ---- names

-- the machine that a collection leaves
abbrev pub collected_machine : Machine → (ℕ → Bool) → (ℕ → Bool) → List Move → Layout → Sums → Option Marking → Machine
collected_machine m alive kept moves layout sums background = record m {
  objects = objects_after m alive kept moves;
  handles = map_values (row_after alive kept) m.handles;
  entries = filter alive m.entries;
  ready = m.ready ++ woken m alive;
  layout = layout;
  sums = sums;
  background = background;
}

module _ (m : Machine) (shapes : AllByRecursion (IsShaped m) m.objects) (names : NamesArePresent m)
    (seconds : AllByRecursion HasItsSecond (finmap.values m.handles)) (g : ℕ) (alive kept : ℕ → Bool)
    {source : ℕ → Type 0} (covers : (x : ℕ) → StartOf m g x → source x) (alive_is : Tests alive (IsAlive m source))
    (kept_is : Tests kept (Kept m source alive))
    (moves : List Move) (layout : Layout) (sums : Sums) (background : Option Marking)
  where
    abbrev next : Machine
    next = collected_machine m alive kept moves layout sums background

    -- an object that stays is found
    left : (x : ℕ) → IsPresent m x → kept x ≡ true → IsPresent next x
    left x there stays = go (found_named m.objects x there)
      where
        go : HasObject m.objects x → IsPresent next x
        go (o, i, n) =
            subst (IsPresent next) n
            (member-present next.objects (object_after m alive moves o)
            (IsIn-map (object_after m alive moves)
            (into_filter (λ (o : Object). kept o.name) m.objects (subst (λ k. kept k ≡ true) (sym n) stays) i)))

    above : (x : ℕ) → IsPresent m x → 0 < x
    above x there = go (found_named m.objects x there)
      where
        go : HasObject m.objects x → 0 < x
        go (o, i, n) = subst (λ k. 0 < k) n (all_at (IsShaped m) i shapes).named

    null_or : (x : ℕ) → IsNullOrPresent m x → (0 < x → kept x ≡ true) → IsNullOrPresent next x
    null_or x (inl null) stays = inl null
    null_or x (inr there) stays = inr (left x there (stays (above x there)))

    -- what is alive before finalisation stays
    alive-stays : (x : ℕ) → alive x ≡ true → kept x ≡ true
    alive-stays x e = (kept_is x).1 (reach_grows (λ y s. inl s) ((alive_is x).0 e))

    start-stays : (x : ℕ) → StartOf m g x → kept x ≡ true
    start-stays x s = (kept_is x).1 (starts (inl (covers x s)))

    edge-stays : (x y : ℕ) → kept x ≡ true → Edge m x y → kept y ≡ true
    edge-stays x y stays e = (kept_is y).1 (follows ((kept_is x).0 stays) e)

    -- ---- slots

    slot-after : (o : Object) → IsIn o m.objects → kept o.name ≡ true → (v : Value) → IsIn v o.slots
        → SlotIsPresent m v → SlotIsPresent next v
    slot-after o i stays (ref y) j there =
        null_or y there (λ some. edge-stays o.name y stays
        (inl (record { object = o; present = i; named = refl; slot = j; not_null = some })))
    slot-after o i stays (num n) j there = tt

    slots-after : (o : Object) → IsIn o next.objects → AllByRecursion (SlotIsPresent next) o.slots
    slots-after o i =
        let (q, e, j) = from-map (object_after m alive moves) o (filter (λ (o : Object). kept o.name) m.objects) i in
        let (stays, k) = out_of_filter (λ (o : Object). kept o.name) q m.objects j in
        subst (λ (w : Object). AllByRecursion (SlotIsPresent next) w.slots) (sym e)
        (all_members (SlotIsPresent next) q.slots
        (λ v n. slot-after q k stays v n
        (all_at (SlotIsPresent m) n (all_at (λ (o : Object). AllByRecursion (SlotIsPresent m) o.slots) k names.slots))))

    -- ---- handles

    abbrev RowIsPresent : Machine → Handle → Type 0
    RowIsPresent w row = IsNullOrPresent w row.target × IsNullOrPresent w row.second

    kept-or-null : (test : ℕ → Bool) → ((x : ℕ) → test x ≡ true → kept x ≡ true) → (x : ℕ) → IsNullOrPresent m x
        → IsNullOrPresent next (kept_or_null test x)
    kept-or-null test stays x there = go (test x) refl
      where
        go : (b : Bool) → test x ≡ b → IsNullOrPresent next (if b then x else 0)
        go true e = null_or x there (λ some. stays x e)
        go false e = inl refl

    row-after : (row : Handle) → (k : ℕ) → finmap.get m.handles k ≡ Some row → RowIsPresent m row → HasItsSecond row
        → RowIsPresent next (row_after alive kept row)
    row-after row k used there second = go row.kind refl
      where
        root-stays : is_root_kind row.kind ≡ true → 0 < row.target → kept row.target ≡ true
        root-stays root some =
            start-stays row.target (inl (
              some,
              inl
                  (inr (record { handle = k; row = row; in_use = used; holds = root; target = refl })),
            ))

        dependent : is_dependent row.kind ≡ true → (b : Bool) → kept row.target ≡ b
            → RowIsPresent next (if b then row else record row { target = 0; second = 0 })
        dependent kind true stays = (
          null_or row.target there.0 (λ some. stays),
          null_or row.second there.1 (λ some. edge-stays row.target row.second stays
              (inr (record {
                handle = k;
                row = row;
                in_use = used;
                dependent = kind;
                primary = refl;
                secondary = refl;
                not_null = some;
              }))),
        )
        dependent kind false gone = (inl refl, inl refl)

        go : (kind : Kind) → row.kind ≡ kind → RowIsPresent next (row_of_kind alive kept kind row)
        go Strong e =
            (null_or row.target there.0 (root-stays (ap is_root_kind e)), inl (second.dependent (ap is_dependent e)))
        go Pinned e =
            (null_or row.target there.0 (root-stays (ap is_root_kind e)), inl (second.dependent (ap is_dependent e)))
        go Weak e = (kept-or-null alive alive-stays row.target there.0, inl (second.dependent (ap is_dependent e)))
        go WeakLong e =
            (kept-or-null kept (λ x stays. stays) row.target there.0, inl (second.dependent (ap is_dependent e)))
        go Dependent e = dependent (ap is_dependent e) (kept row.target) refl

    row-second : (row : Handle) → HasItsSecond row → HasItsSecond (row_after alive kept row)
    row-second row second = go row.kind refl
      where
        by : (b : Bool) → HasItsSecond (if b then row else record row { target = 0; second = 0 })
        by true = second
        by false = record { dependent = λ other. refl; primary = λ null. refl }

        -- a weak handle has no second
        retargeted : is_dependent row.kind ≡ false → (target : ℕ) → HasItsSecond (record row { target = target })
        retargeted other target =
            let none = second.dependent other in record { dependent = λ e. none; primary = λ null. none }

        go : (kind : Kind) → row.kind ≡ kind → HasItsSecond (row_of_kind alive kept kind row)
        go Strong e = second
        go Pinned e = second
        go Weak e = retargeted (ap is_dependent e) (kept_or_null alive row.target)
        go WeakLong e = retargeted (ap is_dependent e) (kept_or_null kept row.target)
        go Dependent e = by (kept row.target)

    -- Every name is null or an object's, where no thread is in a step.
    pub names_left : AllByRecursion (λ (s : ThreadStep). s ≡ no_step) m.steps
        → NamesArePresent (collected_machine m alive kept moves layout sums background)
    names_left idle = record {
      slots = all_members (λ (o : Object). AllByRecursion (SlotIsPresent next) o.slots) next.objects slots-after;
      locals =
          all_members (IsNullOrPresent next) m.locals
          (λ x i. null_or x (all_at (IsNullOrPresent m) i names.locals)
          (λ some. start-stays x (inl (some, inl (inl i)))));
      handles =
          subst (AllByRecursion (RowIsPresent next)) (sym (values-map_values (row_after alive kept) m.handles))
          (all_members (RowIsPresent next) (map (row_after alive kept) (finmap.values m.handles))
          (λ r i.
          let (row, e, j) = from-map (row_after alive kept) r (finmap.values m.handles) i in
          let (k, used) = value-in_use m.handles row j in
          subst (RowIsPresent next) (sym e)
          (row-after row k used (all_at (RowIsPresent m) j names.handles) (all_at HasItsSecond j seconds))));
      entries =
          all_members (IsPresent next) (filter alive m.entries)
          (λ x i. let (e, j) = out_of_filter alive x m.entries i in
          left x (all_at (IsPresent m) j names.entries) (alive-stays x e));
      ready = all_members (IsPresent next) (m.ready ++ woken m alive) ready-after;
      steps =
          all_members (StepIsPresent next) m.steps
          (λ s i. subst (StepIsPresent next) (sym (all_at (λ (s : ThreadStep). s ≡ no_step) i idle)) tt);
    }
      where
        ready-after : (x : ℕ) → IsIn x (m.ready ++ woken m alive) → IsPresent next x
        ready-after x i =
            elim (in_append m.ready i) [
              | inl j ↦ let there = all_at (IsPresent m) j names.ready in
                  left x there (start-stays x (inl (above x there, inr j)))
              | inr j ↦
                  let (e, k) = out_of_filter (λ e. not (alive e) && not (is_suppressed m e)) x m.entries j in
                  left x (all_at (IsPresent m) k names.entries) ((kept_is x).1 (starts (inr j)))
            ]

    -- ---- what is queued

    abbrev left_of : List Object → List Object
    left_of os = map (object_after m alive moves) (filter (λ o. kept o.name) os)

    -- an object that stays has its type
    type-left : (os : List Object) (x : ℕ) → kept x ≡ true
        → type_of_object (object_named (left_of os) x) ≡ type_of_object (object_named os x)
    type-left [] x stays = refl
    type-left (o ∷ os) x stays = go (kept o.name) (o.name == x) refl refl (type-left os x stays)
      where
        at : (b : Bool) → type_of_object (object_named (left_of os) x) ≡ type_of_object (object_named os x)
            → type_of_object (if b then Some (object_after m alive moves o) else object_named (left_of os) x)
            ≡ type_of_object (if b then Some o else object_named os x)
        at true rest = refl
        at false rest = rest

        go : (a b : Bool) → kept o.name ≡ a → (o.name == x) ≡ b
            → type_of_object (object_named (left_of os) x) ≡ type_of_object (object_named os x)
            → type_of_object (object_named
            (map (object_after m alive moves)
            (if a then o ∷ filter (λ o. kept o.name) os else filter (λ o. kept o.name) os)) x)
            ≡ type_of_object (if o.name == x then Some o else object_named os x)
        go true b e f rest = at (o.name == x) rest
        go false true e f rest = let same : kept x ≡ false = ap kept (sym (eqb-true o.name x f)) ∙ e in absurd cc
        go false false e f rest = rest ∙ sym (ap (λ b. type_of_object (if b then Some o else object_named os x)) f)

    final-left : (x : ℕ) → kept x ≡ true → IsFinal m x → IsFinal next x
    final-left x stays is = ap (λ t. has_finalizer (type_row m.types t)) (type-left m.objects x stays) ∙ is

    -- The entries that stay are of types with a finaliser,
    pub entries_final : AllByRecursion (IsFinal m) m.entries
        → AllByRecursion (IsFinal (collected_machine m alive kept moves layout sums background))
        (filter alive m.entries)
    entries_final final =
        all_members (IsFinal next) (filter alive m.entries)
        (λ x i. let (e, j) = out_of_filter alive x m.entries i in
        final-left x (alive-stays x e) (all_at (IsFinal m) j final))

    -- and so is what is ready.
    pub ready_final : AllByRecursion (IsFinal m) m.entries → AllByRecursion (IsFinal m) m.ready
        → AllByRecursion (IsFinal (collected_machine m alive kept moves layout sums background))
        (m.ready ++ woken m alive)
    ready_final entries ready = all_members (IsFinal next) (m.ready ++ woken m alive) final-ready
      where
        final-ready : (x : ℕ) → IsIn x (m.ready ++ woken m alive) → IsFinal next x
        final-ready x i =
            elim (in_append m.ready i) [
              | inl j ↦ let there = all_at (IsPresent m) j names.ready in
                  final-left x (start-stays x (inl (above x there, inr j))) (all_at (IsFinal m) j ready)
              | inr j ↦
                  let (e, k) = out_of_filter (λ e. not (alive e) && not (is_suppressed m e)) x m.entries j in
                  final-left x ((kept_is x).1 (starts (inr j))) (all_at (IsFinal m) k entries)
            ]

    -- Only dependent handles name a second object.
    pub seconds_left : AllByRecursion HasItsSecond
        (finmap.values (collected_machine m alive kept moves layout sums background).handles)
    seconds_left =
        subst (AllByRecursion HasItsSecond) (sym (values-map_values (row_after alive kept) m.handles))
        (all_members HasItsSecond (map (row_after alive kept) (finmap.values m.handles))
        (λ r i. let (row, e, j) = from-map (row_after alive kept) r (finmap.values m.handles) i in
        subst HasItsSecond (sym e) (row-second row (all_at HasItsSecond j seconds))))
