-- Objects that no thread can come to any more: nothing outside of them names one, and no line changes that.
use Rattle.std.proofs.Common.{◌≡◌, ℕ, ◌+◌, ◌<◌, ◌≤◌, ◌⊎◌, inl, inr, List, [], ◌∷◌, map, refl, sym, subst}
use Rattle.std.proofs.Common.{◌∙◌, arith, Bool, true, false, Option, Some, None, cond, zero, suc}
use Rattle.std.proofs.Common.{slice_set}
use Rattle.std.specs.Prelude.{slice_get}
use Rattle.std.specs.List.{AllByRecursion}
use Rattle.std.specs.FinMap as finmap
use Rattle.std.specs.Ordering.{nat_cmp, eq_by_cmp}
use Rattle.std.specs.Cmp.{nat_cmp_total}
use Rattle.clr_types.specs.Rising.{changed_by, IsIn, first, later}
use Rattle.clr_types.specs.Segments.{Layout}
use Rattle.clr_types.specs.Types.{TypeRow, form_at, slot_kinds}
use Rattle.clr_types.specs.declared.handle.Handle.{Handle}
use Rattle.clr_types.proofs.RisingLists.{in_cons}
use Rattle.clr_types.proofs.ChangedLists.{all-slice_set}
use Rattle.clr_types.proofs.ListMembers.{in_append}
use Rattle.clr_model.specs.Machine.{Value, ref, num, Object, ThreadStep, Sums, Machine, Marking}
use Rattle.clr_model.specs.Reach.{Marked}
use Rattle.clr_model.specs.Lookups.{local_of, local_index, object_named, slots_or_none, slots_of_named}
use Rattle.clr_model.specs.Updates.{with_local, with_slot_of, with_slot, with_flag_of, with_flag, with_handle}
use Rattle.clr_model.specs.Updates.{without_handle, with_entry, empty_value, newborn, born_at}
use Rattle.clr_model.specs.Step.{name_in, target_of, second_of, head_or_null, tail_of}
use Rattle.clr_model.proofs.CollectedObjects.{found_by}
use Rattle.clr_model.proofs.SeenNames.{all-slice_index}
use Rattle.clr_background.proofs.Members.{out_of_changed}
use Rattle.clr_background.proofs.CarriedOver.{CarriesOver, IsOrNull}
use Rattle.clr_background.proofs.Changes.{as_null, by_local, by_queue, by_second, by_slot, by_target, IsComeBy}
use Rattle.clr_background.proofs.Changes.{IsComeByIn}

module _ (lost : ℕ → Type 0) where
  abbrev pub IsSafe : ℕ → Type 0
  IsSafe x = lost x → ⊥

  abbrev pub IsSafeValue : Value → Type 0
  IsSafeValue (ref name) = IsSafe name
  IsSafeValue (num number) = Unit {0}

  -- no lost object is marked
  abbrev pub MarksNone : Marking → Type 0
  MarksNone marking = (x : ℕ) → Marked marking x → IsSafe x

  -- the lost ones are names that were given, no root, table or slot of another object names one, and none is marked
  pub record IsCutOff (m : Machine) : Type 0 where
    pub names : (x : ℕ) → lost x → (0 < x) × (x ≤ m.born)
    pub locals : AllByRecursion IsSafe m.locals
    pub handles : (k : ℕ) (row : Handle) → finmap.get m.handles k ≡ Some row → IsSafe row.target × IsSafe row.second
    pub entries : (x : ℕ) → IsIn x m.entries → IsSafe x
    pub ready : (x : ℕ) → IsIn x m.ready → IsSafe x
    pub slots : (o : Object) → IsIn o m.objects → IsSafe o.name → AllByRecursion IsSafeValue o.slots
    pub marked : (marking : Marking) → m.background ≡ Some marking → MarksNone marking

  module _ (m : Machine) (c : IsCutOff m) where
    -- ---- what is safe

    null_safe : IsSafe 0
    null_safe l = let low = (c.names 0 l).0 in omega arith

    local_safe : (t k : ℕ) → IsSafe (local_of m t k)
    local_safe t k = all-slice_index IsSafe null_safe m.locals (local_index t k) c.locals

    named_slots : (x : ℕ) → IsSafe x → AllByRecursion IsSafeValue (slots_of_named m x)
    named_slots x safe = go (object_named m.objects x) refl
      where
        go : (r : Option Object) → object_named m.objects x ≡ r → AllByRecursion IsSafeValue (slots_or_none r)
        go None e = tt
        go (Some o) e =
            let (i, n) = found_by (λ (o : Object). o.name) x m.objects o e in
            c.slots o i (subst IsSafe (sym n) safe)

    read_safe : (vs : List Value) (i : ℕ) → AllByRecursion IsSafeValue vs → IsSafe (name_in (slice_get vs i))
    read_safe [] i all = null_safe
    read_safe (ref x ∷ vs) zero all = all.0
    read_safe (num n ∷ vs) zero all = null_safe
    read_safe (v ∷ vs) (suc i) all = read_safe vs i all.1

    slot_safe : (x i : ℕ) → IsSafe x → IsSafe (name_in (slice_get (slots_of_named m x) i))
    slot_safe x i safe = read_safe (slots_of_named m x) i (named_slots x safe)

    target_safe : (h : ℕ) → IsSafe (target_of (finmap.get m.handles h))
    target_safe h = go (finmap.get m.handles h) refl
      where
        go : (r : Option Handle) → finmap.get m.handles h ≡ r → IsSafe (target_of r)
        go None e = null_safe
        go (Some row) e = (c.handles h row e).0

    second_safe : (h : ℕ) → IsSafe (second_of (finmap.get m.handles h))
    second_safe h = go (finmap.get m.handles h) refl
      where
        go : (r : Option Handle) → finmap.get m.handles h ≡ r → IsSafe (second_of r)
        go None e = null_safe
        go (Some row) e = (c.handles h row e).1

    head_safe : IsSafe (head_or_null m.ready)
    head_safe = go m.ready c.ready
      where
        go : (xs : List ℕ) → ((x : ℕ) → IsIn x xs → IsSafe x) → IsSafe (head_or_null xs)
        go [] all = null_safe
        go (x ∷ xs) all = all x first

    -- what a line comes by is safe
    pub come_by_safe : (x : ℕ) → IsComeBy m x → IsSafe x
    come_by_safe x (as_null e) = subst IsSafe (sym e) null_safe
    come_by_safe x (by_local t k e) = subst IsSafe (sym e) (local_safe t k)
    come_by_safe x (by_slot t k index e) = subst IsSafe (sym e) (slot_safe (local_of m t k) index (local_safe t k))
    come_by_safe x (by_target h e) = subst IsSafe (sym e) (target_safe h)
    come_by_safe x (by_second h e) = subst IsSafe (sym e) (second_safe h)
    come_by_safe x (by_queue e) = subst IsSafe (sym e) head_safe

    pub come_by_safe_in : (v : Value) → IsComeByIn m v → IsSafeValue v
    come_by_safe_in (ref x) by = come_by_safe x by
    come_by_safe_in (num n) by = tt

    -- ---- what lines change

    -- the same objects, tables and births
    pub others_cut_off : (types : List TypeRow) (steps : List ThreadStep) (holder : Option ℕ) (layout : Layout)
        (sums : Sums) (flag : Bool)
        → IsCutOff (record m {
          types = types;
          steps = steps;
          holder = holder;
          layout = layout;
          sums = sums;
          compacts_large = flag;
        })
    others_cut_off types steps holder layout sums flag = record {
      names = c.names;
      locals = c.locals;
      handles = c.handles;
      entries = c.entries;
      ready = c.ready;
      slots = c.slots;
      marked = c.marked;
    }

    -- another marking
    pub marking_cut_off : (marking : Marking) → MarksNone marking
        → IsCutOff (record m { background = Some marking })
    marking_cut_off marking none = record {
      names = c.names;
      locals = c.locals;
      handles = c.handles;
      entries = c.entries;
      ready = c.ready;
      slots = c.slots;
      marked = λ k e. subst MarksNone (only k e) none;
    }
      where
        only : (k : Marking) → Some marking ≡ Some k → marking ≡ k
        only k e = cc

    -- the same objects, tables and births, with other locals
    locals_cut_off : (locals : List ℕ) → AllByRecursion IsSafe locals → IsCutOff (record m { locals = locals })
    locals_cut_off locals all = record {
      names = c.names;
      locals = all;
      handles = c.handles;
      entries = c.entries;
      ready = c.ready;
      slots = c.slots;
      marked = c.marked;
    }

    pub local_cut_off : (t k x : ℕ) → IsSafe x → IsCutOff (with_local m t k x)
    local_cut_off t k x safe =
        locals_cut_off (slice_set m.locals (local_index t k) x)
        (all-slice_set IsSafe m.locals (local_index t k) x c.locals safe)

    -- other objects
    objects_cut_off : (objects : List Object)
        → ((o : Object) → IsIn o objects → IsSafe o.name → AllByRecursion IsSafeValue o.slots)
        → IsCutOff (record m { objects = objects })
    objects_cut_off objects all = record {
      names = c.names;
      locals = c.locals;
      handles = c.handles;
      entries = c.entries;
      ready = c.ready;
      slots = all;
      marked = c.marked;
    }

    changed_cut_off : (name : ℕ) (change : Object → Object)
        → ((o : Object) → (IsSafe o.name → AllByRecursion IsSafeValue o.slots) → IsSafe (change o).name
        → AllByRecursion IsSafeValue (change o).slots)
        → IsCutOff (record m { objects = changed_by (λ (o : Object). o.name) name change m.objects })
    changed_cut_off name change keeps =
        objects_cut_off _ (λ p j. go p (out_of_changed (λ (o : Object). o.name) name change m.objects p j))
      where
        go : (p : Object) → (q : Object) × IsIn q m.objects × ((p ≡ q) ⊎ ((q.name ≡ name) × (p ≡ change q)))
            → IsSafe p.name → AllByRecursion IsSafeValue p.slots
        go p (q, j, inl same) =
            subst (λ (w : Object). IsSafe w.name → AllByRecursion IsSafeValue w.slots) (sym same) (c.slots q j)
        go p (q, j, inr (n, same)) =
            subst (λ (w : Object). IsSafe w.name → AllByRecursion IsSafeValue w.slots) (sym same)
            (keeps q (c.slots q j))

    pub slot_cut_off : (name i : ℕ) (v : Value) → IsSafeValue v → IsCutOff (with_slot m name i v)
    slot_cut_off name i v safe =
        changed_cut_off name (with_slot_of i v) (λ o known s. all-slice_set IsSafeValue o.slots i v (known s) safe)

    pub flag_cut_off : (name : ℕ) (flag : Bool) → IsCutOff (with_flag m name flag)
    flag_cut_off name flag = changed_cut_off name (with_flag_of flag) (λ o known s. known s)

    handles_cut_off : (handles : finmap.FinMap nat_cmp Handle)
        → ((k : ℕ) (row : Handle) → finmap.get handles k ≡ Some row → IsSafe row.target × IsSafe row.second)
        → IsCutOff (record m { handles = handles })
    handles_cut_off handles all = record {
      names = c.names;
      locals = c.locals;
      handles = all;
      entries = c.entries;
      ready = c.ready;
      slots = c.slots;
      marked = c.marked;
    }

    pub handle_cut_off : (h : ℕ) (row : Handle) → IsSafe row.target → IsSafe row.second
        → IsCutOff (with_handle m h row)
    handle_cut_off h row target second = handles_cut_off (finmap.insert m.handles h row)
        (λ k r e. go r (eq_by_cmp nat_cmp k h) (finmap.get m.handles k) (c.handles k)
        (sym (finmap.get-insert nat_cmp_total m.handles h row k) ∙ e))
      where
        go : (r : Handle) (b : Bool) (o : Option Handle)
            → ((row : Handle) → o ≡ Some row → IsSafe row.target × IsSafe row.second)
            → cond b (Some row) o ≡ Some r → IsSafe r.target × IsSafe r.second
        go r true o all e =
            let same : row ≡ r = cc in subst (λ (w : Handle). IsSafe w.target × IsSafe w.second) same (target, second)
        go r false o all e = all r e

    pub freed_cut_off : (h : ℕ) → IsCutOff (without_handle m h)
    freed_cut_off h = handles_cut_off (finmap.remove m.handles h)
        (λ k r e. go r (eq_by_cmp nat_cmp k h) (finmap.get m.handles k) (c.handles k)
        (sym (finmap.get-remove nat_cmp_total m.handles h k) ∙ e))
      where
        go : (r : Handle) (b : Bool) (o : Option Handle)
            → ((row : Handle) → o ≡ Some row → IsSafe row.target × IsSafe row.second)
            → cond b None o ≡ Some r → IsSafe r.target × IsSafe r.second
        go r true o all e = absurd cc
        go r false o all e = all r e

    pub entry_cut_off : (x : ℕ) → IsSafe x → IsCutOff (with_entry m x)
    entry_cut_off x safe = record {
      names = c.names;
      locals = c.locals;
      handles = c.handles;
      entries = λ y i. go y (in_append m.entries i);
      ready = c.ready;
      slots = c.slots;
      marked = c.marked;
    }
      where
        go : (y : ℕ) → IsIn y m.entries ⊎ IsIn y (x ∷ []) → IsSafe y
        go y (inl i) = c.entries y i
        go y (inr i) = subst IsSafe (only y (in_cons i)) safe
          where
            only : (y : ℕ) → (y ≡ x) ⊎ IsIn y [] → x ≡ y
            only y (inl e) = sym e
            only y (inr i) = elim i [ ]

    pub tail_cut_off : IsCutOff (record m { ready = tail_of m.ready })
    tail_cut_off = record {
      names = c.names;
      locals = c.locals;
      handles = c.handles;
      entries = c.entries;
      ready = go m.ready c.ready;
      slots = c.slots;
      marked = c.marked;
    }
      where
        go : (xs : List ℕ) → ((x : ℕ) → IsIn x xs → IsSafe x) → (x : ℕ) → IsIn x (tail_of xs) → IsSafe x
        go [] all x i = elim i [ ]
        go (y ∷ ys) all x i = all x (later i)

    -- ---- births

    -- a name that is given now is none of them
    pub new_safe : IsSafe (m.born + 1)
    new_safe l = let high = (c.names (m.born + 1) l).1 in omega arith

    empty_safe : (kinds : List Bool) → AllByRecursion IsSafeValue (map empty_value kinds)
    empty_safe [] = tt
    empty_safe (true ∷ kinds) = (null_safe, empty_safe kinds)
    empty_safe (false ∷ kinds) = (tt, empty_safe kinds)

    pub birth_cut_off : (t local place type len : ℕ) → IsCutOff (born_at m t local place type len)
    birth_cut_off t local place type len = record {
      names = λ x l. let bounds = c.names x l in let low = bounds.0 in let high = bounds.1 in
          (omega (arith, low), omega (arith, high));
      locals = all-slice_set IsSafe m.locals (local_index t local) (m.born + 1) c.locals new_safe;
      handles = c.handles;
      entries = c.entries;
      ready = c.ready;
      slots = λ p i. go p (in_append m.objects i);
      marked = c.marked;
    }
      where
        go : (p : Object) → IsIn p m.objects ⊎ IsIn p (newborn m place type len ∷ []) → IsSafe p.name
            → AllByRecursion IsSafeValue p.slots
        go p (inl i) safe = c.slots p i safe
        go p (inr i) safe = only (in_cons i)
          where
            only : (p ≡ newborn m place type len) ⊎ IsIn p [] → AllByRecursion IsSafeValue p.slots
            only (inl e) = subst (λ (w : Object). AllByRecursion IsSafeValue w.slots) (sym e)
                (empty_safe (slot_kinds (form_at m.types type) len))
            only (inr i) = elim i [ ]

    -- ---- what is carried over

    pub carried_cut_off : (new : Machine) → CarriesOver m new → IsCutOff new
    carried_cut_off new carried = record {
      names = λ x l. let bounds = c.names x l in let same = carried.born in let low = bounds.0 in
          let high = bounds.1 in (omega (arith, low), omega (arith, high, same));
      locals = subst (AllByRecursion IsSafe) (sym carried.locals) c.locals;
      handles = λ k row e. let was = carried.handles k row e in let both = c.handles k was.old was.in_use in
          (or_null was.old.target row.target both.0 was.target, or_null was.old.second row.second both.1 was.second);
      entries = λ x i. c.entries x (carried.entries x i);
      ready = λ x i. queued x (carried.ready x i);
      slots = λ p i safe. let (q, j, alike) = carried.objects p i in
          subst (AllByRecursion IsSafeValue) (sym alike.slots) (c.slots q j (subst IsSafe alike.name safe));
      marked = λ marking e. c.marked marking (carried.background marking e);
    }
      where
        or_null : (old x : ℕ) → IsSafe old → IsOrNull old x → IsSafe x
        or_null old x safe (inl e) = subst IsSafe (sym e) safe
        or_null old x safe (inr e) = subst IsSafe (sym e) null_safe

        queued : (x : ℕ) → IsIn x m.ready ⊎ IsIn x m.entries → IsSafe x
        queued x (inl i) = c.ready x i
        queued x (inr i) = c.entries x i
