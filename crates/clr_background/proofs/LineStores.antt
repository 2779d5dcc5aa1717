-- What a line stores into slots, and where it leaves the objects of generation 2.
use Rattle.std.proofs.Common.{◌≡◌, ℕ, ◌+◌, ◌-◌, ◌<◌, ◌≤◌, ◌⊎◌, inl, inr, List, [], ◌∷◌, ◌++◌, length, refl, sym, ap}
use Rattle.std.proofs.Common.{subst, ◌∙◌, arith, Bool, true, false, if◌then◌else◌, ◌==◌, nat_le, Some, slice_set}
use Rattle.std.specs.Prelude.{is_some, IsTrue, slice_get}
use Rattle.std.proofs.lemmas.Bool.{and_parts, leb-true}
use Rattle.clr_types.specs.Rising.{IsIn, changed_by}
use Rattle.clr_types.specs.Types.{type_row}
use Rattle.clr_types.specs.Segments.{Layout}
use Rattle.clr_types.proofs.ChangedLists.{append_left, rising-distinct, slice_get-slice_set}
use Rattle.clr_types.proofs.GrownTables.{type_row-grown}
use Rattle.clr_types.proofs.ListMembers.{in_append}
use Rattle.clr_types.proofs.RisingLists.{all_at, in_cons}
use Rattle.clr_types.proofs.SortedLists.{same_by_key}
use Rattle.clr_model.specs.Machine.{Value, ref, Object, ThreadStep, begun_store, Sums, Machine}
use Rattle.clr_model.specs.Lookups.{is_step, is_thread, local_of, step_of}
use Rattle.clr_model.specs.Updates.{born_at, newborn, with_entry, with_flag, with_flag_of, with_handle, with_local}
use Rattle.clr_model.specs.Updates.{with_slot, with_slot_of, with_step, without_handle}
use Rattle.clr_model.specs.Lawful.{IsBirthNamed}
use Rattle.clr_model.specs.Instructions.{Instruction}
use Rattle.clr_model.specs.Step.{head_or_null, tail_of}
use Rattle.clr_model.proofs.MarkingKept.{in_changed}
use Rattle.clr_background.specs.Laws.{OldStayPutLaw, StaysPut}
use Rattle.clr_background.specs.Log.{CompletesStore}
use Rattle.clr_background.proofs.CarriedOver.{CarriesOver, WasIn}
use Rattle.clr_background.proofs.Changes.{adds_entry, adds_handle, adds_type, begins_marking, begins_store, Change}
use Rattle.clr_background.proofs.Changes.{frees_handle, gives_birth, goes_on, idle_goes_on, IsUsualLine, line_changes}
use Rattle.clr_background.proofs.Changes.{rearranged}
use Rattle.clr_background.proofs.Changes.{scans_on, sets_flag, StepsGoOn, stores_value, takes_name}
use Rattle.clr_background.proofs.Changes.{takes_queued, usual_line, with_birth}
use Rattle.clr_background.proofs.Members.{out_of_changed, read_beside, read_member}
use Rattle.clr_background.proofs.OldStays.{LeavesOld, LeavesOldWhile, leaves_after, put_itself, same_leave}

-- ---- births

-- what a birth changes of objects, steps, types and the marking
pub record IsBirth (m : Machine) (steps : List ThreadStep) (place type len : ℕ) (new : Machine) : Type 0 where
  pub objects : new.objects ≡ m.objects ++ (newborn m place type len ∷ [])
  pub begun : new.steps ≡ steps
  pub types : new.types ≡ m.types
  pub background : new.background ≡ m.background

pub birth_is : (m : Machine) (steps : List ThreadStep) (layout : Layout) (sums : Sums) (entered : Bool)
    (t local place type len : ℕ)
    → IsBirth m steps place type len (with_birth m steps layout sums entered t local place type len)
birth_is m steps layout sums entered t local place type len = go entered
  where
    born : Machine
    born = born_at (record m { steps = steps; layout = layout }) t local place type len

    go : (e : Bool) → IsBirth m steps place type len
        (record (if e then with_entry born (m.born + 1) else born) { sums = sums })
    go true = record { objects = refl; begun = refl; types = refl; background = refl }
    go false = record { objects = refl; begun = refl; types = refl; background = refl }

-- an object is there, or is born now
born_or_there : (objects : List Object) (born p : Object) → IsIn p (objects ++ (born ∷ []))
    → IsIn p objects ⊎ (p ≡ born)
born_or_there objects born p i = elim (in_append objects i) [
  | inl j ↦ inl j
  | inr j ↦ elim (in_cons j) [ inl e ↦ inr e | inr k ↦ elim k [ ] ]
]

-- ---- what is stored

module _ (m : Machine) (i : Instruction) (new : Machine) where
  -- the line completes the store into this slot, or begins it
  abbrev pub IsExcused : ℕ → ℕ → Type 0
  IsExcused name slot = CompletesStore m i name slot ⊎ IsIn (begun_store name slot) new.steps

  -- the object was there, with its type; each reference in its slots was there too, or is excused
  pub record WasStored (p : Object) : Type 0 where
    pub old : Object
    pub present : IsIn old m.objects
    pub name : p.name ≡ old.name
    pub type : p.type ≡ old.type
    pub slots : (slot x : ℕ) → slice_get p.slots slot ≡ Some (ref x)
        → (slice_get old.slots slot ≡ Some (ref x)) ⊎ IsExcused old.name slot

  -- objects were there, or are born now, and types stay
  pub record StoresOnly : Type 0 where
    pub objects : (p : Object) → IsIn p new.objects → WasStored p ⊎ (m.born < p.name)
    pub steps : StepsGoOn m i new.steps
    pub types : (t : ℕ) → is_some (type_row m.types t) ≡ true → type_row new.types t ≡ type_row m.types t

  was : (p : Object) → WasIn m.objects p → WasStored p
  was p (old, j, alike) = record {
    old = old;
    present = j;
    name = alike.name;
    type = alike.type;
    slots = λ slot x e. inl (subst (λ vs. slice_get vs slot ≡ Some (ref x)) alike.slots e);
  }

  itself : (p : Object) → IsIn p m.objects → WasStored p
  itself p j = was p (p, j, record { name = refl; type = refl; slots = refl })

  -- nothing, where the objects are as they were
  same_stored : new.objects ≡ m.objects → StepsGoOn m i new.steps → new.types ≡ m.types → StoresOnly
  same_stored objects steps types = record {
    objects = λ p j. inl (itself p (subst (IsIn p) objects j));
    steps = steps;
    types = λ t there. ap (λ rows. type_row rows t) types;
  }

  alike_stored : (after : Machine) → new ≡ after → after.objects ≡ m.objects → after.steps ≡ m.steps
      → after.types ≡ m.types → StoresOnly
  alike_stored after same objects steps types =
      same_stored (ap (λ (w : Machine). w.objects) same ∙ objects)
      (λ name slot j. inl (subst (IsIn (begun_store name slot)) (sym (ap (λ (w : Machine). w.steps) same ∙ steps)) j))
      (ap (λ (w : Machine). w.types) same ∙ types)

  carried_stored : CarriesOver m new → StoresOnly
  carried_stored c = record {
    objects = λ p j. inl (was p (c.objects p j));
    steps = λ name slot j. inl (subst (IsIn (begun_store name slot)) (sym c.steps) j);
    types = λ t there. ap (λ rows. type_row rows t) c.types;
  }

  born_stored : (ready : Machine) → CarriesOver m ready → (steps : List ThreadStep) (place type len : ℕ)
      → IsBirth ready steps place type len new → StepsGoOn m i steps → StoresOnly
  born_stored ready c steps place type len b go_on = record {
    objects = λ p j. elim (born_or_there ready.objects (newborn ready place type len) p (subst (IsIn p) b.objects j)) [
      | inl k ↦ inl (was p (c.objects p k))
      | inr e ↦ let name = ap (λ (w : Object). w.name) e in let born = c.born in inr (omega (arith, name, born))
    ];
    steps = subst (StepsGoOn m i) (sym b.begun) go_on;
    types = λ t there. ap (λ rows. type_row rows t) (b.types ∙ c.types);
  }

  -- one object after another with a slot put anew
  slots_stored : (name index : ℕ) (v : Value)
      → ((slot x : ℕ) → slot ≡ index → v ≡ ref x → (y : ℕ) → y ≡ name → IsExcused y slot)
      → (p : Object) → IsIn p (changed_by (λ (o : Object). o.name) name (with_slot_of index v) m.objects)
      → WasStored p
  slots_stored name index v excuse p j =
      go (out_of_changed (λ (o : Object). o.name) name (with_slot_of index v) m.objects p j)
    where
      go : (q : Object) × IsIn q m.objects × ((p ≡ q) ⊎ ((q.name ≡ name) × (p ≡ with_slot_of index v q)))
          → WasStored p
      go (q, l, inl same) = subst WasStored (sym same) (itself q l)
      go (q, l, inr (n, same)) = record {
        old = q;
        present = l;
        name = ap (λ (w : Object). w.name) same;
        type = ap (λ (w : Object). w.type) same;
        slots = λ slot x e. elim (read_beside q.slots index slot v (ref x)
            (subst (λ (w : Object). slice_get w.slots slot ≡ Some (ref x)) same e)) [
              | inl f ↦ inl f
              | inr f ↦ inr (excuse slot x f.0 (sym f.1) q.name n)
            ];
      }

  flags_stored : (name : ℕ) (flag : Bool) (p : Object)
      → IsIn p (changed_by (λ (o : Object). o.name) name (with_flag_of flag) m.objects) → WasStored p
  flags_stored name flag p j =
      go (out_of_changed (λ (o : Object). o.name) name (with_flag_of flag) m.objects p j)
    where
      go : (q : Object) × IsIn q m.objects × ((p ≡ q) ⊎ ((q.name ≡ name) × (p ≡ with_flag_of flag q)))
          → WasStored p
      go (q, l, inl same) = subst WasStored (sym same) (itself q l)
      go (q, l, inr (n, same)) = was p (
        q,
        l,
        record {
          name = ap (λ (w : Object). w.name) same;
          type = ap (λ (w : Object). w.type) same;
          slots = ap (λ (w : Object). w.slots) same;
        },
      )

-- the thread has its place among the steps
thread_low : (t : ℕ) → is_thread t ≡ true → (1 ≤ t) × (t ≤ 16)
thread_low t e = let (a, b) = and_parts (nat_le 1 t) (nat_le t 16) e in (leb-true 1 t a, leb-true t 16 b)

-- a store that begins: its slot takes the reference, and its thread holds it
begins_stored : (m : Machine) (i : Instruction) → IsBirthNamed m → (t name index x : ℕ) → is_thread t ≡ true
    → is_step (step_of m t) ≡ false
    → StoresOnly m i (with_step (with_slot m name index (ref x)) t (begun_store name index))
begins_stored m i h t name index x thread idle = record {
  objects = λ p j. inl (slots_stored m i after name index (ref x)
      (λ slot y at e z named. inr (subst (λ n. IsIn (begun_store n slot) after.steps) (sym named)
      (subst (λ k. IsIn (begun_store name k) after.steps) (sym at) begun))) p j);
  steps = λ y slot j. inl (idle_goes_on m t (begun_store name index) idle y slot j);
  types = λ u there. refl;
}
  where
    after : Machine
    after = with_step (with_slot m name index (ref x)) t (begun_store name index)

    begun : IsIn (begun_store name index) (slice_set m.steps (t - 1) (begun_store name index))
    begun =
        let (low, high) = thread_low t thread in
        let count : length m.steps ≡ 16 = h.lawful.steps in
        read_member (slice_set m.steps (t - 1) (begun_store name index)) (t - 1) (begun_store name index)
        (slice_get-slice_set m.steps (t - 1) (begun_store name index) (omega (arith, low, high, count)))

pub change_stores : (m : Machine) (i : Instruction) (new : Machine) → IsBirthNamed m → Change m i new
    → StoresOnly m i new
change_stores m i new h (rearranged made) = carried_stored m i new made.carries
change_stores m i new h (takes_name t k x by same) =
    alike_stored m i new (with_local m t k x) same refl refl refl
change_stores m i new h (takes_queued t k same) =
    alike_stored m i new (record (with_local m t k (head_or_null m.ready)) { ready = tail_of m.ready }) same refl refl
    refl
change_stores m i new h (stores_value t into index v by logs same) =
    let after = with_slot m (local_of m t into) index v in
    subst (StoresOnly m i) (sym same) (record {
      objects = λ p j. inl (slots_stored m i after (local_of m t into) index v
          (λ slot x at e y named. inl (subst (λ n. CompletesStore m i n slot) (sym named)
          (subst (CompletesStore m i (local_of m t into)) (sym at) (logs x e)))) p j);
      steps = λ name slot j. inl j;
      types = λ u there. refl;
    })
change_stores m i new h (begins_store t into index from thread idle same) =
    subst (StoresOnly m i) (sym same)
    (begins_stored m i h t (local_of m t into) index (local_of m t from) thread idle)
change_stores m i new h (sets_flag name flag same) =
    let after = with_flag m name flag in
    subst (StoresOnly m i) (sym same) (record {
      objects = λ p j. inl (flags_stored m i after name flag p j);
      steps = λ name slot j. inl j;
      types = λ u there. refl;
    })
change_stores m i new h (adds_entry x by same) =
    alike_stored m i new (with_entry m x) same refl refl refl
change_stores m i new h (adds_handle k row target second same) =
    alike_stored m i new (with_handle m k row) same refl refl refl
change_stores m i new h (frees_handle k same) =
    alike_stored m i new (without_handle m k) same refl refl refl
change_stores m i new h (adds_type row same) =
    let after = record m { types = m.types ++ (row ∷ []) } in
    subst (StoresOnly m i) (sym same) (record {
      objects = λ p j. inl (itself m i after p j);
      steps = λ name slot j. inl j;
      types = λ t there. type_row-grown m.types row t there;
    })
change_stores m i new h (goes_on ready made steps holder flag go_on same) =
    let c = made.carries in
    let after = record ready { steps = steps; holder = holder; compacts_large = flag } in
    subst (StoresOnly m i) (sym same) (record {
      objects = λ p j. inl (was m i after p (c.objects p j));
      steps = go_on;
      types = λ t there. ap (λ rows. type_row rows t) c.types;
    })
change_stores m i new h (gives_birth ready made steps layout sums entered t local place type len go_on same) =
    subst (StoresOnly m i) (sym same)
    (born_stored m i (with_birth ready steps layout sums entered t local place type len) ready made.carries steps place
    type len (birth_is ready steps layout sums entered t local place type len) go_on)
change_stores m i new h (begins_marking marking none is same) =
    alike_stored m i new (record m { background = Some marking }) same refl refl refl
change_stores m i new h (scans_on old n count marking runs scans same) =
    alike_stored m i new (record m { background = Some marking }) same refl refl refl

-- ---- objects of generation 2

-- a change that leaves name, place, type and length
record LeavesPlace (change : Object → Object) : Type 0 where
  pub name : (o : Object) → (change o).name ≡ o.name
  pub place : (o : Object) → (change o).place ≡ o.place
  pub type : (o : Object) → (change o).type ≡ o.type
  pub len : (o : Object) → (change o).len ≡ o.len

slot_leaves : (index : ℕ) (v : Value) → LeavesPlace (with_slot_of index v)
slot_leaves index v = record { name = λ o. refl; place = λ o. refl; type = λ o. refl; len = λ o. refl }

flag_leaves : (flag : Bool) → LeavesPlace (with_flag_of flag)
flag_leaves flag = record { name = λ o. refl; place = λ o. refl; type = λ o. refl; len = λ o. refl }

changed_leaves : (m new : Machine) → IsBirthNamed m → (name : ℕ) (change : Object → Object) → LeavesPlace change
    → new.objects ≡ changed_by (λ (o : Object). o.name) name change m.objects → LeavesOld m new
changed_leaves m new h name change l same = record {
  puts = λ o i above. put o (o.name == name) (subst (IsIn (if o.name == name then change o else o)) (sym same)
      (in_changed (λ (o : Object). o.name) name change o m.objects i));
  places = λ p o j i above named.
      place p o i named (out_of_changed (λ (o : Object). o.name) name change m.objects p (subst (IsIn p) same j));
}
  where
    put : (o : Object) (b : Bool) → IsIn (if b then change o else o) new.objects → StaysPut new o
    put o true i = record {
      object = change o;
      present = i;
      name = l.name o;
      place = l.place o;
      type = l.type o;
      len = l.len o;
    }
    put o false i = put_itself new o i

    one : (q o : Object) → IsIn q m.objects → IsIn o m.objects → q.name ≡ o.name → q.place ≡ o.place
    one q o k i e = ap (λ (w : Object). w.place) (same_by_key (λ (w : Object). w.name) m.objects q o
        (rising-distinct (λ (w : Object). w.name) m.objects h.lawful.names_rise) k i e)

    place : (p o : Object) → IsIn o m.objects → p.name ≡ o.name
        → (q : Object) × IsIn q m.objects × ((p ≡ q) ⊎ ((q.name ≡ name) × (p ≡ change q))) → p.place ≡ o.place
    place p o i named (q, k, inl e) =
        ap (λ (w : Object). w.place) e ∙ one q o k i (sym (ap (λ (w : Object). w.name) e) ∙ named)
    place p o i named (q, k, inr (n, e)) =
        ap (λ (w : Object). w.place) e ∙ l.place q
        ∙ one q o k i (sym (l.name q) ∙ sym (ap (λ (w : Object). w.name) e) ∙ named)

-- a birth adds an object of a new name
born_leaves : (m ready new : Machine) → IsBirthNamed m → ready.born ≡ m.born → (steps : List ThreadStep)
    (place type len : ℕ) → IsBirth ready steps place type len new → LeavesOld m ready → LeavesOld m new
born_leaves m ready new h same steps place type len b l = record {
  puts = λ o i above. let s = l.puts o i above in
      record {
        object = s.object;
        present = subst (IsIn s.object) (sym b.objects) (append_left (newborn ready place type len ∷ []) s.present);
        name = s.name;
        place = s.place;
        type = s.type;
        len = s.len;
      };
  places = λ p o j i above named. elim (born_or_there ready.objects (newborn ready place type len) p
      (subst (IsIn p) b.objects j)) [
        | inl k ↦ l.places p o k i above named
        | inr e ↦
            let least : o.name ≤ m.born = all_at (λ (o : Object). o.name ≤ m.born) i h.born in
            let name = ap (λ (w : Object). w.name) e in
            absurd (omega (arith, least, name, named, same))
      ];
}

pub change_leaves : (m : Machine) (i : Instruction) (new : Machine) → IsBirthNamed m → IsUsualLine i → Change m i new
    → LeavesOldWhile m new
change_leaves m i new h line (rearranged made) runs = made.leaves h.lawful line runs
change_leaves m i new h line (takes_name t k x by same) runs =
    same_leave m new h.lawful (ap (λ (w : Machine). w.objects) same)
change_leaves m i new h line (takes_queued t k same) runs =
    same_leave m new h.lawful (ap (λ (w : Machine). w.objects) same)
change_leaves m i new h line (stores_value t into index v by logs same) runs =
    changed_leaves m new h (local_of m t into) (with_slot_of index v) (slot_leaves index v)
    (ap (λ (w : Machine). w.objects) same)
change_leaves m i new h line (begins_store t into index from thread idle same) runs =
    changed_leaves m new h (local_of m t into) (with_slot_of index (ref (local_of m t from)))
    (slot_leaves index (ref (local_of m t from))) (ap (λ (w : Machine). w.objects) same)
change_leaves m i new h line (sets_flag name flag same) runs =
    changed_leaves m new h name (with_flag_of flag) (flag_leaves flag) (ap (λ (w : Machine). w.objects) same)
change_leaves m i new h line (adds_entry x by same) runs =
    same_leave m new h.lawful (ap (λ (w : Machine). w.objects) same)
change_leaves m i new h line (adds_handle k row target second same) runs =
    same_leave m new h.lawful (ap (λ (w : Machine). w.objects) same)
change_leaves m i new h line (frees_handle k same) runs =
    same_leave m new h.lawful (ap (λ (w : Machine). w.objects) same)
change_leaves m i new h line (adds_type row same) runs =
    same_leave m new h.lawful (ap (λ (w : Machine). w.objects) same)
change_leaves m i new h line (goes_on ready made steps holder flag go_on same) runs =
    leaves_after m ready new
    (made.leaves h.lawful line (subst (λ (w : Machine). IsTrue (is_some w.background)) same runs))
    (ap (λ (w : Machine). w.objects) same)
change_leaves m i new h line (gives_birth ready made steps layout sums entered t local place type len go_on same)
    runs =
    let b = birth_is ready steps layout sums entered t local place type len in
    let after = with_birth ready steps layout sums entered t local place type len in
    subst (LeavesOld m) (sym same)
    (born_leaves m ready after h made.carries.born steps place type len b
    (made.leaves h.lawful line (subst (λ r. IsTrue (is_some r)) b.background
    (subst (λ (w : Machine). IsTrue (is_some w.background)) same runs))))
change_leaves m i new h line (begins_marking marking none is same) runs =
    same_leave m new h.lawful (ap (λ (w : Machine). w.objects) same)
change_leaves m i new h line (scans_on old n count marking begun scans same) runs =
    same_leave m new h.lawful (ap (λ (w : Machine). w.objects) same)

pub old_stay_put : OldStayPutLaw
old_stay_put m i outcome new h formed obeys runs =
    (change_leaves m i new h (usual_line i formed) (line_changes m i outcome new obeys) runs).puts
