-- What is seen after a birth.
use Rattle.std.proofs.Common.{◌≡◌, ◌≢◌, ℕ, ◌+◌, ◌<◌, ◌⊎◌, List, [], ◌∷◌, ◌++◌, map, refl, sym, ap, ◌∙◌, arith, subst}
use Rattle.std.proofs.Common.{Bool, true, false, if◌then◌else◌, ◌==◌, Some, is_some, slice_set, inl, inr, ne_eqb}
use Rattle.std.proofs.Common.{eq-eqb}
use Rattle.std.specs.List.{AllByRecursion}
use Rattle.std.specs.FinMap as finmap
use Rattle.std.proofs.lemmas.List.{map-append, append-nil}
use Rattle.clr_types.specs.Rising.{IsIn, sorted_by, insert_by}
use Rattle.clr_types.specs.Types.{form_at, has_finalizer, slot_kinds, type_row}
use Rattle.clr_types.proofs.RisingLists.{all_at, in_cons}
use Rattle.clr_types.proofs.SortedLists.{out_of_sorted_by, find_by-member}
use Rattle.clr_types.proofs.ChangedLists.{all_members, all_imply, all-unmap, all-map, map-agree, rising-distinct}
use Rattle.clr_types.proofs.ChangedLists.{sorted_by-sorted, sorted_by-done, sorted_by-among}
use Rattle.clr_types.specs.Segments.{Layout}
use Rattle.clr_types.specs.declared.handle.Handle.{Handle}
use Rattle.clr_model.specs.Machine.{Value, ref, num, Object, ThreadStep, no_step, begun_store, begun_new, Sums, Machine}
use Rattle.clr_model.specs.Lookups.{place_of, place_or_null, object_named, local_index}
use Rattle.clr_types.specs.Maps.{map_values}
use Rattle.clr_model.specs.Picture.{picture, renamed_value, renamed_object, renamed_row, renamed_step}
use Rattle.clr_model.specs.Picture.{renamed_marking}
use Rattle.clr_model.specs.Updates.{empty_value}
use Rattle.clr_model.specs.Run.{StandsFor}
use Rattle.clr_model.specs.Lawful.{AreBoundedSums, IsBirthNamed, IsShaped, IsPresent, IsNullOrPresent}
use Rattle.clr_model.specs.Lawful.{SlotIsPresent, StepIsPresent}
use Rattle.clr_model.proofs.Naming.{map-slice_set}
use Rattle.clr_model.proofs.Birth.{born_object, born_objects, born_entries, with_birth, seen_birth, IsBirth}
use Rattle.clr_model.proofs.Birth.{IsBirthplace}
use Rattle.clr_model.proofs.BirthLawful.{found-pushed, new-found_is, names_apart, objects_apart, birth_lawful}
use Rattle.clr_model.proofs.MarkingKept.{marking_same}
use Rattle.std.specs.Option.{option_map}

-- the slots of a new object are seen as they are
empty-renamed : (to : ℕ → ℕ) → to 0 ≡ 0 → (kinds : List Bool)
    → map (renamed_value to) (map empty_value kinds) ≡ map empty_value kinds
empty-renamed to null [] = refl
empty-renamed to null (true ∷ kinds) = let rest = empty-renamed to null kinds in λ i. ref (null i) ∷ rest i
empty-renamed to null (false ∷ kinds) = ap (λ vs. num 0 ∷ vs) (empty-renamed to null kinds)

-- a member is present under its name
pub member-present : (objects : List Object) (o : Object) → IsIn o objects
    → is_some (object_named objects o.name) ≡ true
member-present [] o i = elim i [ ]
member-present (p ∷ ps) o i = go (p.name == o.name) refl (in_cons i) (member-present ps o)
  where
    go : (b : Bool) → (p.name == o.name) ≡ b → (o ≡ p) ⊎ IsIn o ps
        → (IsIn o ps → is_some (object_named ps o.name) ≡ true)
        → is_some (if b then Some p else object_named ps o.name) ≡ true
    go true e j more = refl
    go false e (inl same) more = let hit : (p.name == o.name)
        ≡ true = eq-eqb p.name o.name (sym (ap (λ (w : Object). w.name) same)) in absurd cc
    go false e (inr j) more = more j

module _ (m : Machine) (layout : Layout) (sums : Sums) (t local place type len : ℕ) (named : IsBirthNamed m)
    (apart : AllByRecursion (λ (o : Object). o.place ≢ place) m.objects) where
  abbrev next : Machine
  next = with_birth m layout sums t local place type len

  abbrev born : Object
  born = born_object m (m.born + 1) place type len

  abbrev before : ℕ → ℕ
  before = place_of m.objects

  abbrev after : ℕ → ℕ
  after = place_of next.objects

  -- each name that there was has the place that it had
  present_same : (name : ℕ) → IsPresent m name → after name ≡ before name
  present_same name there = ap (λ r. if name == 0 then 0 else place_or_null r) (found-pushed m.objects born name there)

  -- so has null
  name_same : (name : ℕ) → IsNullOrPresent m name → after name ≡ before name
  name_same name (inl null) = ap after null ∙ sym (ap before null)
  name_same name (inr there) = present_same name there

  -- and the new name has the place of the birth
  new_place : after (m.born + 1) ≡ place
  new_place =
      ap (λ b. if b then 0 else place_or_null (object_named next.objects (m.born + 1)))
      (ne_eqb (m.born + 1) 0 (λ e. omega arith))
      ∙ ap place_or_null (new-found_is m.objects born (names_apart m named))

  -- so what a slot holds is seen as before
  value_same : (v : Value) → SlotIsPresent m v → renamed_value after v ≡ renamed_value before v
  value_same (ref name) there = ap ref (name_same name there)
  value_same (num number) there = refl

  -- and a handle
  row_same : (r : Handle) → IsNullOrPresent m r.target × IsNullOrPresent m r.second
      → renamed_row after r ≡ renamed_row before r
  row_same r there = let target = name_same r.target there.0 in let second = name_same r.second there.1 in
      λ i. record r { target = target i; second = second i }

  -- and what a thread has begun
  step_same : (s : ThreadStep) → StepIsPresent m s → renamed_step after s ≡ renamed_step before s
  step_same no_step there = refl
  step_same (begun_store object slot) there = ap (λ n. begun_store n slot) (present_same object there.0)
  step_same (begun_new type len local) there = refl

  -- and an object
  object_same : (o : Object) → IsIn o m.objects → renamed_object after o ≡ renamed_object before o
  object_same o i =
      let name = present_same o.name (member-present m.objects o i) in
      let slots = map-agree (renamed_value after) (renamed_value before) o.slots
      (all_imply (SlotIsPresent m) (λ v. renamed_value after v ≡ renamed_value before v) o.slots value_same
      (all_at (λ (o : Object). AllByRecursion (SlotIsPresent m) o.slots) i named.lawful.names.slots)) in
      λ k. record o { name = name k; slots = slots k }

  -- the new object is seen under its place
  born_seen : renamed_object after born ≡ born_object m place place type len
  born_seen = let slots = empty-renamed after refl (slot_kinds (form_at m.types type) len) in
      λ k. record born { name = new_place k; slots = slots k }

  -- ---- the objects that are seen

  abbrev shown : List Object
  shown = map (renamed_object before) m.objects

  abbrev key : Object → ℕ
  key o = o.name

  -- all objects, in the order of their births
  objects_renamed : map (renamed_object after) next.objects ≡ shown ++ born_object m place place type len ∷ []
  objects_renamed =
      let old = map-agree (renamed_object after) (renamed_object before) m.objects
      (all_members (λ o. renamed_object after o ≡ renamed_object before o) m.objects object_same) in
      map-append (renamed_object after) m.objects (born ∷ []) ∙ (λ k. old k ++ born_seen k ∷ [])

  -- each object is seen under its place
  pub place_of-present : (o : Object) → IsIn o m.objects → before o.name ≡ o.place
  place_of-present o i =
      let above : 0 < o.name = (all_at (IsShaped m) i named.lawful.shapes).named in
      ap (λ b. if b then 0 else place_or_null (object_named m.objects o.name)) (ne_eqb o.name 0 (λ e. omega arith))
      ∙ ap place_or_null (find_by-member (λ (w : Object). w.name) o m.objects
      (rising-distinct (λ (w : Object). w.name) m.objects named.lawful.names_rise) i)

  -- no other is seen under the new place
  shown_apart : AllByRecursion (λ (o : Object). o.name ≢ place) shown
  shown_apart =
      all-map (renamed_object before) (λ (o : Object). o.name ≢ place) m.objects
      (all_members (λ (o : Object). before o.name ≢ place) m.objects
      (λ o i same. all_at (λ (o : Object). o.place ≢ place) i apart
      (sym (place_of-present o i) ∙ same)))

  -- so the new one goes among the others
  sorted_next : sorted_by key (shown ++ born_object m place place type len ∷ [])
      ≡ insert_by key (born_object m place place type len) (sorted_by key shown)
  sorted_next = sorted_by-among key shown (born_object m place place type len) [] shown_apart
      ∙ ap (λ os. insert_by key (born_object m place place type len) (sorted_by key os)) (append-nil shown)

  -- nor is one of those that are sorted
  sorted_apart : AllByRecursion (λ (o : Object). o.name ≢ place) (sorted_by key shown)
  sorted_apart = all_members (λ (o : Object). o.name ≢ place) (sorted_by key shown)
      (λ o i. all_at (λ (o : Object). o.name ≢ place) (out_of_sorted_by key o shown i) shown_apart)

  -- all objects, in the order of their places
  by_place-next : sorted_by key (map (renamed_object after) next.objects)
      ≡ sorted_by key (sorted_by key shown ++ born_object m place place type len ∷ [])
  by_place-next =
      ap (sorted_by key) objects_renamed ∙ sorted_next
      ∙ sym (sorted_by-among key (sorted_by key shown) (born_object m place place type len) [] sorted_apart
      ∙ ap (λ os. insert_by key (born_object m place place type len) (sorted_by key os))
      (append-nil (sorted_by key shown))
      ∙ ap (insert_by key (born_object m place place type len))
      (sorted_by-done key (sorted_by key shown) (sorted_by-sorted key shown)))

  -- ---- the rest

  -- the local names the place
  locals-next : map after next.locals ≡ slice_set (map before m.locals) (local_index t local) place
  locals-next =
      let old = map-agree after before m.locals
      (all_imply (IsNullOrPresent m) (λ x. after x ≡ before x) m.locals name_same named.lawful.names.locals) in
      map-slice_set after m.locals (local_index t local) (m.born + 1)
      ∙ (λ k. slice_set (old k) (local_index t local) (new_place k))

  -- the handles are seen as before
  handles-next : map_values (renamed_row after) m.handles ≡ map_values (renamed_row before) m.handles
  handles-next =
      let rows = all-unmap (λ (e : ℕ × Handle). e.1)
      (λ (r : Handle). IsNullOrPresent m r.target × IsNullOrPresent m r.second)
      (finmap.entries m.handles) named.lawful.names.handles in
      ap finmap.from_sorted
      (map-agree (λ e. (e.0, renamed_row after e.1)) (λ e. (e.0, renamed_row before e.1)) (finmap.entries m.handles)
      (all_imply (λ (e : ℕ × Handle). IsNullOrPresent m e.1.target × IsNullOrPresent m e.1.second)
      (λ (e : ℕ × Handle). ◌≡◌ {A = ℕ × Handle} (e.0, renamed_row after e.1) (e.0, renamed_row before e.1))
      (finmap.entries m.handles)
      (λ e there. ap (λ r. (e.0, r)) (row_same e.1 there)) rows))

  -- so are lists of names
  names_same : (names : List ℕ) → AllByRecursion (IsPresent m) names → map after names ≡ map before names
  names_same names there = map-agree after before names
      (all_imply (IsPresent m) (λ x. after x ≡ before x) names present_same there)

  -- and what threads have begun
  steps-next : map (renamed_step after) m.steps ≡ map (renamed_step before) m.steps
  steps-next = map-agree (renamed_step after) (renamed_step before) m.steps
      (all_imply (StepIsPresent m) (λ s. renamed_step after s
      ≡ renamed_step before s) m.steps step_same named.lawful.names.steps)

  -- the entries have the place where the type has a finaliser
  entries-next : map after (born_entries m type (m.born + 1)) ≡ born_entries (picture m) type place
  entries-next = go (has_finalizer (type_row m.types type))
    where
      old : map after m.entries ≡ map before m.entries
      old = names_same m.entries named.lawful.names.entries

      go : (b : Bool) → map after (if b then m.entries ++ ((m.born + 1) ∷ []) else m.entries)
          ≡ (if b then map before m.entries ++ (place ∷ []) else map before m.entries)
      go true = map-append after m.entries ((m.born + 1) ∷ []) ∙ (λ k. old k ++ (new_place k ∷ []))
      go false = old

  -- and what a background collection took
  background-next : option_map (renamed_marking after) m.background ≡ option_map (renamed_marking before) m.background
  background-next =
      marking_same m after before m.background
      (λ x old. present_same x (subst (IsPresent m) old.named (member-present m.objects old.object old.present)))
      named.lawful.marking

  -- the object is seen at its place
  pub picture-birth : picture (with_birth m layout sums t local place type len)
      ≡ seen_birth (picture m) layout sums t local place type len
  picture-birth =
      let ready = names_same m.ready named.lawful.names.ready in
      λ k. record (seen_birth (picture m) layout sums t local place type len) {
        objects = by_place-next k;
        locals = locals-next k;
        handles = handles-next k;
        entries = entries-next k;
        ready = ready k;
        steps = steps-next k;
        background = background-next k;
      }

-- The machine after a birth is seen so, and is lawful.
pub birth_stands : (m : Machine) (layout : Layout) (sums : Sums) (t local place type len : ℕ) → IsBirthNamed m
    → IsBirth m type len → IsBirthplace m layout place type len
    → AreBoundedSums (record m { objects = born_objects m place type len; sums = sums })
    → StandsFor (seen_birth (picture m) layout sums t local place type len)
    (with_birth m layout sums t local place type len)
birth_stands m layout sums t local place type len named birth at counted = record {
  lawful = birth_lawful m layout sums t local place type len named birth at counted;
  seen_is = picture-birth m layout sums t local place type len named
      (objects_apart m layout sums t local place type len named birth at counted);
}
