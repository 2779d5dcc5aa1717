-- A birth keeps the machine lawful where the layout has the place.
use Rattle.std.proofs.Common.{◌≡◌, ◌≢◌, ℕ, ◌+◌, ◌^◌, ◌<◌, ◌≤◌, List, [], ◌∷◌, ◌++◌, map, refl, ap, ◌∙◌, arith, Bool}
use Rattle.std.proofs.Common.{true, false, if◌then◌else◌, ◌==◌, Option, Some, None, is_some, inl, inr, sym}
use Rattle.std.proofs.Common.{true≢false, ne_eqb}
use Rattle.std.specs.Prelude.{slice_get}
use Rattle.std.specs.List.{AllByRecursion}
use Rattle.std.specs.FinMap as finmap
use Rattle.std.proofs.lemmas.Bool.{eq-eqb}
use Rattle.clr_types.specs.Rising.{first}
use Rattle.clr_types.specs.Types.{Form, form_at, has_finalizer, is_bytes, slot_kinds, type_row}
use Rattle.clr_types.specs.Segments.{Layout}
use Rattle.clr_types.specs.declared.handle.Handle.{Handle}
use Rattle.clr_types.proofs.RisingLists.{all_at}
use Rattle.clr_types.proofs.TableRows.{AllByRecursion-push}
use Rattle.clr_types.proofs.ChangedLists.{all_members, all_imply, all-slice_set, append_left, length-slice_set}
use Rattle.clr_types.proofs.ChangedLists.{rising-push}
use Rattle.clr_types.proofs.ListMembers.{distinct_cross}
use Rattle.clr_model.specs.Machine.{Value, ref, num, Object, ThreadStep, no_step, begun_store, begun_new, Sums, Machine}
use Rattle.clr_model.specs.Lookups.{object_named, slots_of_named, slots_or_none, local_index, type_of_object}
use Rattle.clr_model.specs.Updates.{empty_value}
use Rattle.clr_model.specs.Lawful.{AreBoundedSums, IsBirthNamed, IsFinal, IsLaid, IsShaped, NumberFits}
use Rattle.clr_model.specs.Lawful.{IsPresent, IsNullOrPresent, SlotIsPresent, StepIsPresent, NamesArePresent}
use Rattle.clr_model.specs.Lawful.{is_reference_value}
use Rattle.clr_model.proofs.BoundedSums.{bounded_older}
use Rattle.clr_model.proofs.LawfulPieces.{places-distinct}
use Rattle.clr_model.proofs.Birth.{born_object, born_objects, born_entries, placed_in, with_birth, IsBirth}
use Rattle.clr_model.proofs.Birth.{IsBirthplace}
use Rattle.clr_model.proofs.RootsChanged.{IsLawfulQueue, lawful_entries, entry_added, with_entries_lawful, shaped_alike}
use Rattle.clr_model.proofs.MarkingKept.{marking_kept, old_as}

-- ---- the slots of a new object

-- they are of the form's kinds
kinds-empty : (kinds : List Bool) → map is_reference_value (map empty_value kinds) ≡ kinds
kinds-empty [] = refl
kinds-empty (true ∷ kinds) = ap (λ ks. true ∷ ks) (kinds-empty kinds)
kinds-empty (false ∷ kinds) = ap (λ ks. false ∷ ks) (kinds-empty kinds)

-- 0 fits in each
zero_fits : (b : Bool) → 0 < (if b then 256 else 2 ^ 64)
zero_fits true = omega arith
zero_fits false = omega arith

-- their numbers fit
numbers-empty : (form : Form) (kinds : List Bool) → AllByRecursion (NumberFits form) (map empty_value kinds)
numbers-empty form [] = tt
numbers-empty form (true ∷ kinds) = (tt, numbers-empty form kinds)
numbers-empty form (false ∷ kinds) = (zero_fits (is_bytes form), numbers-empty form kinds)

-- and their names are null
names-empty : (m : Machine) (kinds : List Bool) → AllByRecursion (SlotIsPresent m) (map empty_value kinds)
names-empty m [] = tt
names-empty m (true ∷ kinds) = (inl refl, names-empty m kinds)
names-empty m (false ∷ kinds) = (tt, names-empty m kinds)

-- ---- objects by name, with one more

-- an object that is found is found behind the new end of the list too
pub found-pushed : (objects : List Object) (o : Object) (name : ℕ) → is_some (object_named objects name) ≡ true
    → object_named (objects ++ o ∷ []) name ≡ object_named objects name
found-pushed [] o name there = absurd (true≢false (sym there))
found-pushed (p ∷ ps) o name there = go (p.name == name) there (found-pushed ps o name)
  where
    go : (b : Bool) → is_some (if b then Some p else object_named ps name) ≡ true
        → (is_some (object_named ps name) ≡ true → object_named (ps ++ o ∷ []) name ≡ object_named ps name)
        → (if b then Some p else object_named (ps ++ o ∷ []) name) ≡ (if b then Some p else object_named ps name)
    go true there more = refl
    go false there more = more there

-- and the new one is found by its name
pub new-found : (objects : List Object) (o : Object) → is_some (object_named (objects ++ o ∷ []) o.name) ≡ true
new-found [] o = ap (λ b. is_some (if b then Some o else None)) (eq-eqb o.name o.name refl)
new-found (p ∷ ps) o = go (p.name == o.name) (new-found ps o)
  where
    go : (b : Bool) → is_some (object_named (ps ++ o ∷ []) o.name) ≡ true
        → is_some (if b then Some p else object_named (ps ++ o ∷ []) o.name) ≡ true
    go true more = refl
    go false more = more

-- one of a name of its own is what is found
pub new-found_is : (objects : List Object) (o : Object) → AllByRecursion (λ (p : Object). p.name ≢ o.name) objects
    → object_named (objects ++ o ∷ []) o.name ≡ Some o
new-found_is [] o apart = ap (λ b. if b then Some o else None) (eq-eqb o.name o.name refl)
new-found_is (p ∷ ps) o apart =
    ap (λ b. if b then Some p else object_named (ps ++ o ∷ []) o.name) (ne_eqb p.name o.name apart.0)
    ∙ new-found_is ps o apart.1

-- no name is the next one
pub names_apart : (m : Machine) → IsBirthNamed m → AllByRecursion (λ (o : Object). o.name ≢ m.born + 1) m.objects
names_apart m named =
    all_imply (λ (o : Object). o.name ≤ m.born) (λ (o : Object). o.name ≢ m.born + 1) m.objects
    (λ o l e. omega arith) named.born

module _ (m : Machine) (layout : Layout) (sums : Sums) (t local place type len : ℕ) (named : IsBirthNamed m)
    (birth : IsBirth m type len) (at : IsBirthplace m layout place type len)
    (counted : AreBoundedSums (record m { objects = born_objects m place type len; sums = sums }))
  where
    abbrev next : Machine
    next = placed_in m layout sums t local place type len

    abbrev born : Object
    born = born_object m (m.born + 1) place type len

    -- the pieces fill the segments with the object
    laid-next : IsLaid next
    laid-next = record {
      layout = at.lawful;
      housed = at.fills.housed;
      tiled = at.fills.tiled;
      whole1 = at.fills.whole1;
      whole0 = at.fills.whole0;
    }

    -- no object stands at the place
    pub objects_apart : AllByRecursion (λ (o : Object). o.place ≢ place) m.objects
    objects_apart =
        all_members (λ (o : Object). o.place ≢ place) m.objects
        (λ o i. distinct_cross (λ (o : Object). o.place) m.objects (born ∷ []) (places-distinct next laid-next) o born i
        first)

    -- the object is of its type's shape
    born_shaped : IsShaped next born
    born_shaped = record {
      named = omega arith;
      typed = birth.typed;
      size = birth.most;
      class_len = birth.class;
      kinds = kinds-empty (slot_kinds (form_at m.types type) len);
      numbers = numbers-empty (form_at m.types type) (slot_kinds (form_at m.types type) len);
      suppressed = λ e. absurd cc;
    }

    -- ---- names

    -- what was present is present
    present : (name : ℕ) → IsPresent m name → IsPresent next name
    present name there = ap is_some (found-pushed m.objects born name there) ∙ there

    -- the same with null
    null_or_present : (name : ℕ) → IsNullOrPresent m name → IsNullOrPresent next name
    null_or_present name (inl e) = inl e
    null_or_present name (inr there) = inr (present name there)

    -- so what a slot names is
    slot_present : (v : Value) → SlotIsPresent m v → SlotIsPresent next v
    slot_present (ref name) there = null_or_present name there
    slot_present (num number) there = tt

    -- an object that was present has the slots that it had
    slots_there : (object : ℕ) → IsPresent m object → slots_of_named next object ≡ slots_of_named m object
    slots_there object there = ap slots_or_none (found-pushed m.objects born object there)

    -- so what a thread has begun is present
    step_present : (s : ThreadStep) → StepIsPresent m s → StepIsPresent next s
    step_present no_step is = tt
    step_present (begun_store object slot) (there, name, e) =
        (present object there, name, ap (λ vs. slice_get vs slot) (slots_there object there) ∙ e)
    step_present (begun_new type len local) is = is

    -- all names are present, and the new object has none
    names-next : NamesArePresent next
    names-next =
        let names = named.lawful.names in
        record {
          slots =
              AllByRecursion-push (λ (o : Object). AllByRecursion (SlotIsPresent next) o.slots) m.objects born
              (all_imply (λ (o : Object). AllByRecursion (SlotIsPresent m) o.slots)
              (λ (o : Object). AllByRecursion (SlotIsPresent next) o.slots) m.objects
              (λ o. all_imply (SlotIsPresent m) (SlotIsPresent next) o.slots slot_present) names.slots)
              (names-empty next (slot_kinds (form_at m.types type) len));
          locals =
              all-slice_set (IsNullOrPresent next) m.locals (local_index t local) (m.born + 1)
              (all_imply (IsNullOrPresent m) (IsNullOrPresent next) m.locals null_or_present names.locals)
              (inr (new-found m.objects born));
          handles =
              all_imply (λ (r : Handle). IsNullOrPresent m r.target × IsNullOrPresent m r.second)
              (λ (r : Handle). IsNullOrPresent next r.target × IsNullOrPresent next r.second)
              (finmap.values m.handles)
              (λ r is. (null_or_present r.target is.0, null_or_present r.second is.1)) names.handles;
          entries = all_imply (IsPresent m) (IsPresent next) m.entries present names.entries;
          ready = all_imply (IsPresent m) (IsPresent next) m.ready present names.ready;
          steps = all_imply (StepIsPresent m) (StepIsPresent next) m.steps step_present names.steps;
        }

    -- ---- what is queued, and what is counted

    -- what has a finaliser still has one
    all_final : (names : List ℕ) → AllByRecursion (IsPresent m) names → AllByRecursion (IsFinal m) names
        → AllByRecursion (IsFinal next) names
    all_final names there is =
        all_members (IsFinal next) names
        (λ x i. ap (λ r. has_finalizer (type_row m.types (type_of_object r)))
        (found-pushed m.objects born x (all_at (IsPresent m) i there))
        ∙ all_at (IsFinal m) i is)

    -- the sums stay bounded under the new layout
    bounds : AreBoundedSums (record m { objects = born_objects m place type len; sums = sums; layout = layout })
    bounds =
        bounded_older (record m { objects = born_objects m place type len; sums = sums }) layout
        (λ o i. let same = at.ages o.place in omega arith) counted

    -- ---- all of it

    -- before it is among the entries, the machine is lawful
    placed_lawful : IsBirthNamed next
    placed_lawful =
        let is = named.lawful in
        let below = all_imply (λ (o : Object). o.name ≤ m.born) (λ (o : Object). o.name < m.born + 1) m.objects
        (λ o l. omega arith) named.born in
        record {
          lawful = record {
            options = is.options;
            types = is.types;
            type_count = is.type_count;
            type_names = is.type_names;
            type_words = is.type_words;
            names_rise = rising-push (λ (o : Object). o.name) m.objects born is.names_rise below;
            shapes =
                AllByRecursion-push (IsShaped next) m.objects born
                (all_imply (IsShaped m) (IsShaped next) m.objects (λ o. shaped_alike m next o refl) is.shapes)
                born_shaped;
            laid = laid-next;
            rests_young = at.young;
            suited = at.suited;
            limit = at.limit;
            names = names-next;
            seconds = is.seconds;
            locals = length-slice_set m.locals (local_index t local) (m.born + 1) ∙ is.locals;
            steps = is.steps;
            rooms = at.rooms;
            holder = is.holder;
            handle_count = is.handle_count;
            handle_numbers = is.handle_numbers;
            entries = all_final m.entries is.names.entries is.entries;
            ready = all_final m.ready is.names.ready is.ready;
            sums = record {
              spent0 = bounds.spent0;
              spent_large = bounds.spent_large;
              promoted1 = bounds.promoted1;
              promoted2 = bounds.promoted2;
            };
            marking =
                marking_kept m next m.background
                (old_as m next (λ o. o) (λ o. refl) (λ o i. append_left (born ∷ []) i)
                (λ o i old. let same = at.ages o.place in omega arith)) is.marking;
          };
          born =
              AllByRecursion-push (λ (o : Object). o.name ≤ m.born + 1) m.objects born
              (all_imply (λ (o : Object). o.name ≤ m.born) (λ (o : Object). o.name ≤ m.born + 1) m.objects
              (λ o l. omega arith) named.born) (omega arith);
        }

    -- ---- the finalisation entries

    -- the new object is found with its type's finaliser
    born_final : has_finalizer (type_row m.types type) ≡ true → IsFinal next (m.born + 1)
    born_final is =
        ap (λ (r : Option Object). has_finalizer (type_row m.types (type_of_object r)))
        (new-found_is m.objects born (names_apart m named)) ∙ is

    -- so the entries with it are lawful
    queued : IsLawfulQueue next (born_entries m type (m.born + 1))
    queued = go (has_finalizer (type_row m.types type)) refl
      where
        go : (b : Bool) → has_finalizer (type_row m.types type) ≡ b
            → IsLawfulQueue next (if b then m.entries ++ ((m.born + 1) ∷ []) else m.entries)
        go true is = entry_added next placed_lawful (m.born + 1) (new-found m.objects born) (born_final is)
        go false is = lawful_entries next placed_lawful.lawful

    -- The machine stays lawful.
    pub birth_lawful : IsBirthNamed (with_birth m layout sums t local place type len)
    birth_lawful = with_entries_lawful next placed_lawful (born_entries m type (m.born + 1)) queued
