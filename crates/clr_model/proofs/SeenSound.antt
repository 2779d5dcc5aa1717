-- What is seen of a lawful machine is a lawful machine whose objects are named by their places.
use Rattle.std.proofs.Common.{◌≡◌, ◌≢◌, ℕ, zero, suc, ◌+◌, ◌<◌, List, [], ◌∷◌, map, length, refl, sym, ap, subst, ◌∙◌}
use Rattle.std.proofs.Common.{arith, Bool, true, false, if◌then◌else◌, Option, Some, None, is_some, inl, inr, ne_eqb}
use Rattle.std.specs.Prelude.{slice_get}
use Rattle.std.specs.List.{AllByRecursion}
use Rattle.std.specs.Option.{option_map}
use Rattle.std.specs.FinMap as finmap
use Rattle.std.proofs.lemmas.List.{length-map}
use Rattle.clr_types.specs.Rising.{IsIn}
use Rattle.clr_types.specs.Types.{Form, form_at, has_finalizer, slot_kinds, type_row}
use Rattle.clr_types.proofs.RisingLists.{all_at}
use Rattle.clr_types.proofs.SortedLists.{sorted_by-rises, out_of_sorted_by, find_by-member}
use Rattle.clr_types.proofs.ChangedLists.{all_members, all_imply, all-map, rising-distinct, IsIn-map}
use Rattle.clr_types.proofs.ListMembers.{from-map, distinct_of_sorted, sum-mapped}
use Rattle.clr_types.proofs.ListSums.{sum-on}
use Rattle.clr_types.proofs.Shuffles.{shuffled-sorted, shuffled-sum}
use Rattle.clr_types.specs.declared.handle.Handle.{Handle}
use Rattle.clr_model.specs.Machine.{Value, ref, num, Object, ThreadStep, no_step, begun_store, begun_new, Machine}
use Rattle.clr_model.specs.Lookups.{place_of, place_or_null, object_named, local_of, local_index, slots_of_named}
use Rattle.clr_model.specs.Lookups.{type_of_object}
use Rattle.clr_model.specs.Picture.{picture, renamed_value, renamed_object, renamed_row, renamed_step}
use Rattle.clr_model.specs.Lawful.{IsFinal, IsLawful, IsPlaceNamed, IsShaped, NumberFits, SuitsItsSegment}
use Rattle.clr_model.specs.Lawful.{HasItsRoom, AllFrom, IsPresent, IsNullOrPresent, SlotIsPresent, StepIsPresent}
use Rattle.clr_model.specs.Lawful.{NamesArePresent, HasItsSecond, is_reference_value}
use Rattle.clr_model.specs.Run.{StandsFor}
use Rattle.clr_types.proofs.MapValues.{keys-map_values, values-map_values}
use Rattle.clr_model.proofs.HandleTables.{len-map_values}
use Rattle.clr_model.proofs.BoundedSums.{HaveSameBytes, bounded_alike, bytes_renamed}
use Rattle.clr_model.proofs.Apart.{place_of-member}
use Rattle.clr_model.proofs.Naming.{object_named-picture, slots_of_named-picture}
use Rattle.clr_model.proofs.NamedWell.{AreNamed, lawful-named, keeps_apart, place-above, found_named, HasObject}
use Rattle.clr_model.proofs.ObjectChanged.{slice_get-map}
use Rattle.clr_model.proofs.SeenNames.{all-slice_index}
use Rattle.clr_model.proofs.CollectionLaws.{picture_laid, picture_apart}
use Rattle.clr_model.proofs.MarkingKept.{marking_renamed}
use Rattle.clr_model.specs.Reach.{Old}
use Rattle.clr_types.proofs.SortedLists.{into_sorted_by, same_by_key}

kinds-renamed : (to : ℕ → ℕ) (vs : List Value)
    → map is_reference_value (map (renamed_value to) vs) ≡ map is_reference_value vs
kinds-renamed to [] = refl
kinds-renamed to (ref n ∷ vs) = ap (λ ks. true ∷ ks) (kinds-renamed to vs)
kinds-renamed to (num n ∷ vs) = ap (λ ks. false ∷ ks) (kinds-renamed to vs)

numbers-renamed : (form : Form) (to : ℕ → ℕ) (vs : List Value) → AllByRecursion (NumberFits form) vs
    → AllByRecursion (NumberFits form) (map (renamed_value to) vs)
numbers-renamed form to [] all = tt
numbers-renamed form to (ref n ∷ vs) all = (tt, numbers-renamed form to vs all.1)
numbers-renamed form to (num n ∷ vs) all = (all.0, numbers-renamed form to vs all.1)

some-renamed : (to : ℕ → ℕ) (r : Option Object) → is_some (option_map (renamed_object to) r) ≡ is_some r
some-renamed to None = refl
some-renamed to (Some o) = refl

module _ (m : Machine) (lawful : IsLawful m) where
  abbrev to : ℕ → ℕ
  to = place_of m.objects

  abbrev seen : Machine
  seen = picture m

  names : AreNamed m
  names = lawful-named m lawful

  -- each object that is seen is one of the machine, under its place
  back : (o : Object) → IsIn o seen.objects → (p : Object) × (o ≡ renamed_object to p) × IsIn p m.objects
  back o i =
      from-map (renamed_object to) o m.objects
      (out_of_sorted_by (λ (o : Object). o.name) o (map (renamed_object to) m.objects) i)

  all_seen : (P : Object → Type 0) → ((p : Object) → IsIn p m.objects → P (renamed_object to p))
      → AllByRecursion P seen.objects
  all_seen P f = all_members P seen.objects (λ o i. let (p, e, j) = back o i in subst P (sym e) (f p j))

  shape-seen : (p : Object) → IsIn p m.objects → IsShaped seen (renamed_object to p)
  shape-seen p i =
      let is : IsShaped m p = all_at (IsShaped m) i lawful.shapes in
      record {
        named = place-above m names p i;
        typed = is.typed;
        size = is.size;
        class_len = is.class_len;
        kinds = kinds-renamed to p.slots ∙ is.kinds;
        numbers = numbers-renamed (form_at m.types p.type) to p.slots is.numbers;
        suppressed = is.suppressed;
      }

  present : (x : ℕ) → IsPresent m x → IsPresent seen (to x)
  present x there =
      ap is_some (object_named-picture m x (keeps_apart m names x)) ∙ some-renamed to (object_named m.objects x) ∙ there

  null_or_present : (x : ℕ) → IsNullOrPresent m x → IsNullOrPresent seen (to x)
  null_or_present x (inl null) = inl (ap to null)
  null_or_present x (inr there) = inr (present x there)

  slot_present : (v : Value) → SlotIsPresent m v → SlotIsPresent seen (renamed_value to v)
  slot_present (ref x) there = null_or_present x there
  slot_present (num n) there = tt

  step_present : (s : ThreadStep) → StepIsPresent m s → StepIsPresent seen (renamed_step to s)
  step_present no_step is = tt
  step_present (begun_store object slot) (there, x, e) = (
    present object there,
    to x,
    ap (λ vs. slice_get vs slot)
        (slots_of_named-picture m object (keeps_apart m names object))
        ∙ slice_get-map (renamed_value to) (slots_of_named m object) slot (ref x) e,
  )
  step_present (begun_new type len local) is = is

  all_names : (P Q : ℕ → Type 0) (xs : List ℕ) → ((x : ℕ) → P x → Q (to x)) → AllByRecursion P xs
      → AllByRecursion Q (map to xs)
  all_names P Q xs f all = all-map to Q xs (all_imply P (λ x. Q (to x)) xs f all)

  abbrev RowIsPresent : Machine → Handle → Type 0
  RowIsPresent w r = IsNullOrPresent w r.target × IsNullOrPresent w r.second

  rows-seen : map (renamed_row to) (finmap.values m.handles) ≡ finmap.values seen.handles
  rows-seen = sym (values-map_values (renamed_row to) m.handles)

  names-seen : NamesArePresent seen
  names-seen =
      let h = lawful.names in
      record {
        slots =
            all_seen (λ (o : Object). AllByRecursion (SlotIsPresent seen) o.slots)
            (λ p i. all-map (renamed_value to) (SlotIsPresent seen) p.slots
            (all_imply (SlotIsPresent m) (λ v. SlotIsPresent seen (renamed_value to v)) p.slots slot_present
            (all_at (λ (o : Object). AllByRecursion (SlotIsPresent m) o.slots) i h.slots)));
        locals = all_names (IsNullOrPresent m) (IsNullOrPresent seen) m.locals null_or_present h.locals;
        handles =
            subst (AllByRecursion (RowIsPresent seen)) rows-seen
            (all-map (renamed_row to) (RowIsPresent seen) (finmap.values m.handles)
            (all_imply (RowIsPresent m) (λ r. RowIsPresent seen (renamed_row to r)) (finmap.values m.handles)
            (λ r is. (null_or_present r.target is.0, null_or_present r.second is.1)) h.handles));
        entries = all_names (IsPresent m) (IsPresent seen) m.entries present h.entries;
        ready = all_names (IsPresent m) (IsPresent seen) m.ready present h.ready;
        steps =
            all-map (renamed_step to) (StepIsPresent seen) m.steps
            (all_imply (StepIsPresent m) (λ s. StepIsPresent seen (renamed_step to s)) m.steps step_present h.steps);
      }

  second-seen : (r : Handle) → RowIsPresent m r → HasItsSecond r → HasItsSecond (renamed_row to r)
  second-seen r there is = record { dependent = λ other. ap to (is.dependent other); primary = null there.0 }
    where
      null : IsNullOrPresent m r.target → to r.target ≡ 0 → to r.second ≡ 0
      null (inl none) e = ap to (is.primary none)
      null (inr there) e =
          let (o, i, n) = found_named m.objects r.target there in
          let high = place-above m names o i in let same = ap to n in
          absurd (omega arith)

  -- ---- what is queued, and what is counted

  final : (x : ℕ) → IsFinal m x → IsFinal seen (to x)
  final x is =
      ap (λ t. has_finalizer (type_row m.types t))
      (ap type_of_object (object_named-picture m x (keeps_apart m names x)) ∙ same-type (object_named m.objects x)) ∙ is
    where
      same-type : (r : Option Object) → type_of_object (option_map (renamed_object to) r) ≡ type_of_object r
      same-type None = refl
      same-type (Some o) = refl

  bytes-seen : HaveSameBytes m seen
  bytes-seen =
      let shown = map (renamed_object to) m.objects in
      let same =
      bytes_renamed m seen.objects
      (λ count still. sym (shuffled-sum count (shuffled-sorted (λ (o : Object). o.name) shown))
      ∙ sum-mapped (renamed_object to) count m.objects
      ∙ sum-on (λ o. count (renamed_object to o)) count m.objects
      (λ o i. still o (to o.name) (map (renamed_value to) o.slots) o.suppressed))
      in
      record { all = same.all; large = same.large; young = same.young }

  room : (u : ℕ) (s : ThreadStep) → HasItsRoom m u s → HasItsRoom seen u (renamed_step to s)
  room u no_step is = tt
  room u (begun_store object slot) is = tt
  room u (begun_new type len local) is = is

  rooms-seen : (u : ℕ) (ss : List ThreadStep) → AllFrom (HasItsRoom m) u ss
      → AllFrom (HasItsRoom seen) u (map (renamed_step to) ss)
  rooms-seen u [] all = tt
  rooms-seen u (s ∷ ss) all = (room u s all.0, rooms-seen (u + 1) ss all.1)

  -- ---- what a background collection took

  -- no two objects are at one place
  one-place : (x y : ℕ) → Old m 1 x → Old m 1 y → to x ≡ to y → x ≡ y
  one-place x y a b e =
      let o = a.object in let p = b.object in
      let at : o.place ≡ p.place =
      sym (place_of-member m.objects names.apart o a.present) ∙ ap to a.named ∙ e ∙ sym (ap to b.named)
      ∙ place_of-member m.objects names.apart p b.present in
      let same : o ≡ p =
      same_by_key (λ (w : Object). w.place) m.objects o p names.apart.places a.present b.present at in
      sym a.named ∙ ap (λ (w : Object). w.name) same ∙ b.named

  old-seen : (x : ℕ) → Old m 1 x → Old seen 1 (to x)
  old-seen x a = record {
    object = renamed_object to a.object;
    present =
        into_sorted_by (λ (o : Object). o.name) (renamed_object to a.object) (map (renamed_object to) m.objects)
        (IsIn-map (renamed_object to) a.present);
    named = ap to a.named;
    above = a.above;
  }

  -- The picture of a lawful machine is lawful, and its objects are named by their places.
  pub picture_sound : IsPlaceNamed (picture m)
  picture_sound =
      let h = lawful in
      record {
        lawful = record {
          options = h.options;
          types = h.types;
          type_count = h.type_count;
          type_names = h.type_names;
          type_words = h.type_words;
          names_rise =
              sorted_by-rises (λ (o : Object). o.name) (map (renamed_object to) m.objects)
              (distinct_of_sorted (λ (o : Object). o.name) (map (renamed_object to) m.objects)
              (picture_apart m names).names);
          shapes = all_seen (IsShaped seen) shape-seen;
          laid = picture_laid m h.laid;
          rests_young = h.rests_young;
          suited = all_seen (SuitsItsSegment seen) (λ p i. all_at (SuitsItsSegment m) i h.suited);
          limit = h.limit;
          names = names-seen;
          seconds =
              subst (AllByRecursion HasItsSecond) rows-seen
              (all-map (renamed_row to) HasItsSecond (finmap.values m.handles)
              (all_members (λ r. HasItsSecond (renamed_row to r)) (finmap.values m.handles)
              (λ r i. second-seen r (all_at (RowIsPresent m) i h.names.handles) (all_at HasItsSecond i h.seconds))));
          locals = length-map m.locals to ∙ h.locals;
          steps = length-map m.steps (renamed_step to) ∙ h.steps;
          rooms = rooms-seen 1 m.steps h.rooms;
          holder = h.holder;
          handle_count = let same = len-map_values (renamed_row to) m.handles in let l = h.handle_count in omega arith;
          handle_numbers = keys-map_values (renamed_row to) (λ n. n < 65536) m.handles h.handle_numbers;
          entries = all_names (IsFinal m) (IsFinal seen) m.entries final h.entries;
          ready = all_names (IsFinal m) (IsFinal seen) m.ready final h.ready;
          sums = bounded_alike m seen bytes-seen refl h.sums;
          marking = marking_renamed m seen to m.background one-place old-seen h.marking;
        };
        places = all_seen (λ (o : Object). o.name ≡ o.place) (λ p i. place_of-member m.objects names.apart p i);
        uncounted = refl;
      }

-- what stands for a machine is lawful, and its objects are named by their places
pub seen_sound : (seen m : Machine) → StandsFor seen m → IsPlaceNamed seen
seen_sound shown m stands = subst IsPlaceNamed stands.seen_is (picture_sound m stands.lawful.lawful)

-- ---- what is seen at a name

-- the object that stands at a place
pub record StandsAt (s : Machine) (place : ℕ) : Type 0 where
  pub object : Object
  pub among : IsIn object s.objects
  pub at : object.place ≡ place
  pub found : object_named s.objects place ≡ Some object
  pub shape : IsShaped s object

module _ (s : Machine) (h : IsPlaceNamed s) where
  -- the object at a place is found by it
  pub found-at : (o : Object) → IsIn o s.objects → (place : ℕ) → o.place ≡ place → object_named s.objects place ≡ Some o
  found-at o i place e =
      ap (object_named s.objects) (sym (all_at (λ (o : Object). o.name ≡ o.place) i h.places ∙ e))
      ∙ find_by-member (λ (o : Object). o.name) o s.objects
      (rising-distinct (λ (o : Object). o.name) s.objects h.lawful.names_rise) i

  object-stands : (o : Object) → IsIn o s.objects → (x : ℕ) → o.name ≡ x → StandsAt s x
  object-stands o i x n = record {
    object = o;
    among = i;
    at = sym (all_at (λ (o : Object). o.name ≡ o.place) i h.places) ∙ n;
    found = found-at o i x (sym (all_at (λ (o : Object). o.name ≡ o.place) i h.places) ∙ n);
    shape = all_at (IsShaped s) i h.lawful.shapes;
  }

  -- a name that is not null is the place of an object
  pub named-stands : (x : ℕ) → IsNullOrPresent s x → x ≢ 0 → StandsAt s x
  named-stands x (inl null) some = absurd (some null)
  named-stands x (inr there) some = let (o, i, n) = found_named s.objects x there in object-stands o i x n

  -- each name is its own place
  pub place_of-seen : (x : ℕ) → IsNullOrPresent s x → place_of s.objects x ≡ x
  place_of-seen x (inl null) = ap (place_of s.objects) null ∙ sym null
  place_of-seen x (inr there) = go (found_named s.objects x there)
    where
      go : HasObject s.objects x → place_of s.objects x ≡ x
      go (o, i, n) =
          let e : StandsAt s x = object-stands o i x n in
          let above : 0 < o.name = (all_at (IsShaped s) i h.lawful.shapes).named in
          ap (λ b. if b then 0 else place_or_null (object_named s.objects x)) (ne_eqb x 0 (λ z. omega arith))
          ∙ ap place_or_null e.found ∙ e.at

  -- a local is null or the place of an object
  pub local-seen : (t k : ℕ) → IsNullOrPresent s (local_of s t k)
  local-seen t k = all-slice_index (IsNullOrPresent s) (inl refl) s.locals (local_index t k) h.lawful.names.locals

  -- and so is what a slot of references holds
  pub slot-seen : (o : Object) → IsIn o s.objects → (i x : ℕ) → slice_get o.slots i ≡ Some (ref x) → IsNullOrPresent s x
  slot-seen o j i x e =
      read o.slots i (all_at (λ (o : Object). AllByRecursion (SlotIsPresent s) o.slots) j h.lawful.names.slots) e
    where
      read : (vs : List Value) (i : ℕ) → AllByRecursion (SlotIsPresent s) vs → slice_get vs i ≡ Some (ref x)
          → IsNullOrPresent s x
      read [] i all e = absurd cc
      read (v ∷ vs) zero all e = let same : v ≡ ref x = cc in subst (SlotIsPresent s) same all.0
      read (v ∷ vs) (suc i) all e = read vs i all.1 e

-- an object has as many slots as its type and length say
pub slot_count : (s : Machine) (o : Object) → IsShaped s o
    → length o.slots ≡ length (slot_kinds (form_at s.types o.type) o.len)
slot_count s o is = sym (length-map o.slots is_reference_value) ∙ ap length is.kinds

-- and each slot is of the kind that they say
pub slot_kind : (s : Machine) (o : Object) → IsShaped s o → (i : ℕ) (v : Value) → slice_get o.slots i ≡ Some v
    → slice_get (slot_kinds (form_at s.types o.type) o.len) i ≡ Some (is_reference_value v)
slot_kind s o is i v e = ap (λ ks. slice_get ks i) (sym is.kinds) ∙ slice_get-map is_reference_value o.slots i v e

-- a slot that an object is to have, it has, with a value of the kind that is told
pub slot_there : (s : Machine) (o : Object) → IsShaped s o → (i : ℕ) (kind : Bool)
    → slice_get (slot_kinds (form_at s.types o.type) o.len) i ≡ Some kind
    → (v : Value) × (slice_get o.slots i ≡ Some v) × (is_reference_value v ≡ kind)
slot_there s o is i kind e = go o.slots i (ap (λ ks. slice_get ks i) is.kinds ∙ e)
  where
    go : (vs : List Value) (i : ℕ) → slice_get (map is_reference_value vs) i ≡ Some kind
        → (v : Value) × (slice_get vs i ≡ Some v) × (is_reference_value v ≡ kind)
    go [] i e = absurd cc
    go (v ∷ vs) zero e = let same : is_reference_value v ≡ kind = cc in (v, refl, same)
    go (v ∷ vs) (suc i) e = go vs i e
