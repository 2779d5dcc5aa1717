-- An object whose slots or flag are changed keeps the machine lawful.
use Rattle.std.proofs.Common.{◌≡◌, ℕ, zero, suc, ◌<◌, ◌≤◌, List, [], ◌∷◌, ◌++◌, map, length, refl, sym, ap, subst, ◌∙◌}
use Rattle.std.proofs.Common.{arith, Bool, true, false, if◌then◌else◌, ◌==◌, Option, Some, None, IsSome, is_some, inl}
use Rattle.std.proofs.Common.{inr}
use Rattle.std.specs.Prelude.{slice_get, slice_set}
use Rattle.std.specs.List.{AllByRecursion}
use Rattle.std.specs.FinMap as finmap
use Rattle.std.proofs.lemmas.Bool.{eqb-true}
use Rattle.clr_types.specs.Rising.{IsIn, first, later, IsRisingBy, changed_by}
use Rattle.clr_types.specs.Ranges.{Piece, by_place}
use Rattle.clr_types.specs.Types.{form_at, has_finalizer, type_row}
use Rattle.clr_types.specs.Segments.{segment_of, rest_pieces}
use Rattle.clr_types.specs.LawfulLayout.{IsTiled, DoesNotCross}
use Rattle.clr_types.proofs.RisingLists.{all_at}
use Rattle.clr_types.proofs.ChangedLists.{all_imply, all-slice_set, slice_set-same, all-changed_by}
use Rattle.clr_types.proofs.ChangedLists.{all-changed_same, sum_by-changed_by}
use Rattle.clr_types.specs.declared.handle.Handle.{Handle}
use Rattle.clr_model.specs.Machine.{Value, ref, num, Object, ThreadStep, no_step, begun_store, begun_new, Machine}
use Rattle.clr_model.specs.Lookups.{object_named, object_piece, pieces, slots_of_named, slots_or_none}
use Rattle.clr_model.specs.Lookups.{type_of_object}
use Rattle.clr_model.specs.Checks.{is_reference_slot}
use Rattle.clr_model.specs.Updates.{with_slot, with_flag}
use Rattle.clr_model.specs.Lawful.{IsBirthNamed, IsFinal, IsLaid, IsShaped, NumberFits, SuitsItsSegment, IsPresent}
use Rattle.clr_model.specs.Lawful.{IsNullOrPresent, SlotIsPresent, StepIsPresent, NamesArePresent, is_reference_value}
use Rattle.clr_model.proofs.BoundedSums.{HaveSameBytes, bounded_alike, bytes_renamed}
use Rattle.clr_model.proofs.Naming.{map-slice_set}
use Rattle.clr_model.proofs.RootsChanged.{shaped_alike}
use Rattle.clr_model.proofs.MarkingKept.{in_changed, marking_kept, old_as}
use Rattle.clr_types.specs.Segments.{generation}

-- ---- a change at one key

module _ {X : Type 0} (key : X → ℕ) (k : ℕ) (change : X → X) (keeps : (x : X) → key (change x) ≡ key x) where
  -- rising lists still rise
  pub rises-changed : (xs : List X) → IsRisingBy key xs → IsRisingBy key (changed_by key k change xs)
  rises-changed [] r = tt
  rises-changed (x ∷ xs) r = (
    go (key x == k) (all-changed_same key k change (λ y. key x < key y)
        (λ y l. subst (λ n. key x < n) (sym (keeps y)) l) xs r.0),
    rises-changed xs r.1,
  )
    where
      go : (b : Bool) → AllByRecursion (λ y. key x < key y) (changed_by key k change xs)
          → AllByRecursion (λ y. key (if b then change x else x) < key y) (changed_by key k change xs)
      go true all = subst (λ n. AllByRecursion (λ y. n < key y) (changed_by key k change xs)) (sym (keeps x)) all
      go false all = all

-- a function that doesn't see the change
pub map-changed : {X Y : Type 0} (f : X → Y) (key : X → ℕ) (k : ℕ) (change : X → X) → ((x : X) → f (change x) ≡ f x)
    → (xs : List X) → map f (changed_by key k change xs) ≡ map f xs
map-changed f key k change keeps [] = refl
map-changed f key k change keeps (x ∷ xs) =
    let rest = map-changed f key k change keeps xs in let here = go (key x == k) in λ i. here i ∷ rest i
  where
    go : (b : Bool) → f (if b then change x else x) ≡ f x
    go true = keeps x
    go false = refl

-- ---- kinds of slots

pub slice_get-map : {X Y : Type 0} (f : X → Y) (xs : List X) (i : ℕ) (x : X) → slice_get xs i ≡ Some x
    → slice_get (map f xs) i ≡ Some (f x)
slice_get-map f [] i x e = absurd cc
slice_get-map f (y ∷ ys) zero x e = let same : y ≡ x = cc in ap (λ z. Some (f z)) same
slice_get-map f (y ∷ ys) (suc i) x e = slice_get-map f ys i x e

is_some_true : Option Bool → Bool
is_some_true None = false
is_some_true (Some b) = b

kind-by : (vs : List Value) (i : ℕ)
    → is_reference_slot (slice_get vs i) ≡ is_some_true (slice_get (map is_reference_value vs) i)
unfolding is_some_true
kind-by [] i = refl
kind-by (ref n ∷ vs) zero = refl
kind-by (num n ∷ vs) zero = refl
kind-by (v ∷ vs) (suc i) = kind-by vs i

-- slots of the same kinds
pub kinds-alike : (vs ws : List Value) → map is_reference_value vs ≡ map is_reference_value ws → (i : ℕ)
    → is_reference_slot (slice_get vs i) ≡ is_reference_slot (slice_get ws i)
kinds-alike vs ws e i = kind-by vs i ∙ ap (λ ks. is_some_true (slice_get ks i)) e ∙ sym (kind-by ws i)

-- a reference slot holds a name
pub reference-is : (r : Option Value) → is_reference_slot r ≡ true → (name : ℕ) × (r ≡ Some (ref name))
reference-is None e = absurd cc
reference-is (Some (ref name)) e = (name, refl)
reference-is (Some (num n)) e = absurd cc

-- and another slot that is there holds a number
pub number-is : (vs : List Value) (i : ℕ) → i < length vs → is_reference_slot (slice_get vs i) ≡ false
    → (number : ℕ) × (slice_get vs i ≡ Some (num number))
number-is [] i l e = absurd (omega arith)
number-is (ref n ∷ vs) zero l e = absurd cc
number-is (num n ∷ vs) zero l e = (n, refl)
number-is (v ∷ vs) (suc i) l e = number-is vs i (omega arith) e

-- ---- an object

-- The object may take these slots and this flag: the slots are of the kinds that it has, what they name is present,
-- their numbers fit, and only the finaliser of a type that has one is suppressed.
pub record MayBecome (m : Machine) (o : Object) (slots : List Value) (flag : Bool) : Type 0 where
  pub kinds : map is_reference_value slots ≡ map is_reference_value o.slots
  pub numbers : AllByRecursion (NumberFits (form_at m.types o.type)) slots
  pub present : AllByRecursion (SlotIsPresent m) slots
  pub final : flag ≡ true → has_finalizer (type_row m.types o.type) ≡ true

module _ (m : Machine) (name : ℕ) (slots : Object → List Value) (flag : Object → Bool) (named : IsBirthNamed m)
    (may : (o : Object) → IsIn o m.objects → o.name ≡ name → MayBecome m o (slots o) (flag o)) where
  abbrev change : Object → Object
  change o = record o { slots = slots o; suppressed = flag o }

  abbrev next : Machine
  next = record m { objects = changed_by (λ (o : Object). o.name) name change m.objects }

  abbrev key : Object → ℕ
  key o = o.name

  shape-kept : (o : Object) → MayBecome m o (slots o) (flag o) → IsShaped m o → IsShaped next (change o)
  shape-kept o is h = record {
    named = h.named;
    typed = h.typed;
    size = h.size;
    class_len = h.class_len;
    kinds = is.kinds ∙ h.kinds;
    numbers = is.numbers;
    suppressed = is.final;
  }

  same-pieces : pieces m ≡ pieces next
  same-pieces =
      ap (λ ps. by_place ((ps ++ m.layout.free) ++ rest_pieces m.layout.rests))
      (sym (map-changed (object_piece m.types) key name change (λ o. refl) m.objects))

  object-laid : IsLaid next
  object-laid =
      let laid = named.lawful.laid in
      record {
        layout = laid.layout;
        housed = subst (AllByRecursion (λ (p : Piece). IsSome (segment_of m.layout p.place))) same-pieces laid.housed;
        tiled = subst (λ ps. AllByRecursion (IsTiled ps) m.layout.segments) same-pieces laid.tiled;
        whole1 = subst (AllByRecursion (DoesNotCross m.layout.start1)) same-pieces laid.whole1;
        whole0 = subst (AllByRecursion (DoesNotCross m.layout.start0)) same-pieces laid.whole0;
      }

  -- ---- names

  one_some : (c : Bool) (p q : Object) (r s : Option Object) → is_some r ≡ is_some s
      → is_some (if c then Some p else r) ≡ is_some (if c then Some q else s)
  one_some true p q r s e = refl
  one_some false p q r s e = e

  -- the kinds of the slots of what is found
  abbrev kinds_of : Option Object → List Bool
  kinds_of r = map is_reference_value (slots_or_none r)

  one_kind : (c : Bool) (p q : Object) (r s : Option Object)
      → map is_reference_value p.slots ≡ map is_reference_value q.slots → kinds_of r ≡ kinds_of s
      → kinds_of (if c then Some p else r) ≡ kinds_of (if c then Some q else s)
  one_kind true p q r s d e = d
  one_kind false p q r s d e = e

  found_some : (os : List Object) (x : ℕ)
      → is_some (object_named (changed_by key name change os) x) ≡ is_some (object_named os x)
  found_some [] x = refl
  found_some (o ∷ os) x = go (o.name == name) (found_some os x)
    where
      go : (b : Bool) → is_some (object_named (changed_by key name change os) x) ≡ is_some (object_named os x)
          → is_some (if (if b then change o else o).name == x then Some (if b then change o else o)
          else object_named (changed_by key name change os) x)
          ≡ is_some (if o.name == x then Some o else object_named os x)
      go true e =
          one_some (o.name == x) (change o) o (object_named (changed_by key name change os) x) (object_named os x) e
      go false e = one_some (o.name == x) o o (object_named (changed_by key name change os) x) (object_named os x) e

  found_kinds : (os : List Object) (x : ℕ) → ((o : Object) → IsIn o os → IsIn o m.objects)
      → kinds_of (object_named (changed_by key name change os) x) ≡ kinds_of (object_named os x)
  found_kinds [] x among = refl
  found_kinds (o ∷ os) x among = go (o.name == name) refl (found_kinds os x (λ p j. among p (later j)))
    where
      go : (b : Bool) → (o.name == name) ≡ b
          → kinds_of (object_named (changed_by key name change os) x) ≡ kinds_of (object_named os x)
          → kinds_of (if (if b then change o else o).name == x then Some (if b then change o else o)
          else object_named (changed_by key name change os) x)
          ≡ kinds_of (if o.name == x then Some o else object_named os x)
      go true at e =
          one_kind (o.name == x) (change o) o (object_named (changed_by key name change os) x) (object_named os x)
          (may o (among o first) (eqb-true o.name name at)).kinds e
      go false at e =
          one_kind (o.name == x) o o (object_named (changed_by key name change os) x) (object_named os x) refl e

  one_type : (c : Bool) (p q : Object) (r s : Option Object) → p.type ≡ q.type → type_of_object r ≡ type_of_object s
      → type_of_object (if c then Some p else r) ≡ type_of_object (if c then Some q else s)
  one_type true p q r s d e = d
  one_type false p q r s d e = e

  found_type : (os : List Object) (x : ℕ)
      → type_of_object (object_named (changed_by key name change os) x) ≡ type_of_object (object_named os x)
  found_type [] x = refl
  found_type (o ∷ os) x = go (o.name == name) (found_type os x)
    where
      go : (b : Bool) → type_of_object (object_named (changed_by key name change os) x)
          ≡ type_of_object (object_named os x)
          → type_of_object (if (if b then change o else o).name == x then Some (if b then change o else o)
          else object_named (changed_by key name change os) x)
          ≡ type_of_object (if o.name == x then Some o else object_named os x)
      go true e =
          one_type (o.name == x) (change o) o (object_named (changed_by key name change os) x) (object_named os x)
          refl e
      go false e =
          one_type (o.name == x) o o (object_named (changed_by key name change os) x) (object_named os x) refl e

  final : (x : ℕ) → IsFinal m x → IsFinal next x
  final x is = ap (λ t. has_finalizer (type_row m.types t)) (found_type m.objects x) ∙ is

  same_bytes : HaveSameBytes m next
  same_bytes =
      bytes_renamed m next.objects
      (λ count still. sum_by-changed_by key name change count
      (λ o. still o o.name (slots o) (flag o)) m.objects)

  present : (x : ℕ) → IsPresent m x → IsPresent next x
  present x there = found_some m.objects x ∙ there

  null_or_present : (x : ℕ) → IsNullOrPresent m x → IsNullOrPresent next x
  null_or_present x (inl e) = inl e
  null_or_present x (inr there) = inr (present x there)

  slot_present : (w : Value) → SlotIsPresent m w → SlotIsPresent next w
  slot_present (ref x) there = null_or_present x there
  slot_present (num n) there = tt

  slots_present : (vs : List Value) → AllByRecursion (SlotIsPresent m) vs → AllByRecursion (SlotIsPresent next) vs
  slots_present vs = all_imply (SlotIsPresent m) (SlotIsPresent next) vs slot_present

  step_present : (s : ThreadStep) → StepIsPresent m s → StepIsPresent next s
  step_present no_step is = tt
  step_present (begun_store object slot) (there, x, e) =
      let same = kinds-alike (slots_of_named next object) (slots_of_named m object)
      (found_kinds m.objects object (λ o j. j)) slot in
      let (y, f) = reference-is (slice_get (slots_of_named next object) slot) (same ∙ ap is_reference_slot e) in
      (present object there, y, f)
  step_present (begun_new type len local) is = is

  names-next : NamesArePresent next
  names-next =
      let names = named.lawful.names in
      record {
        slots =
            all-changed_by key name change (λ (o : Object). AllByRecursion (SlotIsPresent next) o.slots) m.objects
            (λ o j e. slots_present (slots o) (may o j e).present)
            (λ o j e. slots_present o.slots (all_at (λ (o : Object). AllByRecursion (SlotIsPresent m) o.slots) j
            names.slots));
        locals = all_imply (IsNullOrPresent m) (IsNullOrPresent next) m.locals null_or_present names.locals;
        handles =
            all_imply (λ (r : Handle). IsNullOrPresent m r.target × IsNullOrPresent m r.second)
            (λ (r : Handle). IsNullOrPresent next r.target × IsNullOrPresent next r.second)
            (finmap.values m.handles)
            (λ r is. (null_or_present r.target is.0, null_or_present r.second is.1)) names.handles;
        entries = all_imply (IsPresent m) (IsPresent next) m.entries present names.entries;
        ready = all_imply (IsPresent m) (IsPresent next) m.ready present names.ready;
        steps = all_imply (StepIsPresent m) (StepIsPresent next) m.steps step_present names.steps;
      }

  -- names and places stay
  same_name : (b : Bool) (o : Object) → (if b then change o else o).name ≡ o.name
  same_name true o = refl
  same_name false o = refl

  same_age : (b : Bool) (o : Object) → 1 < generation m.layout o.place
      → 1 < generation m.layout (if b then change o else o).place
  same_age true o old = old
  same_age false o old = old

  -- the object takes them, and the machine stays lawful
  pub changed_lawful : IsBirthNamed (record m {
    objects = changed_by (λ (o : Object). o.name) name
        (λ (o : Object). record o { slots = slots o; suppressed = flag o }) m.objects;
  })
  changed_lawful =
      let h = named.lawful in
      record {
        lawful = record {
          options = h.options;
          types = h.types;
          type_count = h.type_count;
          type_names = h.type_names;
          type_words = h.type_words;
          names_rise = rises-changed key name change (λ o. refl) m.objects h.names_rise;
          shapes =
              all-changed_by key name change (IsShaped next) m.objects
              (λ o j e. shape-kept o (may o j e) (all_at (IsShaped m) j h.shapes))
              (λ o j e. shaped_alike m next o refl (all_at (IsShaped m) j h.shapes));
          laid = object-laid;
          rests_young = h.rests_young;
          suited = all-changed_same key name change (SuitsItsSegment next) (λ o is. is) m.objects h.suited;
          limit = h.limit;
          names = names-next;
          seconds = h.seconds;
          locals = h.locals;
          steps = h.steps;
          rooms = h.rooms;
          holder = h.holder;
          handle_count = h.handle_count;
          handle_numbers = h.handle_numbers;
          entries = all_imply (IsFinal m) (IsFinal next) m.entries final h.entries;
          ready = all_imply (IsFinal m) (IsFinal next) m.ready final h.ready;
          sums = bounded_alike m next same_bytes refl h.sums;
          marking =
              marking_kept m next m.background
              (old_as m next (λ o. if o.name == name then change o else o) (λ o. same_name (o.name == name) o)
              (λ o i. in_changed key name change o m.objects i) (λ o i old. same_age (o.name == name) o old)) h.marking;
        };
        born = all-changed_same key name change (λ (o : Object). o.name ≤ m.born) (λ o l. l) m.objects named.born;
      }

-- ---- a slot

-- slot i of the object may take the value: it is of the value's kind, the name is present, the number fits
pub record TakesValue (m : Machine) (i : ℕ) (v : Value) (o : Object) : Type 0 where
  pub before : Value
  pub there : slice_get o.slots i ≡ Some before
  pub kind : is_reference_value before ≡ is_reference_value v
  pub present : SlotIsPresent m v
  pub fits : NumberFits (form_at m.types o.type) v

-- A slot that may take the value takes it, and the machine stays lawful.
pub with_slot_lawful : (m : Machine) (name i : ℕ) (v : Value) → IsBirthNamed m
    → ((o : Object) → IsIn o m.objects → o.name ≡ name → TakesValue m i v o) → IsBirthNamed (with_slot m name i v)
with_slot_lawful m name i v named takes =
    changed_lawful m name (λ o. slice_set o.slots i v) (λ o. o.suppressed) named may
  where
    may : (o : Object) → IsIn o m.objects → o.name ≡ name → MayBecome m o (slice_set o.slots i v) o.suppressed
    may o j e =
        let is = takes o j e in
        let shape = all_at (IsShaped m) j named.lawful.shapes in
        record {
          kinds =
              map-slice_set is_reference_value o.slots i v
              ∙ slice_set-same (map is_reference_value o.slots) i (is_reference_value v)
              (slice_get-map is_reference_value o.slots i is.before is.there ∙ ap (λ b. Some b) is.kind);
          numbers = all-slice_set (NumberFits (form_at m.types o.type)) o.slots i v shape.numbers is.fits;
          present =
              all-slice_set (SlotIsPresent m) o.slots i v
              (all_at (λ (o : Object). AllByRecursion (SlotIsPresent m) o.slots) j named.lawful.names.slots) is.present;
          final = shape.suppressed;
        }

-- ---- a flag

-- A finaliser is suppressed where there is one, or isn't any more, and the machine stays lawful.
pub with_flag_lawful : (m : Machine) (name : ℕ) (flag : Bool) → IsBirthNamed m
    → ((o : Object) → IsIn o m.objects → o.name ≡ name → flag ≡ true → has_finalizer (type_row m.types o.type) ≡ true)
    → IsBirthNamed (with_flag m name flag)
with_flag_lawful m name flag named final =
    changed_lawful m name (λ o. o.slots) (λ o. flag) named
    (λ o j e. record {
      kinds = refl;
      numbers = (all_at (IsShaped m) j named.lawful.shapes).numbers;
      present = all_at (λ (o : Object). AllByRecursion (SlotIsPresent m) o.slots) j named.lawful.names.slots;
      final = final o j e;
    })
