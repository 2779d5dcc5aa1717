-- Names as they are seen: a local, what a slot holds and what is found, in the picture and in the machine.
use Rattle.std.proofs.Common.{◌≡◌, ℕ, zero, suc, ◌<◌, List, [], ◌∷◌, map, length, refl, sym, ap, subst, ◌∙◌, Bool, true}
use Rattle.std.proofs.Common.{false, if◌then◌else◌, ◌==◌, slice_index, Option, Some, None, inl, inr, ne_eqb, lt_irrefl}
use Rattle.std.specs.Prelude.{slice_get}
use Rattle.std.specs.List.{AllByRecursion}
use Rattle.std.specs.Option.{option_map}
use Rattle.clr_types.specs.Rising.{IsIn}
use Rattle.clr_types.specs.Types.{has_finalizer, type_row}
use Rattle.clr_types.proofs.SortedLists.{find_by-member}
use Rattle.clr_model.specs.Machine.{Value, ref, num, Object, Machine}
use Rattle.clr_model.specs.Lookups.{place_of, object_named, local_of, local_index, slots_or_none}
use Rattle.clr_model.specs.Lookups.{slots_of_named}
use Rattle.clr_model.specs.Picture.{picture, renamed_value, renamed_object}
use Rattle.clr_model.specs.Checks.{is_reference_slot}
use Rattle.clr_model.specs.Lookups.{type_of_object, type_of_named, object_has_finalizer}
use Rattle.clr_model.specs.Reach.{is_suppressed, suppressed_or_none}
use Rattle.clr_model.specs.Step.{name_in, number_in}
use Rattle.clr_model.specs.Lawful.{IsBirthNamed, IsNullOrPresent, SlotIsPresent}
use Rattle.clr_model.proofs.Naming.{local_of-picture, object_named-picture, slots_of_named-picture}
use Rattle.clr_model.proofs.NamedWell.{AreNamed, HasObject, lawful-named, keeps_apart, place-above, name-above}
use Rattle.clr_model.proofs.NamedWell.{found_named, place-shown}

-- ---- values under other names

length-renamed : (to : ℕ → ℕ) (vs : List Value) → length (map (renamed_value to) vs) ≡ length vs
length-renamed to [] = refl
length-renamed to (v ∷ vs) = ap suc (length-renamed to vs)

kind-renamed : (to : ℕ → ℕ) (vs : List Value) (i : ℕ)
    → is_reference_slot (slice_get (map (renamed_value to) vs) i) ≡ is_reference_slot (slice_get vs i)
kind-renamed to [] i = refl
kind-renamed to (ref n ∷ vs) zero = refl
kind-renamed to (num n ∷ vs) zero = refl
kind-renamed to (v ∷ vs) (suc i) = kind-renamed to vs i

name-renamed : (to : ℕ → ℕ) → to 0 ≡ 0 → (vs : List Value) (i : ℕ)
    → name_in (slice_get (map (renamed_value to) vs) i) ≡ to (name_in (slice_get vs i))
name-renamed to null [] i = sym null
name-renamed to null (ref n ∷ vs) zero = refl
name-renamed to null (num n ∷ vs) zero = sym null
name-renamed to null (v ∷ vs) (suc i) = name-renamed to null vs i

number-renamed : (to : ℕ → ℕ) (vs : List Value) (i : ℕ)
    → number_in (slice_get (map (renamed_value to) vs) i) ≡ number_in (slice_get vs i)
number-renamed to [] i = refl
number-renamed to (ref n ∷ vs) zero = refl
number-renamed to (num n ∷ vs) zero = refl
number-renamed to (v ∷ vs) (suc i) = number-renamed to vs i

type-renamed : (to : ℕ → ℕ) (r : Option Object) → type_of_object (option_map (renamed_object to) r) ≡ type_of_object r
type-renamed to None = refl
type-renamed to (Some o) = refl

flag-renamed : (to : ℕ → ℕ) (r : Option Object)
    → suppressed_or_none (option_map (renamed_object to) r) ≡ suppressed_or_none r
flag-renamed to None = refl
flag-renamed to (Some o) = refl

-- ---- names that are present

pub all-slice_index : (P : ℕ → Type 0) → P 0 → (xs : List ℕ) (i : ℕ) → AllByRecursion P xs → P (slice_index xs i)
all-slice_index P null [] i all = null
all-slice_index P null (x ∷ xs) zero all = all.0
all-slice_index P null (x ∷ xs) (suc i) all = all-slice_index P null xs i all.1

all-slots : (P : Value → Type 0) (os : List Object) (x : ℕ)
    → AllByRecursion (λ (o : Object). AllByRecursion P o.slots) os
    → AllByRecursion P (slots_or_none (object_named os x))
all-slots P [] x all = tt
all-slots P (o ∷ os) x all = go (o.name == x) (all-slots P os x all.1)
  where
    go : (b : Bool) → AllByRecursion P (slots_or_none (object_named os x))
        → AllByRecursion P (slots_or_none (if b then Some o else object_named os x))
    go true more = all.0
    go false more = more

name-present : (m : Machine) (vs : List Value) (i : ℕ) → AllByRecursion (SlotIsPresent m) vs
    → IsNullOrPresent m (name_in (slice_get vs i))
name-present m [] i all = inl refl
name-present m (ref n ∷ vs) zero all = all.0
name-present m (num n ∷ vs) zero all = inl refl
name-present m (v ∷ vs) (suc i) all = name-present m vs i all.1

module _ (m : Machine) (named : IsBirthNamed m) where
  abbrev to : ℕ → ℕ
  to = place_of m.objects

  names : AreNamed m
  names = lawful-named m named.lawful

  -- a local is null or the name of an object
  pub local-present : (t k : ℕ) → IsNullOrPresent m (local_of m t k)
  local-present t k = all-slice_index (IsNullOrPresent m) (inl refl) m.locals
      (local_index t k) named.lawful.names.locals

  -- and so is what a slot refers to
  pub slot-present : (x i : ℕ) → IsNullOrPresent m (name_in (slice_get (slots_of_named m x) i))
  slot-present x i = name-present m (slots_of_named m x) i
      (all-slots (SlotIsPresent m) m.objects x named.lawful.names.slots)

  -- an object is found by its name
  pub found-member : (o : Object) → IsIn o m.objects → object_named m.objects o.name ≡ Some o
  found-member o i = find_by-member (λ (o : Object). o.name) o m.objects names.apart.names i

  -- a name is seen as null just where it is null
  pub null-seen : (x : ℕ) → IsNullOrPresent m x → (to x == 0) ≡ (x == 0)
  null-seen x (inl null) = ap (λ n. to n == 0) null ∙ ap (λ n. n == 0) (sym null)
  null-seen x (inr there) = go (found_named m.objects x there)
    where
      go : HasObject m.objects x → (to x == 0) ≡ (x == 0)
      go (o, i, n) =
          let above : 0 < to x = subst (λ k. 0 < to k) n (place-above m names o i) in
          let some : 0 < x = subst (λ k. 0 < k) n (name-above m names o i) in
          ne_eqb (to x) 0 (λ e. lt_irrefl 0 (subst (λ k. 0 < k) e above))
          ∙ sym (ne_eqb x 0 (λ e. lt_irrefl 0 (subst (λ k. 0 < k) e some)))

  -- the place of what is seen at a place is that place
  pub place-seen : (x : ℕ) → IsNullOrPresent m x → place_of (picture m).objects (to x) ≡ to x
  place-seen x (inl null) = ap (λ n. place_of (picture m).objects (to n)) null ∙ sym (ap to null)
  place-seen x (inr there) = place-shown m names x (found_named m.objects x there)

  -- ---- the object of a local

  module _ (t k : ℕ) where
    pub slots-seen : slots_of_named (picture m) (local_of (picture m) t k)
        ≡ map (renamed_value to) (slots_of_named m (local_of m t k))
    slots-seen = ap (slots_of_named (picture m)) (local_of-picture m t k)
        ∙ slots_of_named-picture m (local_of m t k) (keeps_apart m names (local_of m t k))

    pub local_null-seen : (local_of (picture m) t k == 0) ≡ (local_of m t k == 0)
    local_null-seen = ap (λ n. n == 0) (local_of-picture m t k) ∙ null-seen (local_of m t k) (local-present t k)

    pub count-seen : length (slots_of_named (picture m) (local_of (picture m) t k))
        ≡ length (slots_of_named m (local_of m t k))
    count-seen = ap length slots-seen ∙ length-renamed to (slots_of_named m (local_of m t k))

    pub kind-seen : (i : ℕ) → is_reference_slot (slice_get (slots_of_named (picture m) (local_of (picture m) t k)) i)
        ≡ is_reference_slot (slice_get (slots_of_named m (local_of m t k)) i)
    kind-seen i = ap (λ vs. is_reference_slot (slice_get vs i)) slots-seen
        ∙ kind-renamed to (slots_of_named m (local_of m t k)) i

    pub name-seen : (i : ℕ) → name_in (slice_get (slots_of_named (picture m) (local_of (picture m) t k)) i)
        ≡ to (name_in (slice_get (slots_of_named m (local_of m t k)) i))
    name-seen i = ap (λ vs. name_in (slice_get vs i)) slots-seen
        ∙ name-renamed to refl (slots_of_named m (local_of m t k)) i

    pub number-seen : (i : ℕ) → number_in (slice_get (slots_of_named (picture m) (local_of (picture m) t k)) i)
        ≡ number_in (slice_get (slots_of_named m (local_of m t k)) i)
    number-seen i = ap (λ vs. number_in (slice_get vs i)) slots-seen
        ∙ number-renamed to (slots_of_named m (local_of m t k)) i

    pub type-seen : type_of_named (picture m) (local_of (picture m) t k) ≡ type_of_named m (local_of m t k)
    type-seen =
        ap (type_of_named (picture m)) (local_of-picture m t k)
        ∙ ap type_of_object (object_named-picture m (local_of m t k) (keeps_apart m names (local_of m t k)))
        ∙ type-renamed to (object_named m.objects (local_of m t k))

    -- whether its type has a finaliser, and whether that is suppressed
    pub final-seen : object_has_finalizer (picture m) (local_of (picture m) t k)
        ≡ object_has_finalizer m (local_of m t k)
    final-seen = ap (λ n. has_finalizer (type_row m.types n)) type-seen

    pub flag-seen : is_suppressed (picture m) (local_of (picture m) t k) ≡ is_suppressed m (local_of m t k)
    flag-seen =
        ap (is_suppressed (picture m)) (local_of-picture m t k)
        ∙ ap suppressed_or_none (object_named-picture m (local_of m t k) (keeps_apart m names (local_of m t k)))
        ∙ flag-renamed to (object_named m.objects (local_of m t k))
