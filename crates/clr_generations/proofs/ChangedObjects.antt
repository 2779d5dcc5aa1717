-- Objects of which one is changed: a slot of it, or its flag. They stand where they stood.
use Rattle.std.proofs.Common.{◌≡◌, ◌⊎◌, inl, inr, ℕ, zero, suc, ◌≤◌, Bool, true, false, List, [], ◌∷◌, ◌++◌}
use Rattle.std.proofs.Common.{if◌then◌else◌, length, refl, subst, sym, ◌∙◌, eqb, slice_set, Some}
use Rattle.std.specs.Prelude.{slice_get}
use Rattle.clr_types.specs.Rising.{changed_by, first, IsIn, later}
use Rattle.clr_types.specs.Types.{TypeRow}
use Rattle.clr_types.proofs.ChangedLists.{all-changed_by}
use Rattle.clr_types.proofs.RisingLists.{all_at}
use Rattle.clr_model.specs.Machine.{num, Object, ref, Value}
use Rattle.clr_model.specs.Updates.{with_flag_of, with_slot_of}
use Rattle.clr_view.proofs.TypeMore.{form-stays}
use Rattle.clr_generations.specs.Laws.{Stands}
use Rattle.clr_generations.proofs.KeptLaws.{HadReferences, HasSameObjects, HasSamePlaces, WasObject}

-- ---- lists

module _ {X : Type 0} (key : X → ℕ) (k : ℕ) (change : X → X) where
  -- an element of a list of which one is changed was in it, or is the changed one
  abbrev pub CameFrom : List X → X → Type 0
  CameFrom xs y = (x : X) × IsIn x xs × (((key x ≡ k) × (y ≡ change x)) ⊎ (y ≡ x))

  pub came-from : (xs : List X) (y : X) → IsIn y (changed_by key k change xs) → CameFrom xs y
  came-from xs y i =
      all_at (CameFrom xs) i (all-changed_by key k change (CameFrom xs) xs (λ x i e. (x, i, inl (e, refl)))
      (λ x i ne. (x, i, inr refl)))

  -- and each that was in it is there, with whatever a change leaves as it is
  pub goes-to : {Y : Type 0} (f : X → Y) → ((x : X) → f (change x) ≡ f x) → (xs : List X) (x : X) → IsIn x xs
      → (y : X) × IsIn y (changed_by key k change xs) × (f y ≡ f x)
  goes-to f keeps [] x i = elim i [ ]
  goes-to f keeps (z ∷ xs) x first = go (eqb (key x) k)
    where
      go : (b : Bool) → (y : X) × IsIn y ((if b then change x else x) ∷ changed_by key k change xs) × (f y ≡ f x)
      go true = (change x, first, keeps x)
      go false = (x, first, refl)
  goes-to f keeps (z ∷ xs) x (later i) =
      let found = goes-to f keeps xs x i in (found.0, later found.1, found.2)

-- what stands in a list after a write was written, or stood there
pub got-written : {X : Type 0} (xs : List X) (j : ℕ) (x : X) (m : ℕ) (y : X) → slice_get (slice_set xs j x) m ≡ Some y
    → ((m ≡ j) × (y ≡ x)) ⊎ (slice_get xs m ≡ Some y)
got-written [] j x m y e = inr e
got-written (z ∷ xs) zero x zero y e = let same : y ≡ x = cc in inl (refl, same)
got-written (z ∷ xs) zero x (suc m) y e = inr e
got-written (z ∷ xs) (suc j) x zero y e = inr e
got-written (z ∷ xs) (suc j) x (suc m) y e = elim (got-written xs j x m y e) [
  | inl here ↦ let at : suc m ≡ suc j = let n = here.0 in λ i. suc (n i) in inl (at, here.1)
  | inr there ↦ inr there
]

-- ---- objects

-- an object as it is
abbrev itself : (rows : List TypeRow) (objects : List Object) (o : Object) → IsIn o objects
    → WasObject rows rows objects o
itself rows objects o i = record {
  object = o;
  present = i;
  name = refl;
  place = refl;
  form = refl;
  len = refl;
}

has-itself : (rows : List TypeRow) (objects : List Object) (o : Object) → IsIn o objects
    → HadReferences rows rows objects o
has-itself rows objects o i = record { was = itself rows objects o i; named = λ j name e. e }

-- all as they are
pub same-objects : (rows : List TypeRow) (objects : List Object) → HasSameObjects rows rows objects objects
same-objects rows objects = record { were = λ o i. has-itself rows objects o i; stay = λ place s. s }

module _ (rows : List TypeRow) (objects : List Object) (place : ℕ) where
  abbrev name : Object → ℕ
  name o = o.name

  -- where a change keeps all but slots, objects stand where they stood
  pub stay-changed : (change : Object → Object) → ((o : Object) → (change o).place ≡ o.place) → (p : ℕ)
      → Stands objects p → Stands (changed_by name place change objects) p
  stay-changed change keeps p s =
      let found = goes-to name place change (λ (o : Object). o.place) keeps objects s.0 s.1 in
      (found.0, found.1, found.2 ∙ s.2)

  -- the object of which a slot is changed was there
  abbrev with-slot : (j : ℕ) (value : Value) (x : Object) → IsIn x objects
      → WasObject rows rows objects (with_slot_of j value x)
  with-slot j value x i = record {
    object = x;
    present = i;
    name = refl;
    place = refl;
    form = refl;
    len = refl;
  }

  -- whatever a slot gets, objects stand where they stood
  pub slot-changed : (j : ℕ) (value : Value)
      → HasSamePlaces rows rows objects (changed_by name place (with_slot_of j value) objects)
  slot-changed j value = record {
    were = λ o i. go o (came-from name place (with_slot_of j value) objects o i);
    stay = stay-changed (with_slot_of j value) (λ o. refl);
  }
    where
      go : (o : Object) → CameFrom name place (with_slot_of j value) objects o → WasObject rows rows objects o
      go o c = elim c.2 [
        | inl here ↦ subst (WasObject rows rows objects) (sym here.1) (with-slot j value c.0 c.1)
        | inr other ↦ subst (WasObject rows rows objects) (sym other) (itself rows objects c.0 c.1)
      ]

  -- and one that has another number names nothing new
  pub number-changed : (j v : ℕ)
      → HasSameObjects rows rows objects (changed_by name place (with_slot_of j (num v)) objects)
  number-changed j v = record {
    were = λ o i. go o (came-from name place (with_slot_of j (num v)) objects o i);
    stay = stay-changed (with_slot_of j (num v)) (λ o. refl);
  }
    where
      no_reference : (o : Object) (m n : ℕ) → slice_get (slice_set o.slots j (num v)) m ≡ Some (ref n)
          → slice_get o.slots m ≡ Some (ref n)
      no_reference o m n e = elim (got-written o.slots j (num v) m (ref n) e) [
        | inl here ↦ let clash : ◌≡◌ {A = Value} (ref n) (num v) = here.1 in absurd cc
        | inr there ↦ there
      ]

      changed : (x : Object) → IsIn x objects → HadReferences rows rows objects (with_slot_of j (num v) x)
      changed x i = record { was = with-slot j (num v) x i; named = λ m n e. no_reference x m n e }

      go : (o : Object) → CameFrom name place (with_slot_of j (num v)) objects o → HadReferences rows rows objects o
      go o c = elim c.2 [
        | inl here ↦ subst (HadReferences rows rows objects) (sym here.1) (changed c.0 c.1)
        | inr other ↦ subst (HadReferences rows rows objects) (sym other) (has-itself rows objects c.0 c.1)
      ]

  -- a flag names nothing
  pub flag-changed : (flag : Bool)
      → HasSameObjects rows rows objects (changed_by name place (with_flag_of flag) objects)
  flag-changed flag = record {
    were = λ o i. go o (came-from name place (with_flag_of flag) objects o i);
    stay = stay-changed (with_flag_of flag) (λ o. refl);
  }
    where
      changed : (x : Object) → IsIn x objects → HadReferences rows rows objects (with_flag_of flag x)
      changed x i = record {
        was = record { object = x; present = i; name = refl; place = refl; form = refl; len = refl };
        named = λ m n e. e;
      }

      go : (o : Object) → CameFrom name place (with_flag_of flag) objects o → HadReferences rows rows objects o
      go o c = elim c.2 [
        | inl here ↦ subst (HadReferences rows rows objects) (sym here.1) (changed c.0 c.1)
        | inr other ↦ subst (HadReferences rows rows objects) (sym other) (has-itself rows objects c.0 c.1)
      ]

-- under a longer table objects of types that there were are what they were
pub type-added : (rows : List TypeRow) (row : TypeRow) (objects : List Object)
    → ((o : Object) → IsIn o objects → o.type ≤ length rows)
    → HasSameObjects rows (rows ++ row ∷ []) objects objects
type-added rows row objects known = record {
  were = λ o i. record {
    was = record {
      object = o;
      present = i;
      name = refl;
      place = refl;
      form = form-stays rows row o.type (known o i);
      len = refl;
    };
    named = λ j name e. e;
  };
  stay = λ place s. s;
}
