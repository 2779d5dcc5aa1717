-- Lines that make, follow and free handles: what they do to what is seen, they do to each machine that is seen so.
use Rattle.std.proofs.Common.{◌≡◌, ℕ, ◌<◌, inl, inr, List, [], ◌∷◌, refl, sym, ap, subst, ◌∙◌, Bool}
use Rattle.std.proofs.Common.{true, false, if◌then◌else◌, not, ◌&&◌, ◌==◌, nat_le, Option, Some, None, is_none}
use Rattle.std.specs.Option.{option_map}
use Rattle.std.specs.FinMap as finmap
use Rattle.std.proofs.lemmas.Bool.{leb-false, eq-eqb, both_ways}
use Rattle.clr_types.proofs.MapValues.{get-map_values}
use Rattle.clr_types.specs.declared.handle.Handle.{Handle}
use Rattle.clr_types.specs.declared.handle.Kind.{Kind}
use Rattle.clr_types.specs.declared.handle.Kind.TheVariants.{Strong, Pinned, Weak, WeakLong, Dependent}
use Rattle.clr_model.specs.declared.Refusal.{Refusal}
use Rattle.clr_model.specs.declared.Refusal.TheVariants.{Null, NoHandle, HandleKind, TooManyHandles}
use Rattle.clr_model.specs.Machine.{Machine}
use Rattle.clr_model.specs.Lookups.{is_step, is_thread, local_of, place_of, step_of}
use Rattle.clr_types.specs.Kinds.{is_dependent}
use Rattle.clr_model.specs.Picture.{picture, renamed_row}
use Rattle.clr_model.specs.Updates.{with_handle, without_handle}
use Rattle.clr_model.specs.Instructions.{create_handle, fetch_target, fetch_second, free_handle}
use Rattle.clr_model.specs.LineGrammar.{IsHandleForm}
use Rattle.clr_model.specs.Checks.{refusal as first_refusal, refuse_if, first_of_all, list_of, is_dependent_row}
use Rattle.clr_model.specs.Outcomes.{Outcome}
use Rattle.clr_model.specs.Step.{CreatesHandle, row_of, target_of, second_of}
use Rattle.clr_model.specs.Lawful.{HasItsSecond, IsBirthNamed, IsNullOrPresent}
use Rattle.clr_model.proofs.Carried.{IsAlike}
use Rattle.clr_model.proofs.HandleTables.{len-map_values, value_at}
use Rattle.clr_model.proofs.LineChecks.{IsThreadLine, is_away, line_alike, line_checks, line_passed}
use Rattle.clr_model.proofs.Naming.{local_of-picture}
use Rattle.clr_model.proofs.RootsChanged.{RowIsPresent, lawful_ready, picture-with_handle, picture-without_handle}
use Rattle.clr_model.proofs.RootsChanged.{with_handle_lawful, without_handle_lawful}
use Rattle.clr_model.proofs.SeenNames.{local-present, local_null-seen}
use Rattle.clr_model.proofs.SlotLines.{name_put}

-- ---- lines that name a handle

-- what such a line is then checked by: that the handle is in use, and that it is a dependent one where that is wanted
abbrev pub handle_checks : Option Handle → Bool → List (Option Refusal)
handle_checks row wants =
    None ∷ None ∷ None ∷ refuse_if (is_none row) NoHandle
    ∷ (if wants then refuse_if (not (is_dependent_row row)) HandleKind else None)
    ∷ None ∷ None ∷ None ∷ None ∷ []

abbrev pub handle_more : ℕ → Bool → Machine → List (Option Refusal)
handle_more h wants s = handle_checks (finmap.get s.handles h) wants

pub fetch_line : (t to h : ℕ) → IsThreadLine (fetch_target t to h) t (to ∷ []) (handle_more h false)
fetch_line t to h = record { thread = refl; checks = λ s. refl }

pub second_line : (t to h : ℕ) → IsThreadLine (fetch_second t to h) t (to ∷ []) (handle_more h true)
second_line t to h = record { thread = refl; checks = λ s. refl }

pub free_line : (t h : ℕ) → IsThreadLine (free_handle t h) t [] (handle_more h false)
free_line t h = record { thread = refl; checks = λ s. refl }

module _ (m : Machine) (named : IsBirthNamed m) (h : ℕ) where
  abbrev to : ℕ → ℕ
  to = place_of m.objects

  abbrev row : Option Handle
  row = finmap.get m.handles h

  -- the row that is seen
  row-seen : finmap.get (picture m).handles h ≡ option_map (renamed_row to) row
  row-seen = get-map_values (renamed_row to) m.handles h

  checks-seen : (wants : Bool) → handle_more h wants (picture m) ≡ handle_more h wants m
  checks-seen wants = ap (λ r. handle_checks r wants) row-seen ∙ go row
    where
      go : (r : Option Handle) → handle_checks (option_map (renamed_row to) r) wants ≡ handle_checks r wants
      go None = refl
      go (Some r) = refl

  -- what it names
  target-seen : target_of (finmap.get (picture m).handles h) ≡ to (target_of row)
  target-seen = ap target_of row-seen ∙ go row
    where
      go : (r : Option Handle) → target_of (option_map (renamed_row to) r) ≡ to (target_of r)
      go None = refl
      go (Some r) = refl

  second-seen : second_of (finmap.get (picture m).handles h) ≡ to (second_of row)
  second-seen = ap second_of row-seen ∙ go row
    where
      go : (r : Option Handle) → second_of (option_map (renamed_row to) r) ≡ to (second_of r)
      go None = refl
      go (Some r) = refl

  names-present : IsNullOrPresent m (target_of row) × IsNullOrPresent m (second_of row)
  names-present = go row refl
    where
      go : (r : Option Handle) → finmap.get m.handles h ≡ r
          → IsNullOrPresent m (target_of r) × IsNullOrPresent m (second_of r)
      go None e = (inl refl, inl refl)
      go (Some r) e = value_at (RowIsPresent m) m.handles named.lawful.names.handles h r e

  -- a number that is seen to be no handle's is none
  free-seen : finmap.get (picture m).handles h ≡ None → row ≡ None
  free-seen e = go row (sym row-seen ∙ e)
    where
      go : (r : Option Handle) → option_map (renamed_row to) r ≡ None → r ≡ None
      go None e = refl
      go (Some r) e = absurd cc

pub fetch_alike : (t to h : ℕ) → IsAlike (fetch_target t to h)
fetch_alike t to h = record {
  checks = λ m named.
      line_alike (fetch_target t to h) t (to ∷ []) (handle_more h false) (fetch_line t to h) m
      (checks-seen m named h false);
  does = λ m named none outcome after replies.
      name_put m named t to (target_of (finmap.get m.handles h)) (target_of (finmap.get (picture m).handles h))
      (target-seen m named h) (names-present m named h).0 m.ready (lawful_ready m named.lawful) outcome after replies;
}

pub second_alike : (t to h : ℕ) → IsAlike (fetch_second t to h)
second_alike t to h = record {
  checks = λ m named.
      line_alike (fetch_second t to h) t (to ∷ []) (handle_more h true) (second_line t to h) m
      (checks-seen m named h true);
  does = λ m named none outcome after replies.
      name_put m named t to (second_of (finmap.get m.handles h)) (second_of (finmap.get (picture m).handles h))
      (second-seen m named h) (names-present m named h).1 m.ready (lawful_ready m named.lawful) outcome after replies;
}

pub free_alike : (t h : ℕ) → IsAlike (free_handle t h)
free_alike t h = record {
  checks = λ m named.
      line_alike (free_handle t h) t [] (handle_more h false) (free_line t h) m (checks-seen m named h false);
  does = λ m named none outcome after (answer, same). (
    without_handle m h,
    (answer, refl),
    without_handle_lawful m named h,
    picture-without_handle m h ∙ sym same,
  );
}

-- ---- the line that makes a handle

-- it is then checked by: null, of which there is no dependent handle, and that there is a number for one more
abbrev pub create_checks : Bool → Bool → List (Option Refusal)
create_checks is_null full =
    refuse_if is_null Null ∷ None ∷ None ∷ None ∷ None ∷ refuse_if full TooManyHandles ∷ None ∷ None ∷ None ∷ []

abbrev pub create_more : ℕ → Kind → ℕ → Machine → List (Option Refusal)
create_more t kind local s =
    create_checks (is_dependent kind && (local_of s t local == 0)) (nat_le 65536 (finmap.len s.handles))

pub create_line : (t : ℕ) (kind : Kind) (local : ℕ) (second : Option ℕ)
    → IsThreadLine (create_handle t kind local second) t (local ∷ list_of second) (create_more t kind local)
create_line t kind local second = record { thread = refl; checks = by kind }
  where
    by : (kind : Kind) (s : Machine) → first_refusal s (create_handle t kind local second)
        ≡ line_checks t (is_thread t) s.holder (is_step (step_of s t)) (is_away (local ∷ list_of second))
        (create_more t kind local s)
    by Strong s = refl
    by Pinned s = refl
    by Weak s = refl
    by WeakLong s = refl
    by Dependent s = refl

-- where no check fails, there is a primary for a dependent handle, and a number for one more
create_passed : (is_null full : Bool) → first_of_all (create_checks is_null full) ≡ None
    → (is_null ≡ false) × (full ≡ false)
create_passed true full e = absurd cc
create_passed false true e = absurd cc
create_passed false false e = (refl, refl)

-- the row of the new handle is a lawful one
row-second : (m : Machine) (t : ℕ) (kind : Kind) (local : ℕ) (second : Option ℕ) → IsHandleForm kind second
    → (is_dependent kind && (local_of m t local == 0)) ≡ false → HasItsSecond (row_of m t kind local second)
row-second m t kind local second form some = go kind form some
  where
    alone : (kind : Kind) → second ≡ None → HasItsSecond (row_of m t kind local second)
    alone kind none = subst (λ (o : Option ℕ). HasItsSecond (row_of m t kind local o)) (sym none)
        (record { dependent = λ e. refl; primary = λ e. refl })

    go : (kind : Kind) → IsHandleForm kind second → (is_dependent kind && (local_of m t local == 0)) ≡ false
        → HasItsSecond (row_of m t kind local second)
    go Strong form some = alone Strong form
    go Pinned form some = alone Pinned form
    go Weak form some = alone Weak form
    go WeakLong form some = alone WeakLong form
    go Dependent form some = by second form
      where
        by : (o : Option ℕ) → IsHandleForm Dependent o → HasItsSecond (row_of m t Dependent local o)
        by None form = absurd form
        by (Some k) form = record {
          dependent = λ e. absurd cc;
          primary = λ null. absurd (both_ways (local_of m t local == 0) some (eq-eqb (local_of m t local) 0 null));
        }

-- what it names is null or an object
row-present : (m : Machine) → IsBirthNamed m → (t : ℕ) (kind : Kind) (local : ℕ) (second : Option ℕ)
    → RowIsPresent m (row_of m t kind local second)
row-present m named t kind local None = (local-present m named t local, inl refl)
row-present m named t kind local (Some k) = (local-present m named t local, local-present m named t k)

-- and is seen under its place
row_of-seen : (m : Machine) (t : ℕ) (kind : Kind) (local : ℕ) (second : Option ℕ)
    → row_of (picture m) t kind local second ≡ renamed_row (place_of m.objects) (row_of m t kind local second)
row_of-seen m t kind local None = λ i. record { kind = kind; target = local_of-picture m t local i; second = 0 }
row_of-seen m t kind local (Some k) =
    λ i. record { kind = kind; target = local_of-picture m t local i; second = local_of-picture m t k i }

pub create_alike : (t : ℕ) (kind : Kind) (local : ℕ) (second : Option ℕ) → IsHandleForm kind second
    → IsAlike (create_handle t kind local second)
create_alike t kind local second form = record {
  checks = λ m named.
      let null = local_null-seen m named t local in
      let count = len-map_values (renamed_row (place_of m.objects)) m.handles in
      line_alike (create_handle t kind local second) t (local ∷ list_of second) (create_more t kind local)
      (create_line t kind local second) m (λ i. create_checks (is_dependent kind && null i) (nat_le 65536 (count i)));
  does = λ m named none outcome after creates. created m named (passed m none) outcome after creates;
}
  where
    passed : (m : Machine) → first_refusal m (create_handle t kind local second) ≡ None
        → ((is_dependent kind && (local_of m t local == 0)) ≡ false) × (finmap.len m.handles < 65536)
    passed m none =
        let (some, few) = create_passed (is_dependent kind && (local_of m t local == 0))
        (nat_le 65536 (finmap.len m.handles))
        (line_passed (create_handle t kind local second) t (local ∷ list_of second) (create_more t kind local)
        (create_line t kind local second) m none) in
        (some, leb-false 65536 (finmap.len m.handles) few)

    created : (m : Machine) → IsBirthNamed m
        → ((is_dependent kind && (local_of m t local == 0)) ≡ false) × (finmap.len m.handles < 65536)
        → (outcome : Outcome) (after : Machine)
        → CreatesHandle (picture m) (row_of (picture m) t kind local second) outcome after
        → (next : Machine) × CreatesHandle m (row_of m t kind local second) outcome next × IsBirthNamed next
        × (picture next ≡ after)
    created m named (some, few) outcome after (inl (h, low, free, (answer, same))) =
        let row = row_of m t kind local second in
        let new = free-seen m named h free in (
          with_handle m h row,
          inl (h, low, new, (answer, refl)),
          with_handle_lawful m named h row low new few (row-present m named t kind local second)
              (row-second m t kind local second form some),
          picture-with_handle m h row
              ∙ sym (same ∙ ap (with_handle (picture m) h) (row_of-seen m t kind local second)),
        )
    created m named passed outcome after (inr (refuses, same)) = (m, inr (refuses, refl), named, sym same)
