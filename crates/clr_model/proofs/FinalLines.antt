-- Lines on finalisation: what they do to what is seen, they do to each machine that is seen so.
use Rattle.std.proofs.Common.{◌≡◌, ℕ, ◌⊎◌, inl, inr, List, [], ◌∷◌, ◌++◌, map, length, refl, sym, ap, subst}
use Rattle.std.proofs.Common.{◌∙◌, Bool, true, false, if◌then◌else◌, ◌==◌, Option, None, MatchBool}
use Rattle.std.specs.List.{AllByRecursion}
use Rattle.std.proofs.lemmas.Bool.{eq-eqb, both_ways}
use Rattle.std.proofs.lemmas.List.{length-map}
use Rattle.clr_types.specs.Rising.{IsIn}
use Rattle.clr_types.specs.Types.{has_finalizer, type_row}
use Rattle.clr_model.specs.declared.Refusal.{Refusal}
use Rattle.clr_model.specs.declared.Refusal.TheVariants.{Empty, Null}
use Rattle.clr_model.specs.declared.Reply.TheVariants.{Done}
use Rattle.clr_model.specs.Machine.{Machine, Object}
use Rattle.clr_model.specs.Lookups.{local_of, object_has_finalizer, object_named, place_of, type_of_object}
use Rattle.clr_model.specs.Picture.{picture}
use Rattle.clr_model.specs.Reach.{is_suppressed}
use Rattle.clr_model.specs.Updates.{with_entry, with_flag, with_local}
use Rattle.clr_model.specs.Instructions.{Instruction, reregister_object, suppress_object, take_ready}
use Rattle.clr_model.specs.Checks.{refusal as first_refusal, refuse_if, first_of_all}
use Rattle.clr_model.specs.Outcomes.{Outcome}
use Rattle.clr_model.specs.Step.{head_or_null, tail_of, Replies, WantsMemory}
use Rattle.clr_model.specs.Lawful.{IsBirthNamed, IsFinal, IsNullOrPresent, IsPresent}
use Rattle.clr_model.proofs.Carried.{IsAlike}
use Rattle.clr_model.proofs.LineChecks.{IsThreadLine, line_alike, line_passed, no_more}
use Rattle.clr_model.proofs.Naming.{local_of-picture, picture-with_flag}
use Rattle.clr_model.proofs.NamedWell.{keeps_apart, lawful-named}
use Rattle.clr_model.proofs.ObjectChanged.{with_flag_lawful}
use Rattle.clr_model.proofs.RootsChanged.{entry_added, IsLawfulQueue, picture-with_entry, with_entries_lawful}
use Rattle.clr_model.proofs.SeenNames.{final-seen, flag-seen, found-member, local-present, local_null-seen}
use Rattle.clr_model.proofs.SlotLines.{name_put}

-- ---- lines that work on the object of a local

-- such a line is then checked by null alone
abbrev pub object_checks : Bool → List (Option Refusal)
object_checks is_null = refuse_if is_null Null ∷ None ∷ None ∷ no_more

abbrev pub object_more : ℕ → ℕ → Machine → List (Option Refusal)
object_more t local s = object_checks (local_of s t local == 0)

pub suppress_line : (t local : ℕ) → IsThreadLine (suppress_object t local) t (local ∷ []) (object_more t local)
suppress_line t local = record { thread = refl; checks = λ s. refl }

pub reregister_line : (t local : ℕ) → IsThreadLine (reregister_object t local) t (local ∷ []) (object_more t local)
reregister_line t local = record { thread = refl; checks = λ s. refl }

-- where no check fails, the local is not null
object_passed : (is_null : Bool) → first_of_all (object_checks is_null) ≡ None → is_null ≡ false
object_passed true e = absurd cc
object_passed false e = refl

module _ (i : Instruction) (t local : ℕ) (line : IsThreadLine i t (local ∷ []) (object_more t local)) (m : Machine)
    (named : IsBirthNamed m) where
  abbrev x : ℕ
  x = local_of m t local

  object-alike : first_refusal (picture m) i ≡ first_refusal m i
  object-alike =
      let null = local_null-seen m named t local in
      line_alike i t (local ∷ []) (object_more t local) line m (λ j. object_checks (null j))

  object-present : first_refusal m i ≡ None → IsPresent m x
  object-present none = go (local-present m named t local)
    where
      some : (x == 0) ≡ false
      some = object_passed (x == 0) (line_passed i t (local ∷ []) (object_more t local) line m none)

      go : IsNullOrPresent m x → IsPresent m x
      go (inl null) = absurd (both_ways (x == 0) some (eq-eqb x 0 null))
      go (inr there) = there

-- an object of this name has a finaliser
final-type : (m : Machine) → IsBirthNamed m → (x : ℕ) → IsFinal m x → (o : Object) → IsIn o m.objects → o.name ≡ x
    → has_finalizer (type_row m.types o.type) ≡ true
final-type m named x final o i e =
    ap (λ r. has_finalizer (type_row m.types (type_of_object r)))
    (sym (ap (object_named m.objects) (sym e) ∙ found-member m named o i)) ∙ final

-- ---- suppressed

abbrev suppressed_by : Machine → ℕ → Bool → Machine
suppressed_by m x final = if final then with_flag m x true else m

pub suppress_alike : (t local : ℕ) → IsAlike (suppress_object t local)
suppress_alike t local = record {
  checks = object-alike (suppress_object t local) t local (suppress_line t local);
  does = λ m named none outcome after (answer, same).
      let x = local_of m t local in
      let is = local_of-picture m t local in
      let final = final-seen m named t local in (
        suppressed_by m x (object_has_finalizer m x),
        (answer, refl),
        lawful m named x (object_has_finalizer m x) refl,
        shown m named x (object_has_finalizer m x) ∙ sym (same ∙ (λ i. suppressed_by (picture m) (is i) (final i))),
      );
}
  where
    lawful : (m : Machine) → IsBirthNamed m → (x : ℕ) (final : Bool) → object_has_finalizer m x ≡ final
        → IsBirthNamed (suppressed_by m x final)
    lawful m named x true e = with_flag_lawful m x true named (λ o i n flag. final-type m named x e o i n)
    lawful m named x false e = named

    shown : (m : Machine) → IsBirthNamed m → (x : ℕ) (final : Bool)
        → picture (suppressed_by m x final) ≡ suppressed_by (picture m) (place_of m.objects x) final
    shown m named x true = picture-with_flag m x true (keeps_apart m (lawful-named m named.lawful) x)
    shown m named x false = refl

-- ---- asked for again

-- what `reregister` does, by whether there is a finaliser and whether it is suppressed
abbrev pub reregisters_by : Machine → ℕ → Outcome → Machine → Bool → Bool → Type 0
reregisters_by m x outcome new final suppressed =
    MatchBool final
    (MatchBool suppressed (Replies outcome Done new (with_flag m x false))
    (Replies outcome Done new (with_entry m x) ⊎ WantsMemory m outcome new))
    (Replies outcome Done new m)

pub reregister_alike : (t local : ℕ) → IsAlike (reregister_object t local)
reregister_alike t local = record {
  checks = object-alike (reregister_object t local) t local (reregister_line t local);
  does = λ m named none outcome after does.
      let x = local_of m t local in
      let is = local_of-picture m t local in
      let final = final-seen m named t local in
      let flag = flag-seen m named t local in
      go m named x (object-present (reregister_object t local) t local (reregister_line t local) m named none) outcome
      after (object_has_finalizer m x) (is_suppressed m x) refl
      (subst (λ (D : Type 0). D) (λ i. reregisters_by (picture m) (is i) outcome after (final i) (flag i)) does);
}
  where
    go : (m : Machine) → IsBirthNamed m → (x : ℕ) → IsPresent m x → (outcome : Outcome) (after : Machine)
        (final suppressed : Bool) → object_has_finalizer m x ≡ final
        → reregisters_by (picture m) (place_of m.objects x) outcome after final suppressed
        → (next : Machine) × reregisters_by m x outcome next final suppressed × IsBirthNamed next
        × (picture next ≡ after)
    go m named x there outcome after true true e (answer, same) = (
      with_flag m x false,
      (answer, refl),
      with_flag_lawful m x false named (λ o i n flag. absurd cc),
      picture-with_flag m x false (keeps_apart m (lawful-named m named.lawful) x) ∙ sym same,
    )
    go m named x there outcome after true false e (inl (answer, same)) = (
      with_entry m x,
      inl (answer, refl),
      with_entries_lawful m named (m.entries ++ x ∷ []) (entry_added m named x there e),
      picture-with_entry m x ∙ sym same,
    )
    go m named x there outcome after true false e (inr (refuses, same)) = (m, inr (refuses, refl), named, sym same)
    go m named x there outcome after false suppressed e (answer, same) = (m, (answer, refl), named, sym same)

-- ---- taken from the f-reachable queue

-- the line is then checked by whether something waits there
abbrev pub take_checks : Bool → List (Option Refusal)
take_checks is_empty =
    None ∷ None ∷ None ∷ None ∷ None ∷ None ∷ None ∷ None ∷ refuse_if is_empty Empty ∷ []

abbrev pub take_more : Machine → List (Option Refusal)
take_more s = take_checks (length s.ready == 0)

pub take_line : (t to : ℕ) → IsThreadLine (take_ready t to) t (to ∷ []) take_more
take_line t to = record { thread = refl; checks = λ s. refl }

head-seen : (to : ℕ → ℕ) → to 0 ≡ 0 → (names : List ℕ) → head_or_null (map to names) ≡ to (head_or_null names)
head-seen to null [] = sym null
head-seen to null (x ∷ xs) = refl

tail-seen : (to : ℕ → ℕ) (names : List ℕ) → tail_of (map to names) ≡ map to (tail_of names)
tail-seen to [] = refl
tail-seen to (x ∷ xs) = refl

head-present : (m : Machine) (names : List ℕ) → AllByRecursion (IsPresent m) names
    → IsNullOrPresent m (head_or_null names)
head-present m [] all = inl refl
head-present m (x ∷ xs) all = inr all.0

tail-lawful : (m : Machine) (names : List ℕ) → AllByRecursion (IsPresent m) names → AllByRecursion (IsFinal m) names
    → IsLawfulQueue m (tail_of names)
tail-lawful m [] there final = record { present = tt; final = tt }
tail-lawful m (x ∷ xs) there final = record { present = there.1; final = final.1 }

pub take_alike : (t to : ℕ) → IsAlike (take_ready t to)
take_alike t to = record {
  checks = λ m named.
      line_alike (take_ready t to) t (to ∷ []) take_more (take_line t to) m
      (ap (λ n. take_checks (n == 0)) (length-map m.ready (place_of m.objects)));
  does = λ m named none outcome after (answer, same).
      let there = named.lawful.names.ready in
      let name = head_or_null (picture m).ready in
      name_put m named t to (head_or_null m.ready) name (head-seen (place_of m.objects) refl m.ready)
      (head-present m m.ready there) (tail_of m.ready) (tail-lawful m m.ready there named.lawful.ready) outcome after (
        answer,
        same ∙ ap (λ rest. record (with_local (picture m) t to name) { ready = rest })
            (tail-seen (place_of m.objects) m.ready),
      );
}
