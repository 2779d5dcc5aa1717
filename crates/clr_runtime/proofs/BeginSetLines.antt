-- The line that stores a reference, and leaves its card to a later line: what it does to what is seen, it does to each
-- machine that is seen so.
use Rattle.std.proofs.Common.{◌≡◌, ℕ, ◌<◌, [], ◌∷◌, length, refl, sym, ap, ◌∙◌, arith, nat_le, true}
use Rattle.std.proofs.Common.{Option, Some, None, is_some}
use Rattle.std.specs.Prelude.{slice_get}
use Rattle.clr_types.specs.Rising.{IsIn}
use Rattle.clr_model.specs.declared.Reply.TheVariants.{Done}
use Rattle.clr_model.specs.Machine.{begun_store, Machine, Object, ref}
use Rattle.clr_model.specs.Lookups.{local_of, object_named, slots_of_named, slots_or_none}
use Rattle.clr_model.specs.Instructions.{begin_set}
use Rattle.clr_model.specs.Checks.{is_reference_slot, refusal as first_refusal}
use Rattle.clr_model.specs.Outcomes.{answered}
use Rattle.clr_model.specs.Updates.{with_slot, with_step}
use Rattle.clr_model.specs.Picture.{picture}
use Rattle.clr_model.specs.Lawful.{IsBirthNamed}
use Rattle.clr_model.specs.Run.{Follows}
use Rattle.clr_model.proofs.Carried.{follows_alike, follows_if_stands, IsAlike}
use Rattle.clr_model.proofs.LineChecks.{IsSlotLine, line_alike, obeys_done, read-within, slot_checks, slot_more}
use Rattle.clr_model.proofs.LineChecks.{slot_passed, slot_passes}
use Rattle.clr_model.proofs.LineFollows.{SlotLine, WorksOn}
use Rattle.clr_model.proofs.Naming.{local_of-picture, picture-with_slot}
use Rattle.clr_model.proofs.NamedWell.{keeps_apart, lawful-named}
use Rattle.clr_model.proofs.ObjectChanged.{reference-is, TakesValue, with_slot_lawful}
use Rattle.clr_model.proofs.SeenNames.{count-seen, found-member, kind-seen, local-present, local_null-seen}
use Rattle.clr_model.proofs.SeenSound.{found-at, seen_sound}
use Rattle.clr_runtime.proofs.StepChanged.{picture-with_step, with_step_lawful}
use Rattle.clr_runtime.proofs.SuspendLines.{passed-thread}

pub begin_set_line : (t into index from : ℕ)
    → IsSlotLine (begin_set t into index from) t (into ∷ from ∷ []) into index true
begin_set_line t into index from = record { thread = refl; checks = λ s. refl }

-- an object whose slot is there is there
some-found : (found : Option Object) (index : ℕ) → index < length (slots_or_none found) → is_some found ≡ true
some-found None index within = absurd (omega arith)
some-found (Some o) index within = refl

module _ (t into index from : ℕ) (m : Machine) (named : IsBirthNamed m)
    (none : first_refusal m (begin_set t into index from) ≡ None) where
  abbrev name : ℕ
  name = local_of m t into

  abbrev value : ℕ
  value = local_of m t from

  -- the slot is there, and holds a reference
  there : (index < length (slots_of_named m (local_of m t into)))
      × (is_reference_slot (slice_get (slots_of_named m (local_of m t into)) index) ≡ true)
  there =
      slot_passed (begin_set t into index from) t (into ∷ from ∷ []) into index true (begin_set_line t into index from)
      m none

  -- the step may be begun before the slot is written
  begun : IsBirthNamed (with_step m t (begun_store (local_of m t into) index))
  begun =
      let thread = passed-thread (begin_set t into index from) t (into ∷ from ∷ []) (slot_more t into index true)
      (begin_set_line t into index from) m none in
      let (old, held) = reference-is (slice_get (slots_of_named m name) index) there.1 in
      with_step_lawful m named t thread (begun_store name index)
      (some-found (object_named m.objects name) index there.0, old, held) tt

  takes : (o : Object) → IsIn o m.objects → o.name ≡ local_of m t into
      → TakesValue m index (ref (local_of m t from)) o
  takes o i e =
      let slots : slots_of_named m (local_of m t into) ≡ o.slots = ap (slots_of_named m) (sym e)
      ∙ ap slots_or_none (found-member m named o i) in
      let (old, held) = reference-is (slice_get o.slots index)
      (ap (λ vs. is_reference_slot (slice_get vs index)) (sym slots) ∙ there.1) in
      record { before = ref old; there = held; kind = refl; present = local-present m named t from; fits = tt }

  abbrev next : Machine
  next = with_step (with_slot m (local_of m t into) index (ref (local_of m t from))) t
      (begun_store (local_of m t into) index)

  -- so the machine stays lawful
  pub begin_set_lawful : IsBirthNamed (with_step (with_slot m (local_of m t into) index (ref (local_of m t from))) t
      (begun_store (local_of m t into) index))
  begin_set_lawful =
      with_slot_lawful (with_step m t (begun_store name index)) name index (ref value) begun
      (λ o i e.
      let is = takes o i e in
      record { before = is.before; there = is.there; kind = is.kind; present = is.present; fits = is.fits })

  -- and is seen so
  pub picture-begin_set : picture (with_step (with_slot m (local_of m t into) index (ref (local_of m t from))) t
      (begun_store (local_of m t into) index))
      ≡ with_step (with_slot (picture m) (local_of (picture m) t into) index (ref (local_of (picture m) t from))) t
      (begun_store (local_of (picture m) t into) index)
  picture-begin_set =
      picture-with_slot (with_step m t (begun_store name index)) name index (ref value)
      (keeps_apart m (lawful-named m named.lawful) name)
      ∙ (λ i. with_slot (picture-with_step m t (begun_store name index) i) (sym (local_of-picture m t into) i) index
      (ref (sym (local_of-picture m t from) i)))
      ∙ (λ i. with_step
      (with_slot (picture m) (local_of (picture m) t into) index (ref (local_of (picture m) t from))) t
      (begun_store (sym (local_of-picture m t into) i) index))

pub begin_set_alike : (t into index from : ℕ) → IsAlike (begin_set t into index from)
begin_set_alike t into index from = record {
  checks = λ m named.
      let null = local_null-seen m named t into in
      let count = count-seen m named t into in
      let kind = kind-seen m named t into index in
      line_alike (begin_set t into index from) t (into ∷ from ∷ []) (slot_more t into index true)
      (begin_set_line t into index from) m (λ j. slot_checks (null j) (nat_le (count j) index) (kind j) true);
  does = λ m named none outcome after (answer, same). (
    with_step (with_slot m (local_of m t into) index (ref (local_of m t from))) t
        (begun_store (local_of m t into) index),
    (answer, refl),
    begin_set_lawful t into index from m named none,
    picture-begin_set t into index from m named none ∙ sym same,
  );
}

abbrev pub begin_set_of : (t into index from : ℕ) → SlotLine
begin_set_of t into index from = record {
  instruction = begin_set t into index from;
  thread = t;
  locals = into ∷ from ∷ [];
  object = into;
  index = index;
  wants = true;
  line = begin_set_line t into index from;
  alike = begin_set_alike t into index from;
}

-- a local goes into a slot of references, and the thread is in mid-step
pub begin_set_done : (s : Machine) (t into index from : ℕ) (o : Object) → WorksOn s (begin_set_of t into index from) o
    → (name : ℕ) → slice_get o.slots index ≡ Some (ref name)
    → Follows s (begin_set t into index from) (answered Done)
    (with_step (with_slot s (local_of s t into) index (ref (local_of s t from))) t
    (begun_store (local_of s t into) index))
begin_set_done s t into index from o w name e =
    follows_if_stands s (begin_set t into index from) _ _
    (λ m stands.
    let found = found-at s (seen_sound s m stands) o w.among (local_of s t into) w.at in
    follows_alike (begin_set t into index from) (begin_set_alike t into index from) s _ _
    (obeys_done s (begin_set t into index from) _ _
    (slot_passes (begin_set t into index from) t (into ∷ from ∷ []) into index true (begin_set_line t into index from) s
    w.run w.locals o w.some found (read-within o.slots index (ref name) e) (ap is_reference_slot e)) (refl, refl)))
