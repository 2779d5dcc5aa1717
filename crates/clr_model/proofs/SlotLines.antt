-- Lines that read and write slots and locals: what they do to what is seen, they do to each machine that is seen so.
use Rattle.std.proofs.Common.{◌≡◌, ℕ, ◌%◌, ◌^◌, ◌<◌, List, [], ◌∷◌, map, length, refl, sym, ap, subst, ◌∙◌, arith}
use Rattle.std.proofs.Common.{Bool, true, false, if◌then◌else◌, nat_le, Some, None, inl, slice_set}
use Rattle.std.specs.Prelude.{slice_get}
use Rattle.clr_types.specs.Rising.{IsIn}
use Rattle.clr_types.specs.Types.{Form, form_at, is_bytes}
use Rattle.clr_model.specs.declared.Reply.TheVariants.{Place, Number}
use Rattle.clr_model.specs.Machine.{ref, num, Object, Machine}
use Rattle.clr_model.specs.Lookups.{place_of, object_named, local_index, local_of, slots_or_none, slots_of_named}
use Rattle.clr_model.specs.Picture.{picture}
use Rattle.clr_model.specs.Updates.{with_local, with_slot}
use Rattle.clr_model.specs.Instructions.{Instruction, get_slot, set_slot, put_number, read_number, copy_local}
use Rattle.clr_model.specs.Instructions.{clear_local}
use Rattle.clr_model.specs.Checks.{refusal as first_refusal, is_reference_slot}
use Rattle.clr_model.specs.Outcomes.{Outcome, answered}
use Rattle.clr_model.specs.Lookups.{type_of_object, type_of_named}
use Rattle.clr_model.specs.Step.{Obeys, RepliesName, stored_number, name_in}
use Rattle.clr_model.specs.Lawful.{IsBirthNamed, IsNullOrPresent, NumberFits}
use Rattle.clr_model.specs.Run.{Follows}
use Rattle.clr_model.proofs.Carried.{IsAlike, follows_alike}
use Rattle.clr_model.proofs.Naming.{local_of-picture, picture-with_local, picture-with_slot}
use Rattle.clr_model.proofs.NamedWell.{lawful-named, keeps_apart}
use Rattle.clr_model.proofs.LineChecks.{slot_checks, slot_more, IsSlotLine, IsLocalLine, line_alike, no_more}
use Rattle.clr_model.proofs.LineChecks.{slot_passed, get_line, set_line, put_line, read_line, copy_line, clear_line}
use Rattle.clr_model.proofs.RootsChanged.{IsLawfulQueue, lawful_handles, lawful_entries, lawful_ready, local_written}
use Rattle.clr_model.proofs.RootsChanged.{with_roots_lawful, with_local_lawful, picture-with_local_ready}
use Rattle.clr_model.proofs.ObjectChanged.{TakesValue, with_slot_lawful, reference-is, number-is}
use Rattle.clr_model.proofs.SeenNames.{local-present, slot-present, found-member, place-seen, local_null-seen}
use Rattle.clr_model.proofs.SeenNames.{count-seen, kind-seen, name-seen, number-seen, type-seen}

-- ---- the checks

-- a line that works on a slot is refused in the picture just where it is refused
slot-alike : (i : Instruction) (t : ℕ) (locals : List ℕ) (object index : ℕ) (wants : Bool)
    → IsSlotLine i t locals object index wants → (m : Machine) → IsBirthNamed m
    → first_refusal (picture m) i ≡ first_refusal m i
slot-alike i t locals object index wants line m named =
    let null = local_null-seen m named t object in
    let count = count-seen m named t object in
    let kind = kind-seen m named t object index in
    line_alike i t locals (slot_more t object index wants) line m
    (λ j. slot_checks (null j) (nat_le (count j) index) (kind j) wants)

-- and so is one that works on locals alone
local-alike : (i : Instruction) (t : ℕ) (locals : List ℕ) → IsLocalLine i t locals → (m : Machine) → IsBirthNamed m
    → first_refusal (picture m) i ≡ first_refusal m i
local-alike i t locals line m named = line_alike i t locals (λ s. None ∷ None ∷ None ∷ no_more) line m refl

-- ---- locals

-- A name goes into a local, and its place is the answer; the f-reachable queue may become another.
pub name_put : (m : Machine) → IsBirthNamed m → (t k name seen : ℕ) → seen ≡ place_of m.objects name
    → IsNullOrPresent m name → (ready : List ℕ) → IsLawfulQueue m ready → (outcome : Outcome) (after : Machine)
    → RepliesName (picture m) outcome seen after
    (record (with_local (picture m) t k seen) { ready = map (place_of m.objects) ready })
    → (next : Machine) × RepliesName m outcome name next (record (with_local m t k name) { ready = ready })
    × IsBirthNamed next × (picture next ≡ after)
name_put m named t k name seen is there ready queue outcome after (answer, same) = (
  record (with_local m t k name) { ready = ready },
  (
    answer ∙ ap (λ n. answered (Place n))
        (ap (place_of (picture m).objects) is ∙ place-seen m named name there),
    refl,
  ),
  with_roots_lawful m named (slice_set m.locals (local_index t k) name) m.handles m.entries ready
      (local_written m named t k name there) (lawful_handles m named.lawful) (lawful_entries m named.lawful) queue,
  picture-with_local_ready m t k name ready
      ∙ sym (same ∙ ap (λ n. record (with_local (picture m) t k n) { ready = map (place_of m.objects) ready }) is),
)

pub copy_alike : (t to from : ℕ) → IsAlike (copy_local t to from)
copy_alike t to from = record {
  checks = local-alike (copy_local t to from) t (to ∷ from ∷ []) (copy_line t to from);
  does = λ m named none outcome after replies.
      name_put m named t to (local_of m t from) (local_of (picture m) t from) (local_of-picture m t from)
      (local-present m named t from) m.ready (lawful_ready m named.lawful) outcome after replies;
}

pub clear_alike : (t local : ℕ) → IsAlike (clear_local t local)
clear_alike t local = record {
  checks = local-alike (clear_local t local) t (local ∷ []) (clear_line t local);
  does = λ m named none outcome after (answer, same). (
    with_local m t local 0,
    (answer, refl),
    with_local_lawful m named t local 0 (inl refl),
    picture-with_local m t local 0 ∙ sym same,
  );
}

-- ---- slots that are read

pub get_alike : (t to from index : ℕ) → IsAlike (get_slot t to from index)
get_alike t to from index = record {
  checks = slot-alike (get_slot t to from index) t (to ∷ from ∷ []) from index true (get_line t to from index);
  does = λ m named none outcome after replies.
      name_put m named t to (name_in (slice_get (slots_of_named m (local_of m t from)) index))
      (name_in (slice_get (slots_of_named (picture m) (local_of (picture m) t from)) index))
      (name-seen m named t from index) (slot-present m named (local_of m t from) index) m.ready
      (lawful_ready m named.lawful) outcome after replies;
}

pub read_alike : (t from index : ℕ) → IsAlike (read_number t from index)
read_alike t from index = record {
  checks = slot-alike (read_number t from index) t (from ∷ []) from index false (read_line t from index);
  does = λ m named none outcome after (answer, same).
      (m, (answer ∙ ap (λ n. answered (Number n)) (number-seen m named t from index), refl), named, sym same);
}

-- ---- slots that are written

pub set_alike : (t into index from : ℕ) → IsAlike (set_slot t into index from)
set_alike t into index from = record {
  checks = slot-alike (set_slot t into index from) t (into ∷ from ∷ []) into index true (set_line t into index from);
  does = λ m named none outcome after (answer, same).
      let name = local_of m t into in
      let value = local_of m t from in
      let apart = keeps_apart m (lawful-named m named.lawful) name in (
        with_slot m name index (ref value),
        (answer, refl),
        with_slot_lawful m name index (ref value) named (takes m named none),
        picture-with_slot m name index (ref value) apart
            ∙ sym (same ∙ (λ i. with_slot (picture m) (local_of-picture m t into i) index
            (ref (local_of-picture m t from i)))),
      );
}
  where
    takes : (m : Machine) → IsBirthNamed m → first_refusal m (set_slot t into index from) ≡ None → (o : Object)
        → IsIn o m.objects → o.name ≡ local_of m t into → TakesValue m index (ref (local_of m t from)) o
    takes m named none o i e =
        let (low, kind) = slot_passed (set_slot t into index from) t (into ∷ from ∷ []) into index true
        (set_line t into index from) m none in
        let slots : slots_of_named m (local_of m t into) ≡ o.slots = ap (slots_of_named m) (sym e)
        ∙ ap slots_or_none (found-member m named o i) in
        let (old, there) = reference-is (slice_get o.slots index)
        (ap (λ vs. is_reference_slot (slice_get vs index)) (sym slots) ∙ kind) in
        record { before = ref old; there = there; kind = refl; present = local-present m named t from; fits = tt }

-- what is stored of a word fits in the slot
stored-fits : (form : Form) (value : ℕ) → value < 2 ^ 64 → NumberFits form (num (stored_number form value))
stored-fits form value l = go (is_bytes form)
  where
    go : (b : Bool) → (if b then value % 256 else value) < (if b then 256 else 2 ^ 64)
    go true = omega arith
    go false = l

pub put_alike : (t into index value : ℕ) → value < 2 ^ 64 → IsAlike (put_number t into index value)
put_alike t into index value word = record {
  checks = slot-alike (put_number t into index value) t (into ∷ []) into index false (put_line t into index value);
  does = λ m named none outcome after (answer, same).
      let name = local_of m t into in
      let number = stored_number (form_at m.types (type_of_named m name)) value in
      let apart = keeps_apart m (lawful-named m named.lawful) name in
      let type = type-seen m named t into in (
        with_slot m name index (num number),
        (answer, refl),
        with_slot_lawful m name index (num number) named (takes m named none),
        picture-with_slot m name index (num number) apart
            ∙ sym (same ∙ (λ i. with_slot (picture m) (local_of-picture m t into i) index
            (num (stored_number (form_at m.types (type i)) value)))),
      );
}
  where
    takes : (m : Machine) → IsBirthNamed m → first_refusal m (put_number t into index value) ≡ None → (o : Object)
        → IsIn o m.objects → o.name ≡ local_of m t into
        → TakesValue m index (num (stored_number (form_at m.types (type_of_named m (local_of m t into))) value)) o
    takes m named none o i e =
        let (low, kind) = slot_passed (put_number t into index value) t (into ∷ []) into index false
        (put_line t into index value) m none in
        let found : object_named m.objects (local_of m t into) ≡ Some o = ap (object_named m.objects) (sym e)
        ∙ found-member m named o i in
        let slots : slots_of_named m (local_of m t into) ≡ o.slots = ap slots_or_none found in
        let (old, there) = number-is o.slots index (subst (λ vs. index < length vs) slots low)
        (ap (λ vs. is_reference_slot (slice_get vs index)) (sym slots) ∙ kind) in
        record {
          before = num old;
          there = there;
          kind = refl;
          present = tt;
          fits = subst (λ n. NumberFits (form_at m.types o.type) (num (stored_number (form_at m.types n) value)))
              (sym (ap type_of_object found)) (stored-fits (form_at m.types o.type) value word);
        }

-- ---- what is carried

pub get_follows : (s : Machine) (t to from index : ℕ) (outcome : Outcome) (after : Machine)
    → Obeys s (get_slot t to from index) outcome after → Follows s (get_slot t to from index) outcome after
get_follows s t to from index = follows_alike (get_slot t to from index) (get_alike t to from index) s

pub set_follows : (s : Machine) (t into index from : ℕ) (outcome : Outcome) (after : Machine)
    → Obeys s (set_slot t into index from) outcome after → Follows s (set_slot t into index from) outcome after
set_follows s t into index from = follows_alike (set_slot t into index from) (set_alike t into index from) s

-- the number of a line is a word
pub put_follows : (s : Machine) (t into index value : ℕ) → value < 2 ^ 64 → (outcome : Outcome) (after : Machine)
    → Obeys s (put_number t into index value) outcome after → Follows s (put_number t into index value) outcome after
put_follows s t into index value word =
    follows_alike (put_number t into index value) (put_alike t into index value word) s

pub read_follows : (s : Machine) (t from index : ℕ) (outcome : Outcome) (after : Machine)
    → Obeys s (read_number t from index) outcome after → Follows s (read_number t from index) outcome after
read_follows s t from index = follows_alike (read_number t from index) (read_alike t from index) s

pub copy_follows : (s : Machine) (t to from : ℕ) (outcome : Outcome) (after : Machine)
    → Obeys s (copy_local t to from) outcome after → Follows s (copy_local t to from) outcome after
copy_follows s t to from = follows_alike (copy_local t to from) (copy_alike t to from) s

pub clear_follows : (s : Machine) (t local : ℕ) (outcome : Outcome) (after : Machine)
    → Obeys s (clear_local t local) outcome after → Follows s (clear_local t local) outcome after
clear_follows s t local = follows_alike (clear_local t local) (clear_alike t local) s
