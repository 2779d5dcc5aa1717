-- A line that completes a store while a background collection runs: the card of the slot is logged, where the slot lies
-- in what a segment had in use at the first pause.
use Rattle.std.proofs.Common.{◌≡◌, ◌∙◌, ◌⊎◌, inl, inr, ℕ, zero, suc, ◌+◌, ◌-◌, ◌/◌, Bool, true, false, not, ◌||◌, ◌&&◌}
use Rattle.std.proofs.Common.{List, [], ◌∷◌, filter, if◌then◌else◌, length, map, refl, sym, ap, subst, arith, Some}
use Rattle.std.proofs.Common.{None}
use Rattle.std.proofs.Common.{nat_eq}
use Rattle.std.specs.Prelude.{IsTrue, slice_get}
use Rattle.std.proofs.lemmas.Bool.{eq-eqb}
use Rattle.clr_types.specs.Descriptors.{reference_offsets}
use Rattle.clr_types.specs.Rising.{IsIn, first, later}
use Rattle.clr_types.specs.Types.{Form, form_at, slot_kinds, slot_offset, slots_from}
use Rattle.clr_types.specs.declared.item.Item.{Item}
use Rattle.clr_types.specs.declared.shape.Slot.{Slot}
use Rattle.clr_types.proofs.ChangedLists.{IsIn-map}
use Rattle.clr_types.proofs.RisingLists.{all_at}
use Rattle.clr_types.proofs.SortedLists.{into_sorted_by}
use Rattle.clr_model.specs.Instructions.{finish_step, Instruction, set_slot}
use Rattle.clr_model.specs.Lawful.{IsPlaceNamed, is_reference_value, IsShaped}
use Rattle.clr_model.specs.Lookups.{place_of, step_or_none}
use Rattle.clr_model.specs.Machine.{Machine, Marking, Object, Options, ref, Sums, ThreadStep}
use Rattle.clr_model.specs.Outcomes.{Outcome}
use Rattle.clr_model.specs.Picture.{picture, renamed_object, renamed_step}
use Rattle.clr_model.specs.Run.{Follows}
use Rattle.clr_model.proofs.Naming.{local_of-picture}
use Rattle.clr_model.proofs.ObjectChanged.{slice_get-map}
use Rattle.clr_model.proofs.SeenSound.{found-at}
use Rattle.clr_model.proofs.SeenStands.{follows_sound}
use Rattle.clr_heap.specs.View.{word_of}
use Rattle.clr_safe.specs.Threads.{Threads}
use Rattle.clr_view.specs.SlotValues.{IsObjectAt, IsSlot}
use Rattle.clr_view.specs.View.{object_in, objects_in}
use Rattle.clr_view.specs.World.{World}
use Rattle.clr_view.proofs.SlotReads.{slot-told}
use Rattle.clr_background.specs.Log.{CompletesStore, LogLaw, slot_address}
use Rattle.clr_background.proofs.Changes.{IsUsualLine}
use Rattle.clr_background.proofs.Markings.{marked_taken}
use Rattle.clr_bgmark.specs.Bits.{has_bit}
use Rattle.clr_bgmark.specs.Shades.{BackgroundView, cell_of, changed_at, is_covered, is_logged, PartView, ShadeView}
use Rattle.clr_bgmark.specs.Shades.{is_marked, is_scanned, is_taken, with_logged}
use Rattle.clr_bgmark.proofs.Kept.{covered_kept, told_kept}
use Rattle.clr_bgmark.proofs.SameTiles.{logged_bare, same_count, same_parts}
use Rattle.clr_runtime.specs.Marked.{AreColours, IsMarkedSoFar, marking_by, marking_of, StandWhole}
use Rattle.clr_runtime.specs.Shown.{Ahead, shown}
use Rattle.clr_runtime.proofs.MarkedKept.{running_marking}
use Rattle.clr_runtime.proofs.MarkedLines.{LogsStores, marked_on}
use Rattle.clr_runtime.proofs.MarkingRead.{marking_logged}
use Rattle.clr_runtime.proofs.StandingWhole.{same_stands}

-- ---- the slots that refer

-- the offset of a slot that is a reference is listed
slot_listed : (form : Form) (kinds : List Bool) (i n : ℕ) → slice_get kinds n ≡ Some true
    → IsIn (slot_offset form (i + n))
    (map (λ (slot : Slot). slot.offset) (filter (λ (slot : Slot). slot.reference) (slots_from form i kinds)))
slot_listed form [] i n e = absurd cc
slot_listed form (true ∷ kinds) i zero e =
    let here : i ≡ i + 0 = omega arith in
    subst (λ k. IsIn (slot_offset form k) (slot_offset form i ∷ map (λ (slot : Slot). slot.offset)
    (filter (λ (slot : Slot). slot.reference) (slots_from form (i + 1) kinds)))) here first
slot_listed form (false ∷ kinds) i zero e = absurd cc
slot_listed form (kind ∷ kinds) i (suc n) e =
    let there : i + 1 + n ≡ i + suc n = omega arith in
    go kind (subst (λ k. IsIn (slot_offset form k) (map (λ (slot : Slot). slot.offset)
    (filter (λ (slot : Slot). slot.reference) (slots_from form (i + 1) kinds)))) there
    (slot_listed form kinds (i + 1) n e))
  where
    go : (b : Bool) → IsIn (slot_offset form (i + suc n)) (map (λ (slot : Slot). slot.offset)
        (filter (λ (slot : Slot). slot.reference) (slots_from form (i + 1) kinds)))
        → IsIn (slot_offset form (i + suc n)) (map (λ (slot : Slot). slot.offset)
        (filter (λ (slot : Slot). slot.reference) (slots_from form i (b ∷ kinds))))
    go true j = later j
    go false j = j

-- so is that of a slot that names something
pub reference_listed : (m : Machine) (o : Object) → IsShaped m o → (n x : ℕ) → slice_get o.slots n ≡ Some (ref x)
    → IsIn (slot_offset (form_at m.types o.type) n) (reference_offsets (form_at m.types o.type) o.len)
reference_listed m o shaped n x e =
    let form = form_at m.types o.type in
    let same : 0 + n ≡ n = omega arith in
    subst (λ k. IsIn (slot_offset form k) (reference_offsets form o.len)) same
    (slot_listed form (slot_kinds form o.len) 0 n
    (subst (λ ks. slice_get ks n ≡ Some true) shaped.kinds (slice_get-map is_reference_value o.slots n (ref x) e)))

-- ---- which store a line completes

step-renamed : (to : ℕ → ℕ) (steps : List ThreadStep) (j : ℕ)
    → step_or_none (slice_get (map (renamed_step to) steps) j) ≡ renamed_step to (step_or_none (slice_get steps j))
step-renamed to [] j = refl
step-renamed to (x ∷ xs) zero = refl
step-renamed to (x ∷ xs) (suc j) = step-renamed to xs j

-- the store that a line completes is seen
completes_seen : (m : Machine) (i : Instruction) (x n : ℕ) → CompletesStore m i x n
    → CompletesStore (picture m) i (place_of m.objects x) n
completes_seen m (set_slot t into index from) x n (named, at) =
    (ap (place_of m.objects) named ∙ sym (local_of-picture m t into), at)
completes_seen m (finish_step t) x n begun =
    step-renamed (place_of m.objects) m.steps (t - 1) ∙ ap (renamed_step (place_of m.objects)) begun
completes_seen m _ x n none = absurd none

-- ---- the log

-- an address whose card is logged, or that lies in nothing that was in use at the first pause
abbrev is_told : List ShadeView → ℕ → Bool
is_told ss a = is_logged ss a || not (is_covered ss a)

module _ (ss : List ShadeView) (slot : ℕ) where
  abbrev now : List ShadeView
  now = changed_at slot (with_logged slot) ss

  same_covered : (a : ℕ) → is_covered now a ≡ is_covered ss a
  same_covered a = covered_kept (with_logged slot) (λ s b. refl) ss slot a

  module _ (logged : (a : ℕ) → is_logged now a
      ≡ ((is_covered ss slot && nat_eq (a / 2048) (slot / 2048)) || is_logged ss a)) where
    still_told : (a : ℕ) → IsTrue (is_told ss a) → IsTrue (is_told now a)
    still_told a e =
        (λ i. logged a i || not (same_covered a i))
        ∙ go (is_covered ss slot && nat_eq (a / 2048) (slot / 2048)) (is_logged ss a) (is_covered ss a) e
      where
        go : (c l v : Bool) → (l || not v) ≡ true → ((c || l) || not v) ≡ true
        go true l v e = refl
        go false l v e = e

    slot_told : IsTrue (is_told now slot)
    slot_told =
        (λ i. logged slot i || not (same_covered slot i))
        ∙ ap (λ b. ((is_covered ss slot && b) || is_logged ss slot) || not (is_covered ss slot))
        (eq-eqb (slot / 2048) (slot / 2048) refl)
        ∙ go (is_covered ss slot) (is_logged ss slot)
      where
        go : (c l : Bool) → (((c && true) || l) || not c) ≡ true
        go true l = refl
        go false true = refl
        go false false = refl

-- what is told of an address that is covered is logged
told_logged : (ss : List ShadeView) (a : ℕ) → is_covered ss a ≡ true → IsTrue (is_told ss a) → IsTrue (is_logged ss a)
told_logged ss a covered told = go (is_logged ss a) (sym (ap (λ c. is_logged ss a || not c) covered) ∙ told)
  where
    go : (l : Bool) → (l || not true) ≡ true → l ≡ true
    go true e = refl
    go false e = absurd cc

logged_told : (ss : List ShadeView) (a : ℕ) → IsTrue (is_logged ss a) → IsTrue (is_told ss a)
logged_told ss a e = ap (λ l. l || not (is_covered ss a)) e

-- the law for what is logged is that for what is told, since all slots of what was taken are covered
law_told : (m : Machine) (k : Marking) (ss : List ShadeView) → LogLaw m k (is_logged ss) → LogLaw m k (is_told ss)
law_told m k ss law o i name here black e = elim (law o i name here black e) [
  | inl (inl marked) ↦ inl (inl marked)
  | inl (inr logged) ↦ inl (inr (logged_told ss (slot_address m o i) logged))
  | inr store ↦ inr store
]

told_law : (m : Machine) → IsPlaceNamed m → (k : Marking) (ss : List ShadeView) (ps : List PartView)
    → StandWhole m k ss ps → LogLaw m k (is_told ss) → LogLaw m k (is_logged ss)
told_law m sound k ss ps whole law o i name here black e =
    let shaped = all_at (IsShaped m) here sound.lawful.shapes in
    let covered = (whole o here (marked_taken k o.name (inr black))).slots (slot_offset (form_at m.types o.type) i)
    (reference_listed m o shaped i name e) in
    elim (law o i name here black e) [
      | inl (inl marked) ↦ inl (inl marked)
      | inl (inr told) ↦ inl (inr (told_logged ss (slot_address m o i) covered told))
      | inr store ↦ inr store
    ]

-- ---- the line

-- the bits with the card of a slot logged
abbrev pub with_slot_logged : BackgroundView → ℕ → BackgroundView
with_slot_logged v slot = record v { shades = changed_at slot (with_logged slot) v.shades }

-- a background collection takes what it took
pub logged_marking : (v : BackgroundView) (slot : ℕ) → marking_of (with_slot_logged v slot) ≡ marking_of v
logged_marking v slot = ap (λ (k : Marking). if v.running then Some k else None) (marking_logged v.shades slot)

abbrev pub logged_ahead : Ahead → ℕ → Ahead
logged_ahead ahead slot = record ahead { background = with_slot_logged ahead.background slot }

-- and so it is seen
pub logged-shown : (w : World) (sums : Sums) (options : Options) (threads : Threads) (ahead : Ahead) (slot : ℕ)
    → shown w sums options threads (logged_ahead ahead slot) ≡ shown w sums options threads ahead
logged-shown w sums options threads ahead slot =
    λ j. record (shown w sums options threads ahead) { background = logged_marking ahead.background slot j }

-- the line completes no store but into the slot at this address
abbrev pub IsStoredAt : Machine → Instruction → ℕ → Type 0
IsStoredAt s i slot =
    (o : Object) (n : ℕ) → IsIn o s.objects → CompletesStore s i o.name n → slot_address s o n ≡ slot

-- the card of the slot is logged beside what was, where the slot lies in what was in use at the first pause
abbrev pub IsCardLogged : BackgroundView → ℕ → Type 0
IsCardLogged v slot = (a : ℕ) → is_logged (changed_at slot (with_logged slot) v.shades) a
    ≡ ((is_covered v.shades slot && nat_eq (a / 2048) (slot / 2048)) || is_logged v.shades a)

-- so it is where a background collection was told of it
pub card_logged : (v : BackgroundView) (slot : ℕ) (noted : BackgroundView) → noted ≡ with_slot_logged v slot
    → ((a : ℕ) → is_logged noted.shades a
    ≡ ((is_covered v.shades slot && nat_eq (a / 2048) (slot / 2048)) || is_logged v.shades a))
    → IsCardLogged v slot
card_logged v slot noted same log a = ap (λ (w : BackgroundView). is_logged w.shades a) (sym same) ∙ log a

-- the address of a slot of the object at a place
pub stored_address : (w : World) (sums : Sums) (options : Options) (threads : Threads) (ahead : Ahead)
    → IsPlaceNamed (shown w sums options threads ahead) → (place index : ℕ) (item : Item) (slot : Slot)
    → IsObjectAt w.rows w.heap place item → IsSlot w.rows item index slot → (o : Object)
    → IsIn o (objects_in w.rows w.heap) → o.name ≡ place → (n : ℕ) → n ≡ index
    → slot_address (shown w sums options threads ahead) o n ≡ item.place + slot.offset
stored_address w sums options threads ahead sound place index item slot at told o here name n number =
    let s = shown w sums options threads ahead in
    let home : o.name ≡ o.place = all_at (λ (o : Object). o.name ≡ o.place) here sound.places in
    let same : o ≡ object_in w.rows (word_of w.heap) item =
    one o (object_in w.rows (word_of w.heap) item) (sym (found-at s sound o here place (sym home ∙ name)) ∙ at.named) in
    let offset = (slot-told (form_at w.rows item.type_id.0) item.len index slot told).1 in
    (λ k. (same k).place + slot_offset (form_at w.rows (same k).type) (number k))
    ∙ (λ k. item.place + sym offset k)
  where
    one : (a b : Object) → Some a ≡ Some b → a ≡ b
    one a b e = cc

module _ (s : Machine) (i : Instruction) (outcome : Outcome) (after : Machine) (sound : IsPlaceNamed s)
    (line : IsUsualLine i) (follows : Follows s i outcome after) (v : BackgroundView) (slot : ℕ)
    (completes : IsStoredAt s i slot) (logged : IsCardLogged v slot) where
  abbrev ss : List ShadeView
  ss = v.shades

  abbrev then_shades : List ShadeView
  then_shades = changed_at slot (with_logged slot) ss

  abbrev k : Marking
  k = marking_by v.shades

  logs : LogsStores s i (is_told ss) (is_told then_shades)
  logs = record {
    stays = still_told ss slot logged;
    stored = λ m seen o n here c.
        let to = place_of m.objects in
        let at : slot_address m o n ≡ slot =
        subst (λ (w : Machine). IsStoredAt w i slot) (sym seen) completes (renamed_object to o) n
        (into_sorted_by (λ (o : Object). o.name) (renamed_object to o) (map (renamed_object to) m.objects)
        (IsIn-map (renamed_object to) here))
        (completes_seen m i o.name n c) in
        subst (λ a. IsTrue (is_told then_shades a)) (sym at) (slot_told ss slot logged);
  }

  -- the colours are those of before
  logged_colours : AreColours ss → AreColours then_shades
  logged_colours is =
      let t : (a : ℕ) → is_taken then_shades a ≡ is_taken ss a =
      λ a. told_kept (λ s c. has_bit s.taken (cell_of s c)) (with_logged slot) (λ s c. refl) (λ s c. refl) ss slot a in
      let m : (a : ℕ) → is_marked then_shades a ≡ is_marked ss a =
      λ a. told_kept (λ s c. has_bit s.marked (cell_of s c)) (with_logged slot) (λ s c. refl) (λ s c. refl) ss slot a in
      let n : (a : ℕ) → is_scanned then_shades a ≡ is_scanned ss a =
      λ a. told_kept (λ s c. has_bit s.scanned (cell_of s c)) (with_logged slot) (λ s c. refl) (λ s c. refl) ss slot a
      in
      record {
        taken = λ a whole e. is.taken a whole (sym (t a) ∙ e);
        marked = λ a whole e. is.marked a whole (sym (m a) ∙ e);
        scanned = λ a whole e. m a ∙ is.scanned a whole (sym (n a) ∙ e);
      }

  pub stored_marked : s.background ≡ marking_of v → after.background ≡ marking_of v
      → (v.running ≡ true → IsMarkedSoFar s v) → v.running ≡ true → IsMarkedSoFar after (with_slot_logged v slot)
  stored_marked was still marked running =
      let is = marked running in
      let (was_whole, law) = marked_on s i outcome after line k ss v.parts (is_told ss) (is_told then_shades) logs sound
      follows (was ∙ running_marking v running) (still ∙ running_marking v running)
      (is.whole, law_told s k ss is.log) in
      let same : marking_by then_shades ≡ k = marking_logged ss slot in
      let whole : StandWhole after k then_shades v.parts =
      λ o here took.
      same_stands ss then_shades (logged_bare ss slot) v.parts o.place (form_at after.types o.type) o.len
      (was_whole o here took) in
      record {
        colours = logged_colours is.colours;
        counted = is.counted ∙ sym (ap (λ (w : Marking). length w.gray) same);
        whole = subst (λ w. StandWhole after w then_shades v.parts) (sym same) whole;
        parts = same_parts ss then_shades (logged_bare ss slot) v.parts is.parts;
        fronts = is.fronts ∙ sym (same_count ss then_shades (logged_bare ss slot));
        log = subst (λ w. LogLaw after w (is_logged then_shades)) (sym same)
            (told_law after (follows_sound s i outcome after sound follows) k then_shades v.parts whole law);
      }
