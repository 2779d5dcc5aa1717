-- The law of the log, from the first pause on.
use Rattle.std.proofs.Common.{◌≡◌, ℕ, ◌+◌, ◌<◌, ◌≤◌, ◌⊎◌, inl, inr, refl, sym, ap, subst, ◌∙◌, arith}
use Rattle.std.proofs.Common.{Bool, None, Some}
use Rattle.std.specs.Prelude.{IfSome, is_some, IsTrue, slice_get}
use Rattle.std.proofs.lemmas.Bool.{cases_eq}
use Rattle.clr_types.specs.Rising.{IsIn}
use Rattle.clr_types.specs.Types.{type_row, form_of_row, slot_offset}
use Rattle.clr_types.specs.Segments.{generation}
use Rattle.clr_types.proofs.ChangedLists.{rising-distinct}
use Rattle.clr_types.proofs.RisingLists.{all_at}
use Rattle.clr_types.proofs.SortedLists.{same_by_key}
use Rattle.clr_model.specs.Machine.{ref, Object, ThreadStep, no_step, begun_store, Machine, Marking}
use Rattle.clr_model.specs.Lookups.{is_step}
use Rattle.clr_model.specs.Reach.{Old, SlotNames}
use Rattle.clr_model.specs.Background.{IsLawfulMarking, taken}
use Rattle.clr_model.specs.Lawful.{IsBirthNamed, IsShaped}
use Rattle.clr_model.specs.Instructions.{Instruction}
use Rattle.clr_model.specs.Outcomes.{Outcome}
use Rattle.clr_model.specs.Step.{Obeys}
use Rattle.clr_model.proofs.CollectedPresent.{all_idle}
use Rattle.clr_background.specs.Log.{IsNullOrMarked, IsNullOrTaken, LogLaw, LogsLine, slot_address}
use Rattle.clr_background.specs.Runs.{LogsOn, at_once, by_line}
use Rattle.clr_background.specs.Laws.{LogHoldsLaw, StrictLogHoldsLaw}
use Rattle.clr_background.proofs.Changes.{adds_entry, adds_handle, adds_type, begins_marking, begins_store, Change}
use Rattle.clr_background.proofs.Changes.{frees_handle, gives_birth, goes_on, IsUsualLine, line_changes, rearranged}
use Rattle.clr_background.proofs.Changes.{scans_on, sets_flag, stores_value, takes_name, takes_queued, usual_line}
use Rattle.clr_background.proofs.LineStores.{birth_is, change_leaves, change_stores, IsExcused, StoresOnly, WasStored}
use Rattle.clr_background.proofs.Markings.{marked_taken, MarksOn, same_on, scans_on_marking}
use Rattle.clr_background.proofs.Members.{read_member, stands_or_not}
use Rattle.clr_background.proofs.OldStays.{LeavesOld}
use Rattle.clr_background.proofs.Pauses.{began}

-- ---- one line

same_marking : (k l : Marking) → Some k ≡ Some l → k ≡ l
same_marking k l e = cc

-- a line leaves the marking, or scans on
pub change_marks : (m : Machine) (i : Instruction) (new : Machine) → Change m i new → (old final : Marking)
    → m.background ≡ Some old → new.background ≡ Some final → MarksOn m old final
change_marks m i new change old final runs now = go change
  where
    -- the marking is the old one
    stays : m.background ≡ Some final → MarksOn m old final
    stays e = subst (MarksOn m old) (same_marking old final (sym runs ∙ e)) (same_on m old)

    alike : (after : Machine) → new ≡ after → after.background ≡ m.background → MarksOn m old final
    alike after same e = stays (sym e ∙ sym (ap (λ (w : Machine). w.background) same) ∙ now)

    go : Change m i new → MarksOn m old final
    go (rearranged made) = stays (made.carries.background final now)
    go (takes_name t k x by same) = alike _ same refl
    go (takes_queued t k same) = alike _ same refl
    go (stores_value t into index v by logs same) = alike _ same refl
    go (begins_store t into index from thread idle same) = alike _ same refl
    go (sets_flag name flag same) = alike _ same refl
    go (adds_entry x by same) = alike _ same refl
    go (adds_handle k row target second same) = alike _ same refl
    go (frees_handle k same) = alike _ same refl
    go (adds_type row same) = alike _ same refl
    go (goes_on ready made steps holder flag go_on same) =
        stays (made.carries.background final (sym (ap (λ (w : Machine). w.background) same) ∙ now))
    go (gives_birth ready made steps layout sums entered t local place type len go_on same) =
        stays (made.carries.background final
        (sym (birth_is ready steps layout sums entered t local place type len).background
        ∙ sym (ap (λ (w : Machine). w.background) same) ∙ now))
    go (begins_marking marking none is same) = absurd (differ (sym none ∙ runs))
      where
        differ : None ≡ Some old → ⊥
        differ e = cc
    go (scans_on k n count l begun scans same) =
        subst (λ w. MarksOn m w final) (same_marking k old (sym begun ∙ runs))
        (subst (MarksOn m k) (same_marking l final (sym (ap (λ (w : Machine). w.background) same) ∙ now))
        (scans_on_marking m n k count l scans))

module _ (m : Machine) (i : Instruction) (new : Machine) (h : IsBirthNamed m) (s : StoresOnly m i new)
    (l : LeavesOld m new) (old final : Marking) (runs : m.background ≡ Some old) (marks : MarksOn m old final)
    (log more : ℕ → Bool) (logs : LogsLine m i old final log more) where
  -- what was taken is of generation 2
  taken_old : (x : ℕ) → IsIn x (taken old) → Old m 1 x
  taken_old x j =
      let is : IsLawfulMarking m old = subst (λ r. IfSome r (IsLawfulMarking m)) runs h.lawful.marking in
      all_at (Old m 1) j is.present

  -- what is black is one of these
  black_old : (x : ℕ) → IsIn x final.black → Old m 1 x
  black_old x j = taken_old x ((marks.same x).1 (marked_taken final x (inr j)))

  -- the slot of an object that is in its place is where it was
  same_address : (q p : Object) → IsIn q m.objects → p.type ≡ q.type → p.place ≡ q.place → (slot : ℕ)
      → slot_address m q slot ≡ slot_address new p slot
  same_address q p j type place slot =
      (λ a. sym place a
      + slot_offset (form_of_row (sym (s.types q.type (all_at (IsShaped m) j h.lawful.shapes).typed) a)) slot)
      ∙ ap (λ t. p.place + slot_offset (form_of_row (type_row new.types t)) slot) (sym type)

  abbrev IsCovered : Object → ℕ → ℕ → Type 0
  IsCovered p slot x =
      (IsNullOrMarked final x ⊎ IsTrue (more (slot_address new p slot))) ⊎ IsIn (begun_store p.name slot) new.steps

  module _ (law : LogLaw m old log) (p : Object) (slot x : ℕ) (here : IsIn p new.objects)
      (black : IsIn p.name final.black) (w : WasStored m i new p) where
    was_black : IsIn w.old.name final.black
    was_black = subst (λ n. IsIn n final.black) w.name black

    -- the object is in its place, since it was taken
    in_place : p.place ≡ w.old.place
    in_place =
        let is = black_old w.old.name was_black in
        let same : is.object ≡ w.old = same_by_key (λ (o : Object). o.name) m.objects is.object w.old
        (rising-distinct (λ (o : Object). o.name) m.objects h.lawful.names_rise) is.present w.present is.named in
        l.places p w.old here w.present (subst (λ (o : Object). 1 < generation m.layout o.place) same is.above) w.name

    logged : IsTrue (more (slot_address m w.old slot)) → IsCovered p slot x
    logged j = inl (inr (subst (λ a. IsTrue (more a)) (same_address w.old p w.present w.type in_place slot) j))

    begun : IsIn (begun_store w.old.name slot) new.steps → IsCovered p slot x
    begun j = inr (subst (λ n. IsIn (begun_store n slot) new.steps) (sym w.name) j)

    excused : IsExcused m i new w.old.name slot → IsCovered p slot x
    excused (inl completes) = logged (logs.stored w.old slot w.present completes)
    excused (inr j) = begun j

    -- the reference was there, and the object was black
    black_before : (IsNullOrMarked old x ⊎ IsTrue (log (slot_address m w.old slot)))
        ⊎ IsIn (begun_store w.old.name slot) m.steps → IsCovered p slot x
    black_before (inl (inl (inl null))) = inl (inl (inl null))
    black_before (inl (inl (inr marked))) = inl (inl (inr (marks.keeps x marked)))
    black_before (inl (inr j)) = logged (logs.stays (slot_address m w.old slot) j)
    black_before (inr j) = elim (s.steps w.old.name slot j) [
      | inl k ↦ begun k
      | inr completes ↦ excused (inl completes)
    ]

    -- the reference was there, and the object is black now
    black_now : (IsIn w.old.name old.black → ⊥) → slice_get w.old.slots slot ≡ Some (ref x)
        → IsNullOrTaken old x ⊎ IsTrue (more (slot_address m w.old slot)) → IsCovered p slot x
    black_now none e (inr j) = logged j
    black_now none e (inl (inl null)) = inl (inl (inl null))
    black_now none e (inl (inr t)) = elim (cases_eq x 0) [
      | inl null ↦ inl (inl (inl null))
      | inr some ↦
          let names : SlotNames m.objects w.old.name x =
          record {
            object = w.old;
            present = w.present;
            named = refl;
            slot = read_member w.old.slots slot (ref x) e;
            not_null = omega (arith, some);
          } in
          inl (inl (inr (marks.named w.old.name x was_black none names t)))
    ]

    covered : slice_get p.slots slot ≡ Some (ref x) → IsCovered p slot x
    covered e = elim (w.slots slot x e) [
      | inr excuse ↦ excused excuse
      | inl f ↦ elim (stands_or_not w.old.name old.black) [
        | inl j ↦ black_before (law w.old slot x w.present j f)
        | inr none ↦ black_now none f (logs.scanned w.old slot x w.present was_black none f)
      ]
    ]

  log_goes_on : LogLaw m old log → LogLaw new final more
  log_goes_on law p slot x here black e = elim (s.objects p here) [
    | inl w ↦ covered law p slot x here black w e
    | inr new_name ↦
        let is = black_old p.name black in
        let bound : is.object.name ≤ m.born = all_at (λ (o : Object). o.name ≤ m.born) is.present h.born in
        let named = is.named in
        absurd (omega (arith, new_name, bound, named))
  ]

-- The law goes on over a line that logs what it stores and what it scans.
pub line_logs_on : (m : Machine) (i : Instruction) (outcome : Outcome) (new : Machine) (old final : Marking)
    → IsBirthNamed m → IsUsualLine i → Obeys m i outcome new → m.background ≡ Some old → new.background ≡ Some final
    → (log more : ℕ → Bool) → LogsLine m i old final log more → LogLaw m old log → LogLaw new final more
line_logs_on m i outcome new old final h line obeys runs now =
    let change = line_changes m i outcome new obeys in
    log_goes_on m i new h (change_stores m i new h change) (change_leaves m i new h line change (ap is_some now)) old
    final runs (change_marks m i new change old final runs now)

-- ---- runs

run_logs_on : (m last : Machine) (log end : ℕ → Bool) → LogsOn m log last end
    → ((marking : Marking) → m.background ≡ Some marking → LogLaw m marking log)
    → (marking : Marking) → last.background ≡ Some marking → LogLaw last marking end
run_logs_on m last log end at_once law = law
run_logs_on m last log end (by_line {next = next} {mid = mid} i outcome old new h formed obeys runs now logs more) law =
    run_logs_on next last mid end more (λ marking e.
    subst (λ k. LogLaw next k mid) (same_marking new marking (sym now ∙ e))
    (line_logs_on m i outcome next old new h (usual_line i formed) obeys runs now log mid logs (law old runs)))

-- no object is black at first
pub log_holds : LogHoldsLaw
log_holds m first last t marking log end begins run =
    let (opening, is, same) = began m t first begins in
    run_logs_on first last log end run (λ k e o slot x here black f.
    let one : opening ≡ k = same_marking opening k (sym (ap (λ (w : Machine). w.background) same) ∙ e) in
    elim (subst (IsIn o.name) is.black (subst (λ w. IsIn o.name w.black) (sym one) black)) [ ]) marking

-- where no thread is in the midst of a step, none has begun a store
pub strict_log_holds : StrictLogHoldsLaw
strict_log_holds m k log idle law o slot x here black e = elim (law o slot x here black e) [
  | inl covered ↦ covered
  | inr j ↦ absurd (none j)
]
  where
    none : IsIn (begun_store o.name slot) m.steps → ⊥
    none j =
        let is : begun_store o.name slot ≡ no_step =
        all_at (λ (s : ThreadStep). s ≡ no_step) j (all_idle 1 m.steps idle) in
        let f = ap is_step is in cc
