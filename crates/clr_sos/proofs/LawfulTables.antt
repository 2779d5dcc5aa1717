-- Nothing is wrong with the tables of a clean state, and what its threads have begun.
use Rattle.std.proofs.Common.{◌≡◌, ℕ, ◌+◌, ◌-◌, ◌<◌, ◌≤◌, ◌&&◌, ◌==◌, Bool, true, false, List, [], ◌∷◌, ◌++◌, get_or}
use Rattle.std.proofs.Common.{Option, Some, None, IfSome, is_some, append-nil, refl, ap, ap₂, sym, ◌∙◌, subst, arith}
use Rattle.std.proofs.Common.{inl, inr}
use Rattle.std.specs.List.{AllByRecursion}
use Rattle.std.specs.Prelude.{slice_get}
use Rattle.std.specs.FinMap as finmap
use Rattle.std.proofs.lemmas.Bool.{cases_Bool, eq-eqb, eqb-true}
use Rattle.clr_types.specs.Ranges.{fits, Piece}
use Rattle.clr_types.specs.Rising.{IsIn}
use Rattle.clr_types.specs.Segments.{generation, Layout, rest_of}
use Rattle.clr_types.specs.Types.{form_at, has_finalizer, size_of, slot_kinds, type_row, TypeRow}
use Rattle.clr_types.specs.declared.handle.Handle.{Handle}
use Rattle.clr_types.specs.declared.item.Item.{Item}
use Rattle.clr_types.proofs.ChangedLists.{into_filter, IsIn-map}
use Rattle.clr_types.proofs.ListMembers.{any-from, any-in, append_right, in_append}
use Rattle.clr_types.proofs.RisingLists.{all_at, in_cons}
use Rattle.clr_heap.specs.Parts.{item_at}
use Rattle.clr_heap.specs.View.{frame, heap_items, HeapView, IsHeap, word_of}
use Rattle.clr_model.specs.Lawful.{AllFrom, HasItsRoom, IsFinal, IsLawful, IsPresent, is_reference_value, IsShaped}
use Rattle.clr_model.specs.Lawful.{StepIsPresent}
use Rattle.clr_model.specs.Lookups.{is_thread, slots_of_named, slots_or_none, type_of_object}
use Rattle.clr_model.specs.Machine.{begun_new, begun_store, Machine, no_step, Object, ref, ThreadStep}
use Rattle.clr_model.proofs.HandleTables.{key_at}
use Rattle.clr_model.proofs.ObjectChanged.{slice_get-map}
use Rattle.clr_view.specs.SlotValues.{IsObjectAt, StandsAt}
use Rattle.clr_view.specs.View.{free_among, is_object, layout_in, object_in, objects_in}
use Rattle.clr_view.proofs.ObjectItems.{stands-item}
use Rattle.clr_sos.specs.CleanStates.{HasSteps, IsCleanState}
use Rattle.clr_sos.specs.Faults.{AreInside}
use Rattle.clr_sos.specs.LawfulStates.{AreFinal, AreLawfulTables, IsLawfulState, IsLawfulStep}
use Rattle.clr_sos.specs.Steps.{front_or_zero, is_among, is_final_object, is_front, is_reference_slot, is_true}
use Rattle.clr_sos.specs.Steps.{object_at, rooms, steps_of, with_earlier}
use Rattle.clr_sos.specs.declared.state.State.{State}
use Rattle.clr_sos.specs.declared.step.Step.{Step}
use Rattle.clr_sos.proofs.BegunSteps.{known-type, new-length, rest-in, rest-there}
use Rattle.clr_sos.proofs.CleanStates.{clean_state_is_faultless}
use Rattle.clr_sos.proofs.PlacedItems.{the_object}
use Rattle.clr_sos.proofs.QueuedObjects.{present-stands}
use Rattle.clr_sos.proofs.ViewNames.{handles-stand}

module _ (s : State) (machine : Machine) (heap : IsHeap s.view.heap.now) (clean : IsCleanState s.view machine) where
  abbrev rows : List TypeRow
  rows = s.view.types.now

  abbrev h : HeapView
  h = s.view.heap.now

  abbrev items : List Item
  items = heap_items rows h

  -- the machine with what is seen
  abbrev m : Machine
  m = record machine {
    types = rows;
    objects = objects_in rows h;
    layout = layout_in rows h;
    locals = s.view.locals.now;
    handles = s.view.handles.now;
    entries = s.view.finals.now.entries;
    ready = s.view.finals.now.ready;
  }

  lawful : IsLawful m
  lawful =
      let seen = clean.seen in
      subst IsLawful (λ j. record machine {
        types = seen.types j;
        objects = seen.objects j;
        layout = seen.layout j;
        locals = seen.locals j;
        handles = seen.handles j;
        entries = seen.entries j;
        ready = seen.ready j;
      }) clean.sound.lawful

  -- ---- objects that are present

  record IsThere (x : ℕ) : Type 0 where
    item : Item
    stands : StandsAt rows h x
    is : IsObjectAt rows h x item
    found : object_at items x ≡ Some item

  present : (x : ℕ) → IsPresent m x → IsThere x
  present x here =
      let stands = present-stands rows h x here in
      let at = stands-item rows h heap clean.held x stands in
      record {
        item = item_at rows (word_of h) x;
        stands = stands;
        is = at;
        found = the_object rows h heap clean.held.walkable x (item_at rows (word_of h) x) at;
      }

  final_place : (x : ℕ) → IsPresent m x → IsFinal m x → is_final_object rows (object_at items x) ≡ true
  final_place x here final =
      let there = present x here in
      ap (is_final_object rows) there.found
      ∙ (ap (λ (o : Option Object). has_finalizer (type_row rows (type_of_object o))) (sym there.is.named) ∙ final)

  are_final : (places : List ℕ) → AllByRecursion (IsPresent m) places → AllByRecursion (IsFinal m) places
      → AreFinal rows h places
  are_final places here final x among =
      final_place x (all_at (IsPresent m) among here) (all_at (IsFinal m) among final)

  -- ---- begun stores

  module _ (x slot name : ℕ) (there : IsThere x) (holds : slice_get (slots_of_named m x) slot ≡ Some (ref name)) where
    reference : slice_get (slot_kinds (form_at rows there.item.type_id.0) there.item.len) slot ≡ Some true
    reference =
        let o = object_in rows (word_of h) there.item in
        let listed : IsIn (object_in rows (word_of h) there.item) (objects_in rows h) =
        IsIn-map (object_in rows (word_of h)) (into_filter is_object items there.is.object there.is.listed) in
        let shaped = all_at (IsShaped m) listed lawful.shapes in
        let value : slice_get (object_in rows (word_of h) there.item).slots slot ≡ Some (ref name) =
        ap (λ (q : Option Object). slice_get (slots_or_none q) slot) (sym there.is.named) ∙ holds in
        ap (λ (kinds : List Bool). slice_get kinds slot) (sym shaped.kinds)
        ∙ slice_get-map is_reference_value (object_in rows (word_of h) there.item).slots slot (ref name) value

    store_slot : is_reference_slot rows (object_at items x) slot ≡ true
    store_slot = ap (λ (o : Option Item). is_reference_slot rows o slot) there.found ∙ ap is_true reference

  -- ---- begun objects

  front-is : (i : ℕ) (r : Piece) (size : ℕ) → get_or h.rests i None ≡ Some r → fits size r.size ≡ true
      → is_front items h size r.place ≡ true
  front-is i r size is enough =
      let test : Piece → Bool = λ p. (p.place == r.place) && fits size p.size in
      let here : test r ≡ true = let e = eq-eqb r.place r.place refl in rw (e, enough) refl in
      let room : IsIn r (rooms items h) = append_right (free_among items) (rest-in h.rests i r is) in
      let young = all_at (λ (p : Piece). generation m.layout p.place ≡ 0) (rest-in h.rests i r is) lawful.rests_young in
      ap₂ (λ (a b : Bool). a && b) (any-from test (rooms items h) r room here)
      (eq-eqb (generation (frame h) r.place) 0 young)

  -- the fronts of threads before thread t
  abbrev AreEarlier : ℕ → List ℕ → Type 0
  AreEarlier t earlier = (x : ℕ) → IsIn x earlier
      → (j : ℕ) × (r : Piece) × (j + 1 < t) × (get_or h.rests j None ≡ Some r) × (r.place ≡ x)

  new-front : (t : ℕ) (earlier : List ℕ) (r : Piece) → 1 ≤ t → AreEarlier t earlier
      → get_or h.rests (t - 1) None ≡ Some r → is_among earlier r.place ≡ false
  new-front t earlier r from before is = elim (cases_Bool (is_among earlier r.place)) [
    | inl some ↦
        let (x, inside, same) = any-in (λ (y : ℕ). y == r.place) earlier some in
        let (j, q, low, there, at) = before x inside in
        let one = clean.held.apart j (t - 1) q r there is (at ∙ eqb-true x r.place same) in
        absurd (omega arith)
    | inr none ↦ none
  ]

  same-fronts : (t : ℕ) (earlier : List ℕ) → AreEarlier t earlier → AreEarlier (t + 1) (earlier ++ [])
  same-fronts t earlier before x inside =
      let (j, q, low, is, at) = before x (subst (IsIn x) (append-nil earlier) inside) in (j, q, omega arith, is, at)

  more-fronts : (t : ℕ) (earlier : List ℕ) (r : Piece) → 1 ≤ t → AreEarlier t earlier
      → get_or h.rests (t - 1) None ≡ Some r → AreEarlier (t + 1) (earlier ++ r.place ∷ [])
  more-fronts t earlier r from before is x inside = elim (in_append earlier inside) [
    | inl old ↦ let (j, q, low, there, at) = before x old in (j, q, omega arith, there, at)
    | inr new ↦ elim (in_cons new) [
      | inl here ↦ (t - 1, r, omega arith, is, sym here)
      | inr more ↦ elim more [ ]
    ]
  ]

  -- ---- all steps

  steps-lawful : (t : ℕ) (steps : List ThreadStep) (earlier : List ℕ) → 1 ≤ t → AreEarlier t earlier
      → AllByRecursion (StepIsPresent m) steps → AllFrom (HasItsRoom m) t steps
      → AllByRecursion (IsLawfulStep rows machine.options.large h) (with_earlier earlier (steps_of m.layout t steps))
  steps-lawful t [] earlier from before there rooms = tt
  steps-lawful t (no_step ∷ steps) earlier from before there rooms = (
    (tt, tt),
    steps-lawful (t + 1) steps (earlier ++ []) (omega arith) (same-fronts t earlier before) there.1 rooms.1,
  )
  steps-lawful t (begun_store object slot ∷ steps) earlier from before there rooms =
      let (is, name, holds) = there.0 in
      let found = present object is in (
        (tt, (found.stands, store_slot object slot name found holds)),
        steps-lawful (t + 1) steps (earlier ++ []) (omega arith) (same-fronts t earlier before) there.1 rooms.1,
      )
  steps-lawful t (begun_new type len local ∷ steps) earlier from before there rooms =
      let (low, known, none) = there.0 in
      let (least, most) = known-type rows type known in
      let (rest, left, enough, small) = rooms.0 in
      let is = rest-there h.rests (t - 1) rest left in
      let front : front_or_zero (rest_of m.layout t) ≡ rest.place = ap front_or_zero left in
      let size = size_of (form_at rows type) len in (
        (
          (least, most, new-length rows machine.options.large type len none small, omega arith),
          (
            ap (λ (x : ℕ). is_front items h (size_of (form_at rows type) len) x) front
                ∙ front-is (t - 1) rest (size_of (form_at rows type) len) is enough,
            ap (λ (x : ℕ). is_among earlier x) front ∙ new-front t earlier rest from before is,
          ),
        ),
        steps-lawful (t + 1) steps (earlier ++ front_or_zero (rest_of m.layout t) ∷ []) (omega arith)
            (subst (λ (x : ℕ). AreEarlier (t + 1) (earlier ++ x ∷ [])) (sym front)
            (more-fronts t earlier rest from before is)) there.1 rooms.1,
      )

  module _ (begun : HasSteps s machine) where
    steps-are : steps_of m.layout 1 machine.steps ≡ s.steps.now
    steps-are = ap (λ (layout : Layout). steps_of layout 1 machine.steps) (sym clean.seen.layout) ∙ begun.steps

    all-steps : (e : List ℕ × Step) → IsIn e (with_earlier [] s.steps.now) → IsLawfulStep rows s.view.large h e
    all-steps e among =
        subst (λ (large : ℕ). IsLawfulStep rows large h e) (sym clean.large)
        (all_at (IsLawfulStep rows machine.options.large h) among
        (subst
        (λ (steps : List Step). AllByRecursion (IsLawfulStep rows machine.options.large h) (with_earlier [] steps))
        steps-are
        (steps-lawful 1 machine.steps [] (omega arith) (λ x inside. elim inside [ ]) lawful.names.steps lawful.rooms)))

    numbers : (k : ℕ) (row : Handle) → finmap.get s.view.handles.now k ≡ Some row → k < 65536
    numbers k row e = key_at (λ (n : ℕ). n < 65536) s.view.handles.now lawful.handle_numbers k (ap is_some e)

    tables : AreLawfulTables s
    tables = record {
      numbers = numbers;
      handles = handles-stand s.view machine clean.seen clean.sound;
      entries = are_final s.view.finals.now.entries lawful.names.entries lawful.entries;
      ready = are_final s.view.finals.now.ready lawful.names.ready lawful.ready;
      steps = all-steps;
      holder = subst (λ (o : Option ℕ). IfSome o (λ t. is_thread t ≡ true)) begun.holder lawful.holder;
    }

    -- A CLEAN STATE is lawful
    pub lawful_state : AreInside h × IsLawfulState s
    lawful_state =
        let faultless = clean_state_is_faultless s.view machine heap clean in (faultless.0, (faultless.1, tables))
