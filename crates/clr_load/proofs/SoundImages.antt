-- What holds of an image whose words name what they may.
use Rattle.std.proofs.Common.{◌≡◌, ℕ, ◌+◌, ◌*◌, ◌-◌, List, map, length, Option, Some, None, refl, sym, ◌∙◌, ap}
use Rattle.std.proofs.Common.{subst, Bool, true, false, not, ◌&&◌, []}
use Rattle.std.specs.List.{AllByRecursion}
use Rattle.clr_types.specs.Rising.{IsIn}
use Rattle.clr_types.specs.Types.{form_at, has_finalizer, size_of, type_row, TypeRow}
use Rattle.clr_types.specs.declared.handle.Handle.{Handle}
use Rattle.clr_types.specs.declared.item.Item.{Item}
use Rattle.clr_types.proofs.RisingLists.{all_at}
use Rattle.clr_heap.specs.Parts.{item_at}
use Rattle.clr_heap.specs.View.{heap_items, HeapView, IsHeap, word_of}
use Rattle.clr_model.specs.Lawful.{HasItsSecond}
use Rattle.clr_model.specs.Lookups.{type_of_object}
use Rattle.clr_model.specs.Machine.{Object}
use Rattle.clr_view.specs.Flags.{is_final_at}
use Rattle.clr_view.specs.SlotValues.{StandsAt}
use Rattle.clr_view.specs.View.{IsHeld}
use Rattle.clr_view.specs.World.{HandleStands, IsNullOrStands}
use Rattle.clr_view.proofs.ObjectItems.{stands-item}
use Rattle.clr_sos.specs.Faultless.{IsFaultless}
use Rattle.clr_sos.specs.Faults.{AreInside, is_name}
use Rattle.clr_sos.proofs.HeldHeaps.{none_at}
use Rattle.clr_sos.proofs.NamedPlaces.{name-stands}
use Rattle.clr_fields.specs.Fields.{found}
use Rattle.clr_format.specs.Images.{fields_of, Parts, tests_in}
use Rattle.clr_format.specs.NameTests.{final_tests, first_failed, handle_tests, is_final_object, name_tests, object_at}
use Rattle.clr_format.specs.NameTests.{is_among, is_front, reference_test, step_tests, tests_of, with_earlier}
use Rattle.clr_sos.specs.declared.step.Step.{Step}
use Rattle.clr_sos.specs.declared.step.Step.TheVariants.{Idle, Store, Begun}
use Rattle.clr_load.specs.Shown.{ShowsParts}
use Rattle.clr_load.specs.Sound.{IsFinal, IsSound, StepStands}
use Rattle.clr_load.specs.TableTests.{first_in_tables}
use Rattle.clr_load.specs.declared.image.Image.{Image}
use Rattle.clr_load.proofs.LoadedHeaps.{are_inside, items_are}
use Rattle.clr_load.proofs.LoadedNames.{is_faultless, is_held}
use Rattle.clr_load.proofs.PassedTests.{each_passed, names_passed, or_both, Passes, tests_are}
use Rattle.clr_load.proofs.ReadImages.{ArePartsFound, parts_found}
use Rattle.clr_load.proofs.RestoredHandles.{value_among}
use Rattle.clr_sos.proofs.PlacedItems.{stands_found, stands_there, the_object}

-- all tests pass
pub record AllPass (p : Parts) : Type 0 where
  pub references : first_failed (map (reference_test p.body.items) p.body.references) ≡ None
  pub locals : first_failed (tests_of 8 (name_tests p.body.items) (p.rest.tables_at - 8192) p.rest.locals) ≡ None
  pub steps : first_failed (tests_of 40 (step_tests p.types p.body.items p.body.heap) (p.rest.tables_at + 8)
      (with_earlier [] p.rest.tables.steps)) ≡ None
  pub handles : first_failed (tests_of 32 (handle_tests p.body.items) (p.rest.tables_at + 656) p.rest.tables.handles)
      ≡ None
  pub entries : first_failed (tests_of 8 (final_tests p.types p.body.items)
      (p.rest.tables_at + 656 + 32 * length p.rest.tables.handles + 8) p.rest.tables.entries) ≡ None
  pub ready : first_failed (tests_of 8 (final_tests p.types p.body.items)
      (p.rest.tables_at + 656 + 32 * length p.rest.tables.handles + 8 + 8 * length p.rest.tables.entries + 8)
      p.rest.tables.ready) ≡ None

pub all_pass : (p : Parts) → first_failed (tests_in p) ≡ None → AllPass p
all_pass p e =
    let a = or_both (first_failed (map (reference_test p.body.items) p.body.references))
    (first_in_tables p.rest p.types p.body.heap p.body.items) (sym (tests_are p) ∙ e) in
    let f = or_both _ _ a.1 in
    let d = or_both _ _ f.0 in
    let c = or_both _ _ d.0 in
    let b = or_both _ _ c.0 in
    record { references = a.0; locals = b.0; steps = b.1; handles = c.1; entries = d.1; ready = f.1 }

module _ (rows : List TypeRow) (h : HeapView) (heap : IsHeap h) (held : IsHeld rows h) where
  -- an object whose type has a finaliser
  pub final_stands : (place : ℕ) → is_final_object rows (object_at (heap_items rows h) place) ≡ true
      → StandsAt rows h place × (is_final_at rows h place ≡ true)
  final_stands place on = go (object_at (heap_items rows h) place) refl on
    where
      go : (o : Option Item) → object_at (heap_items rows h) place ≡ o → is_final_object rows o ≡ true
          → StandsAt rows h place × (is_final_at rows h place ≡ true)
      go None e on = absurd cc
      go (Some i) e on =
          let stands =
          stands_there rows h heap held.walkable place (stands_found rows h heap held.walkable place i e) in
          let at = stands-item rows h heap held place stands in
          let found = the_object rows h heap held.walkable place (item_at rows (word_of h) place) at in
          let same : Some i ≡ Some (item_at rows (word_of h) place) = sym e ∙ found in
          let is : i ≡ item_at rows (word_of h) place = cc in (
            stands,
            ap (λ (o : Option Object). has_finalizer (type_row rows (type_of_object o))) at.named
                ∙ ap (λ (j : Item). has_finalizer (type_row rows j.type_id.0)) (sym is) ∙ on,
          )

-- ---- a loaded image

module _ (bytes : List ℕ) (p : Parts) (n : ℕ) (fields : fields_of bytes ≡ found p n) (image : Image)
    (shows : ShowsParts image p) (heap : IsHeap image.heap) (passes : AllPass p) where
  abbrev parts : ArePartsFound bytes p n
  parts = parts_found bytes p n fields

  heap_is : IsHeap p.body.heap
  heap_is = subst IsHeap shows.heap heap

  pub items_is : heap_items p.types p.body.heap ≡ p.body.items
  items_is = items_are bytes p.head.large p.types p.body parts.body.segs parts.body.made heap_is

  all_named : (x : ℕ) → is_name p.body.items x ≡ true → IsNullOrStands p.types p.body.heap x
  all_named x on =
      name-stands p.types p.body.heap x (ap (λ (is : List Item). is_name is x) items_is ∙ on)

  locals_named : (x : ℕ) → IsIn x p.rest.locals → is_name p.body.items x ≡ true
  locals_named x m =
      (each_passed 8 (name_tests p.body.items) (p.rest.tables_at - 8192) p.rest.locals passes.locals x m).0

  faultless : IsFaultless p.types p.head.large p.body.heap p.rest.locals
  faultless =
      is_faultless bytes p.head.large p.types p.body parts.body.segs parts.body.made heap_is p.rest.locals
      (names_passed p.body.items p.body.references passes.references) locals_named

  held : IsHeld p.types p.body.heap
  held = is_held bytes p.head.large p.types p.body parts.body.segs parts.body.made heap_is p.rest.locals faultless

  handle_stands : (e : ℕ × Handle) → IsIn e p.rest.tables.handles → HandleStands p.types p.body.heap e.1
  handle_stands e m =
      let tests =
      each_passed 32 (handle_tests p.body.items) (p.rest.tables_at + 656) p.rest.tables.handles passes.handles e m in
      record {
        target = all_named e.1.target tests.0;
        second = all_named e.1.second tests.1.0;
        owned = all_at (λ (f : ℕ × Handle). HasItsSecond f.1) m parts.rest.tables.owned;
      }

  is_final : (x : ℕ) → is_final_object p.types (object_at p.body.items x) ≡ true
      → StandsAt p.types p.body.heap x × (is_final_at p.types p.body.heap x ≡ true)
  is_final x on =
      final_stands p.types p.body.heap heap_is held x
      (ap (λ (is : List Item). is_final_object p.types (object_at is x)) items_is ∙ on)

  final_entry : (x : ℕ) → IsIn x p.rest.tables.entries
      → StandsAt p.types p.body.heap x × (is_final_at p.types p.body.heap x ≡ true)
  final_entry x m =
      is_final x (each_passed 8 (final_tests p.types p.body.items)
      (p.rest.tables_at + 656 + 32 * length p.rest.tables.handles + 8) p.rest.tables.entries passes.entries x m).0

  final_ready : (x : ℕ) → IsIn x p.rest.tables.ready
      → StandsAt p.types p.body.heap x × (is_final_at p.types p.body.heap x ≡ true)
  final_ready x m =
      is_final x (each_passed 8 (final_tests p.types p.body.items)
      (p.rest.tables_at + 656 + 32 * length p.rest.tables.handles + 8 + 8 * length p.rest.tables.entries + 8)
      p.rest.tables.ready passes.ready x m).0

  step_in : (e : List ℕ × Step)
      → AllByRecursion Passes (step_tests p.types (heap_items p.types p.body.heap) p.body.heap e)
      → StepStands p.types p.body.heap e
  step_in (earlier, Idle) tests = tt
  step_in (earlier, Store object slot) tests =
      (stands_there p.types p.body.heap heap_is held.walkable object tests.0, tests.1.0)
  step_in (earlier, Begun t len local front) tests =
      both (is_front (heap_items p.types p.body.heap) p.body.heap (size_of (form_at p.types t.0) len) front)
      (is_among earlier front) tests.0
    where
      both : (a b : Bool) → (a && not b) ≡ true → (a ≡ true) × (b ≡ false)
      both true false e = (refl, refl)
      both true true e = absurd cc
      both false b e = absurd cc

  step_stands : (e : List ℕ × Step) → IsIn e (with_earlier [] p.rest.tables.steps) → StepStands p.types p.body.heap e
  step_stands e m =
      step_in e (subst (λ (is : List Item). AllByRecursion Passes (step_tests p.types is p.body.heap e)) (sym items_is)
      (each_passed 40 (step_tests p.types p.body.items p.body.heap) (p.rest.tables_at + 8)
      (with_earlier [] p.rest.tables.steps) passes.steps e m))

  -- what is shown of types and heap
  abbrev Shown : (List TypeRow → HeapView → Type 0) → Type 0
  Shown P = P image.types image.heap

  shown : (P : List TypeRow → HeapView → Type 0) → P p.types p.body.heap → Shown P
  shown P h = subst (λ (rows : List TypeRow). P rows image.heap) (sym shows.types)
      (subst (λ (g : HeapView). P p.types g) (sym shows.heap) h)

  shown_final : (x : ℕ) → StandsAt p.types p.body.heap x × (is_final_at p.types p.body.heap x ≡ true) → IsFinal image x
  shown_final x f = record {
    stands = shown (λ rows h. StandsAt rows h x) f.0;
    final = shown (λ rows h. is_final_at rows h x ≡ true) f.1;
  }

  -- ALL THAT IS LOADED is sound
  pub image_sound : IsSound image
  image_sound = record {
    heap = heap;
    held = shown IsHeld held;
    alone = none_at image.heap (ap (λ (h : HeapView). h.rests) shows.heap ∙ parts.body.made.rests);
    inside = subst AreInside (sym shows.heap) (are_inside p.body.heap parts.body.made.rests);
    faultless =
        subst (λ (n : ℕ). IsFaultless image.types n image.heap image.locals.items) (sym shows.large)
        (subst (λ (xs : List ℕ). IsFaultless image.types p.head.large image.heap xs) (sym shows.locals)
        (shown (λ rows h. IsFaultless rows p.head.large h p.rest.locals) faultless));
    locals = λ x m.
        shown (λ rows h. IsNullOrStands rows h x)
        (all_named x (locals_named x (subst (IsIn x) shows.locals m)));
    steps = λ e m.
        shown (λ rows h. StepStands rows h e)
        (step_stands e (subst (λ (steps : List Step). IsIn e (with_earlier [] steps)) shows.steps m));
    handles = λ k row e.
        let among = value_among image.handles k row e in
        let m = subst (IsIn among.0) shows.handles among.1 in
        subst (HandleStands image.types image.heap) among.2
        (shown (λ rows h. HandleStands rows h among.0.1) (handle_stands among.0 m));
    entries = λ x m. shown_final x (final_entry x (subst (IsIn x) shows.entries m));
    ready = λ x m. shown_final x (final_ready x (subst (IsIn x) shows.ready m));
  }
