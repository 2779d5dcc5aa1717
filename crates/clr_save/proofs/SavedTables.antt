-- The tables and the locals of a lawful machine may be written, and name what is there.
use Rattle.std.proofs.Common.{◌≡◌, ℕ, ◌+◌, ◌≤◌, ◌<◌, ◌&&◌, ◌==◌, Bool, true, false, List, [], ◌∷◌}
use Rattle.std.proofs.Common.{map, Option, Some, None, IfSome, IsTrue, refl, ap, ap₂, sym, ◌∙◌, arith}
use Rattle.std.proofs.Common.{inl, inr, leb-true, nat_le}
use Rattle.std.specs.FinMap as finmap
use Rattle.std.specs.List.{AllByRecursion, list_all}
use Rattle.std.proofs.lemmas.Bool.{and_parts, cases_Bool, eq-eqb, eqb-true, true≢false}
use Rattle.clr_types.specs.HandleCode.{kind_back, number_of_kind}
use Rattle.clr_types.specs.Kinds.{is_dependent}
use Rattle.clr_types.specs.Rising.{IsRisingBy}
use Rattle.clr_types.specs.Types.{has_finalizer, type_row, TypeRow}
use Rattle.clr_types.specs.declared.handle.Handle.{Handle}
use Rattle.clr_types.specs.declared.item.Item.{Item}
use Rattle.clr_types.proofs.ChangedLists.{all_imply, all_members, all-unmap}
use Rattle.clr_types.proofs.RisingLists.{all_at}
use Rattle.clr_heap.specs.View.{HeapView, IsHeap}
use Rattle.clr_model.specs.Lawful.{HasItsSecond, IsFinal, IsLawful, IsNullOrPresent, IsPresent}
use Rattle.clr_model.specs.Lookups.{is_thread, type_of_object}
use Rattle.clr_model.specs.Machine.{Machine, Object}
use Rattle.clr_view.specs.View.{IsHeld}
use Rattle.clr_view.specs.World.{IsNullOrStands}
use Rattle.clr_sos.proofs.NamedPlaces.{present-stands}
use Rattle.clr_sos.proofs.NumberedEntries.{rising}
use Rattle.clr_format.specs.NameTests as tests
use Rattle.clr_format.specs.TableFields.{is_second}
use Rattle.clr_save.specs.Writable.{AreWrittenHandles, IsHolder, IsWord, IsWrittenHandle}
use Rattle.clr_save.specs.WrittenImage.{Passes}
use Rattle.clr_save.specs.declared.snapshot.Snapshot.{Snapshot}
use Rattle.clr_save.proofs.SavedNames.{image_items, named, place-fits}
use Rattle.clr_save.proofs.SavedSteps.{present}
use Rattle.clr_save.proofs.ShownState.{saved_machine}

-- ---- handles by rising number

second-is : (row : Handle) → HasItsSecond row → is_second (number_of_kind row.kind) row.target row.second ≡ true
second-is row own =
    let kind = kind_back row.kind in
    elim (cases_Bool (row.second == 0)) [
      | inl none ↦ rw none refl
      | inr some ↦ elim (cases_Bool (is_dependent row.kind)) [
        | inl dependent ↦ elim (cases_Bool (row.target == 0)) [
          | inl null ↦ absurd (not-null row.second some (own.primary (eqb-true row.target 0 null)))
          | inr target ↦ rw (some, kind, dependent, target) refl
        ]
        | inr alone ↦ absurd (not-null row.second some (own.dependent alone))
      ]
    ]
  where
    not-null : (x : ℕ) → (x == 0) ≡ false → x ≡ 0 → ⊥
    not-null x some null = true≢false (sym (eq-eqb x 0 null) ∙ some)

numbers-rise : (low : ℕ) (es : List (ℕ × Handle)) → IsRisingBy (λ (e : ℕ × Handle). e.0) es
    → AllByRecursion (λ (e : ℕ × Handle). low ≤ e.0) es → AllByRecursion (λ (e : ℕ × Handle). e.0 < 65536) es
    → AllByRecursion IsWrittenHandle (map (λ (e : ℕ × Handle). e.1) es) → AreWrittenHandles low es
numbers-rise low [] rise over few each = tt
numbers-rise low (e ∷ es) rise over few each =
    let above = all_imply (λ (f : ℕ × Handle). e.0 < f.0) (λ (f : ℕ × Handle). e.0 + 1 ≤ f.0) es
    (λ f less. omega (arith, less)) rise.0 in
    (over.0, few.0, each.0, numbers-rise (e.0 + 1) es rise.1 above few.1 each.1)

-- ---- the holder

pub holder-is : (holder : Option ℕ) → IfSome holder (λ t. IsTrue (is_thread t)) → IsHolder holder
holder-is None is = tt
holder-is (Some t) is =
    let both = and_parts (nat_le 1 t) (nat_le t 16) is in (leb-true 1 t both.0, leb-true t 16 both.1)

module _ (s : Snapshot) (m0 : Machine) (heap : IsHeap s.heap.now) (held : IsHeld s.types.now s.heap.now)
    (lawful : IsLawful (saved_machine s m0)) where
  abbrev m : Machine
  m = saved_machine s m0

  abbrev rows : List TypeRow
  rows = s.types.now

  abbrev h : HeapView
  h = s.heap.now

  abbrev items : List Item
  items = image_items rows h heap held

  name : (x : ℕ) → IsNullOrPresent m x → IsNullOrStands rows h x
  name x is = present-stands rows h x is

  -- ---- locals

  pub locals-fit : AllByRecursion IsWord m.locals
  locals-fit = all_imply (IsNullOrPresent m) IsWord m.locals (λ x is. place-fits rows h heap held x (name x is))
      lawful.names.locals

  one-name : (x : ℕ) → IsNullOrPresent m x → list_all (λ (t : tests.Test). t.1) (tests.name_tests items x) ≡ true
  one-name x is = ap (λ (b : Bool). b && true) (named rows h heap held x (name x is))

  pub locals-pass : Passes (tests.name_tests items) m.locals
  locals-pass = all_imply (IsNullOrPresent m)
      (λ (x : ℕ). list_all (λ (t : tests.Test). t.1) (tests.name_tests items x) ≡ true) m.locals one-name
      lawful.names.locals

  -- ---- handles

  abbrev IsNaming : Handle → Type 0
  IsNaming row = IsNullOrPresent m row.target × IsNullOrPresent m row.second

  pub handles-written : AreWrittenHandles 0 (finmap.entries m.handles)
  handles-written =
      let es = finmap.entries m.handles in
      let rows_of : List Handle = map (λ (e : ℕ × Handle). e.1) es in
      numbers-rise 0 es (rising es (finmap.entries_sorted m.handles))
      (all_members (λ (e : ℕ × Handle). 0 ≤ e.0) es (λ e inside. omega arith)) lawful.handle_numbers
      (all_members IsWrittenHandle rows_of (λ row inside.
      let both = all_at IsNaming inside lawful.names.handles in
      record {
        second = second-is row (all_at HasItsSecond inside lawful.seconds);
        target_fits = place-fits rows h heap held row.target (name row.target both.0);
        second_fits = place-fits rows h heap held row.second (name row.second both.1);
      }))

  pub handles-pass : Passes (tests.handle_tests items) (finmap.entries m.handles)
  handles-pass =
      let es = finmap.entries m.handles in
      all_imply (λ (e : ℕ × Handle). IsNaming e.1)
      (λ (e : ℕ × Handle). list_all (λ (t : tests.Test). t.1) (tests.handle_tests items e) ≡ true) es
      (λ e both. ap₂ (λ (a b : Bool). a && (b && true)) (named rows h heap held e.1.target (name e.1.target both.0))
      (named rows h heap held e.1.second (name e.1.second both.1)))
      (all-unmap (λ (e : ℕ × Handle). e.1) IsNaming es lawful.names.handles)

  -- ---- queues

  pub places-fit : (places : List ℕ) → AllByRecursion (IsPresent m) places → AllByRecursion IsWord places
  places-fit places all = all_imply (IsPresent m) IsWord places
      (λ x is. place-fits rows h heap held x (name x (inr is))) all

  final-pass : (x : ℕ) → IsPresent m x → IsFinal m x
      → list_all (λ (t : tests.Test). t.1) (tests.final_tests rows items x) ≡ true
  final-pass x is final =
      let there = present s m0 heap held lawful x is in
      ap (λ (o : Option Item). tests.is_final_object rows o && true) there.found
      ∙ ap (λ (b : Bool). b && true)
      (ap (λ (o : Option Object). has_finalizer (type_row rows (type_of_object o))) (sym there.is.named) ∙ final)

  pub queue-pass : (places : List ℕ) → AllByRecursion (IsPresent m) places → AllByRecursion (IsFinal m) places
      → Passes (tests.final_tests rows items) places
  queue-pass [] there final = tt
  queue-pass (x ∷ places) there final = (final-pass x there.0 final.0, queue-pass places there.1 final.1)
