-- What threads have begun may be written, and names what is there.
use Rattle.std.proofs.Common.{◌≡◌, ℕ, zero, suc, ◌+◌, ◌-◌, ◌^◌, ◌≤◌, ◌<◌, ◌&&◌, ◌||◌, ◌==◌, Bool, true, false}
use Rattle.std.proofs.Common.{not, List, [], ◌∷◌, ◌++◌, get_or, length, Option, Some, None}
use Rattle.std.proofs.Common.{append-nil, refl, ap, ap₂, sym, ◌∙◌, subst, arith, inl, inr, le-leb}
use Rattle.std.specs.List.{AllByRecursion}
use Rattle.std.specs.Prelude.{slice_get}
use Rattle.std.proofs.lemmas.Bool.{cases_Bool, eq-eqb, eqb-true, ne_eqb}
use Rattle.clr_types.specs.Ranges.{fits, Piece, piece_end}
use Rattle.clr_types.specs.Rising.{IsIn}
use Rattle.clr_types.specs.Segments.{generation, Layout, rest_of, rest_pieces}
use Rattle.clr_types.specs.Types.{bytes_form, class_form, Form, references_form, structs_form}
use Rattle.clr_types.specs.Types.{form_at, size_of, slot_kinds, TypeRow}
use Rattle.clr_types.specs.declared.item.Item.{Item}
use Rattle.clr_types.proofs.ChangedLists.{append_left, into_filter, IsIn-map}
use Rattle.clr_types.proofs.ListMembers.{any-from, any-in, append_right, in_append}
use Rattle.clr_types.proofs.RisingLists.{all_at, in_cons}
use Rattle.clr_types.proofs.Shuffles.{shuffled-in, shuffled-sym}
use Rattle.clr_heap.specs.Parts.{item_at, item_piece, rest_part}
use Rattle.clr_heap.specs.View.{first_of, frame, heap_items, HeapView, IsHeap, last_of, parts_of, sight}
use Rattle.clr_heap.specs.View.{word_of}
use Rattle.clr_heap.proofs.Framing.{below_top_at, lawful_at}
use Rattle.clr_heap.proofs.Holes.{hole_among}
use Rattle.clr_heap.proofs.Spelling.{Among-bounds}
use Rattle.clr_model.specs.Lookups.{slots_of_named, slots_or_none}
use Rattle.clr_model.specs.Lawful.{AllFrom, HasItsRoom, IsLawful, IsPresent, is_reference_value, IsShaped}
use Rattle.clr_model.specs.Lawful.{StepIsPresent}
use Rattle.clr_model.specs.Machine.{begun_new, begun_store, Machine, no_step, Object, ref, ThreadStep}
use Rattle.clr_model.specs.Listing as model
use Rattle.clr_model.proofs.ObjectChanged.{slice_get-map}
use Rattle.clr_view.specs.SlotValues.{IsObjectAt, StandsAt}
use Rattle.clr_view.specs.View.{free_among, is_free, IsHeld, is_object, object_in, objects_in}
use Rattle.clr_view.proofs.Listed.{listed-above}
use Rattle.clr_view.proofs.ObjectItems.{stands-item}
use Rattle.clr_view.proofs.Slots.{slot-count}
use Rattle.clr_view.proofs.Tails.{found-young, kind-young}
use Rattle.clr_sos.specs.Faults.{stands}
use Rattle.clr_sos.proofs.BegunSteps.{known-type, new-length, rest-in, rest-there}
use Rattle.clr_sos.proofs.QueuedObjects.{present-stands}
use Rattle.clr_format.specs.NameTests as tests
use Rattle.clr_sos.specs.Steps.{front_or_zero}
use Rattle.clr_save.specs.declared.snapshot.Snapshot.{Snapshot}
use Rattle.clr_save.specs.Snapshots.{steps_of}
use Rattle.clr_save.specs.Writable.{IsWrittenStep}
use Rattle.clr_save.specs.WrittenImage.{Passes}
use Rattle.clr_save.proofs.SavedItems.{from-shuffled, rests_from}
use Rattle.clr_save.proofs.SavedNames.{image_items, named, object-found, place-fits}
use Rattle.clr_save.proofs.SavedPlaces.{len-fits}
use Rattle.clr_save.proofs.SavedRests.{left-is}
use Rattle.clr_save.proofs.ShownState.{saved_machine}

-- ---- small facts

pub length-steps : (layout : Layout) (t : ℕ) (steps : List ThreadStep) → length (steps_of layout t steps) ≡ length steps
length-steps layout t [] = refl
length-steps layout t (s ∷ steps) = ap suc (length-steps layout (t + 1) steps)

-- an object's slots have no higher number than its bytes
few-slots : (form : Form) (len : ℕ) → length (slot_kinds form len) ≤ size_of form len
few-slots (class_form pattern) len = let n = slot-count (class_form pattern) len in omega arith
few-slots references_form len = let n = slot-count references_form len in omega arith
few-slots bytes_form len = let n = slot-count bytes_form len in omega arith
few-slots (structs_form pattern) len = let n = slot-count (structs_form pattern) len in omega arith

slot-below : {X : Type 0} (xs : List X) (i : ℕ) (x : X) → slice_get xs i ≡ Some x → i < length xs
slot-below [] i x e = absurd cc
slot-below (y ∷ xs) zero x e = omega arith
slot-below (y ∷ xs) (suc i) x e = let l = slot-below xs i x e in omega arith

-- ---- the steps of a lawful machine

module _ (s : Snapshot) (m0 : Machine) (heap : IsHeap s.heap.now) (held : IsHeld s.types.now s.heap.now)
    (lawful : IsLawful (saved_machine s m0)) where
  abbrev m : Machine
  m = saved_machine s m0

  abbrev rows : List TypeRow
  rows = s.types.now

  abbrev h : HeapView
  h = s.heap.now

  -- ---- begun stores

  -- the object of a name that is there
  pub record IsThere (x : ℕ) : Type 0 where
    pub item : Item
    pub stands : StandsAt rows h x
    pub is : IsObjectAt rows h x item
    pub found : tests.object_at (image_items rows h heap held) x ≡ Some item

  there : (x : ℕ) → StandsAt rows h x → IsThere x
  there x stands =
      let at = stands-item rows h heap held x stands in
      record {
        item = item_at rows (word_of h) x;
        stands = stands;
        is = at;
        found = object-found rows h heap held x stands (item_at rows (word_of h) x) at.listed at.object at.at;
      }

  -- THE OBJECT of a name that is present
  pub present : (x : ℕ) → IsPresent m x → IsThere x
  present x is = there x (present-stands rows h x is)

  -- it stands among the items of the image
  pub stands-there : (x : ℕ) → IsThere x → stands (image_items rows h heap held) x ≡ true
  stands-there x is =
      let above = listed-above rows h is.item heap held is.is.listed in
      let at = is.is.at in
      let some = ne_eqb x 0 (λ null. omega arith) in
      ap (λ (b : Bool). b || stands (image_items rows h heap held) x) (sym some)
      ∙ named rows h heap held x (inr is.stands)

  -- the slot of a begun store holds a reference
  module _ (x slot name : ℕ) (is : IsThere x) (holds : slice_get (slots_of_named m x) slot ≡ Some (ref name)) where
    abbrev form : Form
    form = form_at rows is.item.type_id.0

    own : Object
    own = object_in rows (word_of h) is.item

    reference : slice_get (slot_kinds form is.item.len) slot ≡ Some true
    reference =
        let o = object_in rows (word_of h) is.item in
        let listed : IsIn o (objects_in rows h) =
        IsIn-map (object_in rows (word_of h)) (into_filter is_object (heap_items rows h) is.is.object is.is.listed) in
        let shaped = all_at (IsShaped m) listed lawful.shapes in
        let value : slice_get o.slots slot ≡ Some (ref name) =
        ap (λ (q : Option Object). slice_get (slots_or_none q) slot) (sym is.is.named) ∙ holds in
        ap (λ (kinds : List Bool). slice_get kinds slot) (sym shaped.kinds)
        ∙ slice_get-map is_reference_value o.slots slot (ref name) value

    slot-fits : slot < 2 ^ 64
    slot-fits =
        let low = slot-below (slot_kinds form is.item.len) slot true reference in
        let few = few-slots form is.item.len in
        let small = is.is.small in
        omega arith

  -- ---- begun objects

  -- what is left of a context lies in the heap
  rest-fits : (i : ℕ) (r : Piece) → get_or h.rests i None ≡ Some r → r.place < 2 ^ 64
  rest-fits i r is =
      let (k, young) = found-young h heap in
      let part = (held.contexts i r is).among k young.in_range (kind-young h k heap young) in
      let w = held.walkable k young.in_range in
      let bounds = Among-bounds (sight rows h k) (parts_of rows h k) (rest_part r.place (piece_end r)) (first_of h k)
      (last_of h k) w.spelled part in
      let least = (hole_among (sight rows h k) (parts_of rows h k) r.place (piece_end r) (first_of h k) (last_of h k)
      w.spelled part).least in
      let high = (lawful_at h k heap young.in_range).high in
      let top = below_top_at h k heap young.in_range in
      let small = heap.top_small in
      let below = bounds.1 in
      omega arith

  -- and is a free item of the image
  rest-free : (i : ℕ) (r : Piece) → get_or h.rests i None ≡ Some r
      → IsIn r (free_among (image_items rows h heap held))
  rest-free i r is =
      let n = length h.segments in
      let rests = rests_from rows h 0 n in
      let part = left-is rows h heap held r (rest-in h.rests i r is) in
      let inside : IsIn (model.free_item r) (image_items rows h heap held) =
      shuffled-in (model.free_item r) (shuffled-sym (from-shuffled rows h 0 n))
      (append_right (heap_items rows h) (IsIn-map model.free_item part)) in
      IsIn-map item_piece (into_filter is_free (image_items rows h heap held) refl inside)

  -- each step may be written
  steps-written : (t : ℕ) (steps : List ThreadStep) → AllByRecursion (StepIsPresent m) steps
      → AllFrom (HasItsRoom m) t steps
      → AllByRecursion (IsWrittenStep rows m0.options.large) (steps_of m.layout t steps)
  steps-written t [] there rooms = tt
  steps-written t (no_step ∷ steps) there rooms = (tt, steps-written (t + 1) steps there.1 rooms.1)
  steps-written t (begun_store object slot ∷ steps) there rooms =
      let (is, name, holds) = there.0 in
      let found = present object is in (
        (place-fits rows h heap held object (inr found.stands), slot-fits object slot name found holds),
        steps-written (t + 1) steps there.1 rooms.1,
      )
  steps-written t (begun_new type len local ∷ steps) there rooms =
      let (low, known, none) = there.0 in
      let (rest, left, enough, small) = rooms.0 in
      let (least, most) = known-type rows type known in
      let few = lawful.type_count in
      let options = lawful.options in
      let large = options.large_greatest in
      let segment = options.segment_greatest in
      let front : front_or_zero (rest_of m.layout t) ≡ rest.place = ap front_or_zero left in
      let fits = rest-fits (t - 1) rest (rest-there h.rests (t - 1) rest left) in
      let above = le-leb 1 type least in
      let below = le-leb type (length rows) most in (
        (
          rw (above, below) refl,
          new-length rows m0.options.large type len none small,
          len-fits rows type len lawful.types none (omega arith),
          omega arith,
          subst (λ (n : ℕ). n < 2 ^ 64) (sym front) fits,
          omega arith,
        ),
        steps-written (t + 1) steps there.1 rooms.1,
      )

  -- THE STEPS of a lawful machine may be written
  pub all-written : AllByRecursion (IsWrittenStep rows m0.options.large) (steps_of m.layout 1 m0.steps)
  all-written = steps-written 1 m0.steps lawful.names.steps lawful.rooms

  -- a heap in which places have the same generations
  module _ (now : HeapView) (young : (x : ℕ) → generation (frame now) x ≡ generation (frame h) x) where
    front-is : (i : ℕ) (r : Piece) (size : ℕ) → get_or h.rests i None ≡ Some r → fits size r.size ≡ true
        → tests.is_front (image_items rows h heap held) now size r.place ≡ true
    front-is i r size is enough =
        let items = image_items rows h heap held in
        let test : Piece → Bool = λ p. (p.place == r.place) && fits size p.size in
        let here : test r ≡ true = let e = eq-eqb r.place r.place refl in rw (e, enough) refl in
        let room : IsIn r (tests.rooms items now) = append_left (rest_pieces now.rests) (rest-free i r is) in
        let old = all_at (λ (p : Piece). generation m.layout p.place ≡ 0) (rest-in h.rests i r is) lawful.rests_young in
        ap₂ (λ (a b : Bool). a && b) (any-from test (tests.rooms items now) r room here)
        (eq-eqb (generation (frame now) r.place) 0 (young r.place ∙ old))

    -- the fronts of threads before thread t
    abbrev AreEarlier : ℕ → List ℕ → Type 0
    AreEarlier t earlier = (x : ℕ) → IsIn x earlier
        → (j : ℕ) × (r : Piece) × (j + 1 < t) × (get_or h.rests j None ≡ Some r) × (r.place ≡ x)

    new-front : (t : ℕ) (earlier : List ℕ) (r : Piece) → 1 ≤ t → AreEarlier t earlier
        → get_or h.rests (t - 1) None ≡ Some r → tests.is_among earlier r.place ≡ false
    new-front t earlier r from before is = elim (cases_Bool (tests.is_among earlier r.place)) [
      | inl some ↦
          let (x, inside, same) = any-in (λ (y : ℕ). y == r.place) earlier some in
          let (j, q, low, there, at) = before x inside in
          let one = held.apart j (t - 1) q r there is (at ∙ eqb-true x r.place same) in
          absurd (omega arith)
      | inr none ↦ none
    ]

    more-fronts : (t : ℕ) (earlier : List ℕ) (r : Piece) → 1 ≤ t → AreEarlier t earlier
        → get_or h.rests (t - 1) None ≡ Some r → AreEarlier (t + 1) (earlier ++ r.place ∷ [])
    more-fronts t earlier r from before is x inside = elim (in_append earlier inside) [
      | inl old ↦
          let (j, q, low, there, at) = before x old in (j, q, omega arith, there, at)
      | inr new ↦ elim (in_cons new) [
        | inl here ↦ (t - 1, r, omega arith, is, sym here)
        | inr more ↦ elim more [ ]
      ]
    ]

    -- and names what is there
    steps-pass : (t : ℕ) (steps : List ThreadStep) (earlier : List ℕ) → 1 ≤ t → AreEarlier t earlier
        → AllByRecursion (StepIsPresent m) steps → AllFrom (HasItsRoom m) t steps
        → Passes (tests.step_tests rows (image_items rows h heap held) now)
        (tests.with_earlier earlier (steps_of m.layout t steps))
    steps-pass t [] earlier from before there rooms = tt
    steps-pass t (no_step ∷ steps) earlier from before there rooms = (
      refl,
      steps-pass (t + 1) steps (earlier ++ []) (omega arith)
          (λ x inside. let (j, q, low, is, at) = before x (subst (IsIn x) (append-nil earlier) inside) in
          (j, q, omega arith, is, at)) there.1 rooms.1,
    )
    steps-pass t (begun_store object slot ∷ steps) earlier from before there rooms =
        let (is, name, holds) = there.0 in
        let found = present object is in
        let first = stands-there object found in
        let second : tests.is_reference_slot rows (tests.object_at (image_items rows h heap held) object) slot ≡ true =
        ap (λ (o : Option Item). tests.is_reference_slot rows o slot) found.found
        ∙ ap tests.is_true (reference object slot name found holds) in (
          ap₂ (λ (a b : Bool). a && (b && true)) first second,
          steps-pass (t + 1) steps (earlier ++ []) (omega arith)
              (λ x inside. let (j, q, low, is, at) = before x (subst (IsIn x) (append-nil earlier) inside) in
              (j, q, omega arith, is, at)) there.1 rooms.1,
        )
    steps-pass t (begun_new type len local ∷ steps) earlier from before there rooms =
        let (rest, left, enough, small) = rooms.0 in
        let is = rest-there h.rests (t - 1) rest left in
        let front : front_or_zero (rest_of m.layout t) ≡ rest.place = ap front_or_zero left in
        let size = size_of (form_at rows type) len in
        let items = image_items rows h heap held in
        let lies = front-is (t - 1) rest size is enough in
        let new = new-front t earlier rest from before is in
        let test : (tests.is_front items now size rest.place && not (tests.is_among earlier rest.place)) && true
        ≡ true =
        rw (lies, new) refl in (
          ap (λ (x : ℕ). (tests.is_front items now size x && not (tests.is_among earlier x)) && true) front ∙ test,
          steps-pass (t + 1) steps (earlier ++ front_or_zero (rest_of m.layout t) ∷ []) (omega arith)
              (subst (λ (x : ℕ). AreEarlier (t + 1) (earlier ++ x ∷ [])) (sym front)
              (more-fronts t earlier rest from before is)) there.1 rooms.1,
        )

    -- and name what is there
    pub all-pass : Passes (tests.step_tests rows (image_items rows h heap held) now)
        (tests.with_earlier [] (steps_of m.layout 1 m0.steps))
    all-pass = steps-pass 1 m0.steps [] (omega arith) (λ x inside. elim inside [ ]) lawful.names.steps lawful.rooms
